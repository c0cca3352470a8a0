mod Same
mod RunFacts
