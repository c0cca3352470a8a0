use Rattle.std.proofs.Common.{◌≡◌, map, take, drop}
use Rattle.modes.specs.Sealing.{scheme_of}
use Rattle.beatlog.specs.Calls.{state_of}
use Rattle.agreement.specs.Agreements.{Run}
use Rattle.agreement.specs.Played.{bare, call_of, outcome_of}
use Rattle.agreement.proofs.play.play.Given as goal

-- the calls so far are played, the others as they were
abbrev pub invariant-loop-turn : goal.invariant-loop-turn
invariant-loop-turn g l =
    let i = l.turn-index in
    (l.log.sealer ≡ l.initial.log.sealer) × (l.log.capacity ≡ l.initial.log.capacity) × (drop i l.turns ≡ drop i l.initial.turns)
    × (map (λ t. bare t.call) (take i l.turns) ≡ map (λ t. bare t.call) (take i l.initial.turns))
    × Run (scheme_of g.E.Engine g.M.Mode l.initial.log.sealer) l.initial.log.capacity (state_of l.initial.log l.initial.page) (map (λ t. call_of t.call) (take i l.initial.turns)) (map outcome_of (take i l.turns)) (state_of l.log l.page)
