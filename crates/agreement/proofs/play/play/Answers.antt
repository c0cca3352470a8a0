use Rattle.std.proofs.Common.{◌≡◌, ◌<◌, List, [], ◌∷◌, ◌++◌, length, map, get_or, take, refl, sym, ap, subst, ◌∙◌, arith}
use Rattle.modes.specs.Sealing.{scheme_of}
use Rattle.beatlog.specs.Calls.{Link, state_of}
use Rattle.agreement.specs.Agreements.{none}
use Rattle.agreement.specs.Played.{bare, call_of, outcome_of}
use Rattle.agreement.specs.declared.play.Turn.{Turn}
use Rattle.agreement.proofs.Runs.{run_more, turns_left, turns_now, turns_were}
use Rattle.agreement.proofs.play.play.Goals as goal

pub loop-turn-init : goal.loop-turn-init
loop-turn-init g c = (refl, refl, refl, refl, none)

pub loop-turn-preserved : goal.loop-turn-preserved
loop-turn-preserved g c =
    let was : List Turn = c.args.turns.now in
    let now : List Turn = c.loop-turn.turns in
    let i = c.loop-turn.turn-index in
    let x : Turn = c.make.new.turn in
    let y : Turn = c.turn-item.result in
    let long = c.loop-turn.auto.turns in
    let lt : i < length now = omega arith in
    let kept = c.loop-turn.invariant in
    let is : get_or now i y ≡ y = sym c.turn-item.is in
    let link = subst (λ (t : Turn). Link (scheme_of g.E.Engine g.M.Mode c.loop-turn.log.sealer) c.loop-turn.log.capacity (state_of c.loop-turn.log c.loop-turn.page) (call_of t.call) (state_of c.make.new.log c.make.new.page) (outcome_of x)) is c.make.ensures.link in
    let one = run_more kept.4 (rw (kept.0, kept.1) at link) in (
      c.make.ensures.sealer_stays ∙ kept.0,
      c.make.ensures.capacity_stays ∙ kept.1,
      turns_left was now i x y lt long kept.2 c.turn-item.is,
      turns_now was now i x y lt long kept.2 c.turn-item.is (λ t. bare t.call) ∙ ap (λ z. z ++ bare x.call ∷ []) kept.3 ∙ ap (λ z. map (λ t. bare t.call) (take i was) ++ z ∷ []) (c.make.ensures.arguments_stay ∙ ap (λ (t : Turn). bare t.call) is) ∙ sym (turns_were was now i x y lt long kept.2 c.turn-item.is (λ t. bare t.call)),
      rw (turns_were was now i x y lt long kept.2 c.turn-item.is (λ t. call_of t.call), turns_now was now i x y lt long kept.2 c.turn-item.is outcome_of) one,
    )
