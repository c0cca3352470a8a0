use Rattle.std.proofs.Common.{◌*◌, length, refl, ap, arith, rules}
use Rattle.modes.specs.Sealing.{scheme}
use Rattle.agreement.proofs.Laws.{lawful_meaning}
use Rattle.agreement.proofs.Agreed.{agreement}
use Rattle.agreement.proofs.Crossings.{crossed, found_equal}
use Rattle.agreement.proofs.agree.agree.Goals as goal

pub returns-in_err-log-clause-agreement : goal.returns-in_err-log-clause-agreement
returns-in_err-log-clause-agreement g c v =
    agreement _ _
    (lawful_meaning _ _ _ g.met.E.Engine.shape (g.met.E.Engine.permutes c.args.recorder.engine) (g.met.M.Mode.rule c.args.recorder.mode))
    (lawful_meaning _ _ _ g.met.F.Engine.shape (g.met.F.Engine.permutes c.args.bench.engine) (g.met.N.Mode.rule c.args.bench.mode))

pub returns-clause-agreement : goal.returns-clause-agreement
returns-clause-agreement g c v =
    agreement _ _
    (lawful_meaning _ _ _ g.met.E.Engine.shape (g.met.E.Engine.permutes c.args.recorder.engine) (g.met.M.Mode.rule c.args.recorder.mode))
    (lawful_meaning _ _ _ g.met.F.Engine.shape (g.met.F.Engine.permutes c.args.bench.engine) (g.met.N.Mode.rule c.args.bench.mode))

pub returns-clause-crossed : goal.returns-clause-crossed
returns-clause-crossed g c =
    let recorder = scheme g.E.Engine g.M.Mode c.args.recorder.engine c.args.recorder.mode c.args.start.now in
    let bench = scheme g.F.Engine g.N.Mode c.args.bench.engine c.args.bench.mode c.args.start.now in
    let size = ap (λ k. c.count-n.result * k) c.block_len-b.ensures in
    crossed recorder bench c.count-n.result c.min-room_size.result c.min-back_size.result c.play.new.page c.args.bench_page.now c.seal-sealed.new.page c.args.room.now c.open-opened.new.place c.args.back.now c.open-opened_back.new.place _ _ _ _
    (omega (arith, size)) (omega (arith, size)) c.open-opened.auto.place c.open-opened_back.auto.place c.open-opened.ensures c.seal-sealed.ensures c.open-opened_back.ensures (rw c.block_len-b.ensures at c.common-alike.ensures)

pub returns-clause-kept : goal.returns-clause-kept
returns-clause-kept g c = search rules

pub returns-clause-found_equal : goal.returns-clause-found_equal
returns-clause-found_equal g c al fits =
    let recorder = scheme g.E.Engine g.M.Mode c.args.recorder.engine c.args.recorder.mode c.args.start.now in
    let bench = scheme g.F.Engine g.N.Mode c.args.bench.engine c.args.bench.mode c.args.start.now in
    found_equal recorder bench (returns-clause-agreement g c c.args.start.now al) al.size (length c.args.page.now) _ _ _ (returns-clause-kept g c)
    c.args.page.now c.args.bench_page.now c.seal-sealed.new.page c.args.room.now _ c.args.back.now _ _ _ _ _ refl (returns-clause-crossed g c) fits
