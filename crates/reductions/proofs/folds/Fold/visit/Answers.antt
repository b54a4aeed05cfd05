use Rattle.std.proofs.Common.{◌++◌, sym, subst, ◌∙◌, arith, length-append}
use Rattle.reductions.proofs.Words.{run_offsets, numbers_at}
use Rattle.reductions.proofs.LineLaws.{front, one_more, length-numbers, side_number}
use Rattle.reductions.proofs.folds.Fold.visit.Goals as goal

pub loop-k-preserved : goal.loop-k-preserved
loop-k-preserved g c first before seen held =
    let scalar = g.S.Number.scalar g.O.Ordered.order in
    let s = c.args.side in
    let k = c.loop-k.k in
    let numbers = numbers_at scalar s.bytes.now (run_offsets (front k s.run)) in
    one_more (g.Self.Fold.holds c.step-held.result first) scalar s k before (g.S.Number.value c.number.result) c.loop-k-test.true
    (c.number.ensures ∙ side_number scalar s k (c.requires.width ∙ sym (g.met.S.Number.has_width g.O.Ordered.order)))
    (c.step-held.ensures first (before ++ numbers) (omega (arith, seen, length-append before numbers, length-numbers scalar s.bytes.now (front k s.run))) (c.loop-k.invariant first before seen held))

pub returns : goal.returns
returns g c first before seen held =
    let scalar = g.S.Number.scalar g.O.Ordered.order in
    subst (λ n. g.Self.Fold.holds c.loop-k.held first (before ++ numbers_at scalar c.args.side.bytes.now (run_offsets (front n c.args.side.run)))) (omega (arith, c.loop-k-test.false, c.loop-k.auto.k-end)) (c.loop-k.invariant first before seen held)
