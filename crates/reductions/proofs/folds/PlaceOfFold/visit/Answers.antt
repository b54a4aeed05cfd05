use Rattle.std.proofs.Common.{◌≡◌, ◌-◌, min, ap, subst, ◌∙◌, arith, nat_eq, not}
use Rattle.reductions.proofs.Words.{IsPart}
use Rattle.reductions.proofs.SoughtLaws.{sought-next}
use Rattle.reductions.proofs.folds.PlaceOfFold.visit.Goals as goal

pub loop-done-preserved : goal.loop-done-preserved
loop-done-preserved g c =
    let scalar = g.S.Number.scalar g.O.Ordered.order in
    let greatest = not (nat_eq g.row.GREATEST 0) in
    let s = c.args.side in
    let counted = ap (λ r. r.count) c.part-block.ensures.2 in
    let done = c.loop-done.done in
    let least : c.min.result ≡ min 512 (s.run.count - done) = omega (arith, c.min.ensures) in
    record {
      fits = omega (arith, counted, c.min.ensures, c.loop-done-test.true);
      sought = sought-next greatest scalar s c.part-block.result c.args.seen (g.S.Number.value c.args.held.best) c.args.held.place done c.part-block.result.run.count c.loop-done-test.true
          (subst (λ m. IsPart done m s c.part-block.result) least c.part-block.ensures) (counted ∙ least) (g.S.Number.value c.loop-done.sought.best) (g.S.Number.value c.seek_in-sought.result.best) c.loop-done.sought.place c.seek_in-sought.result.place c.loop-done.invariant.sought c.seek_in-sought.ensures;
    }
