use Rattle.std.proofs.Common.{◌≡◌, ◌+◌, ◌-◌, ◌++◌, map, pos, ◌+ℤ◌, ◌*ℤ◌, sym, ap, subst, ◌∙◌, arith, append_assoc, length-append}
use Rattle.reductions.proofs.Words.{numbers_from, natural, run_offsets, numbers_at, numbers_of}
use Rattle.reductions.proofs.LineLaws.{front, length-numbers, numbers-cut, part_numbers}
use Rattle.reductions.proofs.fast.fold_blocks.Goals as goal

pub loop-done-preserved : goal.loop-done-preserved
loop-done-preserved g c =
    let scalar = g.S.Number.scalar g.O.Ordered.order in
    let s = c.args.side in
    let done = c.loop-done.done in
    let block = c.part-block.result in
    let numbers = numbers_at scalar s.bytes.now (run_offsets (front done s.run)) in
    let counted = ap (λ r. r.count) c.part-block.ensures.2 in
    let more = part_numbers scalar s block done c.min.result c.loop-done-test.true c.part-block.ensures ∙ ap (λ n. numbers_at scalar s.bytes.now (run_offsets (front (done + n) s.run))) (sym counted) in
    record {
      fits = omega (arith, counted, c.min.ensures, c.loop-done-test.true);
      takes = λ first before seen held.
          subst (g.F.Fold.holds c.visit-held.result first) (append_assoc before numbers (numbers_of scalar block) ∙ ap (λ all. before ++ all) more)
          (c.visit-held.ensures first (before ++ numbers) (omega (arith, seen, length-append before numbers, length-numbers scalar s.bytes.now (front done s.run))) (c.loop-done.invariant.takes first before seen held));
    }

pub returns-then-is_decided : goal.returns-then-is_decided
returns-then-is_decided g c first before seen held =
    let order = g.O.Ordered.order in
    let scalar = g.S.Number.scalar order in
    let s = c.args.side in
    let done = c.loop-done.done in
    let left = s.run.count - done in
    let rest = map natural (numbers_from (pos s.run.offset +ℤ s.run.step *ℤ pos done) s.run.step left) in
    let numbers = numbers_at scalar s.bytes.now (run_offsets (front done s.run)) in
    let whole : done + left ≡ s.run.count = omega (arith, c.loop-done-test.true) in
    let all = sym (numbers-cut scalar s.bytes.now s.run done left) ∙ ap (λ n. numbers_at scalar s.bytes.now (run_offsets (front n s.run))) whole in
    subst (g.F.Fold.holds c.loop-done.held first) (append_assoc before numbers (numbers_at scalar s.bytes.now rest) ∙ ap (λ numbers. before ++ numbers) all)
    (c.is_decided.ensures c.if-is_decided.true order first (before ++ numbers) s.bytes.now rest (c.loop-done.invariant.takes first before seen held))

pub returns : goal.returns
returns g c first before seen held =
    let scalar = g.S.Number.scalar g.O.Ordered.order in
    let s = c.args.side in
    subst (λ n. g.F.Fold.holds c.loop-done.held first (before ++ numbers_at scalar s.bytes.now (run_offsets (front n s.run)))) (omega (arith, c.loop-done-test.false, c.loop-done.invariant.fits)) (c.loop-done.invariant.takes first before seen held)
