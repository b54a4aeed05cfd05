use Rattle.std.proofs.Common.{w64, length, refl, subst, sym, ap, ◌∙◌, arith, ℤ}
use Rattle.fancy_index.proofs.Words.{to_z_pos, packed, first_offsets, IsRunOf}
use Rattle.fancy_index.proofs.RunLaws.{neighbours, run-of}
use Rattle.fancy_index.proofs.plan_rows.Shifted.as_run.Goals as goal

pub returns : goal.returns
returns c =
    let rows = c.args.self in
    let width = c.args.width in
    let n = length rows.shifts.now in
    let from = (rows.starts 0 0 (omega (arith, c.requires.some))).start.from in
    let same = ap (λ at. packed at width n) c.moved.ensures.value ∙ neighbours rows.inner.now.offset rows.place width rows.shifts.now from (c.if-not-are_adjacent.ensures.even refl) in
    subst (λ (step : ℤ). IsRunOf (first_offsets rows) (record { offset = c.moved.result; count = n; step = step })) (sym (to_z_pos w64 width (omega (arith, c.if-not-are_adjacent.ensures.narrow refl)))) (run-of c.moved.result width n (first_offsets rows) same)
