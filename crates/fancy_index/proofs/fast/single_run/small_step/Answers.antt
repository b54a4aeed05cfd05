use Rattle.std.proofs.Common.{◌≡◌, ap, sym, ◌∙◌, arith, rules, to_z, of_z, w32, w64, pos, ◌*ℤ◌}
use Rattle.fancy_index.proofs.Words.{ints, zero-*ℤ, *ℤ-zero}
use Rattle.fancy_index.proofs.RunLaws.{steps-low, steps-high}
use Rattle.fancy_index.proofs.fast.single_run.small_step.Goals as goal

pub overflow_cast-result : goal.overflow_cast-result
overflow_cast-result c =
    let low = steps-low c.args.run c.requires in
    let high = steps-high c.args.run c.requires in
    search (rules, arith, ints, low 0 (omega arith), low 1 (omega arith), high 0 (omega arith), high 1 (omega arith))

pub returns-then-run-lt2 : goal.returns-then-run-lt2
returns-then-run-lt2 c = λ k low.
    let first : k ≡ 0 = omega arith in
    rw first (zero-*ℤ (pos 0) ∙ sym (*ℤ-zero c.args.run.step))

pub returns : goal.returns
returns c = λ k below.
    let low = steps-low c.args.run c.requires in
    let high = steps-high c.args.run c.requires in
    let same : to_z w32 (of_z w32 (to_z w64 (of_z w64 c.args.run.step))) ≡ c.args.run.step = omega (arith, ints, low 0 (omega arith), low 1 (omega arith), high 0 (omega arith), high 1 (omega arith)) in
    ap (λ z. z *ℤ pos k) same
