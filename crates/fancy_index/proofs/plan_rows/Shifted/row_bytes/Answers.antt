use Rattle.std.proofs.Common.{◌≡◌, ◌+◌, ◌≤◌, ◌<◌, ◌*◌, ◌^◌, ℕ, Option, None, Some, SomeIff, IfSome, List, All, length, pos, sym, ap, subst, ◌∙◌, arith}
use Rattle.fancy_index.proofs.Words.{joined_at, length-offsets, length-run_offsets, run_offsets, AreWide}
use Rattle.fancy_index.proofs.WideLaws.{are-wide}
use Rattle.fancy_index.proofs.plan_rows.Shifted.row_bytes.Goals as goal

pub returns : goal.returns
returns c =
    let run = c.in_ok-run.run' in
    let same = c.in_ok-run.ensures.items in
    let step : run.step ≡ pos c.args.width = c.is_packed.ensures.0 c.if-not-is_packed.false in
    let some : 1 ≤ run.count = omega (arith, length-run_offsets run, ap length same, length-offsets c.args.self.inner.now, c.items.ensures.value, c.if-items-eq0.false) in
    told c.checked_mul.result c.checked_mul.ensures (are-wide c.args.self c.args.width run.offset run.count ((λ i. run_offsets (record { offset = run.offset; count = run.count; step = sym step i })) ∙ same) some)
  where
    told : (result : Option ℕ) → SomeIff result (c.in_ok-run.run'.count * c.args.width < 2 ^ 64) (c.in_ok-run.run'.count * c.args.width) → AreWide c.args.self c.args.width (c.in_ok-run.run'.count * c.args.width) → IfSome result (AreWide c.args.self c.args.width)
    told None is wide = tt
    told (Some bytes) is wide = subst (AreWide c.args.self c.args.width) (sym is.1) wide

pub returns-then-is_single : goal.returns-then-is_single
returns-then-is_single c =
    let width = c.args.width in
    let same = c.is_single.ensures c.if-is_single.true in
    record {
      size = ap (λ (os : List ℕ). length os * width) same;
      joined = λ block. ap (λ os. joined_at os width block) same;
      inside = λ len. subst (All (λ o. o + width ≤ len)) same;
    }
