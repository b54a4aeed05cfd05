use Rattle.std.proofs.Common.{◌≡◌, pos, unsigned_abs, get_or, rules, ◌<◌, length, refl, ap, arith}
use Rattle.shape_strides.proofs.Words.{false≢true}
use Rattle.shape_strides.proofs.StackLaws.{CanStack-from_tests, tests_from_CanStack}
use Rattle.shape_strides.proofs.StackedLaws.{IsNested-stacked}
use Rattle.shape_strides.proofs.layout.Layout.is_stacked.Goals as goal

pub returns-then-below-step-clause-value : goal.returns-then-below-step-clause-value
returns-then-below-step-clause-value c =
    let l = c.args.self.now in
    let k = c.loop-axis.axis in
    let below : k < length l.shape = omega (arith, ap length c.as_slice-lengths.ensures.value) in
    let step : c.unsigned_abs-step.result ≡ unsigned_abs (get_or c.as_slice-strides.result.now k (pos 0)) = search rules in (
      λ t. absurd (false≢true t),
      λ stacked.
          let test = tests_from_CanStack l.strides l.shape c.args.item k l.one_stride_an_axis c.requires (stacked (omega (arith, c.items.ensures.value))) below in
          let clear = rw (← c.as_slice-lengths.ensures.value, ← c.as_slice-strides.ensures, ← step) at test in
          absurd (omega (arith, clear c.if-lengths-axis-ge2.true, c.reach_within.ensures.value)),
    )

pub returns-clause-value : goal.returns-clause-value
returns-clause-value c =
    let l = c.args.self.now in
    (λ _ some. CanStack-from_tests l.strides l.shape c.args.item l.one_stride_an_axis (λ k below. c.loop-axis.invariant k (omega (arith, ap length c.as_slice-lengths.ensures.value))), λ _. refl)

pub returns-then-items-eq0-clause-nested : goal.returns-then-items-eq0-clause-nested
returns-then-items-eq0-clause-nested c = IsNested-stacked c.args.self.now c.args.item c.requires

pub returns-then-below-step-clause-nested : goal.returns-then-below-step-clause-nested
returns-then-below-step-clause-nested c = IsNested-stacked c.args.self.now c.args.item c.requires

pub returns-clause-nested : goal.returns-clause-nested
returns-clause-nested c = IsNested-stacked c.args.self.now c.args.item c.requires
