use Rattle.std.proofs.Common.{◌*◌, ◌^◌, ◌<◌, ◌≤◌, All, IfOk, length, sym, ap, subst, ◌∙◌, arith, slice_index}
use Rattle.reductions.proofs.Words.{EachWithin, size, item_at, offsets, lists, list_length, IsAxisOf, result_scalar, numbers_at, lines, AreReduced, IsReduced}
use Rattle.reductions.proofs.AxisLaws.{lists_are, within_lines, starts_within}
use Rattle.reductions.proofs.OutcomeLaws.{no_items}
use Rattle.reductions.proofs.reducing.reduced_block.Goals as goal
use Rattle.reductions.proofs.reducing.reduced_block.Goals.{In-Some}

pub returns-then-list_length-eq0 : goal.returns-then-list_length-eq0
returns-then-list_length-eq0 c =
    let n = c.args.numbers in
    let width = size (result_scalar c.args.reduction n.scalar.now) in
    record {
      len = c.in_ok-block.ensures.len n.scalar.now ∙ ap (λ count. count * width) c.requires.items;
      each = λ k low.
          subst (λ list. IsReduced c.args.reduction n.scalar.now (numbers_at n.scalar.now n.bytes.now list) (item_at (k * width) width c.in_ok-block.block))
          (sym (no_items n.layout.now c.args.axis k (sym c.list_length.ensures ∙ c.if-list_length-eq0.true) low))
          (c.in_ok-block.ensures.items n.scalar.now k (omega (arith, low, c.requires.items)));
    }

-- the axis is one of the layout's, and has items
low : (c : In-Some) → c.in-Some.axis < length c.args.numbers.layout.now.shape
low c = subst (IsAxisOf (length c.args.numbers.layout.now.shape)) c.in-Some.is c.requires.axis

some : (c : In-Some) → 1 ≤ slice_index c.args.numbers.layout.now.shape c.in-Some.axis
some c = omega (arith, c.if-list_length-eq0.false, c.list_length.ensures ∙ ap (list_length c.args.numbers.layout.now.shape) c.in-Some.is)

pub invariant_of-firsts : goal.invariant_of-firsts
invariant_of-firsts c =
    let n = c.args.numbers in
    let at = (goal.at.invariant_of-firsts c).In-Some in
    record { inside = starts_within n.layout.now c.in-Some.axis c.in_ok-starts.starts (low at) c.in_ok-starts.ensures (length n.bytes.now) (size n.scalar.now) (some at) n.inside }

pub reduced_from-requires-clause-items : goal.reduced_from-requires-clause-items
reduced_from-requires-clause-items c =
    let n = c.args.numbers in
    let at = (goal.at.reduced_from-requires-clause-items c).In-Some in
    let len = length n.bytes.now in
    let width = size n.scalar.now in
    subst (λ axis. (1 ≤ axis.len) × (axis.len < 2 ^ 63) × All (λ offset. EachWithin len offset axis.stride width axis.len) (offsets c.in_ok-starts.starts)) (sym c.axis_at-along.ensures.value) (
      some at,
      omega (arith, c.axis_at-along.ensures.limit, ap (λ axis. axis.len) c.axis_at-along.ensures.value),
      within_lines n.layout.now c.in-Some.axis c.in_ok-starts.starts (low at) c.in_ok-starts.ensures len width n.inside,
    )

pub returns : goal.returns
returns c =
    let n = c.args.numbers in
    let l = n.layout.now in
    let starts = c.in_ok-starts.starts in
    let at = (goal.at.returns c).In-Some in
    let width = size (result_scalar c.args.reduction n.scalar.now) in
    let is = ap (λ axis. lists l.shape axis (offsets l)) c.in-Some.is ∙ lists_are l c.in-Some.axis starts (low at) c.in_ok-starts.ensures ∙ ap (λ axis. lines axis (offsets starts)) (sym c.axis_at-along.ensures.value) in
    subst (λ ls. IfOk c.reduced_from.result (AreReduced c.args.reduction n.scalar.now n.bytes.now width ls)) (sym is) c.reduced_from.ensures
