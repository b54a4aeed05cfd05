use Rattle.std.proofs.Common.{refl, sym, ap, ◌∙◌, arith}
use Rattle.shape_strides.proofs.Words.{false≢true, no_offsets}
use Rattle.shape_strides.proofs.SameLaws.{offsets_differ, other_first, are_alike, decided}
use Rattle.shape_strides.proofs.layout_extent.have_same_offsets.Goals as goal

pub returns-then-items : goal.returns-then-items
returns-then-items c =
    (λ yes. absurd (false≢true yes), λ same. absurd (offsets_differ c.args.first.now c.args.second.now (λ is. c.if-items.true (c.items-items.ensures.value ∙ is ∙ sym c.items.ensures.value)) same))

pub returns-then-items-eq0 : goal.returns-then-items-eq0
returns-then-items-eq0 c =
    (λ _. no_offsets c.args.first.now c.args.second.now (omega (arith, c.items-items.ensures.value)) (omega (arith, c.items-items.ensures.value, c.items.ensures.value)), λ _. refl)

pub returns-then-first-second : goal.returns-then-first-second
returns-then-first-second c =
    (λ yes. absurd (false≢true yes), λ same. absurd (other_first c.args.first.now c.args.second.now (omega (arith, c.items-items.ensures.value)) (omega (arith, c.items-items.ensures.value, c.items.ensures.value)) c.if-first-second.true same))

pub returns : goal.returns
returns c =
    decided c.args.first.now c.args.second.now c.in_ok-left.left.items c.in_ok-right.right.items c.eq.result (omega (arith, c.items-items.ensures.value)) (omega (arith, c.items-items.ensures.value, c.items.ensures.value)) (omega arith) c.in_ok-left.ensures c.in_ok-right.ensures (c.eq.ensures ∙ ap (λ axes. are_alike axes c.as_slice-2.result.now) c.as_slice.ensures ∙ ap (are_alike c.in_ok-left.left.items) c.as_slice-2.ensures)
