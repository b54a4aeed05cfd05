use Rattle.std.proofs.Common.{rules, sym, ◌∙◌}
use Rattle.name_store.proofs.Words.{Decides-int_eq, slice_eq-Decides}
use Rattle.name_store.proofs.rewrite.are_shifted.Goals as goal

pub returns-then-eq-clause-sound : goal.returns-then-eq-clause-sound
returns-then-eq-clause-sound c =
    let strides = slice_eq-Decides Decides-int_eq _ _ c.eq.result c.eq.ensures in
    λ stacked. record { shape = search rules; strides = sym c.as_slice-3.ensures ∙ strides.0 c.if-eq.true ∙ c.as_slice-4.ensures; stacked = c.is_stacked.ensures.value.0 stacked }

pub returns-else-eq-clause-found : goal.returns-else-eq-clause-found
returns-else-eq-clause-found c =
    let strides = slice_eq-Decides Decides-int_eq _ _ c.eq.result c.eq.ensures in
    λ shifted. strides.1 (c.as_slice-3.ensures ∙ shifted.strides ∙ sym c.as_slice-4.ensures)
