-- A test of whether a list is affine. It tries the only first number and strides that are possible.
use Rattle.std.specs.Prelude.{ℕ, Bool, pos, List, slice_index}
use Rattle.reshape_rule.specs.Words.{list_all, int_eq, indexes, rank, address_at, first_address, printed_strides}

-- whether the first entry, and along each axis the step to the entry at index 1, lead to each entry of the list
abbrev pub is_affine : List ℕ → List ℕ → Bool
is_affine list shape = list_all (λ index. int_eq (address_at (printed_strides shape list) (first_address list) index) (pos (slice_index list (rank shape index)))) (indexes shape)
