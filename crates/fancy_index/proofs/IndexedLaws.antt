-- What each check of an index list must return.
use Rattle.std.proofs.Common.{◌≡◌, ◌⊎◌, inl, inr, Err, ℕ, ◌<◌, ◌≤◌, nat_le, true, false, ◌&&◌, List, [], ◌∷◌, length, refl, ap, ◌∙◌, arith}
use Rattle.fancy_index.proofs.Words.{list_all, le-leb, nat_tests, Refusal, OutOfMemory, NotAnIndexType, TooManyIndices, MaskLengths, ZeroStep, IndexOutOfRange, ◌>>=◌, check, IndexItem, Integer, Slice, Ellipsis, Array, has_step, Items, IndexArray, is_index, array_axes_taken, cover, are_within, parts, index_item_of, index_items, parts_view, indexed, IsChecked}
use Rattle.fancy_index.specs.Words.{NewAxis}

pub refused-kind : (shape : List ℕ) (items : List (IndexItem IndexArray)) → list_all is_index items ≡ false → indexed shape items ≡ Err NotAnIndexType
unfolding indexed
refused-kind shape items none = rw none

pub refused-many : (shape : List ℕ) (items : List (IndexItem IndexArray)) → list_all is_index items ≡ true → length shape < array_axes_taken items → indexed shape items ≡ Err TooManyIndices
unfolding indexed
refused-many shape items index many =
    let test : nat_le (array_axes_taken items) (length shape) ≡ false = grind (arith, nat_tests) in
    rw (index, test)

few : (shape : List ℕ) (items : List (IndexItem IndexArray)) → array_axes_taken items ≤ length shape → nat_le (array_axes_taken items) (length shape) ≡ true
few shape items enough = le-leb (array_axes_taken items) (length shape) enough

pub refused-lengths : (shape : List ℕ) (items : List (IndexItem IndexArray)) → list_all is_index items ≡ true → array_axes_taken items ≤ length shape → cover shape items ≡ false → indexed shape items ≡ Err MaskLengths
unfolding indexed
refused-lengths shape items index enough other = rw (index, few shape items enough, other)

pub refused-step : (shape : List ℕ) (items : List (IndexItem IndexArray)) → list_all is_index items ≡ true → array_axes_taken items ≤ length shape → cover shape items ≡ true → list_all has_step items ≡ false → indexed shape items ≡ Err ZeroStep
unfolding indexed
refused-step shape items index enough covers none = rw (index, few shape items enough, covers, none)

-- if all checks before those of the numbers pass
pub indexed-parts : (shape : List ℕ) (items : List (IndexItem IndexArray)) → IsChecked shape items → indexed shape items ≡ (check (are_within shape items) IndexOutOfRange >>= λ _. parts_view (parts shape items))
unfolding indexed
indexed-parts shape items c = rw (c.index, few shape items c.enough, c.covers, c.steps)

-- if a number is refused
pub refused-range : (shape : List ℕ) (items : List (IndexItem IndexArray)) (e : Refusal) → IsChecked shape items → (e ≡ OutOfMemory) ⊎ (check (are_within shape items) IndexOutOfRange ≡ Err e) → (e ≡ OutOfMemory) ⊎ (indexed shape items ≡ Err e)
refused-range shape items e c (inl none) = inl none
refused-range shape items e c (inr out) = inr (indexed-parts shape items c ∙ ap (λ r. r >>= λ _. parts_view (parts shape items)) out)

-- replacing the items of an array by their numbers does not change whether an item has a valid step
same_step : (item : IndexItem Items) → has_step (index_item_of item) ≡ has_step item
same_step (Integer at) = refl
same_step (Slice start stop step) = refl
same_step Ellipsis = refl
same_step NewAxis = refl
same_step (Array a) = refl

pub same_steps : (items : List (IndexItem Items)) → list_all has_step (index_items items) ≡ list_all has_step items
same_steps [] = refl
same_steps (item ∷ items) = λ i. same_step item i && same_steps items i
