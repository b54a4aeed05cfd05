-- The values of leaves.
use Rattle.std.specs.Prelude.{◌≡◌, ◌⊎◌, ℕ, ℤ, List}
use Rattle.std.proofs.Common.{refl, inl, inr}
use Rattle.elem_descr.specs.Words.{Coded, code_by, coded⊎, coded_ℕ, coded_ℤ, coded_list}

-- A bool or an integer is a number, which is 0 or 1 for a bool. A byte string is its bytes without the NULs at the end.
pub data LeafValue : Type 0 where
  number : ℤ → LeafValue
  text : List ℕ → LeafValue

-- the code of a value, which proofs use to tell values apart
abbrev pub split_leaf : LeafValue → ℤ ⊎ List ℕ
split_leaf (number n) = inl n
split_leaf (text bytes) = inr bytes

abbrev pub join_leaf : ℤ ⊎ List ℕ → LeafValue
join_leaf (inl n) = number n
join_leaf (inr bytes) = text bytes

pub join-split_leaf : (value : LeafValue) → join_leaf (split_leaf value) ≡ value
join-split_leaf (number n) = refl
join-split_leaf (text bytes) = refl

abbrev pub leaf_code : Coded LeafValue
leaf_code = code_by (ℤ ⊎ List ℕ) (coded⊎ coded_ℤ (coded_list coded_ℕ)) split_leaf join_leaf join-split_leaf
