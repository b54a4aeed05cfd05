-- What reductions give, as in NumPy: sums and products, least and greatest items and their places, and truth tests.
use Rattle.std.specs.Prelude.{ℕ, ℤ, pos, ◌+ℤ◌, ◌*ℤ◌, Bool, true, false, not, if◌then◌else◌, List, [], ◌∷◌, map}
use Rattle.std.proofs.Common.{suc}
use Rattle.reductions.specs.Words.{int_min, int_max, fold, list_any, list_all, int_eq, Descr, Little, Eight, Scalar, Byte, Int, item_from, LeafValue, number, item_number, wrap, little, Red, Sum, Product, Minimum, Maximum, Any, All, ArgMin, ArgMax, ScalarDescr, RecordDescr, BoolScalar}

-- ---- types

-- a 64-bit integer: unsigned if the items are unsigned integers, and signed otherwise
abbrev pub wide : Scalar → Scalar
wide (Byte signed) = Int signed Eight Little
wide (Int signed width order) = Int signed Eight Little
wide _ = Int true Eight Little

-- the type of the result, if the items are numbers of the type `scalar`
abbrev pub result_scalar : Red → Scalar → Scalar
result_scalar Sum scalar = wide scalar
result_scalar Product scalar = wide scalar
result_scalar Minimum scalar = little scalar
result_scalar Maximum scalar = little scalar
result_scalar Any scalar = BoolScalar
result_scalar All scalar = BoolScalar
result_scalar ArgMin scalar = Int true Eight Little
result_scalar ArgMax scalar = Int true Eight Little

-- whether a reduction needs at least one item
abbrev pub needs_items : Red → Bool
needs_items Minimum = true
needs_items Maximum = true
needs_items ArgMin = true
needs_items ArgMax = true
needs_items _ = false

-- whether the result depends on the order of the numbers
abbrev pub depends_on_order : Red → Bool
depends_on_order ArgMin = true
depends_on_order ArgMax = true
depends_on_order _ = false

-- ---- values

abbrev pub is_true : ℤ → Bool
is_true value = not (int_eq value (pos 0))

abbrev pub sum_of : List ℤ → ℤ
sum_of numbers = fold (λ sum value. sum +ℤ value) (pos 0) numbers

abbrev pub product_of : List ℤ → ℤ
product_of numbers = fold (λ product value. product *ℤ value) (pos 1) numbers

-- the least and the greatest number; 0 for an empty list
abbrev pub least : List ℤ → ℤ
least [] = pos 0
least (first ∷ numbers) = fold int_min first numbers

abbrev pub greatest : List ℤ → ℤ
greatest [] = pos 0
greatest (first ∷ numbers) = fold int_max first numbers

-- the first place of a number in a list, or the length of the list if it is not there
abbrev pub first_place : ℤ → List ℤ → ℕ
first_place value [] = 0
first_place value (first ∷ numbers) = if int_eq first value then 0 else suc (first_place value numbers)

-- the result of reducing numbers, where `scalar` is the type of the result
abbrev pub reduced : Red → Scalar → List ℤ → ℤ
reduced Sum scalar numbers = wrap scalar (sum_of numbers)
reduced Product scalar numbers = wrap scalar (product_of numbers)
reduced Minimum scalar numbers = least numbers
reduced Maximum scalar numbers = greatest numbers
reduced Any scalar numbers = if list_any is_true numbers then pos 1 else pos 0
reduced All scalar numbers = if list_all is_true numbers then pos 1 else pos 0
reduced ArgMin scalar numbers = pos (first_place (least numbers) numbers)
reduced ArgMax scalar numbers = pos (first_place (greatest numbers) numbers)

-- ---- items

-- the result of reducing items, as an item of the result's type
abbrev pub reduced_item : Red → Descr → List (List LeafValue) → List LeafValue
reduced_item reduction (ScalarDescr scalar) items = number (reduced reduction scalar (map item_number items)) ∷ []
reduced_item reduction (RecordDescr structure) items = []

-- the result for each list, given the offsets of its items in a block. `to` is the result's type, `from` the items'.
abbrev pub reduced_items : Red → Descr → Descr → List ℕ → List (List ℕ) → List (List LeafValue)
reduced_items reduction to from block lists = map (λ list. reduced_item reduction to (map (item_from from block) list)) lists
