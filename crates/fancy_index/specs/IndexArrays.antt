-- Arrays in an index list: which are masks, how many axes an item takes, and what is refused.
use Rattle.std.specs.Prelude.{ℕ, Bool, true, false, ℤ, List, [], ◌∷◌, length, sum_by}
use Rattle.fancy_index.specs.Words.{bytes_eq, list_all, Descr, Byte, Int, IndexItem, Ellipsis, NewAxis, Array, is_place, placed, is_on_axis, ScalarDescr, BoolScalar}
use Rattle.fancy_index.specs.declared.kinds.Kind.{Kind}
use Rattle.fancy_index.specs.declared.kinds.Kind.TheVariants.{Integers, Mask, NoIndex}

-- an array in an index list: its type, its shape, and its items in C order as numbers. A bool is 0 or 1.
pub record IndexArray : Type 0 where
  pub descr : Descr
  pub shape : List ℕ
  pub numbers : List ℤ

-- Integers index one axis. Bools with at least one axis are a mask, which indexes as many axes as it has. Nothing else
-- is an index.
abbrev pub kind_of : Descr → List ℕ → Kind
kind_of (ScalarDescr (Byte signed)) shape = Integers
kind_of (ScalarDescr (Int signed width order)) shape = Integers
kind_of (ScalarDescr BoolScalar) (n ∷ shape) = Mask
kind_of _ _ = NoIndex

abbrev pub kind : IndexArray → Kind
kind array = kind_of array.descr array.shape

-- a placeholder for a missing array, which is not a valid index
abbrev pub no_array : IndexArray
no_array = record { descr = ScalarDescr BoolScalar; shape = []; numbers = [] }

-- ---- which axes an item takes

abbrev pub axes_of_kind : Kind → List ℕ → ℕ
axes_of_kind Mask shape = length shape
axes_of_kind _ shape = 1

-- the number of axes that an item takes. Those that `...` takes are not counted.
abbrev pub item_axes : IndexItem IndexArray → ℕ
item_axes Ellipsis = 0
item_axes NewAxis = 0
item_axes (Array array) = axes_of_kind (kind array) array.shape
item_axes _ = 1

abbrev pub array_axes_taken : List (IndexItem IndexArray) → ℕ
array_axes_taken items = sum_by item_axes items

-- ---- what is refused

abbrev pub is_kind_of_index : Kind → Bool
is_kind_of_index NoIndex = false
is_kind_of_index _ = true

abbrev pub is_index : IndexItem IndexArray → Bool
is_index (Array array) = is_kind_of_index (kind array)
is_index _ = true

-- a mask must have the same shape as the axes that it takes
abbrev pub covers_kind : Kind → List ℕ → List ℕ → Bool
covers_kind Mask shape axes = bytes_eq shape axes
covers_kind _ shape axes = true

abbrev pub covers : List ℕ → IndexItem IndexArray → Bool
covers axes (Array array) = covers_kind (kind array) array.shape axes
covers axes _ = true

abbrev pub cover : List ℕ → List (IndexItem IndexArray) → Bool
cover shape items = list_all (λ p. covers p.axes p.item) (placed array_axes_taken shape items)

-- each number of an array of integers must be within its axis, whatever shape the array broadcasts to
abbrev pub are_places : Kind → List ℕ → List ℤ → Bool
are_places Integers (n ∷ axes) numbers = list_all (is_place n) numbers
are_places _ axes numbers = true

abbrev pub is_within : List ℕ → IndexItem IndexArray → Bool
is_within axes (Array array) = are_places (kind array) axes array.numbers
is_within axes item = is_on_axis axes item

abbrev pub are_within : List ℕ → List (IndexItem IndexArray) → Bool
are_within shape items = list_all (λ p. is_within p.axes p.item) (placed array_axes_taken shape items)
