-- The contents of new arrays.
use Rattle.std.specs.Prelude.{ℕ, ◌*◌, ℤ, pos, true, List, [], ◌∷◌, length, map, replicate, reverse, Result, Ok, Err, nat_eq, nat_le}
use Rattle.bench_engine.specs.Words.{range_with_len, Refusal, TooLarge, NotForThisKind, NumberOfValues, Scalar, Byte, Int, Descr, ◌>>=◌, check, descriptor, item_size, leaves_of, LeafValue, number, text, max_bytes, MemoryOrder, C, Fortran, count, indexes, rank, shape_of, Literal, NewItems, Zeros, Full, Arange, Buffer, item_value, item_values, range_items, ordered, Bytes, ScalarDescr}
use Rattle.script_lang.specs.declared.command.NewItems.TheVariants.{Array}
use Rattle.name_store.specs.States as states

-- the contents of a new array: its shape, the place of each index in C order, and the buffer that holds its items
pub record Contents : Type 0 where
  pub shape : List ℕ
  pub places : List ℕ
  pub buffer : Buffer

-- The place of each index of a shape, in C order, if the items are stored in this memory order. In Fortran order, the
-- first number of an index changes fastest.
abbrev pub places_in : MemoryOrder → List ℕ → List ℕ
places_in C shape = range_with_len 0 (count shape)
places_in Fortran shape = map (λ index. rank (reverse shape) (reverse index)) (indexes shape)

-- the contents of an array whose items are given in C order and stored in this memory order
abbrev pub new_contents_in : MemoryOrder → Descr → List ℕ → List (List LeafValue) → Contents
new_contents_in order descr shape items = record { shape = shape; places = places_in order shape; buffer = record { descr = descr; items = ordered order shape items } }

abbrev pub new_contents : Descr → List ℕ → List (List LeafValue) → Contents
new_contents descr shape items = new_contents_in C descr shape items

-- a writable array with these contents, in the buffer with the number `at`
abbrev pub array_over : ℕ → Contents → states.Array
array_over at contents = record { buffer = at; path = []; shape = contents.shape; places = contents.places; writable = true }

-- the value that `zeros` gives to a scalar: 0, or the empty byte string
abbrev pub zero_of : Scalar → LeafValue
zero_of (Bytes n) = text []
zero_of scalar = number (pos 0)

abbrev pub zero_item : Descr → List LeafValue
zero_item descr = map (λ leaf. zero_of leaf.scalar) (leaves_of descr)

-- the element type and the shape of a new array, which may have at most 2^28 bytes
unfoldable pub array_type : List ℕ → List ℕ → Result (Descr × List ℕ) Refusal
array_type descr lengths = do
  descr ← descriptor descr
  shape ← shape_of lengths
  _ ← check (nat_le (count shape * item_size descr) max_bytes) TooLarge
  Ok (descr, shape)

-- zeros D S
unfoldable pub zeros_contents : List ℕ → List ℕ → Result Contents Refusal
zeros_contents descr lengths = do
  type ← array_type descr lengths
  Ok (new_contents type.0 type.1 (replicate (count type.1) (zero_item type.0)))

-- full D S L
unfoldable pub full_contents : List ℕ → List ℕ → Literal → Result Contents Refusal
full_contents descr lengths literal = do
  type ← array_type descr lengths
  item ← item_value type.0 literal
  Ok (new_contents type.0 type.1 (replicate (count type.1) item))

-- array D S L..
unfoldable pub array_contents : List ℕ → List ℕ → List Literal → Result Contents Refusal
array_contents descr lengths literals = do
  type ← array_type descr lengths
  _ ← check (nat_eq (length literals) (count type.1)) NumberOfValues
  items ← item_values type.0 literals
  Ok (new_contents type.0 type.1 items)

-- the scalar of an integer element type. Other element types are refused.
abbrev pub integer_scalar : Descr → Result Scalar Refusal
integer_scalar (ScalarDescr (Byte signed)) = Ok (Byte signed)
integer_scalar (ScalarDescr (Int signed width order)) = Ok (Int signed width order)
integer_scalar _ = Err NotForThisKind

-- the same for the text of a descriptor
unfoldable pub range_scalar : List ℕ → Result Scalar Refusal
range_scalar descr = descriptor descr >>= integer_scalar

-- arange D a b s
unfoldable pub arange_contents : List ℕ → ℤ → ℤ → ℤ → Result Contents Refusal
arange_contents descr start stop step = do
  scalar ← range_scalar descr
  items ← range_items scalar start stop step
  Ok (new_contents (ScalarDescr scalar) (length items ∷ []) items)

-- the contents of the array that a command makes
abbrev pub contents_of : List ℕ → NewItems → Result Contents Refusal
contents_of descr (Zeros shape) = zeros_contents descr shape
contents_of descr (Full shape value) = full_contents descr shape value
contents_of descr (Arange start stop step) = arange_contents descr start stop step
contents_of descr (Array shape values) = array_contents descr shape values
