-- What is asked about a name's array, and what a given array contains.
use Rattle.std.specs.Prelude.{ℕ, ◌*◌, true, List, ◌++◌, length, codes, nat_eq, nat_le, Result, Ok, Err}
use Rattle.bench_c.specs.Words.{array_of, cast_items, descr_text, Contents, new_contents, array_type, descr_of, Array, State, Descr, ScalarDescr, Int, Eight, Little, item_size, items_in, encode_item, LeafValue, Refusal, ByteNotAllowed, Syntax, TooLarge, UnknownName, NumberOfValues, check, ◌>>=◌, count, max_bytes, flat_map, Line, line_of, asks, bad_byte, Delete}
use Rattle.bench_c.specs.declared.array_calls.Info.{Info}

-- the array of a name, which has at most 32 bytes
unfoldable pub array_called : List ℕ → State → Result Array Refusal
array_called name s = do
  _ ← check (nat_le (length name) 32) UnknownName
  array_of s name

-- the lengths of its axes
unfoldable pub shape_called : List ℕ → State → Result (List ℕ) Refusal
shape_called name s = do
  array ← array_called name s
  Ok array.shape

-- its element type, as `info` prints it
unfoldable pub type_called : List ℕ → State → Result (List ℕ) Refusal
type_called name s = do
  array ← array_called name s
  Ok (descr_text (descr_of s array))

-- its number of items, the number of bytes of an item, and whether it may be written
unfoldable pub info_called : List ℕ → State → Result Info Refusal
info_called name s = do
  array ← array_called name s
  Ok (record { items = count array.shape; item_size = item_size (descr_of s array); writable = array.writable })

-- the bytes of an array's items, cast to an element type, one after another in C order
unfoldable pub bytes_as : Descr → State → Array → Result (List ℕ) Refusal
bytes_as descr s array = do
  items ← cast_items s array descr
  _ ← check (nat_le (count array.shape * item_size descr) max_bytes) TooLarge
  Ok (flat_map (encode_item descr) items)

-- <i8, an integer of eight bytes, the lowest first
abbrev pub int64 : Descr
int64 = ScalarDescr (Int true Eight Little)

-- the items of a name's array, each cast to <i8
unfoldable pub numbers_called : List ℕ → State → Result (List ℕ) Refusal
numbers_called name s = do
  array ← array_called name s
  bytes_as int64 s array

-- the items of a name's array, each as it is stored
unfoldable pub items_called : List ℕ → State → Result (List ℕ) Refusal
items_called name s = do
  array ← array_called name s
  bytes_as (descr_of s array) s array

-- the name that a line deletes
abbrev pub deleted : Line → Result (List ℕ) Refusal
deleted (asks (Delete name)) = Ok name
deleted bad_byte = Err ByteNotAllowed
deleted _ = Err Syntax

-- A name is what the line `del NAME` deletes. It has at most 32 bytes.
unfoldable pub named : List ℕ → Result (List ℕ) Refusal
named name = do
  _ ← check (nat_le (length name) 32) Syntax
  deleted (line_of (codes "del " ++ name))

-- the contents of an array with this type, these lengths of axes, and items with these bytes, one after another in C order
unfoldable pub given_contents : List ℕ → List ℕ → List ℕ → Result Contents Refusal
given_contents descr lengths bytes = do
  type ← array_type descr lengths
  _ ← check (nat_eq (length bytes) (count type.1 * item_size type.0)) NumberOfValues
  Ok (new_contents type.0 type.1 (items_in type.0 (count type.1) bytes))
