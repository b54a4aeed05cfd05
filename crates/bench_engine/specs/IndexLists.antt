-- What an index list selects from an array of a state. A name in the list means the array that it is bound to.
use Rattle.std.specs.Prelude.{ℕ, ◌*◌, if◌then◌else◌, List, [], ◌∷◌, map, Option, Some, None, Result, Ok, nat_le}
use Rattle.bench_engine.specs.Words.{list_all, flat_map, Refusal, TooLarge, ◌>>=◌, check, item_size, IndexItem, Slice, Ellipsis, NewAxis, is_basic, max_bytes, count, basic, IndexArray, no_array, indexed, item_number, State, find_array, descr_of, read, Integer, View}
use Rattle.elem_descr.specs.declared.index_item.IndexItem.TheVariants.{Array}
use Rattle.name_store.specs.States as states

-- the names in an index list
abbrev pub names_in_item : IndexItem (List ℕ) → List (List ℕ)
names_in_item (Array name) = name ∷ []
names_in_item item = []

abbrev pub names_in_index : List (IndexItem (List ℕ)) → List (List ℕ)
names_in_index index = flat_map names_in_item index

-- the array as an index array: its element type, its shape, and the number of each item; or the placeholder for a
-- missing array
abbrev pub by_items : State → Option states.Array → IndexArray
by_items s None = no_array
by_items s (Some array) = record { descr = descr_of s array; shape = array.shape; numbers = map item_number (read s array) }

-- an item of an index list, with the array itself in place of its name
abbrev pub array_by_items : State → IndexItem (List ℕ) → IndexItem IndexArray
array_by_items s (Integer at) = Integer at
array_by_items s (Slice start stop step) = Slice start stop step
array_by_items s Ellipsis = Ellipsis
array_by_items s NewAxis = NewAxis
array_by_items s (Array name) = Array (by_items s (find_array s.names name))

-- the items that an index list with arrays selects, which may have at most 2^28 bytes
unfoldable pub gathered : State → states.Array → List (IndexItem (List ℕ)) → Result View Refusal
gathered s array index = do
  view ← indexed array.shape (map (array_by_items s) index)
  _ ← check (nat_le (count view.shape * item_size (descr_of s array)) max_bytes) TooLarge
  Ok view

-- the items that an index list selects from an array
abbrev pub taken : State → states.Array → List (IndexItem (List ℕ)) → Result View Refusal
taken s array index = if list_all is_basic index then basic array.shape index else gathered s array index
