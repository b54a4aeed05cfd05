-- The arrays of an index list, read from blocks.
use Rattle.std.specs.Prelude.{ℕ, ℤ, List, map}
use Rattle.fancy_index.specs.Words.{Descr, item_number, item_from, IndexItem, Integer, Slice, Ellipsis, NewAxis, Array, offsets, Items}
use Rattle.fancy_index.specs.IndexArrays.{IndexArray}

-- the number of the item at an offset
abbrev pub number_from : Descr → List ℕ → ℕ → ℤ
number_from descr bytes offset = item_number (item_from descr bytes offset)

-- an array of an index list, read from its items
abbrev pub index_array_of : Items → IndexArray
index_array_of a = record { descr = a.descr.now; shape = a.layout.now.shape; numbers = map (number_from a.descr.now a.block.now) (offsets a.layout.now) }

-- an item of an index list; an array is read from its items
abbrev pub index_item_of : IndexItem Items → IndexItem IndexArray
index_item_of (Integer at) = Integer at
index_item_of (Slice start stop step) = Slice start stop step
index_item_of Ellipsis = Ellipsis
index_item_of NewAxis = NewAxis
index_item_of (Array a) = Array (index_array_of a)

abbrev pub index_items : List (IndexItem Items) → List (IndexItem IndexArray)
index_items items = map index_item_of items
