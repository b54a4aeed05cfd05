-- Items, as lists of their values.
use Rattle.std.specs.Prelude.{List, map}
use Rattle.arrays.specs.Words.{LeafValue, item_from, offsets}
use Rattle.arrays.specs.declared.items.Items.{Items}
use Rattle.arrays.specs.declared.owned.Owned.{Owned}

-- the values of borrowed items, in C order
abbrev pub items : Items → List (List LeafValue)
items i = map (item_from i.descr.now i.block.now) (offsets i.layout.now)

-- the values of the items of an array that owns its block
abbrev pub owned_items : Owned → List (List LeafValue)
owned_items o = map (item_from o.descr o.block) (offsets o.layout)
