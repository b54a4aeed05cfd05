-- New arrays.
use Rattle.std.specs.Prelude.{◌≡◌, ◌*◌, ℕ, List, length, map, reverse, All}
use Rattle.elementwise.specs.Words.{flat_map, Descr, LeafValue, item_size, decode_item, encode_item, item_from, Items, Layout, fortran_order, count, offsets, multiples, Owned}
use Rattle.elementwise.specs.inside.LeafCasts.{cast_items}

-- an array of this element type and shape, in C order, whose items are `values` and whose bytes are the encoded values
pub record IsMade (descr : Descr) (shape : List ℕ) (values : List (List LeafValue)) (o : Owned) : Type 0 where
  pub descr_is : o.descr ≡ descr
  pub shape_is : o.layout.shape ≡ shape
  pub order : offsets o.layout ≡ multiples (item_size descr) (count shape)
  pub items : map (item_from descr o.block) (offsets o.layout) ≡ values
  pub encoded : o.block ≡ flat_map (encode_item descr) values

-- an array of the items of another, cast to an element type
abbrev pub IsCast : Items → Descr → Owned → Type 0
IsCast from to = IsMade to from.layout.now.shape (cast_items from.descr.now to from.block.now (offsets from.layout.now))

-- `turned` is the layout with its axes reversed
pub record IsTurned (turned layout : Layout) : Type 0 where
  pub shape_is : turned.shape ≡ reverse layout.shape
  pub places : offsets turned ≡ fortran_order layout.shape (offsets layout)

-- the bytes are these values encoded, one after another, and each value is read back
pub record AreItems (descr : Descr) (values : List (List LeafValue)) (bytes : List ℕ) : Type 0 where
  pub long : length bytes ≡ length values * item_size descr
  pub encoded : bytes ≡ flat_map (encode_item descr) values
  pub wide : All (λ value. length (encode_item descr value) ≡ item_size descr) values
  pub back : All (λ value. decode_item descr (encode_item descr value) ≡ value) values
