-- Items at equal steps, as one value.
use Rattle.std.specs.Prelude.{ℕ, List}
use Rattle.raw_block.specs.Bytes.{place, item_at, EachWithin, copied, copied_within, traded, joined}
use Rattle.raw_block.specs.declared.strided.Steps.{Steps}
use Rattle.raw_block.specs.declared.strided.StridedItems.{StridedItems}

-- each of the items lies within `len` bytes
abbrev pub AreWithin : ℕ → StridedItems → Type 0
AreWithin len from = EachWithin len from.steps.at from.steps.step from.width from.count

-- their bytes, concatenated
abbrev pub joined_items : List ℕ → StridedItems → List ℕ
joined_items other from = joined (λ k. item_at (place from.steps.at from.steps.step k) from.width other) from.count

-- `bytes` after the items of `other` are copied to these places
abbrev pub copied_items : Steps → List ℕ → StridedItems → List ℕ → List ℕ
copied_items to other from bytes = copied to.at to.step other from.steps.at from.steps.step from.width from.count bytes

-- `bytes` after items of them are copied to these places, one after the other
abbrev pub moved_items : Steps → StridedItems → List ℕ → List ℕ
moved_items to from bytes = copied_within to.at to.step from.steps.at from.steps.step from.width from.count bytes

-- `bytes` and `other` after the items at these places are exchanged with items of the other
abbrev pub traded_items : Steps → StridedItems → List ℕ → List ℕ → List ℕ × List ℕ
traded_items a b bytes other = traded a.at a.step b.steps.at b.steps.step b.width b.count bytes other
