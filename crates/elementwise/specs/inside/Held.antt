-- Operands as items of an element type: used in place, or copied to a block of their own.
use Rattle.std.specs.Prelude.{ℕ, List}
use Rattle.elementwise.specs.Words.{Descr, LeafValue, items, owned_items}
use Rattle.elementwise.specs.declared.held.Held.{Held}
use Rattle.elementwise.specs.declared.held.Held.TheVariants.{Kept, Made}

abbrev pub held_items : Held → List (List LeafValue)
held_items (Kept i) = items i
held_items (Made o) = owned_items o

abbrev pub held_descr : Held → Descr
held_descr (Kept i) = i.descr.now
held_descr (Made o) = o.descr

abbrev pub held_shape : Held → List ℕ
held_shape (Kept i) = i.layout.now.shape
held_shape (Made o) = o.layout.shape
