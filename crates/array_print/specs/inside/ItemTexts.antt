-- The texts of items in a block of bytes.
use Rattle.std.specs.Prelude.{◌≤◌, ◌+◌, ℕ, List, drop, length, map}
use Rattle.array_print.specs.Words.{Layout, item_size, leaves_of}
use Rattle.array_print.specs.declared.printer.Items.{Items}
use Rattle.array_print.specs.Printed.{block_text}
use Rattle.array_print.specs.inside.Parts.{IsPart, part_offsets}
use Rattle.array_print.specs.inside.Shown.{AreWidths, shown, texts_at}

-- An item's bytes begin at the offset, and its texts may have the widths.
pub record IsItemAt (items : Items) (offset : ℕ) : Type 0 where
  pub widths : AreWidths (leaves_of items.descr.now) items.widths.now
  pub inside : offset + item_size items.descr.now ≤ length items.block.now

-- The axes from `axis` on lead to such items.
pub record AreItemsAt (items : Items) (l : Layout) (axis start : ℕ) : Type 0 where
  pub widths : AreWidths (leaves_of items.descr.now) items.widths.now
  pub part : IsPart l axis start (length items.block.now) (item_size items.descr.now)

-- the texts of the values of the item at an offset, and the text of the item
abbrev pub value_texts : Items → ℕ → List (List ℕ)
value_texts items offset = texts_at items.descr.now items.widths.now items.block.now offset

abbrev pub text_at : Items → ℕ → List ℕ
text_at items offset = shown items.descr.now items.widths.now items.block.now offset

-- the text of the items that the axes from `axis` on lead to
abbrev pub part_text : Items → Layout → ℕ → ℕ → List ℕ
part_text items l axis start = block_text axis (drop axis l.shape) (map (text_at items) (part_offsets l axis start))
