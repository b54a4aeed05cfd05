-- What the contracts of this crate cite: its own definitions, and names from std and from the crates below.
pub use Rattle.array_print.specs.Printed.{array_text, byte_string_text, escaped, hex_digit, items_from, leaf_text, leaf_width, leaf_widths, record_end, right_justified, separator, stands_for_itself, widths}
pub use Rattle.array_print.specs.Sending.{Sends, SendsPart}
pub use Rattle.array_print.specs.Words.{Appends, Fits, IsNumber, StartsWith, decode, item_size, leaves_of, size, without_nuls}
unfoldable pub use Rattle.array_print.specs.Words.{offsets}
pub use Rattle.array_print.specs.declared.bands.PrintFault.TheVariants.{Memory, Write as WriteOut}
pub use Rattle.array_print.specs.inside.ItemTexts.{AreItemsAt, part_text, text_at}
pub use Rattle.array_print.specs.inside.Parts.{IsPart, part_offsets}
pub use Rattle.array_print.specs.inside.Pushed.{Pushes}
pub use Rattle.array_print.specs.inside.Shown.{IsWidth, integer_at, lead, widths_at}
