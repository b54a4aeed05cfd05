-- What the contracts of this crate cite: its own definitions, and names from std and from the crates below.
pub use Rattle.literal_items.specs.LiteralItems.{can_be_item, can_hold, field_values, is_castable, item_passes, item_value, item_values, leaf_value, literal_number, stand_for, values_of}
pub use Rattle.literal_items.specs.RangeItems.{range_count, range_items, range_length, range_numbers}
pub use Rattle.literal_items.specs.Words.{AreInOrder, Gives, IsGap, IsLegal, IsNumber, LiteralOutOfRange, RecordDescr, ScalarDescr, all_values, blocks, decode, decode_item, encode, encode_item, is_before, is_value, item_size, items_in, joined, leaves_from, leaves_of, list_all, listed, low_bits, max_items, moved_leaf, numbers_from, padded, size, without_nuls}
pub use Rattle.literal_items.specs.inside.FieldItems.{can_be_field, field_value, passes, put_leaves, stands_for}
pub use Rattle.literal_items.specs.inside.Numbered.{numbered}
pub use Rattle.std.specs.Int.{w128}
