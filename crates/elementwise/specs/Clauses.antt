-- What the contracts of this crate cite: its own definitions, and names from std and from the crates below.
pub use Rattle.elementwise.specs.Bits.{is_negative, magnitude_of}
pub use Rattle.elementwise.specs.Casts.{can_cast, can_cast_fields, can_cast_scalar, cast_item}
pub use Rattle.elementwise.specs.Comparisons.{compared, says}
pub use Rattle.elementwise.specs.Operations.{binary, exact, floor_quotient, serves_bools, shifted_left, shifted_right}
pub use Rattle.elementwise.specs.Promotion.{common_type, compared_type, integer_type, literal_type, mixed_type, promote, promote_one, rank_of_kind, same_kind}
pub use Rattle.elementwise.specs.Results.{GivesArray, binary_item, binary_result, bytes_compared_result, compared_item, compared_result, integer_compared_result, items_stretched, pairwise, scalar_of, stretched_items, unary_item, unary_result}
pub use Rattle.elementwise.specs.Words.{Add, And, Answers, AreAlike, BoolScalar, Bytes, C, EachWithin, Eight, Int, IsNumber, Little, Multiply, NoSuchCast, Or, OutOfMemory, Scalar, ScalarDescr, ShiftLeft, ShiftRight, Subtract, TooLarge, Xor, big_number, can_stretch, count, decode, encode_item, flat_map, integer, is_bool, is_signed, is_text, item_at, item_from, item_size, items, leaf_at, leaves_of, list_all, listed, little, low_bits, max_bytes, max_items, number, offsets_in, owned_items, place, run_offsets, size, text, without_nuls, wrap}
unfoldable pub use Rattle.elementwise.specs.Words.{offsets}
pub use Rattle.elementwise.specs.inside.Combined.{AreCastable, AreCompared, AreComparedWith, IsCombined}
pub use Rattle.elementwise.specs.inside.FieldCasts.{can_cast_field}
pub use Rattle.elementwise.specs.inside.Held.{held_descr, held_items, held_shape}
pub use Rattle.elementwise.specs.inside.LeafCasts.{HasSource, IsCut, cast_items, run_part, source}
pub use Rattle.elementwise.specs.inside.Made.{AreItems, IsCast, IsMade}
pub use Rattle.elementwise.specs.inside.Operands.{AreAllMade, pairs_of}
pub use Rattle.elementwise.specs.inside.PairPasses.{division_op, number_pair, said, says_number, text_pair, text_said}
pub use Rattle.elementwise.specs.inside.Shrunk.{IsShrunk}
pub use Rattle.elementwise.specs.inside.Sides.{AreMade, pair_count}
pub use Rattle.elementwise.specs.inside.Words.{AreInOrder, CanCut, IsWordLen}
pub use Rattle.elementwise.specs.inside.Works.{AreComparable, IsComparing, IsWork, meaning, target}
