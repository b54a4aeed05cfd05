-- What the contracts of this crate cite: its own definitions, and names from std and from the crates below.
pub use Rattle.elem_descr.specs.DescrTexts.{descriptor, is_type_string}
pub use Rattle.elem_descr.specs.Descriptors.{IsLegal}
pub use Rattle.elem_descr.specs.Encoding.{IsNumber, IsValueOf, WrapsTo, bytes_of, decode, encode, integer, is_value, low_bits, number_in, size, wrap}
pub use Rattle.elem_descr.specs.FormatLetters.{aligned_to, count_of, is_aligning, is_empty, long_under, number_letter, order_under, own_alignment, text_member}
pub use Rattle.elem_descr.specs.FormatPieces.{is_colon}
pub use Rattle.elem_descr.specs.FormatTexts.{format}
pub use Rattle.elem_descr.specs.IndexItems.{is_basic, is_ellipsis}
pub use Rattle.elem_descr.specs.Names.{is_legal_name}
pub use Rattle.elem_descr.specs.RecordBuilding.{max_size}
pub use Rattle.elem_descr.specs.Refusals.{Answers, Gives}
pub use Rattle.elem_descr.specs.TypeStrings.{byte_string, is_one_of, letter_of, mark, number_spelled, spelling, typestr, value_of}
pub use Rattle.elem_descr.specs.Values.{number}
pub use Rattle.elem_descr.specs.Words.{is_ascii_digit, list_all, prefix_len}
pub use Rattle.elem_descr.specs.WrittenFormats.{written_fields, written_format, written_letter, written_mark, written_name, written_pad}
pub use Rattle.elem_descr.specs.declared.refusal.Refusal.TheVariants.{OutOfMemory}
pub use Rattle.elem_descr.specs.inside.Turns.{after, held_at, held_member, is_named, lettered_before, marked, member_at, name_at, nothing_follows, record_alone, scalar_alone}
