-- Names from std, from the crates below and from `specs/`, which the proofs use.
pub use Rattle.elem_descr.specs.BuildingLaws.{added_ok, field_of, grown, multiple_of_one, name_ok, names, not_taken, packed, record_type, widened-capped}
pub use Rattle.elem_descr.specs.DescriptorLaws.{InOrder-before, InOrder-within, field_within, first_field, listed-fields_of, rest_at, some_depth, some_leaves, weight-one}
pub use Rattle.elem_descr.specs.Descriptors.{AreNamedWithin, InOrder, IsLegal, before, depth, fields_of, leaf_count, listed, names_of}
pub use Rattle.elem_descr.specs.DigitLaws.{digits-decimal, value_of-decimal}
pub use Rattle.elem_descr.specs.Encoding.{decode, size}
pub use Rattle.elem_descr.specs.EncodingLaws.{decode_encode}
pub use Rattle.elem_descr.specs.Fields.{Fields, Structure, no_more, record_field, scalar_field, total}
pub use Rattle.elem_descr.specs.FormatLetters.{Member, Opened, Pad, Value, aligned_to, count_of, is_aligning, is_empty, lettered, mark_meant, number_letter, number_member, other_member, own_alignment, text_member}
pub use Rattle.elem_descr.specs.FormatPieces.{Behind, Piece, between_colons, brace, byte_onto, cut_at_colons, digit_onto, is_colon, letter, letter_onto, lone_colon, nothing, opening, pieces, pieces_between, stray}
pub use Rattle.elem_descr.specs.FormatTexts.{PieceKind, Reading, at_begin, begun, behind_member, beyond, called, closed_body, closed_in, complete, format, in_record, member, opened, part_of, read_on, step, unnamed, with_member, with_pad, within}
pub use Rattle.elem_descr.specs.ItemLaws.{entry_within, leaf_count-before, leaf_within, leaves_from-before, leaves_in_order, length-leaves_from}
pub use Rattle.elem_descr.specs.Items.{AreInOrder, LeavesInOrder, decode_item, encode_item, field_at, fields, item_size, leaves_from, leaves_in, leaves_of, moved_leaf, no_field, no_leaf}
pub use Rattle.elem_descr.specs.Names.{is_field_name_byte, is_legal_name}
pub use Rattle.elem_descr.specs.NumberLaws.{wrap_fits, wrap_stays, wraps_to}
pub use Rattle.elem_descr.specs.RecordBuilding.{IsShallow, Partial, closed_size, empty, if_small, is_taken, with_field}
unfoldable pub use Rattle.elem_descr.specs.RecordBuilding.{added, checked_name, closed_record, widened}
pub use Rattle.elem_descr.specs.RefusalLaws.{bind_same}
pub use Rattle.elem_descr.specs.Refusals.{check, ◌>>=◌}
pub use Rattle.elem_descr.specs.SpellingLaws.{one}
pub use Rattle.elem_descr.specs.TypeStrings.{is_one_of, value_of}
pub use Rattle.elem_descr.specs.Values.{LeafValue, number, text}
pub use Rattle.elem_descr.specs.Weights.{weight}
pub use Rattle.elem_descr.specs.Words.{AllByRecursion, append-nil, big_bytes, bytes_eq, cases_lt, decimal_digit, is_ascii_digit, le-leb, length-drop, length-map, list_all, little_bytes, lt-leb, map-append, min-eq_left, next_multiple_of, ok_or, option_map, prefix_len, take-append-drop, take-append_seam, take_all, w128}
unfoldable pub use Rattle.elem_descr.specs.Words.{IsDistinct}
pub use Rattle.elem_descr.specs.WrapLaws.{written_whole}
pub use Rattle.elem_descr.specs.WrittenFormats.{braced, written_count, written_fields, written_format, written_letter, written_mark, written_name, written_pad, written_scalar}
pub use Rattle.elem_descr.specs.declared.descr.Descr.{Descr}
pub use Rattle.elem_descr.specs.declared.descr.Descr.TheVariants.{Record as RecordDescr, Scalar as ScalarDescr}
pub use Rattle.elem_descr.specs.declared.descr.Field.{Field}
pub use Rattle.elem_descr.specs.declared.descr.Leaf.{Leaf}
pub use Rattle.elem_descr.specs.declared.format_text.mark.Mark.{Mark}
pub use Rattle.elem_descr.specs.declared.format_text.mark.Mark.TheVariants.{Aligned, Big as BigMark, Little as LittleMark, Native}
pub use Rattle.elem_descr.specs.declared.format_text.member.Member.{Member as Held}
pub use Rattle.elem_descr.specs.declared.format_text.record.Body.{Body}
pub use Rattle.elem_descr.specs.declared.refusal.Refusal.{Refusal}
pub use Rattle.elem_descr.specs.declared.refusal.Refusal.TheVariants.{BadDescriptor, DescriptorLeftOut, TooLarge}
pub use Rattle.elem_descr.specs.declared.scalar.Order.TheVariants.{Big, Little}
pub use Rattle.elem_descr.specs.declared.scalar.Scalar.{Scalar}
pub use Rattle.elem_descr.specs.declared.scalar.Scalar.TheVariants.{Bool as BoolScalar, Byte, Bytes, Int}
pub use Rattle.elem_descr.specs.declared.scalar.Width.TheVariants.{Eight, Four, Two}
pub use Rattle.elem_descr.specs.inside.Partials.{IsPartial}
pub use Rattle.elem_descr.specs.inside.Records.{IsRecord}
pub use Rattle.elem_descr.specs.inside.Turns.{Later, Reader, after, after_count, alone, as_held, begins_with_digit, capped, closing, fitting, format_in_turns, held_at, held_member, is_named, is_opened, lettered_before, marked, member_at, members, name_at, named, taken_in, turn}
unfoldable pub use Rattle.elem_descr.specs.inside.Turns.{body_in, next_field, nothing_follows, pad_in, record_alone, record_within, scalar_alone, scalar_in}
pub use Rattle.std.proofs.Math.Seq.{drop-append-add, drop-append_seam}
pub use Rattle.std.proofs.lemmas.Bool.{and_parts, cases_Bool, cases_eq, leb-false}
pub use Rattle.std.proofs.lemmas.Bool.Decides.{nat_tests}
pub use Rattle.std.proofs.lemmas.Fmt.{decimal_nonempty, decimal_step}
pub use Rattle.std.proofs.lemmas.Int.{to_z-of_z}
pub use Rattle.std.proofs.lemmas.List.{at_drop_all, get_or_default, take_rest}
pub use Rattle.std.proofs.lemmas.List.Folds.{list_all-append}
pub use Rattle.std.proofs.lemmas.Result.{err_from_is_err_and}
