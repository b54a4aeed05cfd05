-- Names from std, from the crates below and from `specs/`, which the proofs use.
pub use Rattle.array_print.specs.Printed.{all_justified, array_text, block_text, escaped, field_texts, first_text, in_parentheses, item_text, items_from, join_texts, leaf_text, leaf_texts, leaf_width, leaf_widths, record_end, right_justified, separator, structure_text, widest, widths}
pub use Rattle.array_print.specs.Sending.{Sends, SendsPart}
pub use Rattle.array_print.specs.SendingLaws.{appends_nothing, appends_then, part-longer, part-then, sends-more, sends-none, sends-then, split_later}
pub use Rattle.array_print.specs.StartLaws.{StartsWith-trans}
pub use Rattle.array_print.specs.Words.{Appends, Big, BoolScalar, Byte, Bytes, Descr, Eight, Field, Fields, Four, Global, Int, IsIndex-first, Layout, Leaf, LeafValue, LieWithin, Little, RecordDescr, Scalar, ScalarDescr, StartsWith, Structure, Two, address_at, append-nil, before, blocks, count, decode, dot, dot-zeros, factors_pos, fields_of, fits-offsets, get_or-blocks, indexes, item_from, item_size, leaf_count, leaf_count-before, leaf_value, leaves_of, length-indexes, length-leaves_from, length-take, listed, listed-fields_of, max_bytes, mul-step, natural, no_more, offsets-none, offsets_at, record_field, rest_at, scalar_field, size, take-take, total, weight, weight-one, zero_filled}
unfoldable pub use Rattle.array_print.specs.Words.{offsets}
pub use Rattle.array_print.specs.inside.Opened.{opened}
pub use Rattle.array_print.specs.inside.Parts.{IsPart, LeadsOn, part_offsets}
pub use Rattle.array_print.specs.inside.Shown.{AreWidths, IsWidth, lead, shown, texts_at, widths_at}
pub use Rattle.std.proofs.Math.Seq.{take-append_seam}
pub use Rattle.std.proofs.lemmas.Bool.{ne_eqb}
pub use Rattle.std.proofs.lemmas.Int.{ints}
pub use Rattle.std.proofs.lemmas.List.{drop-drop, drop-map, drop-take, drop_all, drop_at, drop_more, get_or-drop, get_or-map, get_or-take, get_or_default, length-map, map-append, same_lists, take-map, take_at, take_more}
pub use Rattle.std.proofs.lemmas.Result.{IfOk-weaker, err_from_is_err_and, on_err_weaker, on_ok_weaker}
pub use Rattle.std.proofs.lemmas.Slice.Zip.{AllZip-long}
unfoldable pub use Rattle.std.specs.Fmt.{digits}
pub use Rattle.std.specs.List.{refill, suffix_len}
pub use lib.IntN.{*ℤ-zero, +ℤ_assoc, +ℤ_idr}
pub use lib.Seq.{drop-append-le, take-append-le}
