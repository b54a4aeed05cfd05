-- Names from std and from the crates below, which this crate's definitions, contracts and proofs use.
pub use Rattle.elem_descr.specs.Blocks.{blocks, item_from}
pub use Rattle.elem_descr.specs.DescriptorLaws.{listed-fields_of, rest_at, weight-one}
pub use Rattle.elem_descr.specs.Descriptors.{before, fields_of, leaf_count, listed}
pub use Rattle.elem_descr.specs.Encoding.{IsNumber, decode, number_of, size, text_of, without_nuls}
pub use Rattle.elem_descr.specs.Fields.{Fields, Structure, no_more, record_field, scalar_field, total}
pub use Rattle.elem_descr.specs.ItemLaws.{leaf_count-before, leaf_value, length-leaves_from}
pub use Rattle.elem_descr.specs.Items.{item_size, leaves_of}
pub use Rattle.elem_descr.specs.TypeStrings.{is_one_of}
pub use Rattle.elem_descr.specs.Values.{LeafValue}
pub use Rattle.elem_descr.specs.Weights.{weight}
pub use Rattle.elem_descr.specs.declared.descr.Descr.{Descr}
pub use Rattle.elem_descr.specs.declared.descr.Descr.TheVariants.{Record as RecordDescr, Scalar as ScalarDescr}
pub use Rattle.elem_descr.specs.declared.descr.Field.{Field}
pub use Rattle.elem_descr.specs.declared.descr.Leaf.{Leaf}
pub use Rattle.elem_descr.specs.declared.scalar.Order.TheVariants.{Big, Little}
pub use Rattle.elem_descr.specs.declared.scalar.Scalar.{Scalar}
pub use Rattle.elem_descr.specs.declared.scalar.Scalar.TheVariants.{Bool as BoolScalar, Byte, Bytes, Int}
pub use Rattle.elem_descr.specs.declared.scalar.Width.TheVariants.{Eight, Four, Two}
pub use Rattle.shape_strides.specs.Addresses.{LieWithin, address_at, dot, natural}
pub use Rattle.shape_strides.specs.AxisIndexes.{zero_filled}
pub use Rattle.shape_strides.specs.AxisLaws.{IsIndex-first, dot-zeros}
pub use Rattle.shape_strides.specs.CountLaws.{factors_pos, mul-step}
pub use Rattle.shape_strides.specs.IndexLaws.{get_or-blocks, length-indexes}
pub use Rattle.shape_strides.specs.Indexes.{count, indexes}
pub use Rattle.shape_strides.specs.LayoutLaws.{offsets-none}
pub use Rattle.shape_strides.specs.Layouts.{Fits}
unfoldable pub use Rattle.shape_strides.specs.Layouts.{offsets}
pub use Rattle.shape_strides.specs.Limits.{max_bytes, max_items}
pub use Rattle.shape_strides.specs.PlaceLaws.{fits-offsets}
pub use Rattle.shape_strides.specs.Walks.{offsets_at}
pub use Rattle.shape_strides.specs.declared.layout.Layout.{Layout}
pub use Rattle.std.proofs.lemmas.List.{append-nil, length-take, take-append-drop, take-take}
pub use Rattle.std.specs.Fmt.{signed_decimal}
pub use Rattle.std.specs.Io.{StartsWith}
pub use Rattle.std.specs.Io.KnownBytes.{Appends}
pub use Rattle.std.specs.List.{AllZip}
pub use Rattle.std.specs.declared.alloc.Global.{Global}
