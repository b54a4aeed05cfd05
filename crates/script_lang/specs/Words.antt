-- Names from std and from the crates below, which this crate's definitions, contracts and proofs use.
pub use Rattle.elem_descr.specs.IndexItems.{is_ellipsis}
pub use Rattle.elem_descr.specs.RefusalTexts.{refusal_text}
pub use Rattle.elem_descr.specs.TypeStrings.{value_of}
pub use Rattle.elem_descr.specs.declared.index_item.IndexItem.{IndexItem}
pub use Rattle.elem_descr.specs.declared.index_item.IndexItem.TheVariants.{Array, Ellipsis, Integer, NewAxis, Slice}
pub use Rattle.elem_descr.specs.declared.operators.BinOp.TheVariants.{Add, And, Divide, FloorDivide, Modulo, Multiply, Or, ShiftLeft, ShiftRight, Subtract, Xor}
pub use Rattle.elem_descr.specs.declared.operators.Comparison.TheVariants.{Equal, Greater, GreaterOrEqual, Less, LessOrEqual, NotEqual}
pub use Rattle.elem_descr.specs.declared.operators.MemoryOrder.{MemoryOrder}
pub use Rattle.elem_descr.specs.declared.operators.MemoryOrder.TheVariants.{C, Fortran}
pub use Rattle.elem_descr.specs.declared.operators.Red.{Red}
pub use Rattle.elem_descr.specs.declared.operators.Red.TheVariants.{Any, ArgMax, ArgMin, Maximum, Minimum, Product, Sum}
pub use Rattle.elem_descr.specs.declared.operators.UnOp.{UnOp}
pub use Rattle.elem_descr.specs.declared.operators.UnOp.TheVariants.{Invert, Negate}
pub use Rattle.elem_descr.specs.declared.refusal.Refusal.{Refusal}
pub use Rattle.elem_descr.specs.declared.refusal.Refusal.TheVariants.{ByteNotAllowed, OutOfMemory, Syntax}
pub use Rattle.std.specs.Borrow.{Bor}
pub use Rattle.std.specs.Char.{is_ascii_alphabetic, is_ascii_digit}
pub use Rattle.std.specs.Coded.{Coded, code_by, coded_bool, coded_list, coded⊎}
pub use Rattle.std.specs.List.{All, list_all, prefix_len}
pub use Rattle.std.specs.Option.{option_and_then, option_map}
pub use Rattle.std.specs.Str.{bytes_eq}
pub use denote.Param.Weighed.{most}
