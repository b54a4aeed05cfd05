-- Names from std and from the crates below, which this crate's definitions, contracts and proofs use.
pub use Rattle.byteorder.specs.Endian.{little_number, twos_complement}
pub use Rattle.std.proofs.Math.IntN.{zero-*ℤ}
pub use Rattle.std.proofs.Math.Nat.{add-mul, mul-le-mul_right, mul-suc, suc-mul, zero-mul}
pub use Rattle.std.proofs.Math.Seq.{drop-append_seam, take-add, take-append_seam}
pub use Rattle.std.proofs.lemmas.Int.{ints}
pub use Rattle.std.proofs.lemmas.List.{drop-append-le, drop-drop, ext_get_or, get_or-append_right, get_or-drop, get_or-take, get_or_append_left, take-append-le, take_all}
pub use Rattle.std.proofs.lemmas.List.Edits.{length-swap, swap_is}
pub use Rattle.std.specs.Borrow.{Array, Fml, Lends, MutBor, sem, u8}
pub use Rattle.std.specs.Int.{bytes_low_first}
pub use Rattle.std.specs.List.{flat_map, refill}
pub use Rattle.std.specs.Simd.{first_chunks}
pub use base.Fml.{Lft, ffalse, flt, froom, fsep, ftrue, fwand}
pub use base.Fraction.{full_share}
pub use denote.RawPtr.{Ptr, block_ptr, null_ptr}
pub use denote.RawPtr.Bytes.{bytes}
pub use denote.Sharing.{beside, said}
pub use denote.Slice.{elements_shared}
pub use lib.IntN.{negsuc}
pub use mir.Syntax.{Ty, ty_array, ty_int, w128, w8}
