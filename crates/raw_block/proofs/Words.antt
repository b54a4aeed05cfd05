-- Names from std, from the crates below and from `specs/`, which the proofs use.
pub use Rattle.core.proofs.alloc.Calls.{Al, Answered, Gives, Gives-Gives, Gives-goes, Goes-blank, Takes, Takes-gives, Takes-goes, answers, at_gives, at_takes, seen}
pub use Rattle.core.proofs.alloc.Shapes.{arm_body, head}
pub use Rattle.core.proofs.atomic.Steps.{fm}
pub use Rattle.core.proofs.slice.Relends.{array_out, length-first_chunks, runs_in, runs_out}
pub use Rattle.core.specs.declared.alloc.Allocator.{Ghosts}
pub use Rattle.raw_block.specs.Bytes.{EachWithin, Grid, GridWithin, copied, copied_within, exchanged, filled, grid_item, grid_items, item_at, joined, little_from, place, position, put, swapped, traded}
pub use Rattle.raw_block.specs.BytesLaws.{byte_of, fewer, first_position, get_or-put_after, get_or-put_before, item_at-put_apart, item_at-put_same, item_of_chunks, length-chunks, length-item_at, length-put, not_negative, place_within, position-add}
pub use Rattle.raw_block.specs.ExchangeLaws.{exchanged-first, exchanged-outside, exchanged-second, last_or_before, length-exchanged}
pub use Rattle.raw_block.specs.JoinedLaws.{all_joined, joined-add, joined-same, joined_run}
pub use Rattle.raw_block.specs.NumberRuns.{AreArrays, SameBeside, adjacent_numbers, signed_numbers, with_run}
pub use Rattle.raw_block.specs.Ownership.{bytes_lent, bytes_own, deed_owns, unwritten, words}
pub use Rattle.raw_block.specs.Words.{Lft, Ptr, Ty, add-mul, block_ptr, bytes, bytes_low_first, drop-append_seam, drop-drop, elements_shared, ext_get_or, ffalse, first_chunks, flat_map, flt, froom, fsep, ftrue, full_share, fwand, ints, mul-le-mul_right, mul-suc, negsuc, null_ptr, refill, said, suc-mul, take-add, take-append_seam, ty_array, ty_int}
pub use Rattle.raw_block.specs.contracts.base.Bytes.{the_row as R, the_type}
pub use Rattle.raw_block.specs.contracts.base.allocate.{clauses, ended}
pub use Rattle.raw_block.specs.contracts.base.allocate.Key.{name as #self}
pub use Rattle.raw_block.specs.inside.Appends.{AreAppended}
pub use Rattle.raw_block.specs.inside.Bands.{band}
pub use Rattle.raw_block.specs.inside.Lends.{with_items}
pub use Rattle.raw_block.specs.inside.Pairs.{LieApart}
pub use Rattle.raw_block.specs.inside.Sizes.{IsSizeFor}
pub use Rattle.std.proofs.Common.{drop as drop_front}
pub use Rattle.std.proofs.Math.Nat.{add-mod-mod, add-mul-mod_self_right, mod-eq_of_lt, mul-add, mul-div_cancel_left, mul-le-mul_left, mul-zero, pow-le-pow_right, pow-suc}
pub use Rattle.std.proofs.Math.Seq.{drop-append-add}
pub use Rattle.std.proofs.lemmas.Bool.{cases_lt}
pub use Rattle.std.proofs.lemmas.Int.{to_z-of_z, to_z_pos}
pub use Rattle.std.proofs.lemmas.List.{drop-take, take-append-drop, take-take}
pub use Rattle.std.proofs.lemmas.List.Concat.{flat_map-cons}
pub use Rattle.std.proofs.raw_atomic.Walks.{proved, proved_at}
pub use Rattle.std_alloc.proofs.RcSteps.{word, word-Good}
pub use Rattle.std_alloc.proofs.ResultValues.{err_of, ok_of}
pub use Rattle.std_alloc.proofs.VecSteps.Shapes.{after}
pub use base.Fml.{Fml, GName, Share, fat, flft}
pub use base.Logic.{SProp, apply∗, emp, ent, id⊢, sep, wand}
pub use borrow.Table.Elements.{at as after_some, at_mul, cut_app, join_app}
pub use contract.BorrowLft.{⊑_trans, ◌⊑◌}
pub use contract.Monad.{fact}
pub use contract.Running.{tables}
pub use denote.Array.{Array, Array-Tells, Array-Typed, array_val, array_vals}
pub use denote.ArrayMemory.{elem_in}
pub use denote.Builtin.{RefOf, u8, usize}
pub use denote.Follow.{follows}
pub use denote.FollowSlice.{Elements, lends_Elements}
pub use denote.Index.{whole_in, whole_out}
pub use denote.Laws.{Is}
pub use denote.Memory.{cell_at, mem, part_at, shared_of}
unfoldable pub use denote.Memory.{part_of}
pub use denote.Opens.{hide, unhide}
pub use denote.Param.{ArrayAt, bounded, layout, layouts, number, param}
pub use denote.Param.Laws.{Laws, param_laws}
pub use denote.Param.Shared.{Sharable, copy_shared}
pub use denote.Plain.{uint_Lawful, uint_Tells, uint_vals}
pub use denote.RattleType.{RattleType, Valss, owns}
pub use denote.RawPtr.{RawPtr, in_a_block, ptr_val}
pub use denote.RawPtr.Bytes.{bytes-room, bytes_glue}
pub use denote.RawPtr.Room.{past, past_bytes, room_cut, room_glue}
pub use denote.Ref.{Bor, MutBor, MutRef, ShrRef, mut_Tells, mut_vals, shr_Tells, shr_vals}
pub use denote.Shadow.{makes_shadow}
pub use denote.Sharing.{ShrLaws}
pub use denote.SharingLaws.{beside_shr_laws, nothing_shr_laws, said_shr_laws}
pub use denote.Signature.{mut_ref_to, plain, type_at, types_at}
pub use denote.Slice.{MutSlice, Room, elements_shr_laws, slice_val}
pub use denote.Steps.{closes, heard, nothing, opens, owned}
pub use denote.Struct.Field.{u8-field}
pub use denote.Struct.Laws.{field_copy, tells, u8-copy, vals}
pub use denote.Struct.Lending.{Lends, Lends-both, Lends-false, Lends-first, Lends-nothing, Lends-said, of_Lends}
pub use denote.Struct.Owning.{shape}
pub use denote.Struct.Struct.{Struct, Struct-Makes, within}
pub use denote.Struct.Tuple.{Tuple, tuple_type}
pub use denote.Triple.Call.{calls_at, calls_at_last}
pub use denote.Triple.Entry.{alive}
pub use denote.Triple.Walked.{Goes-dropped, Goes-ref, Goes-spent_ref, Stays, ends_at, says, stay_dropped, stay_ref, walk_of}
pub use lib.ListN.{drop as drop_l}
pub use lib.Seq.{take_at as take_front}
pub use mir.MapTy.{inst_fn}
pub use mir.Syntax.{Args, Body, Fn, a_number, a_type, dcons, dnil, named, ty_unit}
pub use mir.Val.{SFits, Val, WT, has_ty, of_z, to_z, vcons, vint, vnil, vptr, vstruct, vunit}
pub use prog.Capped.{capped_is}
pub use prog.Wp.{Env, Wp, WpFn, after_seq, at_return}
pub use seplogic.Ra.Ura.{Ura}
pub use types.ByLocal.{alloc_all, env, free_all, get, get_in, get_tag, give_at, lands_as, lands_last, look_at, pass_all, sets, sets_last, take_at, through}
pub use types.Kit.{ !, Post as After, any_q, assume, at_ret, await, by, done, feq_i, fjoin, fjoin3, flt_i, flt_l, fpack, frame, fsplit, fsplit3, given, group, join, keep, later, learn, move, pick, prop, qed, raw, regoal, rewrite, some, split, split3, suffices, use0, use1, use2, use3, ‵, ◌$◌, ◌∵◌, ◌⊛◌}
pub use types.Logic.{Logic, sem}
pub use types.Match.{in_variant, live, vrt}
pub use types.Part.{agg, sub, whole}
pub use types.Run.{and_then, assigns_last, bin, blocks, enter, exec, first, fld, init, lit, no_more, of_opd, returns, stop, switches_on, unit_lit}
pub use types.SemTy.{cells}
