use Rattle.std.proofs.Common.{sym, subst, arith}
use Rattle.overlap_copy.proofs.Words.{IsAssigned, place_in}
use Rattle.overlap_copy.proofs.RunCopyLaws.{both-end, packed_moved}
use Rattle.overlap_copy.proofs.MovingLaws.{assigned_from_moves, apart_passed}
use Rattle.overlap_copy.proofs.pair_copies.move_apart.Goals as goal

pub move_within-requires-clause-dst : goal.move_within-requires-clause-dst
move_within-requires-clause-dst c = (both-end c.requires.lie (omega arith) (c.is_packed.ensures.0 c.if-is_packed.true) (c.is_packed-then-is_packed.ensures.0 c.if-is_packed-2.true)).0

pub move_within-requires-clause-src : goal.move_within-requires-clause-src
move_within-requires-clause-src c = (both-end c.requires.lie (omega arith) (c.is_packed.ensures.0 c.if-is_packed.true) (c.is_packed-then-is_packed.ensures.0 c.if-is_packed-2.true)).1

pub returns-then-is_packed-2 : goal.returns-then-is_packed-2
returns-then-is_packed-2 c =
    assigned_from_moves c.requires.lie c.requires.nested
    (packed_moved c.requires.lie (omega arith) (c.is_packed.ensures.0 c.if-is_packed.true) (c.is_packed-then-is_packed.ensures.0 c.if-is_packed-2.true) c.move_within.ensures.moved)

pub returns : goal.returns
returns c =
    let old = c.args.block.now in
    assigned_from_moves c.requires.lie c.requires.nested
    (subst (IsAssigned c.args.to.count (place_in c.args.to) (place_in c.args.from) c.args.width old old) (sym c.copy_one_by_one.ensures.copied) (apart_passed c.requires.lie c.requires.nested c.requires.apart))
