use Rattle.std.proofs.Common.{◌+◌, ◌*◌, ◌≤◌, length, arith, sym, subst, ◌∙◌}
use Rattle.overlap_copy.proofs.Words.{IsAssigned, place_in}
use Rattle.overlap_copy.proofs.TurnLaws.{back-alike, moved_forwards, moved_backwards}
use Rattle.overlap_copy.proofs.RunCopyLaws.{both-end, packed_moved}
use Rattle.overlap_copy.proofs.pair_copies.move_forth.Goals as goal
use Rattle.overlap_copy.proofs.pair_copies.move_forth.Goals.{Then-is_packed}

-- ---- adjacent items

ends : (c : Then-is_packed) → (c.args.to.offset + c.args.to.count * c.args.width ≤ length c.args.block.now) × (c.args.from.offset + c.args.to.count * c.args.width ≤ length c.args.block.now)
ends c =
    let is = c.is_packed.ensures.0 c.if-is_packed.true in
    both-end c.requires.alike.lie (omega (arith, c.requires.alike.two)) is (c.requires.alike.step ∙ is)

pub overflow_mul-to : goal.overflow_mul-to
overflow_mul-to c = record { fits = omega (arith, (ends (goal.at.overflow_mul-to c).Then-is_packed).0, c.len-len.ensures.len, c.len-len.ensures.small) }

pub move_within-requires-clause-dst : goal.move_within-requires-clause-dst
move_within-requires-clause-dst c = (ends (goal.at.move_within-requires-clause-dst c).Then-is_packed).0

pub move_within-requires-clause-src : goal.move_within-requires-clause-src
move_within-requires-clause-src c = (ends (goal.at.move_within-requires-clause-src c).Then-is_packed).1

pub returns-then-is_packed-clause-moved : goal.returns-then-is_packed-clause-moved
returns-then-is_packed-clause-moved c =
    let is = c.is_packed.ensures.0 c.if-is_packed.true in
    packed_moved c.requires.alike.lie (omega (arith, c.requires.alike.two)) is (c.requires.alike.step ∙ is) c.move_within.ensures.moved

-- ---- from the first to the last

pub returns-then-to-from-clause-moved : goal.returns-then-to-from-clause-moved
returns-then-to-from-clause-moved c =
    let to = c.args.to in
    let from = c.args.from in
    let old = c.args.block.now in
    subst (IsAssigned to.count (place_in to) (place_in from) c.args.width old old) (sym c.copy_one_by_one.ensures.copied) (moved_forwards c.args.width old to from c.requires.alike c.requires.rising c.if-to-from.true)

-- ---- from the last to the first

pub copy_one_by_one-requires-2 : goal.copy_one_by_one-requires-2
copy_one_by_one-requires-2 c = (back-alike c.args.width c.args.block.now c.args.to c.args.from c.turned.result c.turned-2.result c.requires.alike c.turned.ensures c.turned-2.ensures).lie

pub returns-clause-moved : goal.returns-clause-moved
returns-clause-moved c =
    let to = c.turned.result in
    let from = c.turned-2.result in
    let old = c.args.block.now in
    subst (IsAssigned c.args.to.count (place_in c.args.to) (place_in c.args.from) c.args.width old old) (sym c.copy_one_by_one-2.ensures.copied)
    (moved_backwards c.args.width old c.args.to c.args.from c.requires.alike c.requires.rising to from c.turned.ensures c.turned-2.ensures (omega (arith, c.if-to-from.false)))
