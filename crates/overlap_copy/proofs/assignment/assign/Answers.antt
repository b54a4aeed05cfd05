use Rattle.std.proofs.Common.{◌++◌, sym, ap, subst, ◌∙◌, All, ◌+◌, ◌≤◌}
use Rattle.overlap_copy.proofs.Words.{max_bytes, offsets, multiples, with_items, assigned, LieApart, firsts, seconds, All-rest, IsNested, RunPair, RunsLie, run_offsets, length-run_offsets, next_pair}
use Rattle.overlap_copy.proofs.AssignLaws.{lie_apart}
use Rattle.overlap_copy.proofs.PairCopies.{lie-still, move-paired, pairs-lie, same-count}
use Rattle.overlap_copy.proofs.MovingLaws.{IsMoving, moving_begins, moving_on, nested-front, nested-back, fewer-targets, fewer-sources}
use Rattle.overlap_copy.proofs.assignment.assign.Goals as goal

pub loop-pair-init : goal.loop-pair-init
loop-pair-init c =
    let new = c.new-pair-items.ensures in
    let dst = c.args.dst.now in
    let src = c.args.src.now in
    let width = c.args.width in
    let paired = move-paired c.requires.can in
    let apart = lie_apart width (offsets dst) (offsets src) (c.may_overlap.ensures.sound c.if-not-may_overlap.true) in
    rw (c.into_iter-pair-iterator.ensures.into_iter_gives, new.pairs) (record {
      moving = rw (new.first, new.second) (moving_begins (offsets dst) (offsets src) width c.args.block.now paired.to_in paired.from_in);
      lie = pairs-lie _ new.first new.second new.counts (new.first_lie max_bytes 1 dst.within_limit) (new.second_lie max_bytes 1 src.within_limit) paired;
      nested = rw new.first c.requires.can.nested;
      apart = rw (new.first, new.second) apart;
    })

pub new-pair-items-requires : goal.new-pair-items-requires
new-pair-items-requires c = same-count c.args.dst.now c.args.src.now c.requires.can.count

pub move_apart-requires-clause-lie : goal.move_apart-requires-clause-lie
move_apart-requires-clause-lie c =
    let len = c.loop-pair.invariant.moving.len in
    lie-still _ _ len len (next_pair (λ p. RunsLie p.first p.second c.args.width c.args.block.now c.args.block.now) _ _ _ c.in-Some.ensures.steps c.loop-pair.invariant.lie)

pub move_apart-requires-clause-nested : goal.move_apart-requires-clause-nested
move_apart-requires-clause-nested c =
    nested-front (run_offsets c.in-Some.pair.first) (firsts c.next.new.self) c.args.width (subst (λ l. IsNested (firsts l) c.args.width) c.in-Some.ensures.steps c.loop-pair.invariant.nested)

pub move_apart-requires-clause-apart : goal.move_apart-requires-clause-apart
move_apart-requires-clause-apart c =
    let pair = c.in-Some.pair in
    let left = c.next.new.self in
    let apart = subst (λ l. LieApart c.args.width (firsts l) (seconds l)) c.in-Some.ensures.steps c.loop-pair.invariant.apart in
    let first = (fewer-targets c.args.width (run_offsets pair.first) (firsts left) (run_offsets pair.second ++ seconds left) apart).0 in
    (fewer-sources c.args.width (run_offsets pair.first) (run_offsets pair.second) (seconds left) first).0

pub loop-pair-preserved : goal.loop-pair-preserved
loop-pair-preserved c =
    let inv = c.loop-pair.invariant in
    let steps = c.in-Some.ensures.steps in
    let pair = c.in-Some.pair in
    let left = c.next.new.self in
    let width = c.args.width in
    let to = run_offsets pair.first in
    let from = run_offsets pair.second in
    let lies = λ (p : RunPair). RunsLie p.first p.second width c.args.block.now c.args.block.now in
    let even = length-run_offsets pair.first ∙ (next_pair lies _ _ _ steps inv.lie).count ∙ sym (length-run_offsets pair.second) in
    let both = fewer-targets width to (firsts left) (from ++ seconds left) (subst (λ l. LieApart width (firsts l) (seconds l)) steps inv.apart) in
    record {
      moving = moving_on to (firsts left) from (seconds left) width c.args.block.now c.loop-pair.block c.move_apart.new.block _ even (fewer-sources width to from (seconds left) both.0).1 c.move_apart.ensures
          (subst (λ l. IsMoving (firsts l) (seconds l) width c.args.block.now c.loop-pair.block (assigned (offsets c.args.dst.now) (offsets c.args.src.now) width c.args.block.now c.args.block.now)) steps inv.moving);
      lie = All-rest lies _ _ _ steps inv.lie;
      nested = nested-back to (firsts left) width (subst (λ l. IsNested (firsts l) width) steps inv.nested);
      apart = (fewer-sources width (firsts left) from (seconds left) both.1).1;
    }

pub gather-requires : goal.gather-requires
gather-requires c = subst (λ n. All (λ offset. offset + c.args.width ≤ n) (offsets c.args.src.now)) (sym c.assign_runs.ensures.len) (move-paired c.requires.can).from_in

pub scatter-requires-clause-inside : goal.scatter-requires-clause-inside
scatter-requires-clause-inside c =
    subst (λ n. All (λ offset. offset + c.args.width ≤ n) (offsets c.args.dst.now)) (sym c.assign_runs.ensures.len) (move-paired c.requires.can).to_in

pub returns-clause-written : goal.returns-clause-written
returns-clause-written c =
    let to = offsets c.args.dst.now in
    let from = offsets c.args.src.now in
    let width = c.args.width in
    let items = c.in_ok-items.items in
    let block = c.assign_runs.new.block in
    c.scatter.ensures.written
    ∙ ap (λ n. assigned to (multiples width n) width items block) (sym c.requires.can.count)
    ∙ ap (λ all. with_items to all block) c.in_ok-items.ensures.items
    ∙ ap (λ b. assigned to from width b b) (c.assign_runs.ensures.kept c.if-assign_runs.false)
