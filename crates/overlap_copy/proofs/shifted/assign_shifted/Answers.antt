use Rattle.std.proofs.Common.{◌≤◌, [], ◌∷◌, length, nat_lt, refl, sym, subst}
use Rattle.overlap_copy.proofs.Words.{All-rest, Assigns, CanMoveRun, max_bytes, LieWithin, run_offsets, sources}
use Rattle.overlap_copy.proofs.ComeLaws.{offset-within, assigned-order, come-in_order, nested-in_order}
use Rattle.overlap_copy.proofs.MovingLaws.{IsMoving, moving_begins}
use Rattle.overlap_copy.proofs.ShiftLaws.{sources-end, later-come, next-start, next-low, next-can, run-moved}
use Rattle.overlap_copy.proofs.shifted.assign_shifted.Goals as goal

pub loop-run-init : goal.loop-run-init
loop-run-init c =
    let dst = c.args.dst.now in
    let src = c.args.src.now in
    let order = c.new-order.result in
    let len = length c.args.block.now in
    let width = c.args.width in
    let come = come-in_order dst src c.requires.shape c.requires.strides order len width (nat_lt src.offset dst.offset) refl (c.new-order.ensures.order width c.requires.item c.requires.stacked) c.runs-run-items.ensures.few c.new-order.ensures.only c.requires.dst c.requires.src in
    let in_order = nested-in_order order width (nat_lt src.offset dst.offset) (c.new-order.ensures.order width c.requires.item c.requires.stacked) in
    let same = assigned-order dst src c.requires.shape c.requires.strides order width c.args.block.now c.new-order.ensures.all c.new-order.ensures.only c.requires.dst c.requires.src (c.new-order.ensures.nested width c.requires.item c.requires.stacked) in_order in
    rw (c.into_iter-run-iterator.ensures.into_iter_gives, c.runs-run-items.ensures.offsets) (record {
      moving = subst (IsMoving order (sources dst.offset src.offset order) width c.args.block.now c.args.block.now) same (moving_begins order (sources dst.offset src.offset order) width c.args.block.now come.targets (sources-end len width dst.offset src.offset order come));
      come = come;
      some = c.runs-run-items.ensures.some;
      begin = c.runs-run-items.ensures.begin;
    })

pub source_of-other-requires-clause-from : goal.source_of-other-requires-clause-from
source_of-other-requires-clause-from c = offset-within c.args.src.now

pub source_of-other-requires-clause-run : goal.source_of-other-requires-clause-run
source_of-other-requires-clause-run c = next-start (length c.args.block.now) c.args.width c.args.dst.now.offset c.args.src.now.offset c.loop-run.run-iterator c.next.new.self c.in-Some.run' c.in-Some.ensures.steps c.loop-run.invariant.some c.loop-run.invariant.begin c.loop-run.invariant.come

pub source_of-other-requires-clause-low : goal.source_of-other-requires-clause-low
source_of-other-requires-clause-low c = next-low (length c.args.block.now) c.args.width c.args.dst.now.offset c.args.src.now.offset c.loop-run.run-iterator c.next.new.self c.in-Some.run' c.in-Some.ensures.steps c.loop-run.invariant.some c.loop-run.invariant.begin c.loop-run.invariant.come

pub move_run-requires : goal.move_run-requires
move_run-requires c =
    subst (λ r. CanMoveRun c.in-Some.run' r c.args.width c.loop-run.block) (sym c.source_of-other.ensures) (next-can (length c.args.block.now) c.args.width c.args.dst.now.offset c.args.src.now.offset c.loop-run.run-iterator c.next.new.self c.in-Some.run' c.in-Some.ensures.steps c.loop-run.invariant.some c.loop-run.invariant.begin c.loop-run.invariant.come c.loop-run.block c.loop-run.invariant.moving.len)

pub loop-run-preserved : goal.loop-run-preserved
loop-run-preserved c =
    let steps = c.in-Some.ensures.steps in
    record {
      moving = run-moved (length c.args.block.now) c.args.width c.args.dst.now.offset c.args.src.now.offset c.loop-run.run-iterator c.next.new.self c.in-Some.run' c.in-Some.ensures.steps c.loop-run.invariant.some c.loop-run.invariant.begin c.loop-run.invariant.come c.args.block.now c.loop-run.block c.move_run.new.block _
          (subst (λ r. Assigns (run_offsets c.in-Some.run') (run_offsets r) c.args.width c.loop-run.block c.loop-run.block c.move_run.new.block) c.source_of-other.ensures c.move_run.ensures) c.loop-run.invariant.moving;
      come = later-come (length c.args.block.now) c.args.width c.args.dst.now.offset c.args.src.now.offset c.loop-run.run-iterator c.next.new.self c.in-Some.run' c.in-Some.ensures.steps c.loop-run.invariant.some c.loop-run.invariant.begin c.loop-run.invariant.come;
      some = All-rest (λ r. 1 ≤ r.count) _ _ _ steps c.loop-run.invariant.some;
      begin = All-rest (λ r. LieWithin (r.count ∷ []) (r.step ∷ []) r.offset max_bytes 1) _ _ _ steps c.loop-run.invariant.begin;
    }
