use Rattle.std.proofs.Common.{◌*◌, length, map, subst, ap, arith}
use Rattle.fancy_index.proofs.Words.{CanAppend, flat_map, run_offsets, moved_offset}
use Rattle.fancy_index.proofs.Passes.{RunsLeft, next_run, later_runs, split-runs, push_front, pushed_run, pushed_all}
use Rattle.fancy_index.proofs.gather_scatter.push_moved.Goals as goal
use Rattle.fancy_index.proofs.gather_scatter.push_moved.Goals.{After-moved_run-from}

pub moved_run-from-requires-clause-moved : goal.moved_run-from-requires-clause-moved
moved_run-from-requires-clause-moved c =
    let base = c.args.places.layout.now.offset in
    (next_run base c.args.places.start c.in-Some-run.run' c.next.new.self (subst (RunsLeft base c.args.places.start) c.in-Some-run.ensures.steps c.loop-run.invariant.left)).moved

can : (c : After-moved_run-from) → CanAppend (map (moved_offset c.args.places.layout.now.offset c.args.places.start) (run_offsets c.in-Some-run.run')) c.args.source.width c.args.source.block.now c.loop-run.items
can c = push_front _ _ _ _ _ _ _ _ (split-runs c.args.places.layout.now.offset c.args.places.start c.in-Some-run.run' _ _ c.in-Some-run.ensures.steps) c.loop-run.invariant.pass

pub push_run-requires-in-loop-run-clause-room : goal.push_run-requires-in-loop-run-clause-room
push_run-requires-in-loop-run-clause-room c =
    omega (arith, (can (goal.at.push_run-requires-in-loop-run-clause-room c).After-moved_run-from).room, ap (λ n. n * c.args.source.width) c.moved_run-from.ensures.count)

pub push_run-requires-in-loop-run-clause-from : goal.push_run-requires-in-loop-run-clause-from
push_run-requires-in-loop-run-clause-from c =
    c.moved_run-from.ensures.within (length c.args.source.block.now) c.args.source.width (can (goal.at.push_run-requires-in-loop-run-clause-from c).After-moved_run-from).inside

pub loop-run-preserved : goal.loop-run-preserved
loop-run-preserved c =
    let base = c.args.places.layout.now.offset in
    let steps = c.in-Some-run.ensures.steps in
    let split = split-runs base c.args.places.start c.in-Some-run.run' _ _ steps in
    record {
      left = later_runs base c.args.places.start c.in-Some-run.run' c.next.new.self (subst (RunsLeft base c.args.places.start) steps c.loop-run.invariant.left);
      pass = pushed_run _ _ _ _ _ _ _ _ _ _ split c.moved_run-from.ensures c.push_run-in-loop-run.ensures.bytes c.push_run-in-loop-run.ensures.left c.loop-run.invariant.pass;
    }

pub returns : goal.returns
returns c =
    pushed_all _ _ _ _ _ _ (ap (λ l. map (moved_offset c.args.places.layout.now.offset c.args.places.start) (flat_map run_offsets l)) c.in-None.ensures.steps.0) c.loop-run.invariant.pass
