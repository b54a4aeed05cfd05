use Rattle.std.proofs.Common.{◌+◌, ◌*◌, ◌≤◌, length, map, subst, ap, ◌∙◌, arith}
use Rattle.fancy_index.proofs.Words.{CanScatter, length-map, length-run_offsets, moved_offset, run_offsets}
use Rattle.fancy_index.proofs.Passes.{RunsLeft, next_run, later_runs, split-runs, scatter_front, scattered_run}
use Rattle.fancy_index.proofs.gather_scatter.scatter_moved.Goals as goal
use Rattle.fancy_index.proofs.gather_scatter.scatter_moved.Goals.{After-moved_run-to}

pub moved_run-to-requires-clause-moved : goal.moved_run-to-requires-clause-moved
moved_run-to-requires-clause-moved c =
    let base = c.args.target.layout.now.offset in
    (next_run base c.args.target.start c.in-Some-run.run' c.next.new.self (subst (RunsLeft base c.args.target.start) c.in-Some-run.ensures.steps c.loop-run.invariant.left)).moved

can : (c : After-moved_run-to) → CanScatter (map (moved_offset c.args.target.layout.now.offset c.args.target.start) (run_offsets c.in-Some-run.run')) c.loop-run.at c.args.source.width c.args.source.items.now c.loop-run.block
can c = scatter_front _ _ _ _ _ _ _ _ _ (split-runs c.args.target.layout.now.offset c.args.target.start c.in-Some-run.run' _ _ c.in-Some-run.ensures.steps) c.loop-run.invariant.pass

room : (c : After-moved_run-to) → c.loop-run.at + c.moved_run-to.result.count * c.args.source.width ≤ length c.args.source.items.now
room c = omega (arith, (can c).room, ap (λ n. n * c.args.source.width) c.moved_run-to.ensures.count)

pub packed_run-from-requires-in-loop-run-clause-some : goal.packed_run-from-requires-in-loop-run-clause-some
packed_run-from-requires-in-loop-run-clause-some c =
    let base = c.args.target.layout.now.offset in
    let run = c.in-Some-run.run' in
    let next = next_run base c.args.target.start run c.next.new.self (subst (RunsLeft base c.args.target.start) c.in-Some-run.ensures.steps c.loop-run.invariant.left) in
    omega (arith, next.some, c.moved_run-to.ensures.count, length-map (run_offsets run) (moved_offset base c.args.target.start), length-run_offsets run)

pub packed_run-from-requires-in-loop-run-clause-within : goal.packed_run-from-requires-in-loop-run-clause-within
packed_run-from-requires-in-loop-run-clause-within c = omega (arith, room (goal.at.packed_run-from-requires-in-loop-run-clause-within c).After-moved_run-to, c.len-len.ensures.len)

pub copy_run-requires-in-loop-run-clause-to : goal.copy_run-requires-in-loop-run-clause-to
copy_run-requires-in-loop-run-clause-to c =
    c.moved_run-to.ensures.within (length c.loop-run.block) c.args.source.width (can (goal.at.copy_run-requires-in-loop-run-clause-to c).After-moved_run-to).inside

pub overflow_mul-at : goal.overflow_mul-at
overflow_mul-at c = record { fits = omega (arith, room (goal.at.overflow_mul-at c).After-moved_run-to, c.len-len.ensures.len, c.len-len.ensures.small) }

pub overflow_add-at : goal.overflow_add-at
overflow_add-at c = record { fits = omega (arith, room (goal.at.overflow_add-at c).After-moved_run-to, c.len-len.ensures.len, c.len-len.ensures.small) }

pub loop-run-preserved : goal.loop-run-preserved
loop-run-preserved c =
    let base = c.args.target.layout.now.offset in
    let steps = c.in-Some-run.ensures.steps in
    let split = split-runs base c.args.target.start c.in-Some-run.run' _ _ steps in
    record {
      left = later_runs base c.args.target.start c.in-Some-run.run' c.next.new.self (subst (RunsLeft base c.args.target.start) steps c.loop-run.invariant.left);
      pass = scattered_run _ _ _ c.loop-run.at c.args.source.width _ c.moved_run-to.result c.packed_run-from-in-loop-run.result _ _ _ _ split c.moved_run-to.ensures c.packed_run-from-in-loop-run.ensures.run c.copy_run-in-loop-run.ensures.written c.copy_run-in-loop-run.ensures.len c.loop-run.invariant.pass;
      len = c.copy_run-in-loop-run.ensures.len ∙ c.loop-run.invariant.len;
    }
