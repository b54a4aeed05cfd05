use Rattle.std.proofs.Common.{length, subst, ap, ◌∙◌}
use Rattle.fancy_index.proofs.Words.{put_each}
use Rattle.fancy_index.proofs.Passes.{RunsLeft, next_run, later_runs, split-runs, fill_front, filled_front}
use Rattle.fancy_index.proofs.gather_scatter.fill_moved.Goals as goal

pub moved_run-to-requires-clause-moved : goal.moved_run-to-requires-clause-moved
moved_run-to-requires-clause-moved c =
    let base = c.args.target.layout.now.offset in
    (next_run base c.args.target.start c.in-Some-run.run' c.next.new.self (subst (RunsLeft base c.args.target.start) c.in-Some-run.ensures.steps c.loop-run.invariant.left)).moved

pub fill_run-requires-in-loop-run : goal.fill_run-requires-in-loop-run
fill_run-requires-in-loop-run c =
    let split = split-runs c.args.target.layout.now.offset c.args.target.start c.in-Some-run.run' _ _ c.in-Some-run.ensures.steps in
    c.moved_run-to.ensures.within (length c.loop-run.block) (length c.args.item.now) (fill_front _ _ _ c.args.item.now c.loop-run.block _ split c.loop-run.invariant.pass)

pub loop-run-preserved : goal.loop-run-preserved
loop-run-preserved c =
    let base = c.args.target.layout.now.offset in
    let steps = c.in-Some-run.ensures.steps in
    let split = split-runs base c.args.target.start c.in-Some-run.run' _ _ steps in
    record {
      left = later_runs base c.args.target.start c.in-Some-run.run' c.next.new.self (subst (RunsLeft base c.args.target.start) steps c.loop-run.invariant.left);
      pass = filled_front _ _ _ c.args.item.now c.loop-run.block _ _ split (c.fill_run-in-loop-run.ensures.written ∙ ap (λ l. put_each l c.args.item.now c.loop-run.block) c.moved_run-to.ensures.same) c.fill_run-in-loop-run.ensures.len c.loop-run.invariant.pass;
      len = c.fill_run-in-loop-run.ensures.len ∙ c.loop-run.invariant.len;
    }
