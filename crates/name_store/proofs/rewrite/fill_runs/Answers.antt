use Rattle.std.proofs.Common.{length, All, subst, ◌∙◌}
use Rattle.name_store.proofs.Words.{All-rest, All-head, EachWithin, filled, Run}
use Rattle.name_store.proofs.RunWrites.{filled-next}
use Rattle.name_store.proofs.rewrite.fill_runs.Goals as goal

pub loop-run-preserved : goal.loop-run-preserved
loop-run-preserved c =
    let len = length c.args.block.now in
    let item = c.args.item.now in
    let run = c.in-Some.run' in
    let within = λ (run : Run). EachWithin len run.offset run.step (length item) run.count in
    let here : within run = All-head within run c.next.new.self (subst (All within) c.in-Some.ensures.steps c.loop-run.invariant.inside) in
    let written = c.fill_strided.ensures.filled ∙ (λ i. filled (c.strided.ensures i).steps.at (c.strided.ensures i).steps.step item run.count c.loop-run.block) in
    record {
      rest = filled-next len _ _ run _ _ _ _ c.in-Some.ensures.steps here written c.loop-run.invariant.rest;
      len = c.fill_strided.ensures.len ∙ c.loop-run.invariant.len;
      inside = All-rest within _ _ _ c.in-Some.ensures.steps c.loop-run.invariant.inside;
    }
