use Rattle.std.proofs.Common.{◌+◌, ◌≤◌, sym, ap, subst, ◌∙◌, All, length}
use Rattle.name_store.proofs.Words.{StridedItems, EachWithin, filled, max_bytes, runs, run-within, runs-within, put_each, filled-run}
use Rattle.name_store.proofs.rewrite.fill_each.Goals as goal
use Rattle.name_store.proofs.rewrite.fill_each.Goals.{In-Some}

run_lies : (c : In-Some) → EachWithin (length c.args.block.now) c.in-Some.run'.offset c.in-Some.run'.step (length c.args.item.now) c.in-Some.run'.count
run_lies c =
    run-within (length c.args.block.now) (length c.args.item.now) c.in-Some.run' (c.in-Some.ensures.lie max_bytes 1 c.args.layout.now.within_limit)
    (subst (All (λ offset. offset + length c.args.item.now ≤ length c.args.block.now)) (sym c.in-Some.ensures.items) c.requires)

pub fill_strided-requires : goal.fill_strided-requires
fill_strided-requires c =
    let run = c.in-Some.run' in
    subst (λ (x : StridedItems). EachWithin (length c.args.block.now) x.steps.at x.steps.step (length c.args.item.now) run.count) (sym c.strided.ensures) (run_lies (goal.at.fill_strided-requires c).In-Some)

pub returns-in-Some-clause-bytes : goal.returns-in-Some-clause-bytes
returns-in-Some-clause-bytes c =
    let run = c.in-Some.run' in
    let item = c.args.item.now in
    let block = c.args.block.now in
    c.fill_strided.ensures.filled
    ∙ (λ i. filled (c.strided.ensures i).steps.at (c.strided.ensures i).steps.step item run.count block)
    ∙ filled-run (length block) run.offset run.step item run.count block (run_lies (goal.at.returns-in-Some-clause-bytes c).In-Some)
    ∙ ap (λ os. put_each os item block) c.in-Some.ensures.items

pub fill_runs-requires : goal.fill_runs-requires
fill_runs-requires c =
    let len = length c.args.block.now in
    let width = length c.args.item.now in
    let layout = c.args.layout.now in
    let begin = c.new.ensures.lie max_bytes 1 layout.within_limit in
    let within = runs-within len width (λ run. run) (runs layout) begin (subst (All (λ offset. offset + width ≤ len)) (sym c.new.ensures.offsets) c.requires) in
    subst (All (λ run. EachWithin len run.offset run.step width run.count)) (sym c.new.ensures.runs) within
