use Rattle.std.proofs.Common.{rules, w64, ◌+◌, ◌≤◌, sym, subst, ◌∙◌, arith}
use Rattle.fancy_index.proofs.Words.{to_z-of_z, SFits, get_or-map, length-map, length-run_offsets, moved_offset, run_offsets}
use Rattle.fancy_index.proofs.RunLaws.{first_moved, each-moved, offsets-moved}
use Rattle.fancy_index.proofs.plan_rows.moved_run.Goals as goal

pub moved-requires-clause-moved : goal.moved-requires-clause-moved
moved-requires-clause-moved c = first_moved c.args.run c.args.base c.args.start c.requires.lies c.requires.moved c.requires.some

pub returns : goal.returns
returns c =
    let run = c.args.run in
    let move = moved_offset c.args.base c.args.start in
    let fits : SFits w64 run.step = search rules in
    record {
      same =
          (λ i. run_offsets (record { offset = c.moved.ensures.value i; count = run.count; step = to_z-of_z w64 run.step fits i }))
          ∙ offsets-moved run c.args.base c.args.start c.requires.lies c.requires.moved c.requires.some;
      count = sym (length-map (run_offsets run) move ∙ length-run_offsets run);
      within = λ len width ends. rw (c.moved.ensures.value, to_z-of_z w64 run.step fits) (each-moved run c.args.base c.args.start c.requires.lies c.requires.moved c.requires.some len width
          (λ k d below. subst (λ at. at + width ≤ len) (get_or-map move (run_offsets run) k d (move d) below) (ends k (move d) (omega (arith, length-map (run_offsets run) move)))));
    }
