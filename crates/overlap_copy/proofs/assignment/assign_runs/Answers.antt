use Rattle.std.proofs.Common.{rules, ◌≡◌, w64, reverse, sym, ap, subst, ◌∙◌, arith}
use Rattle.overlap_copy.proofs.Words.{SFits, both_ways, of_z, to_z, to_z-of_z, max_bytes, IsNested, RunsLie, run_offsets, assigned}
use Rattle.overlap_copy.proofs.LineLaws.{turned_line}
use Rattle.overlap_copy.proofs.PairCopies.{move-paired, runs-lie}
use Rattle.overlap_copy.proofs.assignment.assign_runs.Goals as goal
use Rattle.overlap_copy.proofs.assignment.assign_runs.Goals.{In-Some-as_run}

both-lie : (c : In-Some-as_run) → RunsLie c.in-Some.to c.in-Some-as_run.from c.args.width c.args.block.now c.args.block.now
both-lie c =
    let to = c.in-Some.ensures in
    let from = c.in-Some-as_run.ensures in
    runs-lie c.in-Some.to c.in-Some-as_run.from to.items from.items (to.lie max_bytes 1 c.args.dst.now.within_limit) (from.lie max_bytes 1 c.args.src.now.within_limit) (move-paired c.requires)

pub returns-in_default-clause-runs : goal.returns-in_default-clause-runs
returns-in_default-clause-runs c = λ are. absurd (c.in_default.ensures.found are.step are.to_run.0 are.to_run.1)

pub returns-in_default-clause-turned : goal.returns-in_default-clause-turned
returns-in_default-clause-turned c = λ are. absurd (c.in_default.ensures.found are.step are.to_run.0 are.to_run.1)

pub returns-in_default-as_run-clause-runs : goal.returns-in_default-as_run-clause-runs
returns-in_default-as_run-clause-runs c = λ are. absurd (c.in_default-as_run.ensures.found are.step are.from_run.0 are.from_run.1)

pub returns-in_default-as_run-clause-turned : goal.returns-in_default-as_run-clause-turned
returns-in_default-as_run-clause-turned c = λ are. absurd (c.in_default-as_run.ensures.found are.other are.from_run.0 are.from_run.1)

pub move_run-requires : goal.move_run-requires
move_run-requires c =
    let to = c.in-Some.ensures in
    let fits : SFits w64 c.in-Some.to.step = search rules in
    let fits' : SFits w64 c.in-Some-as_run.from.step = search rules in
    record {
      lie = both-lie (goal.at.move_run-requires c).In-Some-as_run;
      some = omega (arith, to.two);
      few = to.few;
      step = sym (to_z-of_z w64 c.in-Some-as_run.from.step fits') ∙ ap (to_z w64) (sym c.if-to-from.true) ∙ to_z-of_z w64 c.in-Some.to.step fits;
      to_limit = to.lie max_bytes 1 c.args.dst.now.within_limit;
      from_limit = c.in-Some-as_run.ensures.lie max_bytes 1 c.args.src.now.within_limit;
      nested = subst (λ os. IsNested os c.args.width) (sym to.items) c.requires.nested;
    }

pub returns-then-not-is_same_line-clause-runs : goal.returns-then-not-is_same_line-clause-runs
returns-then-not-is_same_line-clause-runs c = λ are.
    absurd (c.if-to-from.false (ap (of_z w64) (c.in-Some.ensures.found are.step are.to_run.0 are.to_run.1 ∙ sym (c.in-Some-as_run.ensures.found are.step are.from_run.0 are.from_run.1))))

pub returns-then-not-is_same_line-clause-turned : goal.returns-then-not-is_same_line-clause-turned
returns-then-not-is_same_line-clause-turned c = λ are.
    let to = c.in-Some.ensures in
    let from = c.in-Some-as_run.ensures in
    let line = turned_line c.in-Some.to c.in-Some-as_run.from c.turned-back.result to.two (sym (both-lie (goal.at.returns-then-not-is_same_line-clause-turned c).In-Some-as_run).count) (to.lie max_bytes 1 c.args.dst.now.within_limit)
    (from.lie max_bytes 1 c.args.src.now.within_limit) (from.items ∙ are.reversed ∙ ap reverse (sym to.items)) c.turned-back.ensures in
    absurd (both_ways c.is_same_line.result c.if-not-is_same_line.true (c.is_same_line.ensures.1 line))

pub turn_run-requires : goal.turn_run-requires
turn_run-requires c =
    let lie = both-lie (goal.at.turn_run-requires c).In-Some-as_run in
    record { run = lie.to_in; back = c.turned-back.ensures; nested = subst (λ os. IsNested os c.args.width) (sym c.in-Some.ensures.items) c.requires.nested }

pub returns-clause-written : goal.returns-clause-written
returns-clause-written c = λ _.
    let line = c.is_same_line.ensures.0 c.if-not-is_same_line.false in
    let many = sym (both-lie (goal.at.returns-clause-written c).In-Some-as_run).count ∙ sym c.turned-back.ensures.count in
    let back : run_offsets c.turned-back.result ≡ run_offsets c.in-Some-as_run.from = λ i. run_offsets (record { offset = sym line.0 i; count = sym many i; step = sym line.1 i }) in
    c.turn_run.ensures.written ∙ (λ i. assigned (c.in-Some.ensures.items i) ((back ∙ c.in-Some-as_run.ensures.items) i) c.args.width c.args.block.now c.args.block.now)
