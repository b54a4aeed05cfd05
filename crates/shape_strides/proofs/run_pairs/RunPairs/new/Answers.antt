use Rattle.std.proofs.Common.{length, subst, sym, ap, ◌∙◌}
use Rattle.shape_strides.proofs.Words.{runs, all_offsets, pairs, pairs_left, run_pairs, AreEven, IsAtPair}
use Rattle.shape_strides.proofs.PairLaws.{run_pairs-first, run_pairs-second, run_pairs-counts, run_pairs-alone, even-runs, left-is, left-even}
use Rattle.shape_strides.proofs.RunBounds.{run_pairs-first_lie, run_pairs-second_lie}
use Rattle.shape_strides.proofs.run_pairs.RunPairs.new.Goals as goal

pub returns-clause-first : goal.returns-clause-first
returns-clause-first c = run_pairs-first c.args.first.now c.args.second.now c.requires c.as_slice-lengths.ensures.items

pub returns-clause-second : goal.returns-clause-second
returns-clause-second c = run_pairs-second c.args.first.now c.args.second.now c.requires c.as_slice-lengths.ensures.items

pub returns-clause-counts : goal.returns-clause-counts
returns-clause-counts c = run_pairs-counts c.args.first.now c.args.second.now

pub returns-clause-alone : goal.returns-clause-alone
returns-clause-alone c = λ step other. run_pairs-alone c.args.first.now c.args.second.now step other c.requires c.as_slice-lengths.ensures.items

pub invariant_of-result : goal.invariant_of-result
invariant_of-result c =
    let l = c.args.first.now in
    let m = c.args.second.now in
    let even = even-runs l m c.requires c.as_slice-lengths.ensures.items in
    let even' = subst (λ xs. AreEven (length (all_offsets (runs l))) xs (runs m)) (sym c.new-first.ensures.runs) even in
    let even'' = subst (λ ys. AreEven (length (all_offsets (runs l))) c.new-first.result ys) (sym c.new-second.ensures.runs) even' in
    subst (λ at. IsAtPair at c.next.new.self c.next-2.new.self) (sym c.both.ensures) (left-even (length (all_offsets (runs l))) c.next.result c.next-2.result c.new-first.result c.next.new.self c.new-second.result c.next-2.new.self c.next.ensures.steps c.next-2.ensures.steps even'')

pub returns-clause-pairs : goal.returns-clause-pairs
unfolding run_pairs
returns-clause-pairs c =
    ap (λ at. pairs_left at c.next.new.self c.next-2.new.self) c.both.ensures ∙ left-is c.next.result c.next-2.result c.new-first.result c.next.new.self c.new-second.result c.next-2.new.self c.next.ensures.steps c.next-2.ensures.steps ∙ ap (λ xs. pairs xs c.new-second.result) c.new-first.ensures.runs ∙ ap (pairs (runs c.args.first.now)) c.new-second.ensures.runs

pub returns-clause-first_lie : goal.returns-clause-first_lie
returns-clause-first_lie c = run_pairs-first_lie c.args.first.now c.args.second.now

pub returns-clause-second_lie : goal.returns-clause-second_lie
returns-clause-second_lie c = run_pairs-second_lie c.args.first.now c.args.second.now
