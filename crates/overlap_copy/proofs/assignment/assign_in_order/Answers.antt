use Rattle.std.proofs.Common.{refl, ◌∙◌}
use Rattle.overlap_copy.proofs.Words.{max_bytes, All-rest, RunPair, RunsLie, next_pair, assigned}
use Rattle.overlap_copy.proofs.PairCopies.{copied-pair, lie-still, pairs-lie, runs-lie, same-count}
use Rattle.overlap_copy.proofs.assignment.assign_in_order.Goals as goal

pub copy_run-requires : goal.copy_run-requires
copy_run-requires c =
    let found = c.in-Some.ensures in
    let lie = runs-lie c.in-Some.pair.first c.in-Some.pair.second found.first found.second found.first_lies found.second_lies c.requires in
    record { count = lie.count; to = lie.to_in; from = lie.from_in }

pub new-pair-items-requires : goal.new-pair-items-requires
new-pair-items-requires c = same-count c.args.dst.now c.args.src.now c.requires.count

pub loop-pair-init : goal.loop-pair-init
loop-pair-init c =
    let new = c.new-pair-items.ensures in
    rw (c.into_iter-pair-iterator.ensures.into_iter_gives, new.pairs) (record {
      rest = λ i. assigned (new.first i) (new.second i) c.args.width c.args.other.now c.args.block.now;
      len = refl;
      lie = pairs-lie _ new.first new.second new.counts (new.first_lie max_bytes 1 c.args.dst.now.within_limit) (new.second_lie max_bytes 1 c.args.src.now.within_limit) c.requires;
    })

pub copy_run-requires-in-loop-pair : goal.copy_run-requires-in-loop-pair
copy_run-requires-in-loop-pair c =
    let lie = lie-still c.args.other.now _ refl c.loop-pair.invariant.len (next_pair (λ p. RunsLie p.first p.second c.args.width c.args.other.now c.args.block.now) _ _ _ c.in-Some-pair.ensures.steps c.loop-pair.invariant.lie) in
    record { count = lie.count; to = lie.to_in; from = lie.from_in }

pub loop-pair-preserved : goal.loop-pair-preserved
loop-pair-preserved c =
    let steps = c.in-Some-pair.ensures.steps in
    let lies = λ (p : RunPair). RunsLie p.first p.second c.args.width c.args.other.now c.args.block.now in
    record {
      rest = copied-pair _ _ _ _ _ _ _ _ steps (next_pair lies _ _ _ steps c.loop-pair.invariant.lie).count c.copy_run-in-loop-pair.ensures.written c.loop-pair.invariant.rest;
      len = c.copy_run-in-loop-pair.ensures.len ∙ c.loop-pair.invariant.len;
      lie = All-rest lies _ _ _ steps c.loop-pair.invariant.lie;
    }
