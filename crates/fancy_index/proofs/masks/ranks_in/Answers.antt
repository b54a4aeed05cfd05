use Rattle.std.proofs.Common.{rules, ◌≡◌, ◌+◌, ◌≤◌, ◌++◌, length, map, All, sym, ap, subst, ◌∙◌, arith, append-nil, length-append}
use Rattle.fancy_index.proofs.Words.{flat_map, All-rest, item_size, max_bytes, max_items, offsets, length-offsets, run_offsets, length-run_offsets, bool_at, true_ranks, LiesIn}
use Rattle.fancy_index.proofs.BoolLaws.{mask-bool, numbers-are, found_added, run_noted}
use Rattle.fancy_index.proofs.WordLaws.{runs-lie}
use Rattle.fancy_index.proofs.masks.ranks_in.Goals as goal
use Rattle.fancy_index.proofs.masks.ranks_in.Goals.{In-Some}

module _ (c : In-Some) where
  long : c.loop-run.rank + c.in-Some.run'.count + length (flat_map run_offsets c.next.new.self) ≤ max_items
  long = omega (arith, c.loop-run.invariant.few, ap (λ l. length (flat_map run_offsets l)) c.in-Some.ensures.steps, length-append (run_offsets c.in-Some.run') (flat_map run_offsets c.next.new.self), length-run_offsets c.in-Some.run')

pub loop-run-init : goal.loop-run-init
loop-run-init c =
    let mask = c.args.mask in
    let ens = c.new-run-items.ensures in
    let are = c.into_iter-run-iterator.ensures.into_iter_gives ∙ ens.runs in
    let all : flat_map run_offsets c.into_iter-run-iterator.result ≡ offsets mask.layout.now = ap (flat_map run_offsets) are ∙ ens.offsets in
    record {
      lies = subst (All (LiesIn mask.block.now (item_size mask.descr.now))) (sym are) (runs-lie mask _ (omega (arith, c.items-items.ensures.value, c.items-items.ensures.limit)) ens.offsets ens.some (ens.lie max_bytes 1 (search rules)));
      few = omega (arith, ap length all, length-offsets mask.layout.now, c.items-items.ensures.value, c.items-items.ensures.limit);
      left = λ i. c.in_ok-ranks.ensures.items i ++ true_ranks 0 (map (bool_at mask.block.now) (all i));
    }

pub push_true-requires : goal.push_true-requires
push_true-requires c =
    let mask = c.args.mask in
    let here = (subst (All (LiesIn mask.block.now (item_size mask.descr.now))) c.in-Some.ensures.steps c.loop-run.invariant.lies) 0 c.in-Some.run' (omega arith) in
    let size = ap item_size (mask-bool mask.descr.now mask.layout.now.shape c.requires.kind) in
    record {
      few = omega (arith, long (goal.at.push_true-requires c).In-Some);
      limit = here.limit;
      inside = λ k d below. omega (arith, here.ends k d below, size, ap length c.bytes-bytes.ensures);
    }

pub overflow_add-rank : goal.overflow_add-rank
overflow_add-rank c = record { fits = omega (arith, long (goal.at.overflow_add-rank c).In-Some) }

pub loop-run-preserved : goal.loop-run-preserved
loop-run-preserved c =
    let run = c.in-Some.run' in
    let steps = c.in-Some.ensures.steps in
    let later = true_ranks (c.loop-run.rank + run.count) (map (bool_at c.args.mask.block.now) (flat_map run_offsets c.next.new.self)) in
    record {
      lies = All-rest (LiesIn c.args.mask.block.now (item_size c.args.mask.descr.now)) _ _ _ steps c.loop-run.invariant.lies;
      few = long (goal.at.loop-run-preserved c).In-Some;
      left = found_added c.loop-run.ranks.items _ _ _ _ _ c.in_ok-push_true.ensures
          ((λ i. true_ranks c.loop-run.rank (map (bool_at (c.bytes-bytes.ensures i)) (run_offsets run)) ++ later) ∙ run_noted (bool_at c.args.mask.block.now) run _ _ c.loop-run.rank steps)
          c.loop-run.invariant.left;
    }

pub returns : goal.returns
returns c =
    let mask = c.args.mask in
    let ranks = c.loop-run.ranks.items in
    sym (append-nil ranks)
    ∙ ap (λ l. ranks ++ true_ranks c.loop-run.rank (map (bool_at mask.block.now) (flat_map run_offsets l))) (sym c.in-None.ensures.steps.0)
    ∙ c.loop-run.invariant.left
    ∙ ap (true_ranks 0) (sym (numbers-are mask.descr.now mask.block.now (offsets mask.layout.now) (mask-bool mask.descr.now mask.layout.now.shape c.requires.kind)))
