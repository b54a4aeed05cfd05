use Rattle.std.proofs.Common.{rules, ◌≡◌, map, All, sym, ap, subst, ◌∙◌, arith}
use Rattle.fancy_index.proofs.Words.{flat_map, All-rest, item_size, max_bytes, offsets, length-map, length-offsets, run_offsets, bool_at, true_count, LiesIn}
use Rattle.fancy_index.proofs.BoolLaws.{mask-bool, numbers-are, few-true, run_counted}
use Rattle.fancy_index.proofs.WordLaws.{runs-lie}
use Rattle.fancy_index.proofs.masks.count_in.Goals as goal
use Rattle.fancy_index.proofs.masks.count_in.Goals.{After-count_run-many}

-- the bools of this run are counted
here : (c : After-count_run-many) → c.count_run-many.result ≡ true_count (map (bool_at c.args.mask.block.now) (run_offsets c.in-Some.run'))
here c = c.count_run-many.ensures ∙ λ i. true_count (map (bool_at (c.bytes-bytes.ensures i)) (run_offsets c.in-Some.run'))

pub loop-run-init : goal.loop-run-init
loop-run-init c =
    let mask = c.args.mask in
    let ens = c.new-run-items.ensures in
    let are = c.into_iter-run-iterator.ensures.into_iter_gives ∙ ens.runs in
    let all : flat_map run_offsets c.into_iter-run-iterator.result ≡ offsets mask.layout.now = ap (flat_map run_offsets) are ∙ ens.offsets in
    record {
      lies = subst (All (LiesIn mask.block.now (item_size mask.descr.now))) (sym are) (runs-lie mask _ (omega (arith, c.items-items.ensures.value, c.items-items.ensures.limit)) ens.offsets ens.some (ens.lie max_bytes 1 (search rules)));
      counted = omega (arith, ap (λ os. true_count (map (bool_at mask.block.now) os)) all);
    }

pub overflow_add-many : goal.overflow_add-many
overflow_add-many c =
    let mask = c.args.mask in
    let all = map (bool_at mask.block.now) (offsets mask.layout.now) in
    record { fits = omega (arith, here c, run_counted (bool_at mask.block.now) c.in-Some.run' _ _ c.in-Some.ensures.steps, c.loop-run.invariant.counted, few-true all, length-map (offsets mask.layout.now) (bool_at mask.block.now), length-offsets mask.layout.now, c.items-items.ensures.value, c.items-items.ensures.limit) }

pub loop-run-preserved : goal.loop-run-preserved
loop-run-preserved c =
    let mask = c.args.mask in
    let steps = c.in-Some.ensures.steps in
    record {
      lies = All-rest (LiesIn mask.block.now (item_size mask.descr.now)) _ _ _ steps c.loop-run.invariant.lies;
      counted = omega (arith, here c, run_counted (bool_at mask.block.now) c.in-Some.run' _ _ steps, c.loop-run.invariant.counted);
    }

pub returns : goal.returns
returns c =
    let mask = c.args.mask in
    omega (arith, ap (λ l. true_count (map (bool_at mask.block.now) (flat_map run_offsets l))) c.in-None.ensures.steps.0, c.loop-run.invariant.counted)
    ∙ ap true_count (sym (numbers-are mask.descr.now mask.block.now (offsets mask.layout.now) (mask-bool mask.descr.now mask.layout.now.shape c.requires.kind)))
