use Rattle.std.proofs.Common.{◌≡◌, ℕ, ◌<◌, ◌≤◌, ◌≤ℤ◌, pos, ◌+ℤ◌, ◌*ℤ◌, get_or, slice_set, ap, ◌∙◌, arith, rules, to_z, of_z, w32}
use Rattle.fancy_index.proofs.Words.{ints, get_or_default, map_over_more, max_bytes, run_offsets}
use Rattle.fancy_index.proofs.RankLaws.{holds_yet, all_changed}
use Rattle.fancy_index.proofs.RunLaws.{first-low, steps-low, steps-high, lies-there}
use Rattle.fancy_index.proofs.fast.single_run.run_to_offsets.Goals as goal
use Rattle.fancy_index.proofs.fast.single_run.run_to_offsets.Goals.{In-loop-rank}

module _ (c : In-loop-rank) where
  abbrev rank : ℕ
  rank = get_or c.loop-rank.ranks c.loop-rank.rank-index 0

  there : rank < c.args.run.count
  there = holds_yet (λ k. k < c.args.run.count) (λ k. get_or (run_offsets c.args.run) k 0) c.args.ranks.now c.loop-rank.ranks c.loop-rank.rank-index c.requires.ranks c.loop-rank-test.true c.loop-rank.invariant

  low : pos 0 ≤ℤ (pos c.args.run.offset +ℤ c.args.run.step *ℤ pos rank)
  low = steps-low c.args.run c.requires.lies rank there

  high : (pos c.args.run.offset +ℤ c.args.run.step *ℤ pos rank) ≤ℤ pos max_bytes
  high = steps-high c.args.run c.requires.lies rank there

  first : c.args.run.offset ≤ max_bytes
  first = first-low c.args.run c.requires.lies rank there

  -- both factors fit 32 bits
  product : to_z w32 (of_z w32 c.small_step-step.result) *ℤ to_z w32 rank ≡ c.args.run.step *ℤ pos rank
  product =
      let step : to_z w32 (of_z w32 c.small_step-step.result) ≡ c.small_step-step.result = omega (arith, ints, c.small_step-step.type_inv) in
      let same : to_z w32 rank ≡ pos rank = omega (arith, ints, there, c.requires.few) in
      ap (λ z. z *ℤ to_z w32 rank) step ∙ ap (λ z. c.small_step-step.result *ℤ z) same ∙ c.small_step-step.ensures rank there

pub overflow_cast-rank : goal.overflow_cast-rank
overflow_cast-rank c =
    let now = (goal.at.overflow_cast-rank c).In-loop-rank in
    search (rules, arith, ints, there now, c.requires.few)

pub overflow_cast-rank-in-loop-rank : goal.overflow_cast-rank-in-loop-rank
overflow_cast-rank-in-loop-rank c =
    let now = (goal.at.overflow_cast-rank-in-loop-rank c).In-loop-rank in
    search (rules, arith, ints, first now)

pub overflow_mul-rank : goal.overflow_mul-rank
overflow_mul-rank c =
    let now = (goal.at.overflow_mul-rank c).In-loop-rank in
    rw (product now) (search (rules, arith, ints, low now, high now, first now))

pub overflow_add-rank : goal.overflow_add-rank
overflow_add-rank c =
    let now = (goal.at.overflow_add-rank c).In-loop-rank in
    rw (product now) (search (rules, arith, ints, low now, high now, first now))

pub overflow_cast-rank-in-loop-rank-2 : goal.overflow_cast-rank-in-loop-rank-2
overflow_cast-rank-in-loop-rank-2 c =
    let now = (goal.at.overflow_cast-rank-in-loop-rank-2 c).In-loop-rank in
    rw (product now) (search (rules, arith, ints, low now, high now, first now))

pub loop-rank-preserved : goal.loop-rank-preserved
loop-rank-preserved c =
    let ranks = c.loop-rank.ranks in
    let now = (goal.at.loop-rank-preserved c).In-loop-rank in
    let at = c.loop-rank.rank-index in
    rw (product now) (ap (λ (x : ℕ). slice_set ranks at x) (lies-there now.args.run c.requires.lies _ (there now) _ (omega (arith, ints, low now, high now, first now)))
    ∙ map_over_more (λ k. get_or (run_offsets c.args.run) k 0) c.args.ranks.now ranks at (rank now) c.loop-rank-test.true c.loop-rank.invariant
    (get_or_default ranks at 0 (rank now) (omega (arith, c.loop-rank-test.true, c.loop-rank.auto.ranks))))

pub returns : goal.returns
returns c = all_changed (λ k. get_or (run_offsets c.args.run) k 0) c.args.ranks.now c.loop-rank.ranks c.loop-rank.rank-index c.loop-rank-test.false c.loop-rank.invariant
