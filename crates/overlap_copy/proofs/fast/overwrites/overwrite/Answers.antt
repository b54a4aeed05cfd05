use Rattle.std.proofs.Common.{◌≡◌, ◌*◌, [], List, ℕ, length, sym, ap, subst, ◌∙◌, append-nil, arith}
use Rattle.overlap_copy.proofs.Words.{CanOverwrite, Overwrites, All-rest, max_bytes, BeginsWithin, IsNested, run_offsets, next_pair, offsets, multiples, length-offsets, items_at, length-joined_at, joined-items, firsts, seconds}
use Rattle.overlap_copy.proofs.MovingLaws.{nested-front}
use Rattle.overlap_copy.proofs.OverwriteLaws.{IsLeft, overwritten, next-left}
use Rattle.overlap_copy.proofs.PairCopies.{same-count}
use Rattle.overlap_copy.proofs.fast.overwrites.overwrite.Goals as goal
use Rattle.overlap_copy.proofs.fast.overwrites.overwrite.Goals.{After-finish, In-Some}

pub new-pair-items-requires : goal.new-pair-items-requires
new-pair-items-requires c = same-count c.args.dst.now c.args.src.now c.requires.paired.count

pub loop-pair-init : goal.loop-pair-init
loop-pair-init c =
    let new = c.new-pair-items.ensures in
    let many = length-offsets c.args.dst.now ∙ sym c.items.ensures.value in
    let room = ap (λ n. n * c.args.width) (ap length new.first ∙ many) in
    rw (c.into_iter-pair-iterator.ensures.into_iter_gives, new.pairs) (record {
      left = record {
        nested = rw new.first c.requires.nested;
        paired = rw (new.first, new.second) c.requires.paired;
        rest = λ i. overwritten (new.first i) (new.second i) c.args.width c.args.other.now c.args.block.now (c.in_ok-kept.ensures i).0;
        fills = omega (arith, room, ap (λ p. p.1) c.in_ok-kept.ensures, c.saturating_mul-bytes.ensures, c.filled-filled.ensures.small);
      };
      counts = new.counts;
      begin = new.first_lie max_bytes 1 c.args.dst.now.within_limit;
      other_begin = new.second_lie max_bytes 1 c.args.src.now.within_limit;
    })

next : (c : In-Some) → CanOverwrite c.in-Some.pair c.args.width c.args.other.now c.loop-pair.block c.loop-pair.kept
    × ((next : List ℕ × (List ℕ × ℕ)) → Overwrites c.in-Some.pair c.args.width c.args.other.now (c.loop-pair.block, c.loop-pair.kept) next
    → IsLeft (firsts c.next.new.self) (seconds c.next.new.self) c.args.width c.args.other.now next (overwritten (offsets c.args.dst.now) (offsets c.args.src.now) c.args.width c.args.other.now c.args.block.now []) 0)
next c =
    let inv = c.loop-pair.invariant in
    let steps = c.in-Some.ensures.steps in
    next-left c.in-Some.pair _ _ _ _ c.args.width c.args.other.now (c.loop-pair.block, c.loop-pair.kept) _ _ (ap firsts (sym steps)) (ap seconds (sym steps)) (next_pair (λ p. p.first.count ≡ p.second.count) _ _ _ steps inv.counts)
    (next_pair (λ p. BeginsWithin p.first) _ _ _ steps inv.begin) (next_pair (λ p. BeginsWithin p.second) _ _ _ steps inv.other_begin) inv.left

pub overwrite_run-requires : goal.overwrite_run-requires
overwrite_run-requires c = record {
  can = (next (goal.at.overwrite_run-requires c).In-Some).0;
  nested = nested-front (run_offsets c.in-Some.pair.first) (firsts c.next.new.self) c.args.width (subst (λ l. IsNested (firsts l) c.args.width) c.in-Some.ensures.steps c.loop-pair.invariant.left.nested);
}

pub loop-pair-preserved : goal.loop-pair-preserved
loop-pair-preserved c =
    let inv = c.loop-pair.invariant in
    let steps = c.in-Some.ensures.steps in
    record {
      left = (next (goal.at.loop-pair-preserved c).In-Some).1 _ c.overwrite_run.ensures;
      counts = All-rest (λ p. p.first.count ≡ p.second.count) _ _ _ steps inv.counts;
      begin = All-rest (λ p. BeginsWithin p.first) _ _ _ steps inv.begin;
      other_begin = All-rest (λ p. BeginsWithin p.second) _ _ _ steps inv.other_begin;
    }

-- what is written, and what is kept
all_done : (c : After-finish) → ◌≡◌ {A = List ℕ × List ℕ} (c.loop-pair.block, c.finish.result) (overwritten (offsets c.args.dst.now) (offsets c.args.src.now) c.args.width c.args.other.now c.args.block.now [])
all_done c =
    let none = c.in-None.ensures.steps.0 in
    (λ i. (c.loop-pair.block, (c.finish.ensures ∙ sym (append-nil c.loop-pair.kept.0)) i))
    ∙ (λ i. overwritten (firsts (sym none i)) (seconds (sym none i)) c.args.width c.args.other.now c.loop-pair.block c.loop-pair.kept.0)
    ∙ c.loop-pair.invariant.left.rest

pub finish-requires : goal.finish-requires
finish-requires c = omega (arith, ap (λ l. length (firsts l) * c.args.width) c.in-None.ensures.steps.0, c.loop-pair.invariant.left.fills)

pub returns-clause-written : goal.returns-clause-written
returns-clause-written c = ap (λ p. p.0) (all_done (goal.at.returns-clause-written c).After-finish)

pub returns-clause-old : goal.returns-clause-old
returns-clause-old c =
    let os = offsets c.args.dst.now in
    let width = c.args.width in
    let done = all_done (goal.at.returns-clause-old c).After-finish in
    record {
      long = ap (λ p. length p.1) done ∙ length-joined_at width os c.args.block.now c.requires.paired.to_in;
      items = ap (λ p. items_at (multiples width (length os)) width p.1) done ∙ joined-items width os c.args.block.now c.requires.paired.to_in;
    }
