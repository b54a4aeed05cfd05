use Rattle.std.proofs.Common.{refl, sym, ◌∙◌}
use Rattle.overlap_copy.proofs.Words.{max_bytes, All-rest, RunPair, RunsLie, next_pair, traded_at, firsts, seconds}
use Rattle.overlap_copy.proofs.PairCopies.{lie-still, pairs-lie, runs-lie, same-count}
use Rattle.overlap_copy.proofs.TradeLaws.{traded-pair}
use Rattle.overlap_copy.proofs.exchanges.exchange_pairs.Goals as goal

pub trade_run-requires : goal.trade_run-requires
trade_run-requires c = let found = c.in-Some.ensures in runs-lie c.in-Some.pair.first c.in-Some.pair.second found.first found.second found.first_lies found.second_lies c.requires

pub new-pair-items-requires : goal.new-pair-items-requires
new-pair-items-requires c = same-count c.args.dst.now c.args.src.now c.requires.count

pub loop-pair-init : goal.loop-pair-init
loop-pair-init c =
    let new = c.new-pair-items.ensures in
    rw (c.into_iter-pair-iterator.ensures.into_iter_gives, new.pairs) (record {
      rest = λ i. traded_at (new.first i) (new.second i) c.args.width (c.args.block.now, c.args.other.now);
      len = refl;
      other_len = refl;
      lie = pairs-lie _ new.first new.second new.counts (new.first_lie max_bytes 1 c.args.dst.now.within_limit) (new.second_lie max_bytes 1 c.args.src.now.within_limit) c.requires;
    })

pub trade_run-requires-in-loop-pair : goal.trade_run-requires-in-loop-pair
trade_run-requires-in-loop-pair c =
    let inv = c.loop-pair.invariant in
    lie-still _ _ inv.other_len inv.len (next_pair (λ p. RunsLie p.first p.second c.args.width c.args.other.now c.args.block.now) _ _ _ c.in-Some-pair.ensures.steps inv.lie)

pub loop-pair-preserved : goal.loop-pair-preserved
loop-pair-preserved c =
    let inv = c.loop-pair.invariant in
    let steps = c.in-Some-pair.ensures.steps in
    let lies = λ (p : RunPair). RunsLie p.first p.second c.args.width c.args.other.now c.args.block.now in
    let trade = c.trade_run-in-loop-pair.ensures in
    record {
      rest = traded-pair _ _ _ _ _ _ _ steps (next_pair lies _ _ _ steps inv.lie).count trade.traded inv.rest;
      len = trade.len ∙ inv.len;
      other_len = trade.other_len ∙ inv.other_len;
      lie = All-rest lies _ _ _ steps inv.lie;
    }

pub returns : goal.returns
returns c =
    let inv = c.loop-pair.invariant in
    let left = c.in-None.ensures.steps.0 in
    record {
      traded = (λ i. traded_at (firsts (sym left i)) (seconds (sym left i)) c.args.width (c.loop-pair.block, c.loop-pair.other)) ∙ inv.rest;
      len = inv.len;
      other_len = inv.other_len;
    }
