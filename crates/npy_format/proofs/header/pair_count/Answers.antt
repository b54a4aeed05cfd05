use Rattle.std.proofs.Common.{ap, Ok, arith}
use Rattle.npy_format.proofs.Words.{tokens, symbol_token_at, pair_in, value_in}
use Rattle.npy_format.proofs.TokenLaws.{few_tokens}
use Rattle.npy_format.proofs.GrammarLaws.{literal_leaves, pair_leaves}
use Rattle.npy_format.proofs.StandLaws.{symbol_open, symbol_closed}
use Rattle.npy_format.proofs.HeaderLaws.{entry_shorter, count_ends, count_next, count_read}
use Rattle.npy_format.proofs.header.pair_count.Goals as goal

pub loop-rest-init : goal.loop-rest-init
loop-rest-init c = record {
  counted = λ pairs s. record { left = pairs; stand = s; counted = omega arith };
  few = omega (arith, few_tokens c.args.pairs.now);
}

pub returns-in_err-rest : goal.returns-in_err-rest
returns-in_err-rest c = λ pairs s. absurd (count_read pairs c.loop-rest.count (tokens c.loop-rest.rest.now) (c.loop-rest.invariant.counted pairs s) (symbol_open c.symbol.result (symbol_token_at 125 (tokens c.loop-rest.rest.now)) c.loop-rest-test.ensures c.symbol.ensures) _ c.in_err-rest.ensures)

pub loop-rest-smaller : goal.loop-rest-smaller
loop-rest-smaller c = entry_shorter (pair_in value_in) (tokens c.loop-rest.rest.now) (tokens c.in_ok-rest.rest.now) (pair_leaves value_in (literal_leaves 15)) c.in_ok-rest.ensures

pub loop-rest-preserved : goal.loop-rest-preserved
loop-rest-preserved c = record {
  counted = λ pairs s. count_next pairs c.loop-rest.count (tokens c.loop-rest.rest.now) (c.loop-rest.invariant.counted pairs s) (symbol_open c.symbol.result (symbol_token_at 125 (tokens c.loop-rest.rest.now)) c.loop-rest-test.ensures c.symbol.ensures) (tokens c.in_ok-rest.rest.now) c.in_ok-rest.ensures;
  few = omega (arith, c.loop-rest.invariant.few, entry_shorter (pair_in value_in) (tokens c.loop-rest.rest.now) (tokens c.in_ok-rest.rest.now) (pair_leaves value_in (literal_leaves 15)) c.in_ok-rest.ensures);
}

pub returns : goal.returns
returns c = λ pairs s.
    let end = symbol_closed c.symbol.result (symbol_token_at 125 (tokens c.loop-rest.rest.now)) c.loop-rest-test.ensures c.symbol.ensures in
    ap (λ n. Ok n) (count_ends pairs c.loop-rest.count (tokens c.loop-rest.rest.now) (c.loop-rest.invariant.counted pairs s) end.0 end.1)
