use Rattle.std.proofs.Common.{sym}
use Rattle.npy_format.proofs.Words.{tokens, symbol_token_at, pair_in, value_in}
use Rattle.npy_format.proofs.GrammarLaws.{literal_leaves, pair_leaves}
use Rattle.npy_format.proofs.StandLaws.{symbol_open, symbol_closed}
use Rattle.npy_format.proofs.HeaderLaws.{answered, entry_shorter, key_ends, key_next, key_read, key_found, key_no_fault}
use Rattle.npy_format.proofs.header.value_under.Goals as goal

pub returns-then-is_string : goal.returns-then-is_string
returns-then-is_string c = λ pairs s.
    let open' = (symbol_open c.symbol.result (symbol_token_at 125 (tokens c.loop-rest.rest.now)) c.loop-rest-test.ensures c.symbol.ensures) in
    let it = sym c.if-is_string.ensures in
    answered _ c.skip_key.result _ _ _ c.skip_key.ensures
    (λ place reads. key_found c.args.key.now pairs (tokens c.loop-rest.rest.now) (c.loop-rest.invariant pairs s) open' it (tokens place.now) reads)
    (λ e fails. absurd (key_no_fault c.args.key.now pairs (tokens c.loop-rest.rest.now) (c.loop-rest.invariant pairs s) open' it e fails))

pub returns-in_err-rest : goal.returns-in_err-rest
returns-in_err-rest c = λ pairs s. absurd (key_read c.args.key.now pairs (tokens c.loop-rest.rest.now) (c.loop-rest.invariant pairs s) (symbol_open c.symbol.result (symbol_token_at 125 (tokens c.loop-rest.rest.now)) c.loop-rest-test.ensures c.symbol.ensures) _ c.in_err-rest.ensures)

pub loop-rest-smaller : goal.loop-rest-smaller
loop-rest-smaller c = entry_shorter (pair_in value_in) (tokens c.loop-rest.rest.now) (tokens c.in_ok-rest.rest.now) (pair_leaves value_in (literal_leaves 15)) c.in_ok-rest.ensures

pub loop-rest-preserved : goal.loop-rest-preserved
loop-rest-preserved c = λ pairs s. key_next c.args.key.now pairs (tokens c.loop-rest.rest.now) (c.loop-rest.invariant pairs s) (symbol_open c.symbol.result (symbol_token_at 125 (tokens c.loop-rest.rest.now)) c.loop-rest-test.ensures c.symbol.ensures) (sym c.if-is_string.ensures) (tokens c.in_ok-rest.rest.now) c.in_ok-rest.ensures

pub returns : goal.returns
returns c = λ pairs s.
    let end = symbol_closed c.symbol.result (symbol_token_at 125 (tokens c.loop-rest.rest.now)) c.loop-rest-test.ensures c.symbol.ensures in
    key_ends c.args.key.now pairs (tokens c.loop-rest.rest.now) (c.loop-rest.invariant pairs s) end.0 end.1
