use Rattle.std.proofs.Common.{◌∙◌, ℕ, List, inr, ap, Ok, arith}
use Rattle.npy_format.proofs.Words.{Token, value_of, ◌>>=◌, shape_of, tokens, symbol_token_at}
use Rattle.npy_format.proofs.PlaceLaws.{front_of}
use Rattle.npy_format.proofs.StandLaws.{no_tuple, tuple_stands, symbol_open, symbol_closed}
use Rattle.npy_format.proofs.HeaderLaws.{lengths_good, lengths_bad, length_held, length_dropped, shape_inside}
use Rattle.npy_format.proofs.header.lengths.Goals as goal
use Rattle.npy_format.proofs.header.lengths.Goals.{then-len-le-MAX_AXES+in_ok-push, else-len-le-MAX_AXES}

pub returns-in_default : goal.returns-in_default
returns-in_default c = λ v s. inr (ap (λ r. r >>= λ ns. Ok (shape_of ns)) (no_tuple c.in_default.ensures (front_of (tokens c.args.text.now) v s)).1)

pub loop-digits-preserved : goal.loop-digits-preserved
loop-digits-preserved c = λ values s.
    let axes = c.loop-digits.axes.items in
    let toks = tokens c.loop-digits.rest.now in
    let left = c.loop-digits.invariant values s in
    let found : ℕ × List Token = (value_of c.in-Some-integer.digits.now, tokens c.in-Some-integer.after.now) in
    rw c.skip_comma-rest.ensures (elim c.if-len-le-MAX_AXES.branch [
      | then-len-le-MAX_AXES+in_ok-push w ↦ rw (w.axes-is, w.in_ok-push.ensures.items, w.capped_value.ensures) (length_held values axes toks left found c.in-Some-integer.ensures (omega (arith, w.if-len-le-MAX_AXES.true)))
      | else-len-le-MAX_AXES w ↦ rw w.axes-is (length_dropped values axes toks left found c.in-Some-integer.ensures (omega (arith, w.if-len-le-MAX_AXES.false)))
    ])

pub returns-then-is_none : goal.returns-then-is_none
returns-then-is_none c = λ v s.
    let row = tuple_stands (tokens c.in-Some.inside.now) c.in-Some.ensures (front_of (tokens c.args.text.now) v s) in
    inr (shape_inside v row.0 row.1 ∙ lengths_bad row.0 c.loop-digits.axes.items (tokens c.loop-digits.rest.now) (c.loop-digits.invariant row.0 row.2) c.in_default-integer.ensures (symbol_open c.symbol-2.result (symbol_token_at 41 (tokens c.loop-digits.rest.now)) c.if-is_none.ensures c.symbol-2.ensures))

pub returns : goal.returns
returns c = λ v s.
    let row = tuple_stands (tokens c.in-Some.inside.now) c.in-Some.ensures (front_of (tokens c.args.text.now) v s) in
    let end = symbol_closed c.symbol-2.result (symbol_token_at 41 (tokens c.loop-digits.rest.now)) c.if-is_none.ensures c.symbol-2.ensures in
    shape_inside v row.0 row.1 ∙ lengths_good row.0 c.loop-digits.axes.items (tokens c.loop-digits.rest.now) (c.loop-digits.invariant row.0 row.2) end.0 end.1
