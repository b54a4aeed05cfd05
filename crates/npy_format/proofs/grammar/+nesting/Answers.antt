-- What a turn leaves is what `entries_in` leaves there.
use Rattle.std.proofs.Common.{⊎_elim, ◌≡◌, ◌∷◌, ◌∙◌, ap, refl, zero, arith}
use Rattle.npy_format.proofs.Words.{Scanned, ne_eqb, err_from_is_err_and, ◌>>=◌, tokens, tuple_in, literal_in, behind, token_of}
use Rattle.npy_format.specs.declared.token.Token.TheVariants as scanned
use Rattle.npy_format.proofs.GrammarLaws.{symbol_shorter}
use Rattle.npy_format.proofs.SkipLaws.{behind_ok, behind_err, all_step, one_shorter, tuple_next, list_skipped, dictionary_skipped, pair_skipped, skip_symbol}
use Rattle.npy_format.proofs.grammar.+nesting.Goals as goal

pub skip_bracketed-returns-in-91 : goal.skip_bracketed-returns-in-91
skip_bracketed-returns-in-91 t c = rw (c.in-91.is, list_skipped (literal_in c.args.depth) (tokens c.args.text.now)) c.skip_entries.ensures

pub skip_bracketed-returns-in-123 : goal.skip_bracketed-returns-in-123
skip_bracketed-returns-in-123 t c = rw (c.in-123.is, dictionary_skipped (literal_in c.args.depth) (tokens c.args.text.now)) c.skip_entries-in-123.ensures

pub skip_literal-returns-in_default : goal.skip_literal-returns-in_default
unfolding literal_in
skip_literal-returns-in_default t c = rw c.in_default.ensures refl

pub skip_literal-returns-in-Symbol : goal.skip_literal-returns-in-Symbol
skip_literal-returns-in-Symbol t c =
    let is = c.in-Some.ensures ∙ ap (λ s. token_of s ∷ tokens c.in-Some.rest.now) c.in-Symbol.is in
    rw (skip_symbol c.args.depth c.in-Symbol.opening (tokens c.args.text.now) (tokens c.in-Some.rest.now) c.if-depth-gt0.true is) c.skip_bracketed.ensures

pub skip_literal-returns-in-Symbol-2 : goal.skip_literal-returns-in-Symbol-2
unfolding literal_in
skip_literal-returns-in-Symbol-2 t c =
    let none : c.args.depth ≡ zero = omega (arith, c.if-depth-gt0.false) in
    rw (none, c.in-Some.ensures ∙ ap (λ s. token_of s ∷ tokens c.in-Some.rest.now) c.in-Symbol-2.is) refl

pub skip_literal-returns-in-Stray : goal.skip_literal-returns-in-Stray
unfolding literal_in
skip_literal-returns-in-Stray t c = rw (c.in-Some.ensures ∙ ap (λ s. token_of s ∷ tokens c.in-Some.rest.now) c.in-Stray.is) refl

pub skip_literal-returns-in-Text : goal.skip_literal-returns-in-Text
unfolding literal_in
skip_literal-returns-in-Text t c =
    let along = λ (s : Scanned) (e : c.in-Some.first ≡ s). c.in-Some.ensures ∙ ap (λ (s : Scanned). token_of s ∷ tokens c.in-Some.rest.now) e in
    ⊎_elim (λ w. rw (along (scanned.Text w.0) w.1) refl)
    (⊎_elim (λ w. rw (along (scanned.Integer w.0) w.1) refl)
    (⊎_elim (λ w. rw (along (scanned.Truth w.0) w.1) refl) (λ w. rw (along scanned.Nothing w) refl))) c.in-Text.is

pub skip_entry-returns-in_err-value : goal.skip_entry-returns-in_err-value
skip_entry-returns-in_err-value t c =
    let p = err_from_is_err_and c.from_residual.result c.from_residual.ensures.1 in
    rw (p.1, p.2, c.if-closing-eq125.true) (pair_skipped _ _ ∙ ap (λ r. r >>= λ rest. behind (literal_in c.args.depth rest)) c.in_err-value.ensures)

pub skip_entry-returns-then-closing-eq125 : goal.skip_entry-returns-then-closing-eq125
skip_entry-returns-then-closing-eq125 t c = rw (c.if-closing-eq125.true, pair_skipped (literal_in c.args.depth) (tokens c.args.text.now), c.in_ok-value.ensures) c.skip_literal.ensures

pub skip_entry-returns : goal.skip_entry-returns
skip_entry-returns t c = rw (ne_eqb c.args.closing 125 c.if-closing-eq125.false) c.skip_literal-2.ensures

pub skip_tuple-returns-in-Some : goal.skip_tuple-returns-in-Some
unfolding tuple_in
skip_tuple-returns-in-Some t c = rw (← c.in-Some.ensures) refl

pub skip_tuple-returns-in_err-after : goal.skip_tuple-returns-in_err-after
unfolding tuple_in
skip_tuple-returns-in_err-after t c =
    let p = err_from_is_err_and c.from_residual.result c.from_residual.ensures.1 in
    rw (p.1, p.2) (rw (← c.in_default.ensures, behind_err (literal_in c.args.depth (tokens c.args.text.now)) _ c.in_err-after.ensures) refl)

pub skip_tuple-returns-in_default-symbol : goal.skip_tuple-returns-in_default-symbol
unfolding tuple_in
skip_tuple-returns-in_default-symbol t c =
    let first = behind_ok (literal_in c.args.depth (tokens c.args.text.now)) _ c.in_ok-after.ensures in
    rw (← c.in_default.ensures, first.1, ← c.in_default-symbol.ensures) refl

pub skip_tuple-returns : goal.skip_tuple-returns
skip_tuple-returns t c = rw (tuple_next (literal_in c.args.depth) _ _ _ c.in_default.ensures c.in_ok-after.ensures c.in-Some-symbol.ensures) c.skip_entries.ensures

pub skip_entries-returns-in-Some : goal.skip_entries-returns-in-Some
skip_entries-returns-in-Some t c = c.loop-end.invariant ∙ all_step _ _ _ _ ∙ rw (← c.in-Some.ensures) refl

pub skip_entries-returns-in_err-after : goal.skip_entries-returns-in_err-after
skip_entries-returns-in_err-after t c =
    let p = err_from_is_err_and c.from_residual.result c.from_residual.ensures.1 in
    rw (p.1, p.2) (c.loop-end.invariant ∙ all_step _ _ _ _ ∙ rw (← c.in_default.ensures, c.in_err-after.ensures) refl)

pub skip_entries-returns-in-Some-symbol : goal.skip_entries-returns-in-Some-symbol
skip_entries-returns-in-Some-symbol t c = c.loop-end.invariant ∙ all_step _ _ _ _ ∙ rw (← c.in_default.ensures, c.in_ok-after.ensures, ← c.in-Some-symbol.ensures) refl

pub skip_entries-returns-in_default-symbol-2 : goal.skip_entries-returns-in_default-symbol-2
skip_entries-returns-in_default-symbol-2 t c = c.loop-end.invariant ∙ all_step _ _ _ _ ∙ rw (← c.in_default.ensures, c.in_ok-after.ensures, ← c.in_default-symbol.ensures, ← c.in_default-symbol-2.ensures) refl

pub skip_entries-loop-end-smaller : goal.skip_entries-loop-end-smaller
skip_entries-loop-end-smaller t c = omega (arith, one_shorter _ _ _ _ c.in_ok-after.ensures, symbol_shorter 44 (tokens c.in_ok-after.after.now) (tokens c.in-Some-symbol-2.next.now) c.in-Some-symbol-2.ensures)

pub skip_entries-loop-end-preserved : goal.skip_entries-loop-end-preserved
skip_entries-loop-end-preserved t c = c.loop-end.invariant ∙ all_step _ _ _ _ ∙ rw (← c.in_default.ensures, c.in_ok-after.ensures, ← c.in_default-symbol.ensures, ← c.in-Some-symbol-2.ensures) refl
