use Rattle.std.proofs.Common.{sym, ◌<◌, ◌++◌, ◌∷◌, [], ap, ◌∙◌, append_assoc, length, length-append, arith, ℕ, List}
use Rattle.bench_engine.proofs.Words.{err_from_is_err_and, on_err_weaker, appends_then}
use Rattle.bench_engine.proofs.reply_text.ReplyText.send_line.Goals as goal

longer : (xs ys : List ℕ) → 0 < length xs → 0 < length (xs ++ ys)
longer xs ys h = omega (arith, length-append xs ys)

pub returns-in_err-send-clause-err : goal.returns-in_err-send-clause-err
returns-in_err-send-clause-err g c =
    let p = err_from_is_err_and c.from_residual.result c.from_residual.ensures.1 in
    let part = c.in_err-send.ensures.err in
    let text = sym c.self.view_is ∙ sym c.as_slice-2.ensures.value in
    rw p.1 (part.0, part.1 ++ 10 ∷ [], ap (λ t. t ++ 10 ∷ []) (text ∙ part.2) ∙ append_assoc part.0 part.1 (10 ∷ []), longer part.1 _ part.3, part.4)

pub returns-clause-err : goal.returns-clause-err
returns-clause-err g c =
    let text = c.as_slice-2.ensures.value ∙ c.self.view_is in
    on_err_weaker c.send-3.result
    (λ part. (
      c.as_slice-2.result.now ++ part.0,
      part.1,
      ap (λ t. t ++ 10 ∷ []) (sym text) ∙ ap (λ t. c.as_slice-2.result.now ++ t) part.2 ∙ sym (append_assoc c.as_slice-2.result.now part.0 part.1),
      part.3,
      appends_then _ _ _ _ _ c.in_ok-send.ensures.ok part.4,
    ))
    c.send-3.ensures.err
