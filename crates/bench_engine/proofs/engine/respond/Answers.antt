use Rattle.std.proofs.Common.{refl, [], ◌∷◌, arith, rules, ◌≡◌}
use Rattle.bench_engine.proofs.Words.{common_steps, refusal, refusal_text}
use Rattle.bench_engine.proofs.Steps.{answered, silent_line, refused_line}
use Rattle.bench_engine.proofs.engine.respond.Goals as goal

pub returns-in-Ok-None : goal.returns-in-Ok-None
returns-in-Ok-None g c meaning reads = ([], (refl, search rules), silent_line _ meaning (rw (c.in-Ok-None.is, c.in-Ok-None.field-0-is) at reads))

pub returns-in-Ok-Some : goal.returns-in-Ok-Some
returns-in-Ok-Some g c meaning reads =
    let done = c.execute-accepted.ensures.answers in
    (done.0 ∷ [], (done.0, refl, done.2, done.1), answered _ _ meaning _ _ (rw (c.in-Ok-Some.is, c.in-Ok-Some.field-0-is) at reads) done.3)

pub returns-in-Err : goal.returns-in-Err
returns-in-Err g c meaning reads =
    let text : c.set-in-Err.new.self ≡ refusal_text c.in-Err.refusal = grind (arith, common_steps, c.word.ensures.text) in
    (refusal c.in-Err.refusal ∷ [], (refusal c.in-Err.refusal, refl, refl, text), refused_line _ meaning _ (rw c.in-Err.is at reads))
