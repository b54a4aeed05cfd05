use Rattle.std.proofs.Common.{refl, true, ◌≡◌, arith}
use Rattle.bench_engine.proofs.Words.{common_steps, refusal_text, refusal}
use Rattle.bench_engine.proofs.engine.execute.Goals as goal

pub returns-in-Ok-clause-answers : goal.returns-in-Ok-clause-answers
returns-in-Ok-clause-answers g c = (record { text = c.perform.new.out; accepted = true }, refl, refl, c.in-Ok.ensures.answers)

pub returns-in-Err-clause-answers : goal.returns-in-Err-clause-answers
returns-in-Err-clause-answers g c =
    let told : c.set.new.self ≡ refusal_text c.in-Err.refusal = grind (arith, common_steps, c.word.ensures.text) in
    (refusal c.in-Err.refusal, told, refl, c.in-Err.ensures.answers)
