use Rattle.std.proofs.Common.{◌≡◌, List, ℕ, Bool, [], Option, Some, None, Ok, subst, sym, refl, rules}
use Rattle.bench_engine.proofs.Words.{err_from_is_err_and, appends_nothing, Ask, Print, Reply, Tells, World, Meaning, AnswersMeaning, ReadsAs, meaning_of_read, SendsAnswer}
use Rattle.bench_engine.proofs.Steps.{answered}
use Rattle.bench_engine.proofs.printing.send_answer.Goals as goal

-- nothing is sent of a reply that was made
made : (from to : World) (meaning : Meaning) (w : Option (List ℕ)) (told : Option Bool) (text : List ℕ) (replies : List Reply) → Tells replies told text → AnswersMeaning from meaning to replies → SendsAnswer from to meaning w w text (Ok told)
made from to meaning w None text replies tells may = (subst (λ (r : List Reply). AnswersMeaning from meaning to r) tells.0 may, refl)
made from to meaning w (Some accepted) text replies tells may =
    (tells.0, subst (λ (r : List Reply). AnswersMeaning from meaning to r) tells.1 may, tells.2, ([], sym tells.3, appends_nothing w))

pub returns-in_err-accepted-in-Ok-Some-Ask-Print : goal.returns-in_err-accepted-in-Ok-Some-Ask-Print
returns-in_err-accepted-in-Ok-Some-Ask-Print g c =
    let p = err_from_is_err_and c.from_residual.result c.from_residual.ensures.1 in
    let reads : ReadsAs (Ok (Some (Ask (Print c.in-Ok-Some-Ask-Print.name)))) (meaning_of_read c.args.line) = search rules in
    let r = c.in_err-accepted-in-Ok-Some-Ask-Print.ensures.err in
    rw p.1 (r.0, answered _ _ (meaning_of_read c.args.line) _ r.0 reads (r.1 (g.N.NpyStore.shelf c.args.store.now)), r.2)

pub returns-in_ok-accepted-in-Ok-Some-Ask-Print : goal.returns-in_ok-accepted-in-Ok-Some-Ask-Print
returns-in_ok-accepted-in-Ok-Some-Ask-Print g c =
    let reads : ReadsAs (Ok (Some (Ask (Print c.in-Ok-Some-Ask-Print.name)))) (meaning_of_read c.args.line) = search rules in
    let r = c.in_ok-accepted-in-Ok-Some-Ask-Print.ensures.ok in
    (r.0, answered _ _ (meaning_of_read c.args.line) _ r.0 reads (r.1 (g.N.NpyStore.shelf c.args.store.now)), r.2, r.3)

pub returns-in_default : goal.returns-in_default
returns-in_default g c =
    let told = c.respond.ensures (meaning_of_read c.args.line) (search rules) in
    made _ _ (meaning_of_read c.args.line) (g.W.Write.contents c.args.writer.now) c.respond.result c.respond.new.out told.0 told.1 told.2
