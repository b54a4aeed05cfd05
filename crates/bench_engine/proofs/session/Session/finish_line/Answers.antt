use Rattle.std.proofs.Common.{◌++◌, ◌∷◌, ◌∙◌, [], ap, sym, refl, subst, true, false, length-append, arith}
use Rattle.bench_engine.proofs.Words.{err_from_is_err_and, appends_nothing, State, world, AnswersMeaning, meaning_of_read, Session}
use Rattle.bench_engine.proofs.Feeding.{told-none, tells-held, cut-sent}
use Rattle.bench_engine.proofs.session.Session.finish_line.Goals.{then-accepted, else-accepted}
use Rattle.bench_engine.proofs.session.Session.finish_line.Goals as goal

pub returns-in_err-answered-clause-told : goal.returns-in_err-answered-clause-told
returns-in_err-answered-clause-told g c =
    let p = err_from_is_err_and c.from_residual.result c.from_residual.ensures.1 in
    let a = rw c.in_err-answered.was at c.send_answer-sent.ensures in
    rw p.1 (cut-sent _ _ _ c.args.self.now c.line-line.ensures _ _ _ a.2.0 a.0 a.1 a.2.1 ([], a.2.0 ++ 10 ∷ [], refl, omega (arith, length-append a.2.0 (10 ∷ [])), appends_nothing _))

pub returns-in_default-clause-told : goal.returns-in_default-clause-told
returns-in_default-clause-told g c =
    let a = rw (c.in_ok-answered.was, c.in_default.is) at c.send_answer-sent.ensures in
    told-none _ _ _ c.args.self.now c.line-line.ensures _ _ _ a.0 a.1 refl refl

pub returns-clause-told : goal.returns-clause-told
returns-clause-told g c =
    let a = rw (c.in_ok-answered.was, c.in-Some.is) at c.send_answer-sent.ensures in
    elim c.if-accepted.branch [
      | then-accepted w ↦
          let answers = subst (λ (s : State). AnswersMeaning (world c.args.self.now.bench.state (g.N.NpyStore.shelf c.args.store.now)) (meaning_of_read c.line-line.result) (world s (g.N.NpyStore.shelf c.send_answer-sent.new.store)) (a.0 ∷ [])) (sym (ap (λ (s : Session). s.bench.state) w.self-is)) a.1 in
          tells-held _ _ _ c.args.self.now c.line-line.ensures _ _ _ _ _ a.0 true c.send_line.result answers (a.2 ∙ w.if-accepted.true) a.3 (rw w.self-is at c.send_line.ensures.ok) (rw w.self-is at c.send_line.ensures.err)
          (omega (arith, ap (λ (s : Session). s.accepted) w.self-is)) (omega (arith, ap (λ (s : Session). s.refused) w.self-is))
      | else-accepted w ↦
          let answers = subst (λ (s : State). AnswersMeaning (world c.args.self.now.bench.state (g.N.NpyStore.shelf c.args.store.now)) (meaning_of_read c.line-line.result) (world s (g.N.NpyStore.shelf c.send_answer-sent.new.store)) (a.0 ∷ [])) (sym (ap (λ (s : Session). s.bench.state) w.self-is)) a.1 in
          tells-held _ _ _ c.args.self.now c.line-line.ensures _ _ _ _ _ a.0 false c.send_line.result answers (a.2 ∙ w.if-accepted.false) a.3 (rw w.self-is at c.send_line.ensures.ok) (rw w.self-is at c.send_line.ensures.err)
          (omega (arith, ap (λ (s : Session). s.accepted) w.self-is)) (omega (arith, ap (λ (s : Session). s.refused) w.self-is))
    ]
