use Rattle.std.proofs.Common.{◌≡◌, ◌≤◌, ◌⊎◌, ◌++◌, ℕ, List, true, false, Ok, Err, inl, inr, refl, sym, ap, arith, codes}
use Rattle.bench_engine.proofs.Words.{BenchValue, lt-ltb, common_steps, err_from_is_err_and, Refusal, UnknownName, OutOfMemory, State, is_bound, Ask, Delete, Undo, delete_outcome, question_outcome, undo_outcome, may_lack_memory, accepted_with, IsRefused}
use Rattle.bench_engine.proofs.Steps.{carried, spare}
use Rattle.bench_engine.proofs.KeptBytes.{always-err, always-ok, counted-err, counted-ok}
use Rattle.bench_engine.proofs.engine.perform.Goals as goal

-- a name is not unbound
undeleted : (s : State) (name : List ℕ) (e : Refusal) → ((is_bound s name ≡ false) × (e ≡ UnknownName)) ⊎ ((is_bound s name ≡ true) × (e ≡ OutOfMemory) × (1 ≤ s.depth)) → IsRefused (may_lack_memory s (Delete name)) (λ choice. delete_outcome s name) e
unfolding delete_outcome
undeleted s name e (inl (none, is)) = inr (λ choice. rw (none, is) refl)
undeleted s name e (inr (bound, is, deep)) = inl (is, rw (lt-ltb 0 s.depth deep, bound) refl)

pub returns-in-Make-clause-answers : goal.returns-in-Make-clause-answers
returns-in-Make-clause-answers g c =
    rw (c.in-Bind.is, c.in-Make.is) (carried _ _ _ _ _ _ _ c.make.ensures.answers)

pub returns-in-View-clause-answers : goal.returns-in-View-clause-answers
returns-in-View-clause-answers g c =
    rw (c.in-Bind.is, c.in-View.is) (carried _ _ _ _ _ _ _ c.view.ensures.answers)

pub returns-in-Compute-clause-answers : goal.returns-in-Compute-clause-answers
returns-in-Compute-clause-answers g c =
    rw (c.in-Bind.is, c.in-Compute.is) (carried _ _ _ _ _ _ _ c.compute.ensures.answers)

pub returns-in-Load-clause-answers : goal.returns-in-Load-clause-answers
returns-in-Load-clause-answers g c =
    rw (c.in-Bind.is, c.in-Load.is) c.load.ensures.answers

pub returns-in-Set-clause-answers : goal.returns-in-Set-clause-answers
returns-in-Set-clause-answers g c =
    rw c.in-Set.is (carried _ _ _ _ _ _ _ c.set.ensures.answers)

pub returns-in-Update-clause-answers : goal.returns-in-Update-clause-answers
returns-in-Update-clause-answers g c =
    rw c.in-Update.is (carried _ _ _ _ _ _ _ c.set-in-Update.ensures.answers)

pub returns-in_err-unbind-in-Delete-clause-answers : goal.returns-in_err-unbind-in-Delete-clause-answers
returns-in_err-unbind-in-Delete-clause-answers g c =
    let s = c.args.bench.now.state in
    let p = err_from_is_err_and c.from_residual.result c.from_residual.ensures.1 in
    let e = c.in_err-unbind-in-Delete.ensures.answers in
    rw (p.1, p.2, c.in-Delete.is) (carried s _ _ (may_lack_memory s (Delete c.in-Delete.name)) (λ choice. delete_outcome s c.in-Delete.name) c.args.out.now (Err _) (e.0, undeleted _ _ _ e.1))

pub returns-in_ok-unbind-in-Delete-clause-answers : goal.returns-in_ok-unbind-in-Delete-clause-answers
unfolding delete_outcome
returns-in_ok-unbind-in-Delete-clause-answers g c =
    let s = c.args.bench.now.state in
    let e = c.in_ok-unbind-in-Delete.ensures.answers in
    let any = spare s in
    let told : c.set-in-Delete.new.self ≡ codes "ok del " ++ c.in-Delete.name = grind (arith, common_steps, c.as_slice.ensures.value) in
    rw c.in-Delete.is (carried s c.unbind.new.self.state _ (may_lack_memory s (Delete c.in-Delete.name)) (λ choice. delete_outcome s c.in-Delete.name) c.set-in-Delete.new.self (Ok tt)
    (any.0, any.1, rw e.0 (λ i. accepted_with (sym e.1 i) (sym told i))))

pub returns-in-Ask-clause-answers : goal.returns-in-Ask-clause-answers
returns-in-Ask-clause-answers g c =
    let s = c.args.bench.now.state in
    rw c.in-Ask.is (carried s s _ (may_lack_memory s (Ask c.in-Ask.question)) (λ choice. question_outcome s c.in-Ask.question) _ _ c.reply.ensures)

pub returns-in-Save-clause-answers : goal.returns-in-Save-clause-answers
returns-in-Save-clause-answers g c = rw c.in-Save.is c.save.ensures

pub returns-in_err-undo-in-Undo-clause-answers : goal.returns-in_err-undo-in-Undo-clause-answers
unfolding undo_outcome
returns-in_err-undo-in-Undo-clause-answers g c =
    let s = c.args.bench.now.state in
    let p = err_from_is_err_and c.from_residual-in_err-undo-in-Undo.result c.from_residual-in_err-undo-in-Undo.ensures.1 in
    let e = c.in_err-undo-in-Undo.ensures.answers in
    rw (p.1, p.2, c.in-Undo.is) (carried s _ _ (may_lack_memory s Undo) (λ choice. undo_outcome s) c.args.out.now (Err _) (e.2, inr (λ choice. rw e.0 (ap Err (sym e.1)))))

pub returns-in_ok-undo-in-Undo-clause-answers : goal.returns-in_ok-undo-in-Undo-clause-answers
unfolding undo_outcome
returns-in_ok-undo-in-Undo-clause-answers g c =
    let s = c.args.bench.now.state in
    let e = c.in_ok-undo-in-Undo.ensures.answers in
    let any = spare s in
    let told : c.set-in-Undo.new.self ≡ codes "ok undo" = grind (arith, common_steps) in
    rw c.in-Undo.is (carried s c.undo.new.self.state _ (may_lack_memory s Undo) (λ choice. undo_outcome s) c.set-in-Undo.new.self (Ok tt) (any.0, any.1, rw e.0 (λ i. accepted_with (sym e.1 i) (sym told i))))

pub returns-in-Make-clause-patches : goal.returns-in-Make-clause-patches
returns-in-Make-clause-patches g c =
    rw c.in-Bind.is (counted-ok 0 c.args.bench.now c.make.new.bench c.make.result c.make.ensures.patches)

pub returns-in-Make-clause-kept : goal.returns-in-Make-clause-kept
returns-in-Make-clause-kept g c = counted-err 0 c.args.bench.now c.make.new.bench c.make.result c.make.ensures.patches

pub returns-in-View-clause-patches : goal.returns-in-View-clause-patches
returns-in-View-clause-patches g c =
    rw c.in-Bind.is (counted-ok 0 c.args.bench.now c.view.new.bench c.view.result c.view.ensures.patches)

pub returns-in-View-clause-kept : goal.returns-in-View-clause-kept
returns-in-View-clause-kept g c = counted-err 0 c.args.bench.now c.view.new.bench c.view.result c.view.ensures.patches

pub returns-in-Compute-clause-patches : goal.returns-in-Compute-clause-patches
returns-in-Compute-clause-patches g c =
    rw c.in-Bind.is (counted-ok 0 c.args.bench.now c.compute.new.bench c.compute.result c.compute.ensures.patches)

pub returns-in-Compute-clause-kept : goal.returns-in-Compute-clause-kept
returns-in-Compute-clause-kept g c = counted-err 0 c.args.bench.now c.compute.new.bench c.compute.result c.compute.ensures.patches

pub returns-in-Load-clause-patches : goal.returns-in-Load-clause-patches
returns-in-Load-clause-patches g c =
    rw c.in-Bind.is (counted-ok 0 c.args.bench.now c.load.new.bench c.load.result c.load.ensures.patches)

pub returns-in-Load-clause-kept : goal.returns-in-Load-clause-kept
returns-in-Load-clause-kept g c = counted-err 0 c.args.bench.now c.load.new.bench c.load.result c.load.ensures.patches

pub returns-in-Set-clause-patches : goal.returns-in-Set-clause-patches
returns-in-Set-clause-patches g c = rw c.in-Set.is c.set.ensures.patches

pub returns-in-Update-clause-patches : goal.returns-in-Update-clause-patches
returns-in-Update-clause-patches g c = rw c.in-Update.is c.set-in-Update.ensures.patches

pub returns-in_err-unbind-in-Delete-clause-kept : goal.returns-in_err-unbind-in-Delete-clause-kept
returns-in_err-unbind-in-Delete-clause-kept g c =
    let p = err_from_is_err_and c.from_residual.result c.from_residual.ensures.1 in
    rw p.1 (ap (λ (v : BenchValue). v.patches) c.in_err-unbind-in-Delete.ensures.patches)

pub returns-in_ok-unbind-in-Delete-clause-patches : goal.returns-in_ok-unbind-in-Delete-clause-patches
returns-in_ok-unbind-in-Delete-clause-patches g c = rw c.in-Delete.is c.in_ok-unbind-in-Delete.ensures.patches

pub returns-in_err-undo-in-Undo-clause-kept : goal.returns-in_err-undo-in-Undo-clause-kept
returns-in_err-undo-in-Undo-clause-kept g c =
    let p = err_from_is_err_and c.from_residual-in_err-undo-in-Undo.result c.from_residual-in_err-undo-in-Undo.ensures.1 in
    rw p.1 (ap (λ (v : BenchValue). v.patches) c.in_err-undo-in-Undo.ensures.patches)

pub returns-in_ok-undo-in-Undo-clause-patches : goal.returns-in_ok-undo-in-Undo-clause-patches
returns-in_ok-undo-in-Undo-clause-patches g c = rw c.in-Undo.is c.in_ok-undo-in-Undo.ensures.patches

pub returns-in-Ask-clause-patches : goal.returns-in-Ask-clause-patches
returns-in-Ask-clause-patches g c = rw c.in-Ask.is (always-ok c.reply.result refl)

pub returns-in-Ask-clause-kept : goal.returns-in-Ask-clause-kept
returns-in-Ask-clause-kept g c = always-err c.reply.result refl

pub returns-in-Save-clause-patches : goal.returns-in-Save-clause-patches
returns-in-Save-clause-patches g c = rw c.in-Save.is (always-ok c.save.result refl)

pub returns-in-Save-clause-kept : goal.returns-in-Save-clause-kept
returns-in-Save-clause-kept g c = always-err c.save.result refl
