use Rattle.std.proofs.Common.{◌≡◌, ap, sym, refl, inr, ◌∙◌, arith}
use Rattle.bench_engine.proofs.Words.{and-true, err_from_is_err_and, common_steps, offsets, addresses, array_text, items_from, info_text, format_text, shares_text, accepted_with}
use Rattle.bench_engine.proofs.Looks.{print-found, unbound}
use Rattle.bench_engine.proofs.Outcomes.{shares-done, shares-refused}
use Rattle.bench_engine.proofs.Steps.{spare}
use Rattle.bench_engine.proofs.ask.reply.Goals as goal

pub returns-in_err-array-in-Print : goal.returns-in_err-array-in-Print
returns-in_err-array-in-Print c =
    let p = err_from_is_err_and c.from_residual.result c.from_residual.ensures.1 in
    let e = c.in_err-array-in-Print.ensures in
    rw (p.1, p.2, e.0, c.in-Print.is) (refl, inr (λ choice. rw (unbound c.args.bench.now.state c.in-Print.name e.1) refl))

pub returns-in_ok-print-in-Print : goal.returns-in_ok-print-in-Print
returns-in_ok-print-in-Print c =
    let s = c.args.bench.now.state in
    let it = c.in_ok-array-in-Print.ensures.1 in
    let any = spare s in
    let r = c.in_ok-array-in-Print.array in
    rw c.in-Print.is (
      any.0,
      any.1,
      rw c.in_ok-print-in-Print.ensures
          (print-found _ _ it.0 r it.1 it.2 ∙ λ i. accepted_with s (array_text r.descr.now r.layout.now.shape (items_from r.descr.now (sym c.bytes.ensures i) (offsets r.layout.now)))),
    )

pub returns-in_err-array-in-Info : goal.returns-in_err-array-in-Info
returns-in_err-array-in-Info c =
    let p = err_from_is_err_and c.from_residual-in_err-array-in-Info.result c.from_residual-in_err-array-in-Info.ensures.1 in
    let e = c.in_err-array-in-Info.ensures in
    rw (p.1, p.2, e.0, c.in-Info.is) (refl, inr (λ choice. rw (unbound c.args.bench.now.state c.in-Info.name e.1) refl))

pub returns-in_ok-set_info_text-in-Info : goal.returns-in_ok-set_info_text-in-Info
returns-in_ok-set_info_text-in-Info c =
    let s = c.args.bench.now.state in
    let it = c.in_ok-array-in-Info.ensures.1 in
    let any = spare s in
    let r = c.in_ok-array-in-Info.array in
    let at : addresses s it.0 ≡ offsets r.layout.now = sym it.2.view.laid.places in
    rw c.in-Info.is (
      any.0,
      any.1,
      rw (c.in_ok-set_info_text-in-Info.ensures, it.1) (λ i. accepted_with s (info_text c.in-Info.name (it.2.descr i) (sym it.2.view.laid.shape i) (at i) (sym it.2.view.laid.writable_is i))),
    )

pub returns-in_err-array-in-Format : goal.returns-in_err-array-in-Format
returns-in_err-array-in-Format c =
    let p = err_from_is_err_and c.from_residual-in_err-array-in-Format.result c.from_residual-in_err-array-in-Format.ensures.1 in
    let e = c.in_err-array-in-Format.ensures in
    rw (p.1, p.2, e.0, c.in-Format.is) (refl, inr (λ choice. rw (unbound c.args.bench.now.state c.in-Format.name e.1) refl))

pub returns-in_ok-push-in-Format : goal.returns-in_ok-push-in-Format
returns-in_ok-push-in-Format c =
    let s = c.args.bench.now.state in
    let it = c.in_ok-array-in-Format.ensures.1 in
    let any = spare s in
    let told : c.push.new.self ≡ format_text c.in_ok-array-in-Format.array.descr.now = grind (arith, common_steps) in
    rw c.in-Format.is (any.0, any.1, rw (told, it.1) (λ i. accepted_with s (format_text (it.2.descr i))))

pub returns-in_ok-set_names_text-in-Names : goal.returns-in_ok-set_names_text-in-Names
returns-in_ok-set_names_text-in-Names c =
    let any = spare c.args.bench.now.state in
    rw c.in-Names.is (any.0, any.1, λ i. accepted_with c.args.bench.now.state (sym c.in_ok-set_names_text-in-Names.ensures i))

pub returns-in_err-yes-in-Shares : goal.returns-in_err-yes-in-Shares
returns-in_err-yes-in-Shares c =
    let p = err_from_is_err_and c.from_residual-in_err-yes-in-Shares.result c.from_residual-in_err-yes-in-Shares.ensures.1 in
    rw (p.1, p.2, c.in-Shares.is, and-true) (refl, shares-refused c.args.bench.now.state c.in-Shares.left c.in-Shares.right _ c.in_err-yes-in-Shares.ensures.answers)

pub returns-in_ok-yes-in-Shares : goal.returns-in_ok-yes-in-Shares
returns-in_ok-yes-in-Shares c =
    let any = spare c.args.bench.now.state in
    let e = c.in_ok-yes-in-Shares.ensures.answers in
    let told : c.set-in-Shares.new.self ≡ shares_text c.in_ok-yes-in-Shares.yes = grind (arith, common_steps) in
    rw c.in-Shares.is (any.0, any.1, rw told (shares-done _ _ _ e.0 e.1 e.2 e.3 ∙ ap (λ t. accepted_with c.args.bench.now.state (shares_text t)) (sym e.4)))
