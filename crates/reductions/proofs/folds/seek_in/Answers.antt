use Rattle.std.proofs.Common.{◌≡◌, false, [], inl, inr, refl, sym, ap, ◌∙◌, rules, nat_eq, not}
use Rattle.reductions.proofs.Words.{is_better}
use Rattle.reductions.proofs.folds.seek_in.Goals as goal

pub returns-then-not-is_better : goal.returns-then-not-is_better
returns-then-not-is_better g c =
    let best = g.S.Number.value c.args.held.best in
    let none : c.is_better.result ≡ false = search rules in
    inl (ap (λ z. is_better (not (nat_eq g.row.GREATEST 0)) z best) (sym (c.visit-best.ensures best [] refl refl)) ∙ sym c.is_better.ensures ∙ none, refl, refl)

pub returns : goal.returns
returns g c =
    let best = g.S.Number.value c.args.held.best in
    let is = c.visit-best.ensures best [] refl refl in
    inr (ap (λ z. is_better (not (nat_eq g.row.GREATEST 0)) z best) (sym is) ∙ sym c.is_better.ensures ∙ c.if-not-is_better.false, is, refl)
