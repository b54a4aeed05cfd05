use Rattle.std.proofs.Common.{◌≡◌, ℤ, List, [], ◌∷◌, refl, sym, ap, subst, ◌∙◌}
use Rattle.reductions.proofs.Words.{numbers_of}
use Rattle.reductions.proofs.LineLaws.{side_first, side_rest}
use Rattle.reductions.proofs.fills.fold_line.Goals as goal

pub returns : goal.returns
returns g c =
    let scalar = g.S.Number.scalar g.O.Ordered.order in
    let line = c.args.line in
    let first = g.S.Number.value c.number-first.result in
    let wide = c.requires.width ∙ sym (g.met.S.Number.has_width g.O.Ordered.order) in
    let all : numbers_of scalar line ≡ first ∷ side_rest scalar line = side_first scalar line c.requires.some wide ∙ ap (λ z. z ∷ side_rest scalar line) (sym c.number-first.ensures) in
    c.finish.ensures first (side_rest scalar line) (subst (λ (numbers : List ℤ). g.F.Fold.holds c.fold_run.result first numbers) all (c.fold_run.ensures first [] refl c.start.ensures))
    ∙ ap g.F.Fold.meaning (sym all)
