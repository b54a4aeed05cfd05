use Rattle.std.proofs.Common.{sym, ◌∙◌, nat_eq, not}
use Rattle.reductions.proofs.Words.{better_next, better_stays}
use Rattle.reductions.proofs.folds.PlaceOfFold.step.Goals as goal

pub returns-then-is_better : goal.returns-then-is_better
returns-then-is_better g c first seen is held =
    better_next (not (nat_eq g.row.GREATEST 0)) (g.S.Number.value c.args.held.best) (g.S.Number.value c.args.item) c.args.held.place c.args.place first seen held is (sym c.is_better.ensures ∙ c.if-is_better.true)

pub returns : goal.returns
returns g c first seen is held = better_stays (not (nat_eq g.row.GREATEST 0)) (g.S.Number.value c.args.held.best) (g.S.Number.value c.args.item) c.args.held.place first seen held (sym c.is_better.ensures ∙ c.if-is_better.false)
