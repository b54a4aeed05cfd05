use Rattle.std.specs.Prelude.{nat_eq, not}
use Rattle.reductions.proofs.DecidedLaws.{found-stays}
use Rattle.reductions.proofs.folds.PlaceOfFold.is_decided.Goals as goal

pub returns : goal.returns
returns g c last order first seen bytes offsets held =
    found-stays (not (nat_eq g.row.GREATEST 0)) (g.S.Number.value c.args.held.best) (g.S.Number.scalar order) bytes (λ offset. c.is_last.ensures last order bytes offset) c.args.held.place first seen offsets held
