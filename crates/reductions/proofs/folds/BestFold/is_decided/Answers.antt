use Rattle.std.proofs.Common.{sym, ap, ◌∙◌, nat_eq, not}
use Rattle.reductions.proofs.Words.{fold, fold-append, better, numbers_at}
use Rattle.reductions.proofs.DecidedLaws.{best-stays}
use Rattle.reductions.proofs.folds.BestFold.is_decided.Goals as goal

pub returns : goal.returns
returns g c last order first seen bytes offsets held =
    let greatest = not (nat_eq g.row.GREATEST 0) in
    let scalar = g.S.Number.scalar order in
    let numbers = numbers_at scalar bytes offsets in
    best-stays greatest (g.S.Number.value c.args.held) scalar bytes (λ offset. c.is_last.ensures last order bytes offset) offsets
    ∙ ap (λ best. fold (better greatest) best numbers) held
    ∙ sym (fold-append (better greatest) first seen numbers)
