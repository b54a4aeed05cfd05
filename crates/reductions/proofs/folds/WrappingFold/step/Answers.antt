use Rattle.std.proofs.Common.{sym, ap, ◌∙◌, nat_eq, not}
use Rattle.reductions.proofs.Words.{ne_eqb, total_step, total_next}
use Rattle.reductions.proofs.folds.WrappingFold.step.Goals as goal

pub returns-then-this-ne0 : goal.returns-then-this-ne0
returns-then-this-ne0 g c first seen is held =
    sym (ap (λ e. total_step (not e) c.args.held c.bits.result) (ne_eqb g.row.PRODUCT 0 c.if-this-ne0.true))
    ∙ total_next (not (nat_eq g.row.PRODUCT 0)) c.args.held c.bits.result (g.S.Number.value c.args.item) seen held c.bits.ensures.lowest.low

pub returns : goal.returns
returns g c first seen is held =
    sym (ap (λ p. total_step (not (nat_eq p 0)) c.args.held c.bits-2.result) c.if-this-ne0.false)
    ∙ total_next (not (nat_eq g.row.PRODUCT 0)) c.args.held c.bits-2.result (g.S.Number.value c.args.item) seen held c.bits-2.ensures.lowest.low
