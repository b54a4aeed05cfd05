use Rattle.std.proofs.Common.{inr, sym, ◌∙◌}
use Rattle.broadcasting.proofs.Words.{can_stretch, stretched-ok}
use Rattle.broadcasting.proofs.StretchLaws.{stretched-err}
use Rattle.broadcasting.proofs.stretching.stretch.Goals as goal

pub returns-then-not-can_stretch : goal.returns-then-not-can_stretch
returns-then-not-can_stretch c =
    inr (stretched-err c.args.layout.now.shape c.args.target.now ((λ i. can_stretch (sym c.as_slice.ensures.value i) (sym c.as_slice-2.ensures.value i)) ∙ sym c.can_stretch.ensures ∙ c.if-not-can_stretch.true))

pub returns : goal.returns
returns c =
    rw (stretched-ok c.args.layout.now.shape c.args.target.now ((λ i. can_stretch (sym c.as_slice.ensures.value i) (sym c.as_slice-2.ensures.value i)) ∙ sym c.can_stretch.ensures ∙ c.if-not-can_stretch.false)) c.in_ok-stretched_to.ensures
