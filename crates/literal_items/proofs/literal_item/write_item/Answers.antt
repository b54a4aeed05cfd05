use Rattle.std.proofs.Common.{refl, sym, ◌∙◌}
use Rattle.literal_items.proofs.Words.{item_value}
use Rattle.literal_items.proofs.literal_item.write_item.Goals as goal

pub returns-then-not-can_be_item-clause-value : goal.returns-then-not-can_be_item-clause-value
unfolding item_value
returns-then-not-can_be_item-clause-value c = rw (sym c.can_be_item.ensures ∙ c.if-not-can_be_item.true) refl

pub returns-then-not-item_passes-clause-value : goal.returns-then-not-item_passes-clause-value
unfolding item_value
returns-then-not-item_passes-clause-value c =
    rw (sym c.can_be_item.ensures ∙ c.if-not-can_be_item.false, sym c.item_passes.ensures ∙ c.if-not-item_passes.true) refl

pub returns-clause-value : goal.returns-clause-value
unfolding item_value
returns-clause-value c =
    rw (sym c.can_be_item.ensures ∙ c.if-not-can_be_item.false, sym c.item_passes.ensures ∙ c.if-not-item_passes.false, c.write_cast.ensures.reads_back) refl
