use Rattle.std.proofs.Common.{refl, sym, ◌∙◌}
use Rattle.literal_items.proofs.Words.{item_values}
use Rattle.literal_items.proofs.literal_item.write_items.Goals as goal

pub returns-then-not-items_pass-clause-value : goal.returns-then-not-items_pass-clause-value
unfolding item_values
returns-then-not-items_pass-clause-value c = rw (sym c.items_pass.ensures ∙ c.if-not-items_pass.true) refl

pub returns-then-not-items_pass-2-clause-value : goal.returns-then-not-items_pass-2-clause-value
unfolding item_values
returns-then-not-items_pass-2-clause-value c =
    rw (sym c.items_pass.ensures ∙ c.if-not-items_pass.false, sym c.items_pass-2.ensures ∙ c.if-not-items_pass-2.true) refl

pub returns-clause-value : goal.returns-clause-value
unfolding item_values
returns-clause-value c =
    rw (sym c.items_pass.ensures ∙ c.if-not-items_pass.false, sym c.items_pass-2.ensures ∙ c.if-not-items_pass-2.false, c.write_casts.ensures.reads_back) refl
