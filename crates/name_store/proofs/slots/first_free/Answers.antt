use Rattle.std.proofs.Common.{◌≡◌, ◌≤◌, true, false, refl, sym, ap, ◌∙◌, Option, Some, None, is_some, not, arith, below_more}
use Rattle.name_store.proofs.Words.{slot_at, Slot}
use Rattle.name_store.proofs.SlotLaws.{slot_at-get_or, slot_at-past}
use Rattle.name_store.proofs.slots.first_free.Goals as goal

none-is : (o : Option Slot) → is_some o ≡ false → o ≡ None
none-is None h = refl
none-is (Some s) h = let no : ⊥ = cc in absurd no

pub returns-then-is_none-clause-free : goal.returns-then-is_none-clause-free
returns-then-is_none-clause-free c =
    sym (slot_at-get_or c.args.cells.now c.loop-number.number _ (omega (arith, c.loop-number-test.true)))
    ∙ none-is _ (ap is_some (sym c.index-cells-number.is) ∙ c.is_none.ensures ∙ ap not c.if-is_none.true)

pub loop-number-preserved : goal.loop-number-preserved
loop-number-preserved c number from below =
    below_more (λ q. c.args.from ≤ q → is_some (slot_at c.args.cells.now q) ≡ true) c.loop-number.number (λ q less from. c.loop-number.invariant q from less)
    (λ _. ap is_some (sym (slot_at-get_or c.args.cells.now c.loop-number.number _ (omega (arith, c.loop-number-test.true))))
    ∙ ap is_some (sym c.index-cells-number.is) ∙ c.is_none.ensures ∙ ap not c.if-is_none.false) number below from

pub returns-clause-free : goal.returns-clause-free
returns-clause-free c = slot_at-past c.args.cells.now _ (omega arith)
