use Rattle.std.proofs.Common.{◌≡◌, ◌++◌, ◌∷◌, [], ap, ◌∙◌, cond, Some, Option, List, nat_eq, arith, rules, true}
use Rattle.name_store.proofs.Words.{is_ok, slot_at, Slot}
use Rattle.name_store.proofs.SlotLaws.{slot_at-set, slot_at-push}
use Rattle.name_store.proofs.slots.put_slot.Goals as goal

pub returns-then-number-len : goal.returns-then-number-len
returns-then-number-len c other =
    let done : is_ok c.push.result ≡ true = search rules in
    ap (λ (slots : List (Option Slot)). slot_at slots other) (c.push.ensures.items ∙ ap (λ t. cond t (c.args.cells.now.items ++ Some c.args.slot ∷ []) c.args.cells.now.items) done)
    ∙ slot_at-push c.args.cells.now.items (Some c.args.slot) other
    ∙ ap (λ n. cond (nat_eq other n) (Some c.args.slot) (slot_at c.args.cells.now.items other)) (omega (arith, c.args.cells.now.ok.0, c.len.ensures, c.if-number-len.true))

pub returns-else-number-len : goal.returns-else-number-len
returns-else-number-len c other = slot_at-set c.args.cells.now.items c.args.number (Some c.args.slot) other (omega (arith, c.args.cells.now.ok.0, c.len.ensures, c.requires.number, c.if-number-len.false))
