use Rattle.elementwise.proofs.AlikeLaws.{item_stays}
use Rattle.elementwise.proofs.held.keeps_items.Goals as goal

pub returns-clause-items : goal.returns-clause-items
returns-clause-items c = λ yes offset inside. item_stays c.args.from.now c.args.to.now c.args.block.now offset (rw c.bytes.ensures at c.note_slice.ensures) (c.are_alike.ensures.0 yes)
