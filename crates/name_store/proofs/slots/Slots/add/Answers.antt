use Rattle.name_store.proofs.HeldLaws.{lowest-within}
use Rattle.name_store.proofs.slots.Slots.add.Goals as goal

pub first_free-number-requires : goal.first_free-number-requires
first_free-number-requires c = rw (c.as_slice.ensures.value, c.in_ok-reserve.ensures.items) (lowest-within c.args.self.now.cells.items c.args.self.now.lowest c.args.self.now.taken)
