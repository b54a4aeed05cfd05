use Rattle.name_store.proofs.rewrite.copy_to.Goals as goal

pub assign_from-requires : goal.assign_from-requires
assign_from-requires c = rw c.in-View.is at c.requires
