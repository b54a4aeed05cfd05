use Rattle.std.proofs.Common.{◌∙◌, sym, ap, length}
use Rattle.name_store.proofs.Words.{length-offsets, target_offsets, Target}
use Rattle.name_store.proofs.target.Target.count.Goals as goal

pub returns-in-View : goal.returns-in-View
returns-in-View c = c.items.ensures.value ∙ sym (length-offsets c.in-View.layout) ∙ ap (λ (t : Target). length (target_offsets t)) (sym c.in-View.is)
