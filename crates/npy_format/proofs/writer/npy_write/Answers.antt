use Rattle.std.proofs.Common.{sym, ap, ◌∙◌, Ok}
use Rattle.npy_format.proofs.writer.npy_write.Goals as goal

pub returns-clause-gives : goal.returns-clause-gives
returns-clause-gives c = c.in_ok-front.ensures.gives ∙ ap (λ file. Ok file) (sym c.in_ok-extend_from_slice.ensures.items)
