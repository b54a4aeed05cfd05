use Rattle.std.proofs.Common.{◌≡◌, List, ℕ, IfOk, subst, ◌∙◌}
use Rattle.npy_format.proofs.Words.{written_header}
use Rattle.npy_format.proofs.writer.header.Goals as goal

pub returns : goal.returns
returns c =
    let text = c.as_slice.ensures.value ∙ c.in_ok-text.ensures in
    subst (λ (t : List ℕ). IfOk c.file_header.result (λ file. file.items ≡ written_header t)) text c.file_header.ensures
