use Rattle.std.proofs.Common.{refl, sym, subst, ◌∙◌, rules}
use Rattle.npy_format.proofs.Words.{Loads}
use Rattle.npy_format.proofs.PartLaws.{load_split}
use Rattle.npy_format.proofs.reader.npy_read.Goals as goal

pub returns-in_err-header : goal.returns-in_err-header
returns-in_err-header c =
    subst (Loads c.from_residual-in_err-header.result) (sym (load_split c.args.file.now c.in_ok-text.text.now c.in_ok-text.behind.now c.in_ok-text.ensures.answers)) (search rules)

pub returns : goal.returns
returns c = (_, load_split _ _ _ c.in_ok-text.ensures.answers ∙ c.in_ok-header.ensures.gives, c.in_ok-array.ensures, refl)
