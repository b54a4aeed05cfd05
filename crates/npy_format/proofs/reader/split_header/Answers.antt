use Rattle.std.proofs.Common.{ap, sym, ◌∙◌}
use Rattle.npy_format.proofs.Words.{split_front}
use Rattle.npy_format.proofs.FileLaws.{header_split}
use Rattle.npy_format.proofs.reader.split_header.Goals as goal

pub returns-clause-answers : goal.returns-clause-answers
returns-clause-answers c =
    rw (header_split c.args.file.now _ _ _ _ _ (sym c.begins_well.ensures ∙ c.if-not-begins_well.false) (ap (split_front 2) (sym c.split_at.ensures.back) ∙ c.in_ok-version.ensures.answers) (sym c.in_ok-width.ensures.value) c.in_ok-field.ensures.answers)
    c.text_behind.ensures.answers
