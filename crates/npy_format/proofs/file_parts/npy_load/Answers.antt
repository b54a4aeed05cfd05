use Rattle.std.proofs.Common.{◌≡◌, ◌++◌, [], Ok, sym, ap, subst, ◌∙◌, arith}
use Rattle.npy_format.proofs.Words.{Loads, split_header}
use Rattle.npy_format.proofs.PartLaws.{empty, header_more, load_split}
use Rattle.npy_format.proofs.file_parts.npy_load.Goals as goal

pub returns-in-Ok-default-empty : goal.returns-in-Ok-default-empty
returns-in-Ok-default-empty c =
    let front = c.args.parts.front.items in
    let block = c.args.parts.block in
    let text = c.in-Ok-default-empty.text.now in
    let found : split_header front ≡ Ok (text, []) = ap split_header (sym c.as_slice.ensures.value) ∙ c.in-Ok-default-empty.ensures.answers ∙ (λ i. Ok (text, empty c.in-Ok-default-empty.field-0-1.now (omega (arith, c.in-Ok-default-empty.len_below)) i)) in
    subst (Loads c.load_behind.result) (sym (load_split (front ++ block) text block (header_more front block text [] found))) c.load_behind.ensures
