use Rattle.std.proofs.Common.{arith, ap, codes, map, string_bytes, unwrap_or, ◌∙◌, ℕ, List, Option, Bor}
use Rattle.std.specs.Str.Parse.{ParsesUnsigned, ExplainsUnsignedError, HasUnsignedDigitsIfOk}
use Rattle.host_process.proofs.Depths.{as_written, most}
use Rattle.host_process.proofs.Said.{are_said, text_or}
use Rattle.host_process.proofs.command_line.options.Goals as goal

pub returns-clause-said : goal.returns-clause-said
returns-clause-said c = are_said c.in_ok-command.field-0 c.in-Ok.matches (map string_bytes c.args.words.now) _ c.in_ok-command.ensures.line c.in-Ok.ensures.matches
    (c.in_ok-from_str.ensures.ok ∙ ap (λ (text : Bor (List ℕ)). text.now) c.unwrap_or-dir.ensures ∙ text_or c.get_str.result _ ∙ ap (λ (text : Option (List ℕ)). unwrap_or text (codes ".")) c.get_str.ensures)
    (c.from.ensures ∙ c.unwrap_or-depth.ensures ∙ as_written (λ bs r. ParsesUnsigned 8 10 bs r × ExplainsUnsignedError 10 bs r × HasUnsignedDigitsIfOk bs r) c.in_ok-command.field-0 c.in-Ok.matches c.get_one.result (λ u x gives. gives.0) c.in_ok-command.ensures.takes c.in-Ok.ensures.parsed c.get_one.ensures.none c.get_one.ensures.value)
    (c.in_ok-copied.ensures ∙ c.get_str-script.ensures)

pub returns-clause-depth : goal.returns-clause-depth
returns-clause-depth c = rw c.from.ensures (rw c.unwrap_or-depth.ensures (most (λ bs r. ParsesUnsigned 8 10 bs r × ExplainsUnsignedError 10 bs r × HasUnsignedDigitsIfOk bs r) c.in_ok-command.field-0 c.in-Ok.matches c.get_one.result 16 (λ u x gives. gives.0) (omega arith) c.in_ok-command.ensures.takes c.in-Ok.ensures.parsed c.get_one.ensures.none c.get_one.ensures.value))
