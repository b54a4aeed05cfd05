use Rattle.std.proofs.Common.{◌≡◌, Some, length, take, ap, sym, ◌∙◌, arith}
use Rattle.npy_files.proofs.Words.{Files, common_steps, get, stays_again}
use Rattle.npy_files.proofs.Pieces.{cut_read}
use Rattle.npy_files.proofs.read.read_file.Goals as goal

pub returns-in_err-file-clause-same : goal.returns-in_err-file-clause-same
returns-in_err-file-clause-same g c = λ honest. stays_again (c.has_file.ensures.same honest) (c.open.ensures.same honest)

pub returns-then-told-limit-clause-same : goal.returns-then-told-limit-clause-same
returns-then-told-limit-clause-same g c = λ honest. stays_again (c.has_file.ensures.same honest) (c.open.ensures.same honest)

pub returns-in_err-resize-clause-same : goal.returns-in_err-resize-clause-same
returns-in_err-resize-clause-same g c = λ honest. stays_again (c.has_file.ensures.same honest) (c.open.ensures.same honest)

pub returns-in_err-fill-clause-same : goal.returns-in_err-fill-clause-same
returns-in_err-fill-clause-same g c = λ honest. stays_again (stays_again (c.has_file.ensures.same honest) (c.open.ensures.same honest)) (c.fill.ensures.same honest)

pub returns-in_err-block-clause-same : goal.returns-in_err-block-clause-same
returns-in_err-block-clause-same g c = λ honest. stays_again (stays_again (stays_again (c.has_file.ensures.same honest) (c.open.ensures.same honest)) (c.fill.ensures.same honest)) (c.read_block.ensures.same honest)

pub read_block-requires-clause-told : goal.read_block-requires-clause-told
read_block-requires-clause-told g c = λ honest.
    let told = c.in_ok-file.ensures.told honest in
    let read = ap length (c.in_ok-fill.ensures.read honest) in
    let seen : c.deref.result.now ≡ c.fill.new.bytes = grind (arith, common_steps) in
    grind (arith, common_steps, told, read, seen)

pub returns-clause-found : goal.returns-clause-found
returns-clause-found g c = λ honest.
    let front = c.fill.new.bytes in
    let seen : c.deref.result.now ≡ front = grind (arith, common_steps) in
    let here : c.truncate.new.self.items ≡ take c.front_len-cut.result front = grind (arith, common_steps) in
    let whole = cut_read front _ _ _ _ c.in_ok-block.block _ (c.in_ok-fill.ensures.read honest) seen here (c.in_ok-block.ensures.read honest) in
    let there = ap (λ (files : Files). get files c.args.name.now) (sym (c.has_file.ensures.same honest).files) ∙ c.in_ok-file.ensures.found honest ∙ ap Some (sym whole) in
    let size = ap length whole in
    let told = c.in_ok-file.ensures.told honest in
    (there, grind (arith, common_steps, size, told))

pub returns-clause-same : goal.returns-clause-same
returns-clause-same g c = λ honest. stays_again (stays_again (stays_again (c.has_file.ensures.same honest) (c.open.ensures.same honest)) (c.fill.ensures.same honest)) (c.read_block.ensures.same honest)
