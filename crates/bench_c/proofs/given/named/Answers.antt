use Rattle.std.proofs.Common.{ℕ, List, ◌++◌, ◌∙◌, ap, inr, arith}
use Rattle.bench_c.proofs.Facts.{err_from_is_err_and}
use Rattle.bench_c.specs.Words.{asks, silent}
use Rattle.bench_c.proofs.GivenLaws.{named-long, named-refused, named-says, given-name}
use Rattle.bench_c.proofs.given.named.Goals as goal

pub returns-then-name-gt-LONGEST_NAME : goal.returns-then-name-gt-LONGEST_NAME
returns-then-name-gt-LONGEST_NAME c = inr (named-long _ (omega arith))

pub returns-in_err-command : goal.returns-in_err-command
returns-in_err-command c =
    let p = err_from_is_err_and c.from_residual-in_err-command.result c.from_residual-in_err-command.ensures.1 in
    let line = c.as_slice.ensures.value ∙ c.in_ok-extend_from_slice.ensures.items ∙ ap (λ (l : List ℕ). l ++ c.args.name.now) c.in_ok-line.ensures.items in
    rw (p.1, p.2) (named-refused c.args.name.now c.as_slice.result.now _ (omega arith) line c.in_err-command.ensures.command)

pub returns-in-Some : goal.returns-in-Some
returns-in-Some c =
    let line = c.as_slice.ensures.value ∙ c.in_ok-extend_from_slice.ensures.items ∙ ap (λ (l : List ℕ). l ++ c.args.name.now) c.in_ok-line.ensures.items in
    rw (named-says c.args.name.now c.as_slice.result.now (asks c.in-Some.command) (omega arith) line (rw c.in-Some.is at c.in_ok-command.ensures.command)) (given-name _ _ c.deleted.ensures)

pub returns : goal.returns
returns c =
    let line = c.as_slice.ensures.value ∙ c.in_ok-extend_from_slice.ensures.items ∙ ap (λ (l : List ℕ). l ++ c.args.name.now) c.in_ok-line.ensures.items in
    inr (named-says c.args.name.now c.as_slice.result.now silent (omega arith) line (rw c.in-None.is at c.in_ok-command.ensures.command))
