use Rattle.std.proofs.Common.{sym, subst, ◌∙◌, length, rules}
use Rattle.reductions.proofs.Words.{EachWithin}
use Rattle.reductions.proofs.RowLaws.{row_offset, row_within}
use Rattle.reductions.proofs.fast.row.Goals as goal

pub invariant_of-result-clause-within : goal.invariant_of-result-clause-within
invariant_of-result-clause-within c =
    let l = c.args.lines in
    let is : EachWithin (length l.starts.bytes.now) c.place.result l.starts.run.step l.starts.width l.starts.run.count =
    subst (λ o. EachWithin (length l.starts.bytes.now) o l.starts.run.step l.starts.width l.starts.run.count) (sym (c.place.ensures ∙ row_offset l c.args.k c.line.result.run c.line.ensures.2)) (row_within l c.requires.some c.args.k c.requires.k) in
    search (rules, is)

pub returns : goal.returns
returns c =
    let there = c.place.ensures ∙ row_offset c.args.lines c.args.k c.line.result.run c.line.ensures.2 in
    search (rules, there)
