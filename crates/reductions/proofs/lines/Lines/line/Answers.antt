use Rattle.std.proofs.Common.{sym, subst, length, rules}
use Rattle.reductions.proofs.Words.{EachWithin}
use Rattle.reductions.proofs.lines.Lines.line.Goals as goal

pub invariant_of-result-clause-within : goal.invariant_of-result-clause-within
invariant_of-result-clause-within c =
    let l = c.args.self in
    let is : EachWithin (length l.starts.bytes.now) c.place.result l.axis.stride l.starts.width l.axis.len = subst (λ o. EachWithin (length l.starts.bytes.now) o l.axis.stride l.starts.width l.axis.len) (sym c.place.ensures) (l.within c.args.j c.requires) in
    search (rules, is)
