use Rattle.std.proofs.Common.{subst, length, sym, rules}
use Rattle.reductions.proofs.Words.{EachWithin}
use Rattle.reductions.proofs.LineLaws.{part_within}
use Rattle.reductions.proofs.parts.part.Goals as goal

pub invariant_of-result-clause-within : goal.invariant_of-result-clause-within
invariant_of-result-clause-within c =
    let s = c.args.side in
    let is : EachWithin (length s.bytes.now) c.place.result s.run.step s.width c.args.count =
    subst (λ o. EachWithin (length s.bytes.now) o s.run.step s.width c.args.count) (sym c.place.ensures) (part_within (length s.bytes.now) s.width s.run c.args.from c.args.count c.requires.from c.requires.fits s.within) in
    search (rules, is)
