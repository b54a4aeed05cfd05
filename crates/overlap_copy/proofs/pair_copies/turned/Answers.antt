use Rattle.std.proofs.Common.{rules, pos, ◌+ℤ◌, ◌≤ℤ◌, w64, sym, subst}
use Rattle.overlap_copy.proofs.Words.{to_z-of_z, SFits, max_bytes}
use Rattle.overlap_copy.proofs.TurnLaws.{line_start, line_end, line_step}
use Rattle.overlap_copy.proofs.pair_copies.turned.Goals as goal

pub offset_after-requires-clause-start : goal.offset_after-requires-clause-start
offset_after-requires-clause-start c = line_start c.args.run c.requires

pub offset_after-requires-clause-low : goal.offset_after-requires-clause-low
offset_after-requires-clause-low c = (line_end c.args.run c.requires).0

pub offset_after-requires-clause-high : goal.offset_after-requires-clause-high
offset_after-requires-clause-high c = (line_end c.args.run c.requires).1

pub opposite-requires : goal.opposite-requires
opposite-requires c =
    let fits : SFits w64 c.args.run.step = search rules in
    subst (λ s. pos 0 ≤ℤ (s +ℤ pos max_bytes)) (sym (to_z-of_z w64 c.args.run.step fits)) (line_step c.args.run c.requires)
