use Rattle.std.proofs.Common.{◌≡◌, pos, ◌-ℤ◌, ◌∙◌, arith, rules, to_z, of_z, w64}
use Rattle.reshape_rule.proofs.Words.{ints, offsets, entry-first, offset_low}
use Rattle.reshape_rule.proofs.RankLaws.{stride-long}
use Rattle.reshape_rule.proofs.without_copy.unit_stride.Goals as goal

pub overflow_cast-result-2 : goal.overflow_cast-result-2
overflow_cast-result-2 c =
    let low = offset_low c.args.layout.now c.requires.some in
    search (rules, arith, ints, low)

pub overflow_sub-result : goal.overflow_sub-result
overflow_sub-result c =
    let low = offset_low c.args.layout.now c.requires.some in
    search (rules, arith, ints, low, c.at_rank.ensures.bound)

pub returns : goal.returns
returns c =
    let low = offset_low c.args.layout.now c.requires.some in
    let is : to_z w64 (of_z w64 (to_z w64 c.at_rank.result -ℤ to_z w64 c.args.layout.now.offset)) ≡ pos c.at_rank.result -ℤ pos c.args.layout.now.offset = omega (arith, ints, c.at_rank.ensures.bound) in
    is ∙ stride-long c.args.len c.args.rank c.args.layout.now.offset c.at_rank.result (offsets c.args.layout.now) (omega arith) (entry-first c.args.layout.now c.requires.some) c.at_rank.ensures.entry
