use Rattle.std.proofs.Common.{◌-◌, rules, w64, arith, sym, subst}
use Rattle.overlap_copy.proofs.Words.{ints, to_z-of_z, SFits, BeginsWithin, max_bytes, begins_within, lie-within}
use Rattle.overlap_copy.proofs.OverwriteLaws.{run-split, rest-begins, rest-start}
use Rattle.overlap_copy.proofs.fast.overwrites.split.Goals as goal

pub offset_after-requires-clause-start : goal.offset_after-requires-clause-start
offset_after-requires-clause-start c = let run = c.args.run in begins_within max_bytes run.offset run.step 1 run.count c.args.n (lie-within max_bytes 1 run c.requires.begins) c.requires.more

pub offset_after-requires-clause-low : goal.offset_after-requires-clause-low
offset_after-requires-clause-low c = (rest-start c.args.run c.args.n c.requires.more c.requires.begins).0

pub offset_after-requires-clause-high : goal.offset_after-requires-clause-high
offset_after-requires-clause-high c = let high = (rest-start c.args.run c.args.n c.requires.more c.requires.begins).1 in omega (arith, ints, high)

pub returns-clause-offsets : goal.returns-clause-offsets
returns-clause-offsets c =
    let fits : SFits w64 c.args.run.step = search rules in
    run-split c.args.run c.args.n c.offset_after.result _ c.requires.more (to_z-of_z w64 c.args.run.step fits) c.offset_after.ensures

pub returns-clause-rest_begins : goal.returns-clause-rest_begins
returns-clause-rest_begins c =
    let run = c.args.run in
    let fits : SFits w64 run.step = search rules in
    subst (λ step. BeginsWithin (record { offset = c.offset_after.result; count = run.count - c.args.n; step = step })) (sym (to_z-of_z w64 run.step fits))
    (rest-begins run c.args.n c.offset_after.result c.requires.more c.offset_after.ensures c.requires.begins)
