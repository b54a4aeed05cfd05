use Rattle.std.proofs.Common.{◌∙◌, refl, sym, subst}
use Rattle.fancy_index.proofs.Words.{ArePlaces}
use Rattle.fancy_index.proofs.WordLaws.{length-words, native-end, native-numbers}
use Rattle.fancy_index.proofs.fast.native_integers.put_run.Goals as goal

pub run_i32-requires : goal.run_i32-requires
run_i32-requires g c = native-end c.args.form 4 c.args.block.now c.args.run (c.requires.width ∙ c.in-4-true.is-0) c.requires.lies (c.in-4-true.ensures refl)

pub run_i64-requires : goal.run_i64-requires
run_i64-requires g c = native-end c.args.form 8 c.args.block.now c.args.run (c.requires.width ∙ c.in-8-true.is-0) c.requires.lies (c.in-8-true.ensures refl)

pub put_places-requires-clause-many : goal.put_places-requires-clause-many
put_places-requires-clause-many g c = c.requires.many ∙ length-words c.args.form c.args.block.now c.args.run ∙ sym c.run_i32.ensures.len

pub put_places-requires-in-8-true-clause-many : goal.put_places-requires-in-8-true-clause-many
put_places-requires-in-8-true-clause-many g c = c.requires.many ∙ length-words c.args.form c.args.block.now c.args.run ∙ sym c.run_i64.ensures.len

pub returns-in-4-true : goal.returns-in-4-true
returns-in-4-true g c =
    let same = native-numbers c.args.form 4 c.args.block.now c.args.run (c.requires.width ∙ c.in-4-true.is-0) c.requires.lies (c.in-4-true.ensures refl) c.run_i32.result c.run_i32.ensures.len c.run_i32.ensures.numbers in
    subst (λ numbers. ArePlaces c.args.n numbers c.put_places.result c.put_places.new.places) same c.put_places.ensures

pub returns-in-8-true : goal.returns-in-8-true
returns-in-8-true g c =
    let same = native-numbers c.args.form 8 c.args.block.now c.args.run (c.requires.width ∙ c.in-8-true.is-0) c.requires.lies (c.in-8-true.ensures refl) c.run_i64.result c.run_i64.ensures.len c.run_i64.ensures.numbers in
    subst (λ numbers. ArePlaces c.args.n numbers c.put_places-in-8-true.result c.put_places-in-8-true.new.places) same c.put_places-in-8-true.ensures
