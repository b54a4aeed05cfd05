use Rattle.std.proofs.Common.{◌≡◌, ◌<◌, [], ◌∷◌, rules, w64, sym, ap, subst, ◌∙◌, arith}
use Rattle.elementwise.proofs.Words.{false≢true, ints, to_z-of_z, SFits, LieWithin, count, max_bytes, lie-within, run_part}
use Rattle.elementwise.proofs.ChunkLaws.{one-axis, part-begins}
use Rattle.elementwise.proofs.fast.chunks.part.Goals as goal

pub place-requires-clause-low : goal.place-requires-clause-low
place-requires-clause-low c = ((lie-within max_bytes 1 c.args.run c.requires.begins).each c.args.first (omega (arith, c.requires.some, c.requires.within))).0

pub place-requires-clause-high : goal.place-requires-clause-high
place-requires-clause-high c =
    let at = (lie-within max_bytes 1 c.args.run c.requires.begins).each c.args.first (omega (arith, c.requires.some, c.requires.within)) in
    omega (arith, ints, at.1)

pub unreachable-requires : goal.unreachable-requires
unreachable-requires c =
    let run = c.args.run in
    let fits : SFits w64 run.step = search rules in
    let strides = c.in_ok-strides.ensures ∙ ap (λ s. s ∷ []) (to_z-of_z w64 run.step fits) in
    let lies = part-begins run c.args.first c.args.count c.requires.begins (omega (arith, c.requires.some, c.requires.within)) c.requires.within in
    let there : LieWithin c.in_ok-shape.shape c.in_ok-strides.strides c.place.result max_bytes 1 =
    subst (λ shape. LieWithin shape c.in_ok-strides.strides c.place.result max_bytes 1) (sym c.in_ok-shape.ensures)
    (subst (λ steps. LieWithin (c.args.count ∷ []) steps c.place.result max_bytes 1) (sym strides)
    (subst (λ at. LieWithin (c.args.count ∷ []) (run.step ∷ []) at max_bytes 1) (sym c.place.ensures) lies)) in
    false≢true (c.in-None.ensures.found.1 there)

pub returns-clause-offsets : goal.returns-clause-offsets
returns-clause-offsets c =
    let run = c.args.run in
    let fits : SFits w64 run.step = search rules in
    let new = c.in-Some.ensures in
    let one : count (c.args.count ∷ []) ≡ c.args.count = omega arith in
    let some : 0 < count c.in_ok-shape.shape = omega (arith, c.requires.some, one, ap count c.in_ok-shape.ensures) in
    one-axis c.in-Some.layout (run_part run c.args.first c.args.count) (new.shape ∙ c.in_ok-shape.ensures)
    (new.strides some ∙ c.in_ok-strides.ensures ∙ ap (λ s. s ∷ []) (to_z-of_z w64 run.step fits))
    (new.offset some ∙ c.place.ensures)
