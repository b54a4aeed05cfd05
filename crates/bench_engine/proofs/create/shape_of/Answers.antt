use Rattle.std.proofs.Common.{◌≤◌, ap, ◌∙◌, subst, length, map, min, take_all, ◌-◌, ◌^◌, arith}
use Rattle.bench_engine.proofs.Words.{Gives, shape_of}
use Rattle.bench_engine.proofs.Capped.{shape_of-capped}
use Rattle.bench_engine.proofs.create.shape_of.Goals as goal

pub returns : goal.returns
returns c =
    let all : length c.as_slice-length-items.result.now ≤ c.loop-length.length-index = omega (arith, c.loop-length-test.false) in
    let axes = c.loop-length.invariant ∙ ap (map (λ n. min n (2 ^ 64 - 1))) (take_all c.loop-length.length-index c.as_slice-length-items.result.now all ∙ c.as_slice-length-items.ensures) in
    subst (Gives (λ s. s) c.try_new.result) (ap shape_of (c.as_slice.ensures ∙ axes) ∙ shape_of-capped c.args.lengths.now) c.try_new.ensures
