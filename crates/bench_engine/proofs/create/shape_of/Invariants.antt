use Rattle.std.proofs.Common.{◌≡◌, ◌-◌, ◌^◌, map, min, take}
use Rattle.bench_engine.proofs.create.shape_of.Given as goal

-- the lengths so far
abbrev pub invariant-loop-length : goal.invariant-loop-length
invariant-loop-length l = l.axes.items ≡ map (λ n. min n (2 ^ 64 - 1)) (take l.length-index l.length-items)
