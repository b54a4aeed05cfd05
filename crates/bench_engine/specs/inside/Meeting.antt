-- What a call returns, compared with its definition.
use Rattle.std.specs.Prelude.{◌≡◌, ◌⊎◌, Result, Ok, Err}
use Rattle.bench_engine.specs.Words.{Refusal, OutOfMemory}

-- R relates the result to the defined one. A refusal is the defined one, or out of memory.
abbrev pub Meets : {X Y : Type 0} → (X → Y → Type 0) → Result X Refusal → Result Y Refusal → Type 0
Meets R (Ok x) (Ok y) = R x y
Meets R (Ok x) (Err refusal) = ⊥
Meets R (Err refusal) there = (refusal ≡ OutOfMemory) ⊎ (there ≡ Err refusal)
