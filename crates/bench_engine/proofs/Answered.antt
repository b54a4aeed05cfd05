-- If a call is not refused, the definition gives a result too.
use Rattle.std.proofs.Common.{◌≡◌, refl, Result, Ok, Err}
use Rattle.bench_engine.proofs.Words.{Refusal, Meets}

pub met : {X Y : Type 0} (R : X → Y → Type 0) (x : X) (there : Result Y Refusal) → Meets R (Ok x) there → (y : Y) × (there ≡ Ok y) × R x y
met R x (Ok y) is = (y, refl, is)
met R x (Err refusal) is = absurd is
