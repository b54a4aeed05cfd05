-- The result of loading a file from the store.
use Rattle.std.specs.Prelude.{ℕ, List, Result}
use Rattle.bench_engine.specs.Words.{Refusal, Owned, StoreState, Loads}
use Rattle.bench_engine.specs.Steps.{Found, MayFind, loaded}

-- The result is what some possible answer of the store gives.
pub record Finds (old new : StoreState) (file : List ℕ) (result : Result (Owned × ℕ) Refusal) : Type 0 where
  pub found : Found
  pub may : MayFind old new file found
  pub loads : Loads result (loaded found)
