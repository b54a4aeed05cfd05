-- The result of saving a file in the store.
use Rattle.std.specs.Prelude.{◌≡◌, ℕ, List, Result, Ok, Err}
use Rattle.bench_engine.specs.Words.{Refusal, StoreState}
use Rattle.bench_engine.specs.Steps.{Stored, MayStore, store_refusal}

abbrev pub refused : Stored → Result (Unit {0}) Refusal
refused (Ok done) = Ok done
refused (Err fault) = Err (store_refusal fault)

-- the result reports some possible answer of the store
pub record Puts (old new : StoreState) (file bytes : List ℕ) (result : Result (Unit {0}) Refusal) : Type 0 where
  pub stored : Stored
  pub may : MayStore old new file bytes stored
  pub tells : result ≡ refused stored
