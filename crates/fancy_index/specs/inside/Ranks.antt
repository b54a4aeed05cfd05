-- How ranks are turned into offsets, run by run.
use Rattle.std.specs.Prelude.{◌≡◌, ◌≤◌, ℕ, List, [], ◌∷◌, map, length, get_or, drop, All}
use Rattle.fancy_index.specs.Words.{flat_map, LieWithin, offsets, max_bytes, run_offsets}
use Rattle.fancy_index.specs.declared.rank_offsets.RunAt.{RunAt}

-- the offsets of the items with these ranks
abbrev pub led : List ℕ → List ℕ → List ℕ
led offsets ranks = map (λ rank. get_or offsets rank 0) ranks

-- the current run and the later ones have the items from the rank `first` on
pub record IsAtRun (at : RunAt) : Type 0 where
  pub low : at.first ≤ length (offsets at.layout.now)
  pub left : flat_map run_offsets (at.run ∷ at.later) ≡ drop at.first (offsets at.layout.now)
  pub lie : All (λ run. LieWithin (run.count ∷ []) (run.step ∷ []) run.offset max_bytes 1) (at.run ∷ at.later)
