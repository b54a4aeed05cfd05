-- The first of several runs, and pairs of first runs.
use Rattle.std.specs.Prelude.{◌≡◌, List, [], ◌∷◌, Option, Some, None, MatchOption}
use Rattle.shape_strides.specs.declared.runs.Run.{Run}
use Rattle.shape_strides.specs.declared.run_pairs.RunPair.{RunPair}

-- `head` is the first of the runs and `rest` those after it. If there are no runs, there is no head and no rest.
abbrev pub IsHead : Option Run → List Run → List Run → Type 0
IsHead head rest runs = MatchOption head ((runs ≡ []) × (rest ≡ [])) (λ run. runs ≡ run ∷ rest)

-- the pair of both runs, if there are two
abbrev pub both : Option Run → Option Run → Option RunPair
both (Some first) (Some second) = Some (record { first = first; second = second })
both _ _ = None
