-- Loops over axes.
use Rattle.std.proofs.Common.{◌≡◌, ℕ, ◌+◌, ◌<◌, List, [], ◌∷◌, ◌++◌, map, length, drop, sym, ap, ◌∙◌, append_assoc}
use Rattle.fancy_index.proofs.Words.{drop_more}

-- the loop appends an item for one more axis
pub filled_more : {A : Type 0} (a : A) (axes : List ℕ) (k : ℕ) (done new whole : List A) → k < length axes → new ≡ done ++ a ∷ [] → done ++ map (λ _. a) (drop k axes) ≡ whole → new ++ map (λ _. a) (drop (k + 1) axes) ≡ whole
filled_more a axes k done new whole low is so_far =
    ap (λ l. l ++ map (λ _. a) (drop (k + 1) axes)) is
    ∙ append_assoc done (a ∷ []) (map (λ _. a) (drop (k + 1) axes))
    ∙ ap (λ l. done ++ map (λ _. a) l) (sym (drop_more axes k 0 low))
    ∙ so_far
