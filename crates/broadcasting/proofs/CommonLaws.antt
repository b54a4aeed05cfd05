-- Laws of the common shape.
use Rattle.std.proofs.Common.{◌≡◌, ◌⊎◌, inl, inr, Result, Ok, Err, ℕ, ◌+◌, ◌<◌, ◌≤◌, List, [], ◌∷◌, map, length, drop, get_or, Bor, sym, ap, subst, ◌∙◌, arith}
use Rattle.broadcasting.proofs.Words.{drop_of_length-le, drop_more, length-map, get_or-map, Refusal, OutOfMemory, Gives, ◌>>=◌, shape_of, common_of_two, common_with, common_shape}

-- the shapes as borrowed values
abbrev pub seen : List (Bor (List ℕ)) → List (List ℕ)
seen shapes = map (λ s. s.now) shapes

-- The shape after the first k is the next one.
next-with : (lengths shape : List ℕ) (shapes : List (Bor (List ℕ))) (k : ℕ) (item : Bor (List ℕ)) → k < length shapes → item ≡ get_or shapes k item → shape ≡ item.now → common_with lengths (drop k (seen shapes)) ≡ common_of_two lengths shape >>= (λ common. common_with common (drop (k + 1) (seen shapes)))
next-with lengths shape shapes k item below is same =
    let inside : k < length (seen shapes) = omega (arith, length-map shapes (λ s. s.now)) in
    let here : get_or (seen shapes) k [] ≡ shape = get_or-map (λ s. s.now) shapes k item [] below ∙ ap (λ s. s.now) (sym is) ∙ sym same in
    ap (common_with lengths) (drop_more (seen shapes) k [] inside) ∙ ap (λ s. common_with lengths (s ∷ drop (k + 1) (seen shapes))) here

-- These lengths with the shapes after the first k have the same common lengths as all shapes.
abbrev pub IsCommonSoFar : List ℕ → List (Bor (List ℕ)) → ℕ → Type 0
IsCommonSoFar lengths shapes k = common_with lengths (drop k (seen shapes)) ≡ common_with [] (seen shapes)

pub common-more : (lengths before shape next : List ℕ) (shapes : List (Bor (List ℕ))) (k : ℕ) (item : Bor (List ℕ)) → k < length shapes → item ≡ get_or shapes k item → shape ≡ item.now → before ≡ lengths → common_of_two before shape ≡ Ok next → IsCommonSoFar lengths shapes k → IsCommonSoFar next shapes (k + 1)
common-more lengths before shape next shapes k item below is same is-before found far =
    sym (next-with lengths shape shapes k item below is same ∙ ap (λ r. r >>= (λ common. common_with common (drop (k + 1) (seen shapes)))) (ap (λ l. common_of_two l shape) (sym is-before) ∙ found)) ∙ far

common-err : (shapes : List (List ℕ)) (e : Refusal) → common_with [] shapes ≡ Err e → common_shape shapes ≡ Err e
unfolding common_shape
common-err shapes e is = rw is

common-ok : (shapes : List (List ℕ)) (lengths : List ℕ) → common_with [] shapes ≡ Ok lengths → common_shape shapes ≡ shape_of lengths
unfolding common_shape
common-ok shapes lengths is = rw is

pub common-refused : (lengths before shape : List ℕ) (e : Refusal) (shapes : List (Bor (List ℕ))) (k : ℕ) (item : Bor (List ℕ)) → k < length shapes → item ≡ get_or shapes k item → shape ≡ item.now → before ≡ lengths → (e ≡ OutOfMemory) ⊎ (common_of_two before shape ≡ Err e) → IsCommonSoFar lengths shapes k → (e ≡ OutOfMemory) ⊎ (common_shape (seen shapes) ≡ Err e)
common-refused lengths before shape e shapes k item below is same is-before (inl memory) far = inl memory
common-refused lengths before shape e shapes k item below is same is-before (inr found) far =
    inr (common-err (seen shapes) e (sym far ∙ next-with lengths shape shapes k item below is same ∙ ap (λ r. r >>= (λ common. common_with common (drop (k + 1) (seen shapes)))) (ap (λ l. common_of_two l shape) (sym is-before) ∙ found)))

common-all : (lengths : List ℕ) (shapes : List (Bor (List ℕ))) (k : ℕ) → length shapes ≤ k → IsCommonSoFar lengths shapes k → common_shape (seen shapes) ≡ shape_of lengths
common-all lengths shapes k past far =
    let none : drop k (seen shapes) ≡ [] = drop_of_length-le (seen shapes) (omega (arith, length-map shapes (λ s. s.now))) in
    common-ok (seen shapes) lengths (sym far ∙ ap (common_with lengths) none)

-- The shape with the common lengths of all shapes is their common shape.
pub finished : (lengths used : List ℕ) (shapes : List (Bor (List ℕ))) (k : ℕ) (result : Result (List ℕ) Refusal) → length shapes ≤ k → IsCommonSoFar lengths shapes k → used ≡ lengths → Gives (λ s. s) result (shape_of used) → Gives (λ s. s) result (common_shape (seen shapes))
finished lengths used shapes k result past far is given =
    subst (Gives (λ s. s) result) (ap shape_of is ∙ sym (common-all lengths shapes k past far)) given
