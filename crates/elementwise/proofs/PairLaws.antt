-- Pairs of items of two lists, and the results on them, one after another.
use Rattle.std.proofs.Common.{◌≡◌, ◌<◌, ℕ, zero, suc, ℤ, List, [], ◌∷◌, ◌++◌, map, length, get_or, refl, sym, ap, ◌∙◌, arith, append_assoc, append-nil}
use Rattle.elementwise.proofs.Words.{concat, flat_map, place, joined, EachWithin, fewer, Run, RunPair, run_offsets, length-run_offsets, run_offsets-more, pairwise}

-- ---- pairs of two lists

pub length-pairwise : {A B : Type 0} (f : A → A → B) (xs ys : List A) → length xs ≡ length ys → length (pairwise f xs ys) ≡ length xs
length-pairwise f [] ys even = refl
length-pairwise f (x ∷ xs) [] even = absurd (omega (arith, even))
length-pairwise f (x ∷ xs) (y ∷ ys) even = omega (arith, length-pairwise f xs ys (omega (arith, even)))

pub pairwise-append : {A B : Type 0} (f : A → A → B) (xs ys xs' ys' : List A) → length xs ≡ length ys → pairwise f (xs ++ xs') (ys ++ ys') ≡ pairwise f xs ys ++ pairwise f xs' ys'
pairwise-append f [] [] xs' ys' even = refl
pairwise-append f [] (y ∷ ys) xs' ys' even = absurd (omega (arith, even))
pairwise-append f (x ∷ xs) [] xs' ys' even = absurd (omega (arith, even))
pairwise-append f (x ∷ xs) (y ∷ ys) xs' ys' even = ap (λ rest. f x y ∷ rest) (pairwise-append f xs ys xs' ys' (omega (arith, even)))

pub map-pairwise : {A B C : Type 0} (g : B → C) (f : A → A → B) (xs ys : List A) → map g (pairwise f xs ys) ≡ pairwise (λ x y. g (f x y)) xs ys
map-pairwise g f [] ys = refl
map-pairwise g f (x ∷ xs) [] = refl
map-pairwise g f (x ∷ xs) (y ∷ ys) = ap (λ rest. g (f x y) ∷ rest) (map-pairwise g f xs ys)

pub pairwise-map : {A B C : Type 0} (f : B → B → C) (g h : A → B) (xs ys : List A) → pairwise f (map g xs) (map h ys) ≡ pairwise (λ x y. f (g x) (h y)) xs ys
pairwise-map f g h [] ys = refl
pairwise-map f g h (x ∷ xs) [] = refl
pairwise-map f g h (x ∷ xs) (y ∷ ys) = ap (λ rest. f (g x) (h y) ∷ rest) (pairwise-map f g h xs ys)

pub get_or-pairwise : {A B : Type 0} (f : A → A → B) (xs ys : List A) (k : ℕ) (d : A) (e : B) → k < length xs → length xs ≡ length ys → get_or (pairwise f xs ys) k e ≡ f (get_or xs k d) (get_or ys k d)
get_or-pairwise f [] ys k d e below even = absurd (omega arith)
get_or-pairwise f (x ∷ xs) [] k d e below even = absurd (omega (arith, even))
get_or-pairwise f (x ∷ xs) (y ∷ ys) zero d e below even = refl
get_or-pairwise f (x ∷ xs) (y ∷ ys) (suc k) d e below even = get_or-pairwise f xs ys k d e (omega arith) (omega (arith, even))

-- ---- concatenation of items that are given by their index

concat-more : (xss : List (List ℕ)) (xs : List ℕ) → concat (xss ++ xs ∷ []) ≡ concat xss ++ xs
concat-more [] xs = append-nil xs
concat-more (ys ∷ xss) xs = ap (λ rest. ys ++ rest) (concat-more xss xs) ∙ sym (append_assoc ys (concat xss) xs)

-- `n` items at equal steps
abbrev run_of : ℕ → ℤ → ℕ → Run
run_of at step n = record { offset = at; count = n; step = step }

-- the results on two runs are those on the pairs of their offsets
pub joined_pairs : (make : ℕ → ℕ → List ℕ) (len len' at at' width width' n : ℕ) (step step' : ℤ) → EachWithin len at step width n → EachWithin len' at' step' width' n →
    joined (λ k. make (place at step k) (place at' step' k)) n ≡ concat (pairwise make (run_offsets (run_of at step n)) (run_offsets (run_of at' step' n)))
joined_pairs make len len' at at' width width' zero step step' first second = refl
joined_pairs make len len' at at' width width' (suc n) step step' first second =
    let xs = run_offsets (run_of at step n) in
    let ys = run_offsets (run_of at' step' n) in
    let x = place at step n in
    let y = place at' step' n in
    let even : length xs ≡ length ys = length-run_offsets (run_of at step n) ∙ sym (length-run_offsets (run_of at' step' n)) in
    ap (λ items. items ++ make x y) (joined_pairs make len len' at at' width width' n step step' (fewer len at step width n first) (fewer len' at' step' width' n second))
    ∙ sym (concat-more (pairwise make xs ys) (make x y))
    ∙ ap concat (sym (pairwise-append make xs ys (x ∷ []) (y ∷ []) even))
    ∙ λ i. concat (pairwise make (sym (run_offsets-more len at step width n first) i) (sym (run_offsets-more len' at' step' width' n second) i))

-- ---- pairs of runs

-- the offsets of all first items, and of all second items
abbrev pub firsts : List RunPair → List ℕ
firsts pairs = flat_map (λ pair. run_offsets pair.first) pairs

abbrev pub seconds : List RunPair → List ℕ
seconds pairs = flat_map (λ pair. run_offsets pair.second) pairs
