-- Blocks of items.
use Rattle.std.proofs.Common.{◌≡◌, ◌+◌, ◌*◌, ◌≤◌, ℕ, zero, suc, List, [], ◌∷◌, ◌++◌, length, take, drop, map, sym, ap, ◌∙◌, refl, arith, length-take}
use Rattle.literal_items.proofs.Words.{suc-mul, drop-drop, drop-take, take-take, take_at, drop_at, map-append, blocks}

-- blocks depend only on the bytes in them
pub blocks-front : {A : Type 0} (size n : ℕ) (xs ys : List A) → take (n * size) xs ≡ take (n * size) ys → blocks size n xs ≡ blocks size n ys
blocks-front size zero xs ys same = refl
blocks-front size (suc n) xs ys same =
    let whole : suc n * size ≡ size + n * size = suc-mul n size ∙ omega arith in
    let split = ap (λ k. take k xs) (sym whole) ∙ same ∙ ap (λ k. take k ys) whole in
    let front = sym (take-take size (size + n * size) xs (omega arith)) ∙ ap (take size) split ∙ take-take size (size + n * size) ys (omega arith) in
    let back = sym (drop-take size (n * size) xs) ∙ ap (drop size) split ∙ drop-take size (n * size) ys in
    λ i. front i ∷ blocks-front size n (drop size xs) (drop size ys) back i

-- one more block
pub blocks-push : {A : Type 0} (size n : ℕ) (xs : List A) → blocks size (n + 1) xs ≡ blocks size n xs ++ take size (drop (n * size) xs) ∷ []
blocks-push size zero xs =
    let none : 0 ≡ 0 * size = omega arith in
    ap (λ k. take size (drop k xs) ∷ []) none
blocks-push size (suc n) xs =
    let more : suc n + 1 ≡ suc (n + 1) = omega arith in
    let whole : size + n * size ≡ suc n * size = omega (arith, suc-mul n size) in
    ap (λ k. blocks size k xs) more
    ∙ ap (λ back. take size xs ∷ back) (blocks-push size n (drop size xs))
    ∙ ap (λ last. take size xs ∷ (blocks size n (drop size xs) ++ take size last ∷ [])) (drop-drop (n * size) size xs ∙ ap (λ k. drop k xs) whole)

-- an item is put after `n` blocks
pub blocks-put : {A : Type 0} (size n at : ℕ) (xs item rest : List A) → at ≡ n * size → at ≤ length xs → length item ≡ size → blocks size (n + 1) (take at xs ++ (item ++ rest)) ≡ blocks size n xs ++ item ∷ []
blocks-put size n at xs item rest is within whole =
    let long : length (take at xs) ≡ n * size = length-take at xs ∙ omega arith in
    let front : take (n * size) (take at xs ++ (item ++ rest)) ≡ take (n * size) xs = take_at (take at xs) (item ++ rest) (n * size) long ∙ ap (λ k. take k xs) is in
    let last : take size (drop (n * size) (take at xs ++ (item ++ rest))) ≡ item = ap (take size) (drop_at (take at xs) (item ++ rest) (n * size) long) ∙ take_at item rest size whole in
    blocks-push size n (take at xs ++ (item ++ rest))
    ∙ (λ i. blocks-front size n (take at xs ++ (item ++ rest)) xs front i ++ last i ∷ [])

-- what was read of the blocks so far, with one more item
pub map-blocks-put : {A B : Type 0} (f : List A → B) (size n at : ℕ) (xs item rest : List A) (so_far : List B) (next : B) → at ≡ n * size → at ≤ length xs → length item ≡ size → map f (blocks size n xs) ≡ so_far → f item ≡ next → map f (blocks size (n + 1) (take at xs ++ (item ++ rest))) ≡ so_far ++ next ∷ []
map-blocks-put f size n at xs item rest so_far next is within whole before here =
    ap (map f) (blocks-put size n at xs item rest is within whole)
    ∙ map-append f (blocks size n xs) (item ∷ [])
    ∙ (λ i. before i ++ here i ∷ [])
