-- Laws of concatenated items.
use Rattle.std.specs.Prelude.{◌≡◌, ℕ, ◌+◌, ◌*◌, ◌<◌, ◌≤◌, List, ◌++◌, length, take, drop, [], ◌∷◌, ℤ, pos}
use Rattle.std.proofs.Common.{zero, suc, inl, inr, refl, sym, ap, ◌∙◌, arith, append_assoc, append-nil, length-append, length-drop, get_or}
use Rattle.raw_block.specs.Words.{suc-mul, zero-mul, mul-le-mul_right, take-add, drop-append_seam, drop-append-le, take-append-le, take_all, drop-drop, flat_map}
use Rattle.raw_block.specs.Bytes.{item_at, place, joined}
use Rattle.raw_block.specs.ExchangeLaws.{last_or_before}

-- the number of their bytes
pub length-joined : (item : ℕ → List ℕ) (width n : ℕ) → ((k : ℕ) → k < n → length (item k) ≡ width) → length (joined item n) ≡ n * width
length-joined item width zero each = sym (zero-mul width)
length-joined item width (suc n) each =
    let before = length-joined item width n (λ k lt. each k (omega arith)) in let last = each n (omega arith) in
    length-append (joined item n) (item n) ∙ omega (arith, before, last, suc-mul n width)

-- an item is read back
pub item_of_joined : (item : ℕ → List ℕ) (width n k : ℕ) → ((j : ℕ) → j < n → length (item j) ≡ width) → k < n → item_at (k * width) width (joined item n) ≡ item k
item_of_joined item width zero k each lt = absurd (omega arith)
item_of_joined item width (suc n) k each lt =
    let front = joined item n in let long : length front ≡ n * width = length-joined item width n (λ j less. each j (omega arith)) in
    elim (last_or_before k n lt) [
      | inl before ↦
          let past : suc k * width ≤ n * width = mul-le-mul_right width before in let next = suc-mul k width in
          ap (take width) (drop-append-le (k * width) front (item n) (omega arith)) ∙ take-append-le width (drop (k * width) front) (item n) (omega (arith, length-drop (k * width) front))
          ∙ item_of_joined item width n k (λ j less. each j (omega arith)) before
      | inr last ↦
          let here : k * width ≡ length front = ap (λ m. m * width) last ∙ sym long in
          ap (λ m. take width (drop m (front ++ item n))) here ∙ ap (take width) (drop-append_seam front (item n)) ∙ take_all width (item n) (let w = each n (omega arith) in omega arith) ∙ ap item (sym last)
    ]

-- items that are concatenated in two parts
pub joined-add : (item : ℕ → List ℕ) (m n : ℕ) → joined item m ++ joined (λ k. item (m + k)) n ≡ joined item (m + n)
joined-add item m zero = let none : m ≡ m + 0 = omega arith in append-nil (joined item m) ∙ ap (joined item) none
joined-add item m (suc n) =
    let next : suc (m + n) ≡ m + suc n = omega arith in
    sym (append_assoc (joined item m) (joined (λ k. item (m + k)) n) (item (m + n))) ∙ ap (λ l. l ++ item (m + n)) (joined-add item m n) ∙ ap (joined item) next

-- items that are equal one by one give the same bytes
pub joined-same : (item other : ℕ → List ℕ) (n : ℕ) → ((k : ℕ) → k < n → item k ≡ other k) → joined item n ≡ joined other n
joined-same item other zero same = refl
joined-same item other (suc n) same = λ i. joined-same item other n (λ k lt. same k (omega arith)) i ++ same n (omega arith) i

-- bytes whose items are known are these items, concatenated
first_joined : (item : ℕ → List ℕ) (width n : ℕ) (bytes : List ℕ) → ((k : ℕ) → k < n → item_at (k * width) width bytes ≡ item k) → take (n * width) bytes ≡ joined item n
first_joined item width zero bytes each = let none : 0 * width ≡ 0 = zero-mul width in ap (λ m. take m bytes) none
first_joined item width (suc n) bytes each =
    let more : suc n * width ≡ n * width + width = suc-mul n width ∙ omega arith in
    ap (λ m. take m bytes) more ∙ take-add (n * width) width bytes ∙ (λ i. first_joined item width n bytes (λ k lt. each k (omega arith)) i ++ each n (omega arith) i)

pub all_joined : (item : ℕ → List ℕ) (width n : ℕ) (bytes : List ℕ) → length bytes ≡ n * width → ((k : ℕ) → k < n → item_at (k * width) width bytes ≡ item k) → bytes ≡ joined item n
all_joined item width n bytes long each = sym (take_all (n * width) bytes (omega arith)) ∙ first_joined item width n bytes each

-- the bytes of a run of adjacent items are those of its items, concatenated
pub joined_run : (at : ℕ) (step : ℤ) (width n : ℕ) (bytes : List ℕ) → step ≡ pos width → item_at at (n * width) bytes ≡ joined (λ k. item_at (place at step k) width bytes) n
joined_run at step width n bytes is =
    first_joined (λ k. item_at (place at (pos width) k) width bytes) width n (drop at bytes) (λ k _. ap (take width) (drop-drop (k * width) at bytes))
    ∙ ap (λ s. joined (λ k. item_at (place at s k) width bytes) n) (sym is)

pub joined_list : {X : Type 0} (f : X → List ℕ) (d : X) (xs : List X) → joined (λ k. f (get_or xs k d)) (length xs) ≡ flat_map f xs
joined_list f d [] = refl
joined_list f d (x ∷ xs) =
    let item = λ (k : ℕ). f (get_or (x ∷ xs) k d) in
    let one : suc (length xs) ≡ 1 + length xs = omega arith in
    let rest = joined-same (λ k. item (1 + k)) (λ k. f (get_or xs k d)) (length xs) (λ k low. let next : 1 + k ≡ suc k = omega arith in ap item next) in
    ap (joined item) one ∙ sym (joined-add item 1 (length xs)) ∙ ap (λ bytes. f x ++ bytes) (rest ∙ joined_list f d xs)
