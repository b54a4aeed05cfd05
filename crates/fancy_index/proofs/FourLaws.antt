-- The ranks of four true bools at once: the tables, and bools as the bits of a number.
use Rattle.std.proofs.Common.{◌≡◌, ℕ, zero, suc, ◌+◌, ◌/◌, ◌%◌, ◌^◌, ◌<◌, ◌≤◌, true, false, cond, List, [], ◌∷◌, ◌++◌, map, length, get_or, take, drop, refl, sym, ap, subst, ◌∙◌, arith, length-take-le, ℤ, pos}
use Rattle.fancy_index.proofs.Words.{int_eq, range_with_len, put_chunk_is, Each1-get_or, get_or-range_with_len, take-map, length-take, length-map, take-append-le, drop_more, pow-add, take-append-add, div-one, div-div-eq-div-mul, put_chunk, bits, true_ranks, PLACES, COUNTS}
use Rattle.fancy_index.proofs.BoolLaws.{true_ranks-append}

-- ---- the tables

-- ranks that are moved on by `first`
moved : (f : ℕ → ℕ) (first rank : ℕ) (numbers : List ℤ) → ((k : ℕ) → k < rank + length numbers → f k ≡ first + k) → true_ranks (first + rank) numbers ≡ map f (true_ranks rank numbers)
moved f first rank [] moves = refl
moved f first rank (number ∷ numbers) moves =
    let here : first + rank ≡ f rank = sym (moves rank (omega arith)) in
    let later : true_ranks (first + rank + 1) numbers ≡ map f (true_ranks (rank + 1) numbers) = ap (λ r. true_ranks r numbers) (omega arith) ∙ moved f first (rank + 1) numbers (λ k low. moves k (omega (arith, low))) in
    elim (int_eq number (pos 0)) as (λ none. cond none (true_ranks (first + rank + 1) numbers) ((first + rank) ∷ true_ranks (first + rank + 1) numbers) ≡ map f (cond none (true_ranks (rank + 1) numbers) (rank ∷ true_ranks (rank + 1) numbers))) [
      | true ↦ later
      | false ↦ λ i. here i ∷ later i
    ]

abbrev pub wrapped : ℕ → ℕ → ℕ
wrapped a b = (a + b) % 2 ^ 32

abbrev pub places : ℕ → List ℕ
places row = get_or PLACES row []

abbrev count : ℕ → ℕ
count row = get_or COUNTS row 0

-- a row has four places, first those of the true bools
abbrev IsTabled : ℕ → Type 0
IsTabled row = (length (places row) ∷ count row ∷ take (count row) (places row)) ≡ (4 ∷ length (true_ranks 0 (bits 4 row)) ∷ true_ranks 0 (bits 4 row))

module _ (row : ℕ) (low : row < 16) where
  tabled : IsTabled row
  tabled =
      subst IsTabled (get_or-range_with_len 0 16 row 0 low ∙ omega arith)
      (Each1-get_or IsTabled (range_with_len 0 16) row 0 low (refl, (refl, (refl, (refl, (refl, (refl, (refl, (refl, (refl, (refl, (refl, (refl, (refl, (refl, (refl, (refl, tt)))))))))))))))))

  ranked : take (count row) (places row) ≡ true_ranks 0 (bits 4 row)
  ranked = ap (drop 2) tabled

  pub wide : length (places row) ≡ 4
  wide = ap (λ l. get_or l 0 0) tabled

  pub few : count row ≤ 4
  few = omega (arith, ap (λ l. get_or l 1 0) tabled, ap length ranked, length-take (count row) (places row), wide)

  -- four ranks are written, and those of the true bools are taken
  pub four_written : (f : ℕ → ℕ) (found ranks : List ℕ) (many first : ℕ) → ((k : ℕ) → k < 4 → f k ≡ first + k) → ranks ≡ map f (places row) → many + 4 ≤ length found →
      take (many + count row) (put_chunk many found ranks) ≡ take many found ++ true_ranks first (bits 4 row)
  four_written f found ranks many first moves are room =
      let long : length ranks ≡ 4 = ap length are ∙ length-map (places row) f ∙ wide in
      let rest = drop (length ranks) (drop many found) in
      let before : length (take many found) ≡ many = length-take-le many found (omega (arith, room)) in
      let start : first + 0 ≡ first = omega arith in
      ap (take (many + count row)) (put_chunk_is many found ranks (omega (arith, long, room)))
      ∙ ap (λ n. take (n + count row) (take many found ++ (ranks ++ rest))) (sym before)
      ∙ take-append-add (take many found) (ranks ++ rest) (count row)
      ∙ ap (λ l. take many found ++ l) (take-append-le (count row) ranks rest (omega (arith, few, long))
      ∙ ap (take (count row)) are ∙ take-map f (count row) (places row) ∙ ap (map f) ranked
      ∙ sym (moved f first 0 (bits 4 row) moves) ∙ ap (λ rank. true_ranks rank (bits 4 row)) start)

-- ---- bools that are the bits of a number

pub shifted : (number n k : ℕ) → number / 2 ^ (n + k) ≡ number / 2 ^ n / 2 ^ k
shifted number n k = ap (λ m. number / m) (pow-add 2 n k) ∙ sym (div-div-eq-div-mul number (2 ^ n) (2 ^ k))

-- bools that are the bits of a number
pub split_bits : (numbers : List ℤ) (n k number : ℕ) → k + n ≤ length numbers → ((j : ℕ) → j < n → get_or numbers (k + j) (pos 0) ≡ pos (number / 2 ^ j % 2)) → drop k numbers ≡ bits n number ++ drop (k + n) numbers
split_bits numbers zero k number fits are = ap (λ j. drop j numbers) (omega arith)
split_bits numbers (suc n) k number fits are =
    let here : get_or numbers k (pos 0) ≡ pos (number % 2) = ap (λ j. get_or numbers j (pos 0)) (omega arith) ∙ are 0 (omega arith) ∙ ap (λ m. pos (m % 2)) (div-one number) in
    let later : k + 1 + n ≡ k + suc n = omega arith in
    drop_more numbers k (pos 0) (omega (arith, fits))
    ∙ (λ i. here i ∷ split_bits numbers n (k + 1) (number / 2) (omega (arith, fits)) (λ j low.
    let next : k + 1 + j ≡ k + (1 + j) = omega arith in
    ap (λ m. get_or numbers m (pos 0)) next ∙ are (1 + j) (omega (arith, low)) ∙ ap (λ m. pos (m % 2)) (shifted number 1 j)) i)
    ∙ ap (λ j. bits (suc n) number ++ drop j numbers) later

-- the ranks of the next four bools, which are the lowest bits of a number
pub four_ranks : (numbers : List ℤ) (rank k number : ℕ) → k + 4 ≤ length numbers → ((j : ℕ) → j < 4 → get_or numbers (k + j) (pos 0) ≡ pos (number / 2 ^ j % 2)) →
    true_ranks (rank + k) (bits 4 (number % 16)) ++ true_ranks (rank + (k + 4)) (drop (k + 4) numbers) ≡ true_ranks (rank + k) (drop k numbers)
four_ranks numbers rank k number fits are =
    let rest = drop (k + 4) numbers in
    let a : number % 16 % 2 ≡ number % 2 = omega arith in
    let b : number % 16 / 2 % 2 ≡ number / 2 % 2 = omega arith in
    let c : number % 16 / 2 / 2 % 2 ≡ number / 2 / 2 % 2 = omega arith in
    let d : number % 16 / 2 / 2 / 2 % 2 ≡ number / 2 / 2 / 2 % 2 = omega arith in
    let later : rank + (k + 4) ≡ rank + k + 4 = omega arith in
    (λ i. true_ranks (rank + k) (pos (a i) ∷ pos (b i) ∷ pos (c i) ∷ pos (d i) ∷ []) ++ true_ranks (later i) rest)
    ∙ sym (true_ranks-append (bits 4 number) rest (rank + k))
    ∙ ap (true_ranks (rank + k)) (sym (split_bits numbers 4 k number fits are))

-- sixteen bools that are the bits of 0 add no rank
pub none_added : (numbers : List ℤ) (rank k number : ℕ) → k + 16 ≤ length numbers → ((j : ℕ) → j < 16 → get_or numbers (k + j) (pos 0) ≡ pos (number / 2 ^ j % 2)) → number ≡ 0 →
    true_ranks (rank + k) (drop k numbers) ≡ true_ranks (rank + (k + 16)) (drop (k + 16) numbers)
none_added numbers rank k number fits are none =
    let rest = drop (k + 16) numbers in
    ap (true_ranks (rank + k)) (split_bits numbers 16 k number fits are ∙ ap (λ n. bits 16 n ++ rest) none) ∙ ap (λ r. true_ranks r rest) (omega arith)
