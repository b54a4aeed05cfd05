-- The ranks of true bools.
use Rattle.std.proofs.Common.{◌≡◌, ◌⊎◌, inl, inr, ℕ, zero, suc, ◌+◌, ◌*◌, ◌/◌, ◌%◌, ◌^◌, ◌<◌, ◌≤◌, true, false, List, [], ◌∷◌, ◌++◌, map, length, get_or, set, take, drop, refl, sym, ap, subst, ◌∙◌, arith, append_assoc, cond, not, ℤ, pos, ◌*ℤ◌}
use Rattle.fancy_index.proofs.Words.{flat_map, count_by-le-length, int_eq, ints, map-map, get_or-map, length-map, get_or-drop, get_or-take, drop_more, map-append, sum_by-append, sum_by-cons, sum_by-drop_more, take-set, take_more_set, item_at, Descr, Byte, Int, Bytes, Items, item_from, items, numbers_in, offsets, truth, Run, run_offsets, length-run_offsets, ScalarDescr, RecordDescr, BoolScalar, Mask, kind_of, axes_of_kind, item_number, number_from, Bools, bool_at, bools_in, AreBits, LieInBytes, true_count, true_ranks}
use Rattle.fancy_index.proofs.RunLaws.{lies-there}

-- ---- the bools of a mask

pub mask-bool : (descr : Descr) (shape : List ℕ) → kind_of descr shape ≡ Mask → descr ≡ ScalarDescr BoolScalar
mask-bool (ScalarDescr BoolScalar) shape is = refl
mask-bool (ScalarDescr (Byte signed)) shape is = absurd (omega (arith, ap (λ k. axes_of_kind k []) is))
mask-bool (ScalarDescr (Int signed width order)) shape is = absurd (omega (arith, ap (λ k. axes_of_kind k []) is))
mask-bool (ScalarDescr (Bytes n)) shape is = absurd (omega (arith, ap (λ k. axes_of_kind k []) is))
mask-bool (RecordDescr record') shape is = absurd (omega (arith, ap (λ k. axes_of_kind k []) is))

first-byte : (xs : List ℕ) → get_or (take 1 xs) 0 0 ≡ get_or xs 0 0
first-byte [] = refl
first-byte (x ∷ xs) = refl

number-bool : (descr : Descr) (block : List ℕ) (offset : ℕ) → descr ≡ ScalarDescr BoolScalar → number_from descr block offset ≡ bool_at block offset
number-bool descr block offset is =
    let here : get_or (take 1 (take 1 (drop offset block))) 0 0 ≡ get_or block offset 0 =
    first-byte (take 1 (drop offset block)) ∙ first-byte (drop offset block) ∙ get_or-drop offset block 0 0 ∙ ap (λ k. get_or block k 0) (omega arith) in
    let number : get_or (take 1 (take 1 (drop offset block))) 0 0 + 256 * 0 ≡ get_or block offset 0 = omega (arith, here) in
    ap (λ d. number_from d block offset) is ∙ ap (λ n. pos (truth n)) number

pub numbers-are : (descr : Descr) (block offsets : List ℕ) → descr ≡ ScalarDescr BoolScalar → map (number_from descr block) offsets ≡ map (bool_at block) offsets
numbers-are descr block offsets is = λ i. map (λ offset. number-bool descr block offset is i) offsets

-- if items are the same, so are their numbers
pub numbers-same : (read mask : Items) → items read ≡ items mask → numbers_in read ≡ numbers_in mask
numbers-same read mask same =
    sym (map-map item_number (item_from read.descr.now read.block.now) (offsets read.layout.now)) ∙ ap (map item_number) same ∙ map-map item_number (item_from mask.descr.now mask.block.now) (offsets mask.layout.now)

-- ---- their ranks

either : (t : ℕ) → t ≤ 1 → (t ≡ 0) ⊎ (t ≡ 1)
either zero few = inl refl
either (suc n) few = inr (omega (arith, few))

rank-step : (number : ℤ) (numbers : List ℤ) (rank : ℕ) → (true_ranks rank (number ∷ numbers) ≡ true_ranks rank (number ∷ []) ++ true_ranks (rank + 1) numbers)
rank-step number numbers rank = by (int_eq number (pos 0)) refl
  where
    by : (zero' : _) → int_eq number (pos 0) ≡ zero' → true_ranks rank (number ∷ numbers) ≡ true_ranks rank (number ∷ []) ++ true_ranks (rank + 1) numbers
    by true is = rw is refl
    by false is = rw is refl

pub true_ranks-append : (front back : List ℤ) (rank : ℕ) → true_ranks rank (front ++ back) ≡ true_ranks rank front ++ true_ranks (rank + length front) back
true_ranks-append [] back rank = ap (λ r. true_ranks r back) (omega arith)
true_ranks-append (number ∷ front) back rank =
    let here = true_ranks rank (number ∷ []) in
    let next : rank + 1 + length front ≡ rank + length (number ∷ front) = omega arith in
    rank-step number (front ++ back) rank
    ∙ ap (λ l. here ++ l) (true_ranks-append front back (rank + 1))
    ∙ sym (append_assoc here (true_ranks (rank + 1) front) (true_ranks (rank + 1 + length front) back))
    ∙ (λ i. sym (rank-step number front rank) i ++ true_ranks (next i) back)

-- as many as there are true bools
pub length-true_ranks : (numbers : List ℤ) (rank : ℕ) → length (true_ranks rank numbers) ≡ true_count numbers
length-true_ranks [] rank = refl
length-true_ranks (number ∷ numbers) rank = by (length-true_ranks numbers (rank + 1)) (int_eq number (pos 0)) refl ∙ sym (sum_by-cons (λ number. cond (not (int_eq number (pos 0))) 1 0) number numbers)
  where
    by : length (true_ranks (rank + 1) numbers) ≡ true_count numbers → (zero' : _) → int_eq number (pos 0) ≡ zero' → length (true_ranks rank (number ∷ numbers)) ≡ cond (not (int_eq number (pos 0))) 1 0 + true_count numbers
    by later true is = rw is (omega (arith, later))
    by later false is = rw is (omega (arith, later))

pub few-true : (numbers : List ℤ) → true_count numbers ≤ length numbers
few-true numbers = count_by-le-length (λ number. not (int_eq number (pos 0))) numbers

-- one more bool is counted
pub counted : (numbers : List ℤ) (many k t : ℕ) → t ≤ 1 → k < length numbers → get_or numbers k (pos 0) ≡ pos t → many + t + true_count (drop (k + 1) numbers) ≡ many + true_count (drop k numbers)
counted numbers many k t few low is =
    let more = sum_by-drop_more (λ number. cond (not (int_eq number (pos 0))) 1 0) numbers k (pos 0) low in
    elim (either t few) as (λ _. many + t + true_count (drop (k + 1) numbers) ≡ many + true_count (drop k numbers)) [
      | inl none ↦ omega (arith, none, rw (is, none) at more)
      | inr one ↦ omega (arith, one, rw (is, one) at more)
    ]

-- the bools of the first of the remaining runs are counted
pub run_counted : (f : ℕ → ℤ) (run : Run) (left left' : List Run) → left ≡ run ∷ left' → true_count (map f (run_offsets run)) + true_count (map f (flat_map run_offsets left')) ≡ true_count (map f (flat_map run_offsets left))
run_counted f run left left' walked =
    sym (sum_by-append (λ number. cond (not (int_eq number (pos 0))) 1 0) (map f (run_offsets run)) (map f (flat_map run_offsets left')))
    ∙ ap true_count (sym (map-append f (run_offsets run) (flat_map run_offsets left')))
    ∙ ap (λ l. true_count (map f (flat_map run_offsets l))) (sym walked)

-- ---- loops over bools

-- The rank of one more bool is written, and is kept if the bool is true.
pub noted : (numbers : List ℤ) (found whole : List ℕ) (rank many k t : ℕ) → t ≤ 1 → k < length numbers → many < length found → get_or numbers k (pos 0) ≡ pos t →
    take many found ++ true_ranks (rank + k) (drop k numbers) ≡ whole → take (many + t) (set found many (rank + k)) ++ true_ranks (rank + (k + 1)) (drop (k + 1) numbers) ≡ whole
noted numbers found whole rank many k t few low room is so_far =
    let rest = true_ranks (rank + (k + 1)) (drop (k + 1) numbers) in
    let next : rank + k + 1 ≡ rank + (k + 1) = omega arith in
    let split : true_ranks (rank + k) (drop k numbers) ≡ true_ranks (rank + k) (pos t ∷ []) ++ rest =
    ap (true_ranks (rank + k)) (drop_more numbers k (pos 0) low ∙ ap (λ n. n ∷ drop (k + 1) numbers) is)
    ∙ rank-step (pos t) (drop (k + 1) numbers) (rank + k) ∙ ap (λ r. true_ranks (rank + k) (pos t ∷ []) ++ true_ranks r (drop (k + 1) numbers)) next in
    elim (either t few) as (λ _. take (many + t) (set found many (rank + k)) ++ rest ≡ whole) [
      | inl none ↦
          let here : true_ranks (rank + k) (pos t ∷ []) ≡ [] = ap (λ t. true_ranks (rank + k) (pos t ∷ [])) none in
          let same : many + t ≡ many = omega (arith, none) in
          ap (λ n. take n (set found many (rank + k)) ++ rest) same
          ∙ ap (λ l. l ++ rest) (take-set found many (rank + k))
          ∙ ap (λ l. take many found ++ (l ++ rest)) (sym here)
          ∙ ap (λ l. take many found ++ l) (sym split)
          ∙ so_far
      | inr one ↦
          let here : true_ranks (rank + k) (pos t ∷ []) ≡ (rank + k) ∷ [] = ap (λ t. true_ranks (rank + k) (pos t ∷ [])) one in
          let more : many + t ≡ many + 1 = omega (arith, one) in
          ap (λ n. take n (set found many (rank + k)) ++ rest) more
          ∙ ap (λ l. l ++ rest) (take_more_set found many (rank + k) room)
          ∙ append_assoc (take many found) ((rank + k) ∷ []) rest
          ∙ ap (λ l. take many found ++ (l ++ rest)) (sym here)
          ∙ ap (λ l. take many found ++ l) (sym split)
          ∙ so_far
    ]

-- a range in which no bool is true adds no rank
pub none_true : (numbers : List ℤ) (rank k n : ℕ) → k + n ≤ length numbers → ((j : ℕ) → k ≤ j → j < k + n → get_or numbers j (pos 0) ≡ pos 0) →
    true_ranks (rank + k) (drop k numbers) ≡ true_ranks (rank + (k + n)) (drop (k + n) numbers)
none_true numbers rank k zero fits none = ap (λ j. true_ranks (rank + j) (drop j numbers)) (omega arith)
none_true numbers rank k (suc n) fits none =
    let later : k + 1 + n ≡ k + suc n = omega arith in
    sym (noted numbers (0 ∷ []) _ rank 0 k 0 (omega arith) (omega (arith, fits)) (omega arith) (none k (omega arith) (omega arith)) refl)
    ∙ none_true numbers rank (k + 1) n (omega (arith, fits)) (λ j low high. none j (omega (arith, low)) (omega (arith, high)))
    ∙ ap (λ j. true_ranks (rank + j) (drop j numbers)) later

pub length-bools : (bools : Bools) → length (bools_in bools) ≡ bools.run.count
length-bools bools = length-map (run_offsets bools.run) (bool_at bools.bytes.now) ∙ length-run_offsets bools.run

-- the bool at a position
pub bool-there : (bools : Bools) (k offset : ℕ) → k < bools.run.count → offset ≡ get_or (run_offsets bools.run) k 0 → get_or (bools_in bools) k (pos 0) ≡ bool_at bools.bytes.now offset
bool-there bools k offset low is =
    get_or-map (bool_at bools.bytes.now) (run_offsets bools.run) k 0 (pos 0) (omega (arith, low, length-run_offsets bools.run)) ∙ ap (bool_at bools.bytes.now) (sym is)

-- a run of adjacent bools
module _ (bools : Bools) (lie : LieInBytes bools) (one : bools.run.step ≡ pos 1) (k : ℕ) (low : k < bools.run.count) where
  offset-after : bools.run.offset + k ≡ get_or (run_offsets bools.run) k 0
  offset-after = lies-there bools.run lie.limit k low (bools.run.offset + k) (omega (arith, ints, ap (λ step. step *ℤ pos k) one))

  pub byte-within : bools.run.offset + k < length bools.bytes.now
  byte-within = subst (λ (n : ℕ). n < length bools.bytes.now) (sym offset-after) (lie.inside k 0 (omega (arith, low, length-run_offsets bools.run)))

  pub bool-after : get_or (bools_in bools) k (pos 0) ≡ bool_at bools.bytes.now (bools.run.offset + k)
  bool-after = bool-there bools k (bools.run.offset + k) low offset-after

-- ---- sixteen bools at once

-- adjacent bools that were loaded together, and are the bits of a number
pub loaded-bits : (bools : Bools) → LieInBytes bools → bools.run.step ≡ pos 1 → (at n number : ℕ) (loaded : List ℕ) → loaded ≡ item_at (bools.run.offset + at) n bools.bytes.now → at + n ≤ bools.run.count → ((k : ℕ) → k < n → number / 2 ^ k % 2 ≡ truth (get_or loaded k 0)) →
    AreBits bools at n number
loaded-bits bools lie one at n number loaded is fits are k low =
    let bytes = bools.bytes.now in
    let start = bools.run.offset + at in
    let there : bools.run.offset + (at + k) ≡ start + k = omega arith in
    let byte : get_or loaded k 0 ≡ get_or bytes (start + k) 0 = ap (λ l. get_or l k 0) is ∙ get_or-take n (drop start bytes) k 0 low ∙ get_or-drop start bytes k 0 in
    bool-after bools lie one (at + k) (omega (arith, low, fits))
    ∙ ap (λ place. pos (truth (get_or bytes place 0))) there
    ∙ ap (λ b. pos (truth b)) (sym byte)
    ∙ ap pos (sym (are k low))

-- the ranks that were found are appended
pub found_added : (ranks ranks' found whole later later' : List ℕ) → ranks' ≡ ranks ++ found → found ++ later' ≡ later → ranks ++ later ≡ whole → ranks' ++ later' ≡ whole
found_added ranks ranks' found whole later later' added is so_far =
    ap (λ l. l ++ later') added ∙ append_assoc ranks found later' ∙ ap (λ l. ranks ++ l) is ∙ so_far

-- the bools of the first of the remaining runs
pub run_noted : (f : ℕ → ℤ) (run : Run) (left left' : List Run) (rank : ℕ) → left ≡ run ∷ left' →
    true_ranks rank (map f (run_offsets run)) ++ true_ranks (rank + run.count) (map f (flat_map run_offsets left')) ≡ true_ranks rank (map f (flat_map run_offsets left))
run_noted f run left left' rank walked =
    let long : run.count ≡ length (map f (run_offsets run)) = sym (length-map (run_offsets run) f ∙ length-run_offsets run) in
    ap (λ n. true_ranks rank (map f (run_offsets run)) ++ true_ranks (rank + n) (map f (flat_map run_offsets left'))) long
    ∙ sym (true_ranks-append (map f (run_offsets run)) (map f (flat_map run_offsets left')) rank)
    ∙ ap (true_ranks rank) (sym (map-append f (run_offsets run) (flat_map run_offsets left')))
    ∙ ap (λ l. true_ranks rank (map f (flat_map run_offsets l))) (sym walked)
