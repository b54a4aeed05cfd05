-- Adjacent items, whose bytes are written as one range.
use Rattle.std.proofs.Common.{◌≡◌, ℕ, zero, suc, ◌+◌, ◌-◌, ◌*◌, ◌<◌, ◌≤◌, List, [], ◌++◌, length, take, drop, get_or, inr, refl, sym, ap, ◌∙◌, subst, arith, append_assoc, length-append, length-take, ℤ, pos}
use Rattle.raw_block.proofs.Words.{suc-mul, mul-suc, mul-zero, mul-le-mul_left, take-add, drop-append-add, take-append-drop, drop-drop, drop-take, take-take, first_chunks, place, EachWithin, put, item_at, copied, filled, traded, place_within, length-item_at, item_at-put_apart, item_of_chunks}
use Rattle.std.proofs.lemmas.List.{take_at}

-- all of the items lie within `len` bytes
pub run_within : (len at : ℕ) (step : ℤ) (width n : ℕ) → 0 < n → step ≡ pos width → EachWithin len at step width n → at + n * width ≤ len
run_within len at step width zero some is h = absurd (omega arith)
run_within len at step width (suc m) some is h =
    let along : EachWithin len at (pos width) width (suc m) = subst (λ s. EachWithin len at s width (suc m)) is h in
    let last : at + m * width + width ≤ len = place_within len at (pos width) width (suc m) m along (omega arith) in
    omega (arith, suc-mul m width)

-- writing no bytes changes nothing
put-nothing : (at : ℕ) (bytes : List ℕ) → put at [] bytes ≡ bytes
put-nothing at bytes =
    let none : at + 0 ≡ at = omega arith in let regroup : take at bytes ++ [] ++ drop at bytes ≡ take at bytes ++ drop at bytes = append_assoc (take at bytes) [] (drop at bytes) in
    ap (λ k. take at bytes ++ [] ++ drop k bytes) none ∙ regroup ∙ take-append-drop at bytes

-- writing one item right after another is writing both as one
pub put_twice : (at : ℕ) (xs ys bytes : List ℕ) → at + length xs + length ys ≤ length bytes → put (at + length xs) ys (put at xs bytes) ≡ put at (xs ++ ys) bytes
put_twice at xs ys bytes le =
    let m = at + length xs in let front = take at bytes ++ xs in let rest = drop m bytes in
    let long : length front ≡ m = omega (arith, length-append (take at bytes) xs, length-take at bytes) in
    let end : m + length ys ≡ at + length (xs ++ ys) = omega (arith, length-append xs ys) in
    let after : drop (m + length ys) (front ++ rest) ≡ drop (at + length (xs ++ ys)) bytes =
    ap (λ k. drop (k + length ys) (front ++ rest)) (sym long) ∙ drop-append-add front rest (length ys) ∙ drop-drop (length ys) m bytes ∙ ap (λ k. drop k bytes) end in
    (λ i. take_at front rest m long i ++ ys ++ after i) ∙ ap (λ l. l ++ drop (at + length (xs ++ ys)) bytes) (append_assoc (take at bytes) xs ys)

-- two adjacent items are read as one
item_at-add : (at m n : ℕ) (bytes : List ℕ) → item_at at m bytes ++ item_at (at + m) n bytes ≡ item_at at (m + n) bytes
item_at-add at m n bytes = ap (λ l. item_at at m bytes ++ take n l) (sym (drop-drop m at bytes)) ∙ sym (take-add m n (drop at bytes))

-- one more item, read right after those that were written
module _ (dst src m width : ℕ) (other bytes : List ℕ) (to : dst + m + width ≤ length bytes) (from : src + m + width ≤ length other) where
  put_next : put (dst + m) (item_at (src + m) width other) (put dst (item_at src m other) bytes) ≡ put dst (item_at src (m + width) other) bytes
  put_next =
      let xs = item_at src m other in let ys = item_at (src + m) width other in
      let count : length xs ≡ m = length-item_at src m other (omega arith) in let count' : length ys ≡ width = length-item_at (src + m) width other (omega arith) in
      ap (λ k. put (dst + k) ys (put dst xs bytes)) (sym count) ∙ put_twice dst xs ys bytes (omega arith) ∙ ap (λ l. put dst l bytes) (item_at-add src m width other)

pub copied-run : (dst : ℕ) (other : List ℕ) (src width n : ℕ) (bytes : List ℕ) → dst + n * width ≤ length bytes → src + n * width ≤ length other
    → copied dst (pos width) other src (pos width) width n bytes ≡ put dst (item_at src (n * width) other) bytes
copied-run dst other src width zero bytes to from =
    let none : 0 ≡ 0 * width = omega arith in sym (put-nothing dst bytes) ∙ ap (λ k. put dst (item_at src k other) bytes) none
copied-run dst other src width (suc n) bytes to from =
    let m = n * width in let more : suc n * width ≡ m + width = suc-mul n width ∙ omega arith in
    ap (put (dst + m) (item_at (src + m) width other)) (copied-run dst other src width n bytes (omega (arith, more)) (omega (arith, more)))
    ∙ put_next dst src m width other bytes (omega (arith, more)) (omega (arith, more)) ∙ ap (λ k. put dst (item_at src k other) bytes) (sym more)

abbrev pub both : List ℕ → List ℕ → List ℕ × List ℕ
both xs ys = (xs, ys)

-- exchanging adjacent items of two lists is exchanging one range of each
module _ (a b width : ℕ) where
  -- the next item is unchanged by writing the items below it
  next_kept : (at m : ℕ) (item bytes : List ℕ) → length item ≡ m → at + m + width ≤ length bytes → item_at (at + m) width (put at item bytes) ≡ item_at (at + m) width bytes
  next_kept at m item bytes long le = item_at-put_apart at item bytes (at + m) width (omega (arith, long)) le (inr (omega (arith, long)))

  pub traded-run : (n : ℕ) (bytes other : List ℕ) → a + n * width ≤ length bytes → b + n * width ≤ length other
      → ◌≡◌ {A = List ℕ × List ℕ} (traded a (pos width) b (pos width) width n bytes other) (put a (item_at b (n * width) other) bytes, put b (item_at a (n * width) bytes) other)
  traded-run zero bytes other to from =
      let none : 0 ≡ 0 * width = omega arith in
      (λ i. (sym (put-nothing a bytes) i, sym (put-nothing b other) i)) ∙ (λ i. (put a (item_at b (none i) other) bytes, put b (item_at a (none i) bytes) other))
  traded-run (suc n) bytes other to from =
      let m = n * width in let more : suc n * width ≡ m + width = suc-mul n width ∙ omega arith in
      let xs = item_at b m other in let ys = item_at a m bytes in
      let in_a : a + m + width ≤ length bytes = omega (arith, more) in let in_b : b + m + width ≤ length other = omega (arith, more) in
      let far = next_kept b m ys other (length-item_at a m bytes (omega (arith, in_a))) in_b in
      let near = next_kept a m xs bytes (length-item_at b m other (omega (arith, in_b))) in_a in
      ap (λ (now : List ℕ × List ℕ). both (put (a + m) (item_at (b + m) width now.1) now.0) (put (b + m) (item_at (a + m) width now.0) now.1)) (traded-run n bytes other (omega (arith, in_a)) (omega (arith, in_b)))
      ∙ (λ i. (put (a + m) (far i) (put a xs bytes), put (b + m) (near i) (put b ys other)))
      ∙ (λ i. (put_next a b m width other bytes in_a in_b i, put_next b a m width bytes other in_b in_a i))
      ∙ (λ i. (put a (item_at b (sym more i) other) bytes, put b (item_at a (sym more i) bytes) other))

pub item_of_run : (width at n m k : ℕ) (bytes : List ℕ) (run : List (List ℕ)) → run ≡ first_chunks width m (take (at + width * n - at) (drop at bytes)) → n ≤ m → k < n → get_or run k [] ≡ item_at (at + width * k) width bytes
item_of_run width at n m k bytes run is enough lt =
    let here = width * k in let left = width * n - here in let within : width * suc k ≤ width * n = mul-le-mul_left width lt in
    let next : width * suc k ≡ here + width = omega (arith, mul-suc width k) in
    let all : at + width * n - at ≡ here + left = omega (arith, within, next) in
    ap (λ l. get_or l k []) is ∙ item_of_chunks width m k (take (at + width * n - at) (drop at bytes)) (omega (arith, enough, lt))
    ∙ ap (λ j. take width (drop here (take j (drop at bytes)))) all ∙ ap (take width) (drop-take here left (drop at bytes))
    ∙ take-take width left (drop here (drop at bytes)) (omega (arith, within, next)) ∙ ap (take width) (drop-drop here at bytes)

-- copies of one item
same_place : (at k : ℕ) → place at (pos 0) k ≡ at
same_place at k = let none : k * 0 ≡ 0 = mul-zero k in omega (arith, none)

pub copied-one : (dst : ℕ) (step : ℤ) (other : List ℕ) (src width n : ℕ) (bytes : List ℕ) → filled dst step (item_at src width other) n bytes ≡ copied dst step other src (pos 0) width n bytes
copied-one dst step other src width zero bytes = refl
copied-one dst step other src width (suc n) bytes = λ i. put (place dst step n) (item_at (sym (same_place src n) i) width other) (copied-one dst step other src width n bytes i)
