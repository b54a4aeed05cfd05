-- Items of runs that do not overlap themselves are exchanged in one step: each is then what its counterpart was.
use Rattle.std.proofs.Common.{◌≡◌, ℕ, zero, suc, ◌+◌, ◌*◌, ◌<◌, ◌≤◌, ◌⊎◌, inl, inr, List, length, sym, ap, ◌∙◌, arith, subst, nat_abs, ◌+ℤ◌, ◌≤ℤ◌, ℤ, pos, unsigned_abs}
use Rattle.raw_block.proofs.Words.{ints, mul-le-mul_right, suc-mul, negsuc, place, position, item_at, put, copied, traded, EachWithin, not_negative, position-add, place_within}
use Rattle.raw_block.proofs.Copies.{copied-outside}
use Rattle.raw_block.proofs.Runs.{both}

-- items are apart if the steps are at least as long as they are
pub steps-apart : (len at : ℕ) (step : ℤ) (width n i j : ℕ) → EachWithin len at step width n → width ≤ unsigned_abs step → i < j → j < n → (place at step i + width ≤ place at step j) ⊎ (place at step j + width ≤ place at step i)
steps-apart len at (pos s) width n i j each wide less below =
    let more : suc i * s ≤ j * s = mul-le-mul_right s less in
    let one : suc i * s ≡ i * s + s = suc-mul i s ∙ omega arith in
    inl (omega (arith, ints))
steps-apart len at (negsuc s) width n i j each wide less below =
    let more : suc i * suc s ≤ j * suc s = mul-le-mul_right (suc s) less in
    let one : suc i * suc s ≡ i * suc s + suc s = suc-mul i (suc s) ∙ omega arith in
    let first = not_negative (position at (negsuc s) i) (each.each i (omega arith)).0 in
    let second = not_negative (position at (negsuc s) j) (each.each j below).0 in
    inr (omega (arith, ints))

-- n items of a run from the m-th on
module _ (len at : ℕ) (step : ℤ) (width all m : ℕ) (each : EachWithin len at step width all) where
  from_there : (k : ℕ) → m < all → position (place at step m) step k ≡ position at step (m + k)
  from_there k some = position-add at step m k (each.each m some).0

  pub rest_within : (n : ℕ) → n + m ≤ all → EachWithin len (place at step m) step width n
  rest_within n le = record {
    each = λ k low.
        let here = each.each (m + k) (omega arith) in let is = sym (from_there k (omega arith)) in
        (subst (λ p. pos 0 ≤ℤ p) is here.0, subst (λ p. (p +ℤ pos width) ≤ℤ pos len) is here.1);
  }

  pub rest_apart : (n k : ℕ) → n + m < all → width ≤ unsigned_abs step → k < n
      → (place at step (m + n) + width ≤ place (place at step m) step k) ⊎ (place (place at step m) step k + width ≤ place at step (m + n))
  rest_apart n k low wide less =
      let here : place (place at step m) step k ≡ place at step (m + k) = ap nat_abs (from_there k (omega arith)) in
      elim (steps-apart len at step width all (m + k) (m + n) each wide (omega arith) (omega arith)) [
        | inl before ↦ inr (omega (arith, before, here))
        | inr after ↦ inl (omega (arith, after, here))
      ]

module _ (a : ℕ) (a_step : ℤ) (b : ℕ) (b_step : ℤ) (width m all : ℕ) (bytes other first second : List ℕ) (in_a : EachWithin (length first) a a_step width all) (in_b : EachWithin (length second) b b_step width all)
    (wide_a : width ≤ unsigned_abs a_step) (wide_b : width ≤ unsigned_abs b_step) (now : ◌≡◌ {A = List ℕ × List ℕ} (first, second) (traded a a_step b b_step width m bytes other)) where
  abbrev firsts : ℕ → List ℕ
  firsts n = copied (place a a_step m) a_step second (place b b_step m) b_step width n first

  abbrev seconds : ℕ → List ℕ
  seconds n = copied (place b b_step m) b_step first (place a a_step m) a_step width n second

  -- after m pairs, the next n are exchanged by copying the items of each side to the other
  pub traded-more : (n : ℕ) → n + m ≤ all → traded a a_step b b_step width (n + m) bytes other ≡ both (firsts n) (seconds n)
  traded-more zero le = ap (λ k. traded a a_step b b_step width k bytes other) (omega arith) ∙ sym now
  traded-more (suc n) le =
      let low : m + n < all = omega arith in
      let to = rest_within (length first) a a_step width all m in_a n (omega arith) in
      let from = rest_within (length second) b b_step width all m in_b n (omega arith) in
      let kept_b = copied-outside (place b b_step m) b_step first (place a a_step m) a_step width second n (place b b_step (m + n)) width from to (place_within (length second) b b_step width all (m + n) in_b low) (λ k less. rest_apart (length second) b b_step width all m in_b n k (omega arith) wide_b less) in
      let kept_a = copied-outside (place a a_step m) a_step second (place b b_step m) b_step width first n (place a a_step (m + n)) width to from (place_within (length first) a a_step width all (m + n) in_a low) (λ k less. rest_apart (length first) a a_step width all m in_a n k (omega arith) wide_a less) in
      let at_a = sym (ap nat_abs (from_there (length first) a a_step width all m in_a n (omega arith))) in
      let at_b = sym (ap nat_abs (from_there (length second) b b_step width all m in_b n (omega arith))) in
      let next : ℕ → List ℕ × List ℕ → List ℕ × List ℕ = λ k now. both (put (place a a_step k) (item_at (place b b_step k) width now.1) now.0) (put (place b b_step k) (item_at (place a a_step k) width now.0) now.1) in
      let same : n + m ≡ m + n = omega arith in
      let more : suc n + m ≡ suc (n + m) = omega arith in
      ap (λ k. traded a a_step b b_step width k bytes other) more
      ∙ ap (next (n + m)) (traded-more n (omega arith))
      ∙ ap (λ k. next k (both (firsts n) (seconds n))) same
      ∙ (λ i. both (put (place a a_step (m + n)) (kept_b i) (firsts n)) (put (place b b_step (m + n)) (kept_a i) (seconds n)))
      ∙ (λ i. both (put (at_a i) (item_at (at_b i) width second) (firsts n)) (put (at_b i) (item_at (at_a i) width first) (seconds n)))
