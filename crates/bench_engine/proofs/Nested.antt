-- Items that do not overlap have no more bytes than there are.
use Rattle.std.proofs.Common.{◌≡◌, ◌+◌, ◌*◌, ◌/◌, ◌<◌, ◌≤◌, ℕ, zero, suc, true, false, List, [], ◌∷◌, length, map, slice_index, All, inl, inr, sym, ap, subst, arith}
use Rattle.bench_engine.proofs.Words.{list_any, IsDistinct, AllByRecursion, length-map, ne_eqb, eqb_tells, length-le_from_distinct_below, eqb, lt-div-mul-add, div-mul-le_self, div-lt_iff_lt-mul, mul-le-mul_left, IsNested, distance}

-- offsets with the same quotient by the width are less than a width apart
close : (w o p : ℕ) → 1 ≤ w → o / w ≡ p / w → w ≤ distance o p → ⊥
close w o p some same far =
    let above : o < o / w * w + w = lt-div-mul-add some in
    let above' : p < p / w * w + w = lt-div-mul-add some in
    let below : o / w * w ≤ o = div-mul-le_self o w in
    let below' : p / w * w ≤ p = div-mul-le_self p w in
    let equal : o / w * w ≡ p / w * w = ap (λ q. q * w) same in
    omega (arith, above, above', below, below', equal, far)

differ : (w o : ℕ) (os : List ℕ) → 1 ≤ w → ((k : ℕ) → k < length os → w ≤ distance o (slice_index os k)) → AllByRecursion (λ q. eqb (o / w) q ≡ false) (map (λ p. p / w) os)
differ w o [] some far = tt
differ w o (p ∷ os) some far = (ne_eqb (o / w) (p / w) (λ same. close w o p some same (far zero (omega arith))), differ w o os some (λ k low. far (suc k) (omega (arith, low))))

distinct : (w : ℕ) (os : List ℕ) → 1 ≤ w → IsNested os w → IsDistinct eqb (map (λ p. p / w) os)
unfolding IsDistinct
distinct w [] some nested = tt
distinct w (o ∷ os) some nested = (
  differ w o os some (λ k low. nested.apart zero (suc k) (omega arith) (omega (arith, low))),
  distinct w os some (record { apart = λ j k less low. nested.apart (suc j) (suc k) (omega (arith, less)) (omega (arith, low)) }),
)

place-below : (w len o : ℕ) → 1 ≤ w → o + w ≤ len → o / w < len / w
place-below w len o some within =
    let above : len < len / w * w + w = lt-div-mul-add some in
    (div-lt_iff_lt-mul {k = w} {x = o} {y = len / w} some).1 (omega (arith, above, within))

below : (w len : ℕ) (os : List ℕ) (q : ℕ) → 1 ≤ w → All (λ o. o + w ≤ len) os → list_any (eqb q) (map (λ p. p / w) os) ≡ true → q < len / w
below w len [] q some within there = absurd (let none : false ≡ true = there in cc)
below w len (o ∷ os) q some within there =
    elim (eqb_tells q (o / w)) as (λ _. q < len / w) [
      | inl is ↦ subst (λ n. n < len / w) (sym is.1) (place-below w len o some (within zero zero (omega arith)))
      | inr is ↦ below w len os q some (λ k d low. within (suc k) d (omega (arith, low))) (rw is.0 at there)
    ]

-- items of `w` bytes that lie within `len` bytes and do not overlap have at most `len` bytes
pub nested-fits : (w len : ℕ) (os : List ℕ) → 1 ≤ w → All (λ o. o + w ≤ len) os → IsNested os w → length os * w ≤ len
nested-fits w len os some within nested =
    let few : length (map (λ p. p / w) os) ≤ len / w = length-le_from_distinct_below (map (λ p. p / w) os) (len / w) (distinct w os some nested) (λ q there. below w len os q some within there) in
    let few' : length os ≤ len / w = omega (arith, few, length-map os (λ p. p / w)) in
    let scaled : w * length os ≤ w * (len / w) = mul-le-mul_left w few' in
    let all : len / w * w ≤ len = div-mul-le_self len w in
    let turned : w * length os ≡ length os * w = omega arith in
    let turned' : w * (len / w) ≡ len / w * w = omega arith in
    omega (arith, scaled, all, turned, turned')
