-- Adjacent items that are copied as one range.
use Rattle.std.proofs.Common.{◌≡◌, ◌+◌, ◌-◌, ◌*◌, ◌≤◌, ◌==◌, ℕ, true, List, [], ◌∷◌, length, map, take, drop, refl, sym, ap, ◌∙◌, All, arith, zero-mul, mul-zero, suc-mul}
use Rattle.arrays.proofs.Words.{range_with_len, eqb-true, and_parts, drop-drop, drop-take, take-take, All-head, All-tail, mul-suc, item_at, first_address, is_c_contiguous, multiples}

-- an item of the range is an item of the bytes
stretch-item : (first at width len : ℕ) (bytes : List ℕ) → at + width ≤ len → item_at at width (item_at first len bytes) ≡ item_at (first + at) width bytes
stretch-item first at width len bytes inside =
    let rest : at + (len - at) ≡ len = omega (arith, inside) in
    ap (λ n. take width (drop at (take n (drop first bytes)))) (sym rest)
    ∙ ap (take width) (drop-take at (len - at) (drop first bytes))
    ∙ take-take width (len - at) (drop at (drop first bytes)) (omega (arith, inside))
    ∙ ap (take width) (drop-drop at first bytes)

module _ (width first len : ℕ) (bytes : List ℕ) where
  abbrev stretch : List ℕ
  stretch = item_at first len bytes

  from-place : (k a : ℕ) (os : List ℕ) → a ≡ first + width * k → is_c_contiguous width (a ∷ os) ≡ true → width * k + length (a ∷ os) * width ≤ len
      → map (λ o. item_at o width stretch) (map (λ j. width * j) (range_with_len k (length (a ∷ os)))) ≡ map (λ o. item_at o width bytes) (a ∷ os)
  from-place k a [] is test ends =
      let here : width * k + width ≤ len = omega (arith, ends, suc-mul 0 width) in
      λ i. (stretch-item first (width * k) width len bytes here ∙ ap (λ o. item_at o width bytes) (sym is)) i ∷ []
  from-place k a (b ∷ os) is test ends =
      let here : width * k + width ≤ len = omega (arith, ends, suc-mul (length (b ∷ os)) width) in
      let parts = and_parts (b == a + width) (is_c_contiguous width (b ∷ os)) test in
      let next : b ≡ first + width * (k + 1) = omega (arith, eqb-true b (a + width) parts.0, is, mul-suc width k) in
      let rest : width * (k + 1) + length (b ∷ os) * width ≤ len = omega (arith, ends, suc-mul (length (b ∷ os)) width, mul-suc width k) in
      λ i. (stretch-item first (width * k) width len bytes here ∙ ap (λ o. item_at o width bytes) (sym is)) i ∷ from-place (k + 1) b os next parts.1 rest i

-- the last item ends within the bytes
stretch-ends : (width a end : ℕ) (os : List ℕ) → is_c_contiguous width (a ∷ os) ≡ true → All (λ o. o + width ≤ end) (a ∷ os) → a + length (a ∷ os) * width ≤ end
stretch-ends width a end [] test all = omega (arith, All-head (λ o. o + width ≤ end) a [] all, suc-mul 0 width)
stretch-ends width a end (b ∷ os) test all =
    let parts = and_parts (b == a + width) (is_c_contiguous width (b ∷ os)) test in
    omega (arith, eqb-true b (a + width) parts.0, stretch-ends width b end os parts.1 (All-tail (λ o. o + width ≤ end) a (b ∷ os) all), suc-mul (length (b ∷ os)) width)

-- adjacent items are one range of the bytes
pub whole-ends : (width end : ℕ) (os : List ℕ) → is_c_contiguous width os ≡ true → All (λ o. o + width ≤ end) os → first_address os + length os * width ≤ end
whole-ends width end [] test all = omega (arith, zero-mul width)
whole-ends width end (a ∷ os) test all = stretch-ends width a end os test all

-- and the items of this range are these items
pub whole-items : (width : ℕ) (os bytes : List ℕ) → is_c_contiguous width os ≡ true
    → map (λ o. item_at o width (item_at (first_address os) (length os * width) bytes)) (multiples width (length os)) ≡ map (λ o. item_at o width bytes) os
whole-items width [] bytes test = refl
whole-items width (a ∷ os) bytes test =
    from-place width a (length (a ∷ os) * width) bytes 0 a os (omega (arith, mul-zero width)) test (omega (arith, mul-zero width))
