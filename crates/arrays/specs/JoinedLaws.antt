-- Laws of concatenated items.
use Rattle.std.specs.Prelude.{◌≡◌, ◌+◌, ◌*◌, ◌≤◌, List, ◌∷◌, ◌++◌, map, length}
use Rattle.std.proofs.Common.{ℕ, zero, suc, [], All, take, refl, sym, ap, ◌∙◌, arith, zero-mul, mul-zero, suc-mul, append_assoc, append-nil, length-append}
use Rattle.arrays.specs.Words.{flat_map, range_with_len, mul-suc, take-append_seam, drop-append_seam, flat_map-append, All-head, All-tail, place, item_at, joined, EachWithin, length-item_at, fewer, Run, multiples, run_offsets}
use Rattle.arrays.specs.Joined.{joined_at}
use Rattle.arrays.specs.RunLaws.{run_offsets-more}

-- the parts made from the items of a run are the same, concatenated by number or by offset
pub joined-by : (f : ℕ → List ℕ) (len width : ℕ) (run : Run) → EachWithin len run.offset run.step width run.count → joined (λ k. f (place run.offset run.step k)) run.count ≡ flat_map f (run_offsets run)
joined-by f len width run within = by_count run.count within
  where
    by_count : (n : ℕ) → EachWithin len run.offset run.step width n → joined (λ k. f (place run.offset run.step k)) n ≡ flat_map f (run_offsets (record { offset = run.offset; count = n; step = run.step }))
    by_count zero within = refl
    by_count (suc n) within =
        let last = place run.offset run.step n in
        let before = run_offsets (record { offset = run.offset; count = n; step = run.step }) in
        ap (λ l. l ++ f last) (by_count n (fewer len run.offset run.step width n within))
        ∙ ap (λ l. flat_map f before ++ l) (sym (append-nil (f last)))
        ∙ sym (flat_map-append f before (last ∷ []))
        ∙ ap (flat_map f) (sym (run_offsets-more len run.offset run.step width n within))

pub joined-offsets : (len width : ℕ) (run : Run) (block : List ℕ) → EachWithin len run.offset run.step width run.count
    → joined (λ k. item_at (place run.offset run.step k) width block) run.count ≡ joined_at (run_offsets run) width block
joined-offsets len width run block within = joined-by (λ o. item_at o width block) len width run within

-- the number of bytes of concatenated items
pub length-joined_at : (width : ℕ) (os block : List ℕ) → All (λ o. o + width ≤ length block) os → length (joined_at os width block) ≡ length os * width
length-joined_at width [] block inside = sym (zero-mul width)
length-joined_at width (o ∷ os) block inside =
    let ends = λ (o : ℕ). o + width ≤ length block in
    length-append (item_at o width block) (joined_at os width block)
    ∙ omega (arith, length-item_at o width block (All-head ends o os inside), length-joined_at width os block (All-tail ends o os inside), suc-mul (length os) width)

-- each item is read back
pub joined-items : (width : ℕ) (os block : List ℕ) → All (λ o. o + width ≤ length block) os → map (λ o. item_at o width (joined_at os width block)) (multiples width (length os)) ≡ map (λ o. item_at o width block) os
joined-items width os block inside = behind [] 0 os (omega (arith, mul-zero width)) inside
  where
    ends : ℕ → Type 0
    ends o = o + width ≤ length block

    behind : (front : List ℕ) (k : ℕ) (os : List ℕ) → length front ≡ width * k → All (λ o. o + width ≤ length block) os
        → map (λ o. item_at o width (front ++ joined_at os width block)) (map (λ j. width * j) (range_with_len k (length os))) ≡ map (λ o. item_at o width block) os
    behind front k [] is inside = refl
    behind front k (o ∷ os) is inside =
        let item = item_at o width block in let rest = joined_at os width block in
        let long : length item ≡ width = length-item_at o width block (All-head (λ o. o + width ≤ length block) o os inside) in
        let here : item_at (width * k) width (front ++ (item ++ rest)) ≡ item =
        ap (λ n. item_at n width (front ++ (item ++ rest))) (sym is) ∙ ap (take width) (drop-append_seam front (item ++ rest)) ∙ ap (λ n. take n (item ++ rest)) (sym long) ∙ take-append_seam item rest in
        let later = behind (front ++ item) (k + 1) os (length-append front item ∙ omega (arith, is, long, mul-suc width k)) (All-tail (λ o. o + width ≤ length block) o os inside) in
        λ i. here i ∷ (ap (λ l. map (λ o. item_at o width l) (map (λ j. width * j) (range_with_len (k + 1) (length os)))) (sym (append_assoc front item rest)) ∙ later) i
