-- Adjacent items that are written: they are read back, and all other bytes are unchanged.
use Rattle.std.proofs.Common.{◌≡◌, ℕ, zero, suc, ◌+◌, ◌*◌, ◌≤◌, List, [], ◌∷◌, ◌++◌, length, take, drop, refl, sym, ap, ◌∙◌, arith, append_assoc, length-append, length-take, All}
use Rattle.raw_block.proofs.Words.{suc-mul, mul-suc, mul-zero, take-append_seam, drop-append_seam, take-take, drop-take, flat_map-cons, flat_map, first_chunks, put, length-put, signed_numbers, adjacent_numbers, AreArrays, with_run, SameBeside}
use Rattle.std.proofs.lemmas.List.{take_at}

abbrev flat : List (List ℕ) → List ℕ
flat items = flat_map (λ item. item) items

module _ (width : ℕ) where
  -- the items of a run depend only on its own bytes
  pub chunks-take : (n : ℕ) (bytes : List ℕ) → first_chunks width n (take (n * width) bytes) ≡ first_chunks width n bytes
  chunks-take zero bytes = refl
  chunks-take (suc n) bytes =
      let rest = n * width in let more : suc n * width ≡ width + rest = suc-mul n width ∙ omega arith in
      ap (λ k. first_chunks width (suc n) (take k bytes)) more
      ∙ (λ i. take-take width (width + rest) bytes (omega arith) i ∷ first_chunks width n (drop-take width rest bytes i))
      ∙ ap (λ l. take width bytes ∷ l) (chunks-take n (drop width bytes))

  abbrev Each : List (List ℕ) → Type 0
  Each items = All (λ item. length item ≡ width) items

  first_of : (item : List ℕ) (items : List (List ℕ)) → Each (item ∷ items) → length item ≡ width
  first_of item items each = each 0 [] (omega arith)

  others_of : (item : List ℕ) (items : List (List ℕ)) → Each (item ∷ items) → Each items
  others_of item items each = λ k d lt. each (suc k) d (omega (arith, lt))

  length-flat : (items : List (List ℕ)) → Each items → length (flat items) ≡ width * length items
  length-flat [] each = sym (mul-zero width)
  length-flat (item ∷ items) each =
      ap length (flat_map-cons (λ item. item) item items) ∙ length-append item (flat items)
      ∙ omega (arith, first_of item items each, length-flat items (others_of item items each), mul-suc width (length items))

  chunks-flat : (items : List (List ℕ)) (rest : List ℕ) → Each items → first_chunks width (length items) (flat items ++ rest) ≡ items
  chunks-flat [] rest each = refl
  chunks-flat (item ∷ items) rest each =
      let after = flat items ++ rest in let long : width ≡ length item = sym (first_of item items each) in
      let apart : flat (item ∷ items) ++ rest ≡ item ++ after = ap (λ l. l ++ rest) (flat_map-cons (λ item. item) item items) ∙ append_assoc item (flat items) rest in
      ap (first_chunks width (suc (length items))) apart ∙ (λ i. take (long i) (item ++ after) ∷ first_chunks width (length items) (drop (long i) (item ++ after)))
      ∙ (λ i. take-append_seam item after i ∷ first_chunks width (length items) (drop-append_seam item after i)) ∙ ap (λ l. item ∷ l) (chunks-flat items rest (others_of item items each))

  module _ (at n : ℕ) (bytes : List ℕ) (items : List (List ℕ)) (le : at + width * n ≤ length bytes) (are : AreArrays width n items) where
    abbrev front : List ℕ
    front = take at bytes

    abbrev rest : List ℕ
    rest = drop (at + length (flat items)) bytes

    long : length (flat items) ≡ width * n
    long = length-flat items are.1 ∙ ap (λ k. width * k) are.0

    before_it : length front ≡ at
    before_it = omega (arith, length-take at bytes)

    within : at + length (flat items) ≤ length bytes
    within = omega (arith, long)

    as_put : with_run at items bytes ≡ put at (flat items) bytes
    as_put = take_at (put at (flat items) bytes) (drop (length (put at (flat items) bytes)) bytes) (length bytes) (length-put at (flat items) bytes within)

    regrouped : put at (flat items) bytes ≡ front ++ (flat items ++ rest)
    regrouped = append_assoc front (flat items) rest

    pub numbers-written : adjacent_numbers width at n (with_run at items bytes) ≡ signed_numbers width items
    numbers-written =
        let reached : drop at (with_run at items bytes) ≡ flat items ++ rest =
        ap (drop at) (as_put ∙ regrouped) ∙ ap (λ k. drop k (front ++ (flat items ++ rest))) (sym before_it) ∙ drop-append_seam front (flat items ++ rest) in
        ap (signed_numbers width) (ap (first_chunks width n) reached ∙ ap (λ k. first_chunks width k (flat items ++ rest)) (sym are.0) ∙ chunks-flat items rest are.1)

    pub others-stay : SameBeside at (width * n) bytes (with_run at items bytes)
    others-stay =
        let past : at + width * n ≡ length (front ++ flat items) = omega (arith, long, before_it, length-append front (flat items)) in
        record {
          len = ap length as_put ∙ length-put at (flat items) bytes within;
          front = ap (take at) (as_put ∙ regrouped) ∙ take_at front (flat items ++ rest) at before_it;
          back = ap (drop (at + width * n)) as_put ∙ ap (λ k. drop k (front ++ flat items ++ rest)) past ∙ drop-append_seam (front ++ flat items) rest ∙ ap (λ k. drop (at + k) bytes) long;
        }
