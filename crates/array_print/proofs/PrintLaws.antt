-- Laws of printed text: blocks, and what joins them.
use Rattle.std.proofs.Common.{◌≡◌, ℕ, zero, suc, ◌+◌, ◌-◌, ◌*◌, ◌<◌, List, ◌++◌, codes, map, length, take, drop, get_or, sym, ◌∙◌, ap, arith, add-one, suc-mul, zero-mul, append_assoc, length-drop}
use Rattle.array_print.proofs.Words.{take-map, drop-map, drop-drop, drop_more, count, blocks, join_texts, block_text, separator, lead, opened}

-- ---- blocks

-- one more block, with the separator before it
pub joined-more : {A : Type 0} (separator : List ℕ) (text : List A → List ℕ) (c k : ℕ) (xs : List A) → join_texts separator (map text (blocks c (suc k) xs)) ≡ join_texts separator (map text (blocks c k xs)) ++ lead k separator ++ text (take c (drop (k * c) xs))
joined-more separator text c zero xs = ap (λ m. text (take c (drop m xs))) (sym (zero-mul c))
joined-more separator text c (suc zero) xs =
    let one : c ≡ suc zero * c = omega (arith, suc-mul zero c, zero-mul c) in
    ap (λ m. text (take c xs) ++ separator ++ text (take c (drop m xs))) one
joined-more separator text c (suc (suc k)) xs =
    let first = text (take c xs) in
    let rest = join_texts separator (map text (blocks c (suc k) (drop c xs))) in
    let last = text (take c (drop (suc k * c) (drop c xs))) in
    let size : c + suc k * c ≡ suc (suc k) * c = omega (arith, suc-mul (suc k) c) in
    let moved : drop (suc k * c) (drop c xs) ≡ drop (suc (suc k) * c) xs = drop-drop (suc k * c) c xs ∙ ap (λ m. drop m xs) size in
    ap (λ l. first ++ separator ++ l) (joined-more separator text c (suc k) (drop c xs))
    ∙ sym (append_assoc (first ++ separator) (rest ++ separator) last)
    ∙ ap (λ l. l ++ last) (sym (append_assoc (first ++ separator) rest separator))
    ∙ ap (λ l. first ++ separator ++ rest ++ separator ++ text (take c l)) moved

-- ---- the text of an axis

module _ (f : ℕ → List ℕ) (axes : List ℕ) (axis : ℕ) where
  -- the text of block `k`
  abbrev pub block_at : ℕ → List ℕ → List ℕ
  block_at k offsets = block_text (axis + 1) (drop (axis + 1) axes) (map f (take (count (drop (axis + 1) axes)) (drop (k * count (drop (axis + 1) axes)) offsets)))

  -- the separator of two blocks
  abbrev between : List ℕ
  between = separator axis (length axes - axis - 1)

  -- one more block
  pub opened-next : (k : ℕ) (offsets : List ℕ) → opened f axes axis (k + 1) offsets ≡ opened f axes axis k offsets ++ (lead k between ++ block_at k offsets)
  opened-next k offsets =
      let text = block_text (axis + 1) (drop (axis + 1) axes) in
      let c = count (drop (axis + 1) axes) in
      let joined : ℕ → List ℕ = λ m. join_texts between (map text (blocks c m (map f offsets))) in
      let here : take c (drop (k * c) (map f offsets)) ≡ map f (take c (drop (k * c) offsets)) = ap (λ l. take c l) (drop-map f (k * c) offsets) ∙ take-map f c (drop (k * c) offsets) in
      let more = joined-more between text c k (map f offsets) ∙ ap (λ l. joined k ++ lead k between ++ text l) here in
      ap (λ l. codes "[" ++ l) (ap joined (add-one k) ∙ more ∙ append_assoc (joined k) (lead k between) (block_at k offsets))

  -- all blocks, and the closing bracket
  pub opened-end : (k : ℕ) (offsets : List ℕ) → axis < length axes → k ≡ get_or axes axis 0 → opened f axes axis k offsets ++ codes "]" ≡ block_text axis (drop axis axes) (map f offsets)
  opened-end k offsets below all =
      let rest = drop (axis + 1) axes in
      let text : ℕ → ℕ → List ℕ = λ n inner. codes "[" ++ join_texts (separator axis inner) (map (block_text (axis + 1) rest) (blocks (count rest) n (map f offsets))) ++ codes "]" in
      let inner : length axes - axis - 1 ≡ length rest = omega (arith, length-drop (axis + 1) axes) in
      (λ i. text (all i) (inner i)) ∙ ap (λ shape. block_text axis shape (map f offsets)) (sym (drop_more axes axis 0 below))

  -- the first blocks, and what follows them
  pub opened-rest : (d k : ℕ) (offsets : List ℕ) → axis < length axes → k + d ≡ get_or axes axis 0 → (rest : List ℕ) × (block_text axis (drop axis axes) (map f offsets) ≡ opened f axes axis k offsets ++ rest)
  opened-rest zero k offsets below all = (codes "]", sym (opened-end k offsets below (omega (arith, all))))
  opened-rest (suc d) k offsets below all =
      let r = opened-rest d (k + 1) offsets below (omega (arith, all)) in (
        (lead k between ++ block_at k offsets) ++ r.0,
        r.1 ∙ ap (λ o. o ++ r.0) (opened-next k offsets) ∙ append_assoc (opened f axes axis k offsets) (lead k between ++ block_at k offsets) r.0,
      )
