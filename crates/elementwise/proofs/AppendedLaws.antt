-- Items that are appended to bytes, part by part.
use Rattle.std.proofs.Common.{subst, ◌≡◌, ◌+◌, ◌*◌, ℕ, zero, suc, List, [], ◌∷◌, ◌++◌, length, drop, replicate, refl, sym, ap, ◌∙◌, arith, append_assoc, length-append, length-drop, suc-mul, add-mul}
use Rattle.elementwise.proofs.Words.{concat, Each, take-append_seam, drop-append-add, concat-append, nil_from_length, length-replicate, All-from_recursion, place, put, item_at, joined, EachWithin, RunPair, run_offsets, length-run_offsets, items_at, with_items, length-row, row-split, row_offsets, pairwise, pair_from}
use Rattle.elementwise.proofs.PairLaws.{pairwise-append, joined_pairs, firsts, seconds}
use Rattle.elementwise.proofs.RowLaws.{landed, rows-in, rows-lie}
use Rattle.elementwise.proofs.TurnedLaws.{AreWide}

-- ---- items that are written after other bytes

pub put-rows : (w : ℕ) (items : List (List ℕ)) (n : ℕ) (xs zs : List ℕ) → length items ≡ n → Each (λ item. length item ≡ w) items → length zs ≡ n * w → with_items (row_offsets (length xs) w n) items (xs ++ zs) ≡ xs ++ concat items
put-rows w [] zero xs zs many wide room = ap (λ l. xs ++ l) (nil_from_length zs (omega (arith, room)))
put-rows w [] (suc n) xs zs many wide room = absurd (omega (arith, many))
put-rows w (item ∷ items) zero xs zs many wide room = absurd (omega (arith, many))
put-rows w (item ∷ items) (suc n) xs zs many wide room =
    let at = length xs in
    let rest = drop w zs in
    let long : length (xs ++ item) ≡ at + w = omega (arith, length-append xs item, wide.0) in
    let more : suc n ≡ 1 + n = omega arith in
    let first : at + w * 0 ≡ at = omega arith in
    let next : at + 1 * w ≡ length (xs ++ item) = omega (arith, long) in
    let rows : row_offsets at w (suc n) ≡ at ∷ row_offsets (length (xs ++ item)) w n = ap (row_offsets at w) more ∙ row-split at w 1 n ∙ (λ i. first i ∷ row_offsets (next i) w n) in
    let here : put at item (xs ++ zs) ≡ xs ++ item ++ rest = (λ i. take-append_seam xs zs i ++ item ++ drop-append-add xs zs (wide.0 i) i) in
    (λ i. with_items (rows i) (item ∷ items) (xs ++ zs))
    ∙ ap (with_items (row_offsets (length (xs ++ item)) w n) items) here
    ∙ put-rows w items n (xs ++ item) rest (omega (arith, many)) wide.1 (omega (arith, length-drop w zs, room, suc-mul n w))
    ∙ append_assoc xs item (concat items)

-- concatenated items of one width are read back
pub rows-read : (w : ℕ) (items : List (List ℕ)) → AreWide w items → items_at (row_offsets 0 w (length items)) w (concat items) ≡ items
rows-read w items wide =
    let n = length items in
    let zeros : List ℕ = replicate (n * w) 0 in
    let room : length zeros ≡ n * w = length-replicate (n * w) 0 in
    ap (items_at (row_offsets 0 w n) w) (sym (put-rows w items n [] zeros refl wide room))
    ∙ landed w (row_offsets 0 w n) items zeros (length-row 0 w n) (rows-in w n (length zeros) (omega (arith, room)) 0 w (omega arith)) (All-from_recursion (λ item. length item ≡ w) items wide) (rows-lie w n (length zeros) (omega (arith, room)) 0 w (omega arith))

-- ---- what is made of two runs, or of pairs of runs

module _ (make : ℕ → ℕ → List ℕ) where
  -- two lists, and two lists after them
  pub appended : (xs ys xs' ys' : List ℕ) (bytes bytes' start : List ℕ) → length xs ≡ length ys → bytes ≡ start ++ concat (pairwise make xs ys) → bytes' ≡ bytes ++ concat (pairwise make xs' ys') → bytes' ≡ start ++ concat (pairwise make (xs ++ xs') (ys ++ ys'))
  appended xs ys xs' ys' bytes bytes' start even so_far wrote =
      wrote
      ∙ ap (λ l. l ++ concat (pairwise make xs' ys')) so_far
      ∙ append_assoc start (concat (pairwise make xs ys)) (concat (pairwise make xs' ys'))
      ∙ ap (λ l. start ++ l) (sym (concat-append (pairwise make xs ys) (pairwise make xs' ys')) ∙ ap concat (sym (pairwise-append make xs ys xs' ys' even)))

  -- the next pair is appended
  pub pushed-next : (left left' : List RunPair) (pair : RunPair) (bytes bytes' whole : List ℕ) → left ≡ pair ∷ left' → pair.first.count ≡ pair.second.count → bytes' ≡ bytes ++ concat (pairwise make (run_offsets pair.first) (run_offsets pair.second)) →
      bytes ++ concat (pairwise make (firsts left) (seconds left)) ≡ whole → bytes' ++ concat (pairwise make (firsts left') (seconds left')) ≡ whole
  pushed-next left left' pair bytes bytes' whole walked same wrote so_far =
      let even : length (run_offsets pair.first) ≡ length (run_offsets pair.second) = length-run_offsets pair.first ∙ same ∙ sym (length-run_offsets pair.second) in
      appended (run_offsets pair.first) (run_offsets pair.second) (firsts left') (seconds left') bytes' (bytes' ++ concat (pairwise make (firsts left') (seconds left'))) bytes even wrote refl
      ∙ (λ i. bytes ++ concat (pairwise make (firsts (sym walked i)) (seconds (sym walked i))))
      ∙ so_far

-- the bytes of the next pair, and those of the later ones
pub bytes-next : (item : ℕ) (left left' : List RunPair) (pair : RunPair) → left ≡ pair ∷ left' → length (firsts left) * item ≡ pair.first.count * item + length (firsts left') * item
bytes-next item left left' pair walked =
    ap (λ l. length (firsts l) * item) walked
    ∙ ap (λ n. n * item) (length-append (run_offsets pair.first) (firsts left') ∙ ap (λ n. n + length (firsts left')) (length-run_offsets pair.first))
    ∙ add-mul pair.first.count (length (firsts left')) item

-- a row of pairs, in the form that the code uses
pub row-made : (f : List ℕ → List ℕ → List ℕ) (width width' w w' : ℕ) (left right b b' : List ℕ) (row : RunPair) (block block' : List ℕ) → w ≡ width → w' ≡ width' → b ≡ left → b' ≡ right → row.first.count ≡ row.second.count →
    EachWithin (length left) row.first.offset row.first.step width row.first.count → EachWithin (length right) row.second.offset row.second.step width' row.second.count →
    block' ≡ block ++ joined (λ k. f (item_at (place row.first.offset row.first.step k) w b) (item_at (place row.second.offset row.second.step k) w' b')) row.first.count →
    block' ≡ block ++ concat (pairwise (pair_from f width width' left right) (run_offsets row.first) (run_offsets row.second))
row-made f width width' w w' left right b b' row block block' wide wide' bytes bytes' even lies lies' is =
    let n = row.first.count in
    let make = pair_from f width width' left right in
    is
    ∙ (λ i. block ++ joined (λ k. f (item_at (place row.first.offset row.first.step k) (wide i) (bytes i)) (item_at (place row.second.offset row.second.step k) (wide' i) (bytes' i))) n)
    ∙ ap (λ l. block ++ l) (joined_pairs make (length left) (length right) row.first.offset row.second.offset width width' n row.first.step row.second.step lies (subst (EachWithin (length right) row.second.offset row.second.step width') (sym even) lies'))
    ∙ (λ i. block ++ concat (pairwise make (run_offsets row.first) (run_offsets (record { offset = row.second.offset; count = even i; step = row.second.step }))))
