-- Items of two blocks that are exchanged: each block then has the items that the other one had.
use Rattle.std.proofs.Common.{◌≡◌, ◌+◌, ◌<◌, ◌≤◌, ◌⊎◌, inl, inr, ℕ, zero, suc, ℤ, List, [], ◌∷◌, ◌++◌, length, get_or, All, refl, sym, ap, subst, ◌∙◌, arith}
use Rattle.overlap_copy.proofs.Words.{cases_lt, same_lists, length-map, get_or-map, All-head, All-tail, put, item_at, place, EachWithin, traded, length-item_at, length-put, item_at-put_apart, fewer, Run, RunPair, IsNested, distance, run_offsets, length-run_offsets, run_offsets-more, items_at, with_items, assigned, traded_at, ArePaired, Assigns, RunsLie, Trades, firsts, seconds}
use Rattle.overlap_copy.proofs.MoveLaws.{assigned_is}
use Rattle.overlap_copy.proofs.MovingLaws.{nested-back}

abbrev Both : Type 0
Both = List ℕ × List ℕ

pub traded-append : (to from to' from' : List ℕ) (width : ℕ) (both : Both) → length to ≡ length from → traded_at (to ++ to') (from ++ from') width both ≡ traded_at to' from' width (traded_at to from width both)
traded-append [] [] to' from' width both even = refl
traded-append (at ∷ to) (offset ∷ from) to' from' width both even =
    traded-append to from to' from' width (put at (item_at offset width both.1) both.0, put offset (item_at at width both.0) both.1) (omega (arith, even))
traded-append _ _ to' from' width both even = absurd (omega (arith, even))

-- ---- at equal steps

traded-run : (len other_len a : ℕ) (a_step : ℤ) (b : ℕ) (b_step : ℤ) (width n : ℕ) (block other : List ℕ) → EachWithin len a a_step width n → EachWithin other_len b b_step width n →
    traded a a_step b b_step width n block other ≡ traded_at (run_offsets (record { offset = a; count = n; step = a_step })) (run_offsets (record { offset = b; count = n; step = b_step })) width (block, other)
traded-run len other_len a a_step b b_step width zero block other to from = refl
traded-run len other_len a a_step b b_step width (suc n) block other to from =
    let here : Run = record { offset = a; count = n; step = a_step } in
    let there : Run = record { offset = b; count = n; step = b_step } in
    let last = place a a_step n in
    let last' = place b b_step n in
    let next : Both → Both = λ now. (put last (item_at last' width now.1) now.0, put last' (item_at last width now.0) now.1) in
    ap next (traded-run len other_len a a_step b b_step width n block other (fewer len a a_step width n to) (fewer other_len b b_step width n from))
    ∙ sym (traded-append (run_offsets here) (run_offsets there) (last ∷ []) (last' ∷ []) width (block, other) (length-run_offsets here ∙ sym (length-run_offsets there)))
    ∙ λ i. traded_at (sym (run_offsets-more len a a_step width n to) i) (sym (run_offsets-more other_len b b_step width n from) i) width (block, other)

pub traded-even : {to from : Run} {width : ℕ} {other block : List ℕ} → RunsLie to from width other block → traded to.offset to.step from.offset from.step width to.count block other ≡ traded_at (run_offsets to) (run_offsets from) width (block, other)
traded-even {to} {from} {width} {other} {block} lie =
    traded-run (length block) (length other) to.offset to.step from.offset from.step width to.count block other lie.to_in (subst (EachWithin (length other) from.offset from.step width) (sym lie.count) lie.from_in)
    ∙ ap (λ n. traded_at (run_offsets to) (run_offsets (record { offset = from.offset; count = n; step = from.step })) width (block, other)) lie.count

-- ---- pair by pair

pub traded-pair : (left left' : List RunPair) (pair : RunPair) (width : ℕ) (now now' whole : Both) → left ≡ pair ∷ left' → pair.first.count ≡ pair.second.count →
    now' ≡ traded_at (run_offsets pair.first) (run_offsets pair.second) width now → traded_at (firsts left) (seconds left) width now ≡ whole → traded_at (firsts left') (seconds left') width now' ≡ whole
traded-pair left left' pair width now now' whole walked even is so_far =
    ap (traded_at (firsts left') (seconds left') width) is
    ∙ sym (traded-append (run_offsets pair.first) (run_offsets pair.second) (firsts left') (seconds left') width now (length-run_offsets pair.first ∙ even ∙ sym (length-run_offsets pair.second)))
    ∙ (λ i. traded_at (firsts (sym walked i)) (seconds (sym walked i)) width now)
    ∙ so_far

-- ---- disjoint places

-- items that do not overlap the one that is written are unchanged
pub kept_items : (width at : ℕ) (item : List ℕ) (places block : List ℕ) → length item ≡ width → at + width ≤ length block → All (λ o. o + width ≤ length block) places → ((k : ℕ) → k < length places → width ≤ distance at (get_or places k 0)) →
    items_at places width (put at item block) ≡ items_at places width block
kept_items width at item [] block long inside within apart = refl
kept_items width at item (o ∷ places) block long inside within apart =
    let far = apart 0 (omega arith) in
    let sides : o + width ≤ at ⊎ at + length item ≤ o = elim (cases_lt o at) [
      | inl before ↦ inl (omega (arith, before, far))
      | inr above ↦ inr (omega (arith, above, far, long))
    ] in
    let same = item_at-put_apart at item block o width (omega (arith, inside, long)) (All-head (λ o. o + width ≤ length block) o places within) sides in
    let later = kept_items width at item places block long inside (All-tail (λ o. o + width ≤ length block) o places within) (λ k below. apart (suc k) (omega (arith, below))) in
    λ i. same i ∷ later i

traded-apart : (width : ℕ) (to from block other : List ℕ) → IsNested to width → IsNested from width → ArePaired to from width other block →
    traded_at to from width (block, other) ≡ (assigned to from width other block, assigned from to width block other)
traded-apart width [] [] block other nested nested' paired = refl
traded-apart width (at ∷ to) (offset ∷ from) block other nested nested' paired =
    let ends = λ (o : ℕ). o + width ≤ length block in
    let ends' = λ (o : ℕ). o + width ≤ length other in
    let here = All-head ends at to paired.to_in in
    let there = All-head ends' offset from paired.from_in in
    let item = item_at offset width other in
    let item' = item_at at width block in
    let long = length-item_at offset width other there in
    let long' = length-item_at at width block here in
    let x = put at item block in
    let y = put offset item' other in
    let same = length-put at item block (omega (arith, here, long)) in
    let same' = length-put offset item' other (omega (arith, there, long')) in
    let kept : items_at from width y ≡ items_at from width other = kept_items width offset item' from other long' there (All-tail ends' offset from paired.from_in) (λ k below. nested'.apart 0 (suc k) (omega arith) (omega (arith, below))) in
    let kept' : items_at to width x ≡ items_at to width block = kept_items width at item to block long here (All-tail ends at to paired.to_in) (λ k below. nested.apart 0 (suc k) (omega arith) (omega (arith, below))) in
    traded-apart width to from x y (nested-back (at ∷ []) to width nested) (nested-back (offset ∷ []) from width nested') (record {
      to_in = subst (λ n. All (λ o. o + width ≤ n) to) (sym same) (All-tail ends at to paired.to_in);
      from_in = subst (λ n. All (λ o. o + width ≤ n) from) (sym same') (All-tail ends' offset from paired.from_in);
      count = omega (arith, paired.count);
    })
    ∙ (λ i. (with_items to (kept i) x, with_items from (kept' i) y))
traded-apart width _ _ block other nested nested' paired = absurd (omega (arith, paired.count))

pub trades-apart : {to from : List ℕ} {width : ℕ} {other block : List ℕ} {new : Both} → IsNested to width → IsNested from width → ArePaired to from width other block → Trades to from width (block, other) new → Assigns to from width other block new.0 × Assigns from to width block other new.1
trades-apart {to} {from} {width} {other} {block} nested nested' paired trades =
    let is = trades.traded ∙ traded-apart width to from block other nested nested' paired in
    (record { written = ap (λ p. p.0) is; len = trades.len }, record { written = ap (λ p. p.1) is; len = trades.other_len })

-- the items are read back where they were written
pub items-assigned : {to from : List ℕ} {width : ℕ} {other block after : List ℕ} → IsNested to width → ArePaired to from width other block → Assigns to from width other block after → items_at to width after ≡ items_at from width other
items-assigned {to} {from} {width} {other} {block} nested paired assigns =
    let new = assigned to from width other block in
    let is = assigned_is width other to from block (sym paired.count) paired.to_in paired.from_in nested in
    let long = length-map to (λ o. item_at o width new) in
    ap (items_at to width) assigns.written
    ∙ same_lists (items_at to width new) (items_at from width other) (long ∙ sym paired.count ∙ sym (length-map from (λ o. item_at o width other))) (λ k d below.
    let low : k < length to = omega (arith, below, long) in
    get_or-map (λ o. item_at o width new) to k 0 d low ∙ is.items k low ∙ sym (get_or-map (λ o. item_at o width other) from k 0 d (omega (arith, low, paired.count))))
