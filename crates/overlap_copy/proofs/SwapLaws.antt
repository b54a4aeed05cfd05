-- Items of a run that are swapped, the first with the last and so on.
use Rattle.std.proofs.Common.{◌≡◌, ◌≢◌, ◌+◌, ◌-◌, ◌*◌, ◌/◌, ◌%◌, ◌<◌, ◌≤◌, ◌⊎◌, inl, inr, ℕ, zero, suc, List, length, get_or, refl, sym, ap, subst, ◌∙◌, arith}
use Rattle.overlap_copy.proofs.Words.{div-add-mod, mod-lt, cases_lt, item_at, EachWithin, exchanged, swapped, place_within, length-exchanged, exchanged-outside, exchanged-items, Run, distance, IsAssigned, IsTurned, AreSpaced, place_in}
use Rattle.overlap_copy.proofs.MoveLaws.{beside, retold, same_item}
use Rattle.overlap_copy.proofs.TurnLaws.{turned_place}

kept_beside : (a b p width : ℕ) (bytes : List ℕ) → a + width ≤ length bytes → b + width ≤ length bytes → p + width ≤ length bytes → width ≤ distance p a → width ≤ distance p b → item_at p width (exchanged a b width bytes) ≡ item_at p width bytes
kept_beside a b p width bytes in_a in_b in_p off_a off_b =
    same_item (exchanged a b width bytes) bytes p width in_p (length-exchanged a b width bytes) (λ i inside.
    exchanged-outside a b bytes width (p + i) in_a in_b (beside p a width i off_a inside) (beside p b width i off_b inside))

-- ---- n disjoint items, of which m at each end are swapped

module _ (n width : ℕ) (at : ℕ → ℕ) (old : List ℕ) where
  -- the index that index k is swapped with
  abbrev pub across : ℕ → ℕ
  across k = n - 1 - k

  pub record AreClear : Type 0 where
    pub within : (k : ℕ) → k < n → at k + width ≤ length old
    pub apart : (j k : ℕ) → j ≢ k → j < n → k < n → width ≤ distance (at j) (at k)

  pub record AreSwapped (m : ℕ) (now : List ℕ) : Type 0 where
    pub len : length now ≡ length old
    pub firsts : (k : ℕ) → k < m → item_at (at k) width now ≡ item_at (at (across k)) width old
    pub lasts : (k : ℕ) → k < m → item_at (at (across k)) width now ≡ item_at (at k) width old
    pub rest : (j : ℕ) → ((k : ℕ) → k < m → ((j < at k) ⊎ (at k + width ≤ j)) × ((j < at (across k)) ⊎ (at (across k) + width ≤ j))) → get_or now j 0 ≡ get_or old j 0

  pub none_swapped : AreSwapped 0 old
  none_swapped = record { len = refl; firsts = λ k below. absurd (omega arith); lasts = λ k below. absurd (omega arith); rest = λ j outside. refl }

  -- an item between them is unchanged
  between : (m k : ℕ) (now : List ℕ) → AreClear → AreSwapped m now → m ≤ k → m ≤ across k → k < n → item_at (at k) width now ≡ item_at (at k) width old
  between m k now clear so_far low high below =
      same_item now old (at k) width (clear.within k below) so_far.len (λ i inside.
      so_far.rest (at k + i) (λ j before. (
        beside (at k) (at j) width i (clear.apart k j (λ same. omega (arith, same, low, before)) below (omega (arith, before, low, below))) inside,
        beside (at k) (at (across j)) width i (clear.apart k (across j) (λ same. omega (arith, same, high, before, below)) below (omega (arith, before, low, below))) inside,
      )))

  pub swap_more : (m a b : ℕ) (now : List ℕ) → AreClear → 2 * (m + 1) ≤ n → a ≡ at m → b ≡ at (across m) → AreSwapped m now → AreSwapped (suc m) (exchanged a b width now)
  swap_more m a b now clear half is_a is_b so_far =
      let p = at m in
      let q = at (across m) in
      let below : m < n = omega (arith, half) in
      let below' : across m < n = omega (arith, half) in
      let differ : m ≢ across m = λ same. omega (arith, same, half) in
      let in_p : p + width ≤ length now = omega (arith, clear.within m below, so_far.len) in
      let in_q : q + width ≤ length now = omega (arith, clear.within (across m) below', so_far.len) in
      let far = clear.apart m (across m) differ below below' in
      let apart : (p + width ≤ q) ⊎ (q + width ≤ p) = elim (cases_lt p q) [ inl lower ↦ inl (omega (arith, lower, far)) | inr upper ↦ inr (omega (arith, upper, far)) ] in
      let items = exchanged-items p q now width in_p in_q apart in
      let new = exchanged p q width now in
      let first : item_at p width new ≡ item_at q width old = items.0 ∙ between m (across m) now clear so_far (omega (arith, half)) (omega (arith, half)) below' in
      let last : item_at q width new ≡ item_at p width old = items.1 ∙ between m m now clear so_far (omega arith) (omega (arith, half)) below in
      let kept : (k : ℕ) → k < n → k ≢ m → k ≢ across m → item_at (at k) width new ≡ item_at (at k) width now = λ k inside not_m not_last.
      kept_beside p q (at k) width now in_p in_q (omega (arith, clear.within k inside, so_far.len)) (clear.apart k m not_m inside below) (clear.apart k (across m) not_last inside below') in
      subst (λ x. AreSwapped (suc m) (exchanged x b width now)) (sym is_a) (subst (λ y. AreSwapped (suc m) (exchanged p y width now)) (sym is_b) (record {
        len = length-exchanged p q width now ∙ so_far.len;
        firsts = λ k inside. elim (cases_lt k m) [
          | inl before ↦ kept k (omega (arith, before, below)) (λ same. omega (arith, same, before)) (λ same. omega (arith, same, before, half)) ∙ so_far.firsts k before
          | inr above ↦ let here : k ≡ m = omega (arith, above, inside) in ap (λ i. item_at (at i) width new) here ∙ first ∙ ap (λ i. item_at (at (across i)) width old) (sym here)
        ];
        lasts = λ k inside. elim (cases_lt k m) [
          | inl before ↦ kept (across k) (omega (arith, before, below)) (λ same. omega (arith, same, before, half)) (λ same. omega (arith, same, before, half)) ∙ so_far.lasts k before
          | inr above ↦ let here : k ≡ m = omega (arith, above, inside) in ap (λ i. item_at (at (across i)) width new) here ∙ last ∙ ap (λ i. item_at (at i) width old) (sym here)
        ];
        rest = λ j outside.
            exchanged-outside p q now width j in_p in_q (outside m (omega arith)).0 (outside m (omega arith)).1
            ∙ so_far.rest j (λ k before. outside k (omega (arith, before)));
      }))

  -- once half of the items are swapped, all of them are
  pub all_swapped : (m : ℕ) (now : List ℕ) → AreClear → 2 * m ≤ n → n ≤ 2 * m + 1 → AreSwapped m now → IsAssigned n at (λ k. at (across k)) width old old now
  all_swapped m now clear half most so_far = record {
    len = so_far.len;
    items = λ k below. elim (cases_lt k m) [
      | inl first ↦ so_far.firsts k first
      | inr low ↦ elim (cases_lt (across k) m) [
        | inl last ↦
            let back : across (across k) ≡ k = omega (arith, below) in
            ap (λ i. item_at (at i) width now) (sym back) ∙ so_far.lasts (across k) last
        | inr high ↦
            let middle : k ≡ across k = omega (arith, low, high, half, most, below) in
            between m k now clear so_far low high below ∙ ap (λ i. item_at (at i) width old) middle
      ]
    ];
    rest = λ j outside. so_far.rest j (λ k before. (outside k (omega (arith, before, half)), outside (across k) (omega (arith, before, half))));
  }

-- ---- a run

either_way : (width : ℕ) (run : Run) → AreSpaced width run → (j k : ℕ) → j ≢ k → j < run.count → k < run.count → width ≤ distance (place_in run j) (place_in run k)
either_way width run spaced j k differ below below' = elim (cases_lt j k) [
  | inl before ↦ spaced.apart j k before below'
  | inr above ↦ let far = spaced.apart k j (omega (arith, above, differ)) below in omega (arith, far)
]

swapped_is : (width m : ℕ) (run back : Run) (old : List ℕ) → AreClear run.count width (place_in run) old → IsTurned run back → 2 * m ≤ run.count → AreSwapped run.count width (place_in run) old m (swapped run.offset run.step back.offset back.step width m old)
swapped_is width zero run back old clear t half = none_swapped run.count width (place_in run) old
swapped_is width (suc m) run back old clear t half =
    swap_more run.count width (place_in run) old m (place_in run m) (place_in back m) (swapped run.offset run.step back.offset back.step width m old) clear (omega (arith, half)) refl (turned_place run back m t (omega (arith, half))) (swapped_is width m run back old clear t (omega (arith, half)))

pub turned_by_swaps : (width : ℕ) (run back : Run) (old : List ℕ) → EachWithin (length old) run.offset run.step width run.count → AreSpaced width run → IsTurned run back → IsAssigned run.count (place_in run) (place_in back) width old old (swapped run.offset run.step back.offset back.step width (run.count / 2) old)
turned_by_swaps width run back old within spaced t =
    let n = run.count in
    let m = n / 2 in
    let halves = div-add-mod n 2 in
    let odd : n % 2 < 2 = mod-lt n (omega arith) in
    let clear : AreClear n width (place_in run) old = record { within = λ k below. place_within (length old) run.offset run.step width n k within below; apart = either_way width run spaced } in
    let half : 2 * m ≤ n = omega (arith, halves) in
    let now = swapped run.offset run.step back.offset back.step width m old in
    let all = all_swapped n width (place_in run) old m now clear half (omega (arith, halves, odd)) (swapped_is width m run back old clear t half) in
    retold n (place_in run) (place_in back) (place_in run) (λ k. place_in run (n - 1 - k)) width old old now (λ k below. (refl, turned_place run back k t below)) all
