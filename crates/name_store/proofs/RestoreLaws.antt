-- Writing old items back restores the bytes, even if the items overlap.
use Rattle.std.proofs.Common.{◌≡◌, ◌+◌, ◌-◌, ◌<◌, ◌≤◌, ℕ, zero, suc, List, [], ◌∷◌, length, drop, refl, sym, ap, subst, ◌∙◌, get_or, arith, ◌⊎◌, inl, inr}
use Rattle.name_store.proofs.Words.{AllByRecursion, get_or-take, get_or-drop, ext_get_or, IsPermutation, get_or_default, Contains-get_or, Contains-permutation, cases_lt, put, item_at, length-put, length-item_at, get_or-put_before, get_or-put_after, item_at-put_same, items_at, with_items}

-- Byte k is in one of the items. For `SameElse`, every other byte is the same in both lists.
abbrev pub Within : ℕ → List ℕ → ℕ → Type 0
Within width [] k = ⊥
Within width (o ∷ os) k = ((o ≤ k) × (k < o + width)) ⊎ Within width os k

abbrev pub SameElse : ℕ → List ℕ → List ℕ → List ℕ → Type 0
SameElse width os new old = (k : ℕ) → Within width os k ⊎ (get_or new k 0 ≡ get_or old k 0)

three : (o width k : ℕ) → (k < o) ⊎ (((o ≤ k) × (k < o + width)) ⊎ (o + width ≤ k))
three o width k = elim (cases_lt k o) [
  | inl before ↦ inl before
  | inr from ↦ elim (cases_lt k (o + width)) [ inl inside ↦ inr (inl (from, inside)) | inr past ↦ inr (inr past) ]
]

-- items that are written
pub length-with : (width : ℕ) (os : List ℕ) (parts : List (List ℕ)) (bytes : List ℕ) → AllByRecursion (λ part. length part ≡ width) parts → AllByRecursion (λ o. o + width ≤ length bytes) os → length (with_items os parts bytes) ≡ length bytes
length-with width [] parts bytes whole inside = refl
length-with width (o ∷ os) [] bytes whole inside = refl
length-with width (o ∷ os) (part ∷ parts) bytes whole inside =
    let same : length (put o part bytes) ≡ length bytes = length-put o part bytes (omega (arith, whole.0, inside.0)) in
    length-with width os parts (put o part bytes) whole.1 (subst (λ n. AllByRecursion (λ o. o + width ≤ n) os) (sym same) inside.1) ∙ same

put-else : (width o : ℕ) (part bytes : List ℕ) (k : ℕ) → length part ≡ width → o + width ≤ length bytes → ((o ≤ k) × (k < o + width)) ⊎ (get_or (put o part bytes) k 0 ≡ get_or bytes k 0)
put-else width o part bytes k whole inside =
    elim (three o width k) [
      | inl before ↦ inr (get_or-put_before o part bytes (omega (arith, whole, inside)) k before)
      | inr later ↦ elim later [ inl within ↦ inl within | inr past ↦ inr (get_or-put_after o part bytes (omega (arith, whole, inside)) k (omega (arith, whole, past))) ]
    ]

-- they change no other bytes
pub with-else : (width : ℕ) (os : List ℕ) (parts : List (List ℕ)) (bytes : List ℕ) → AllByRecursion (λ part. length part ≡ width) parts → AllByRecursion (λ o. o + width ≤ length bytes) os → SameElse width os (with_items os parts bytes) bytes
with-else width [] parts bytes whole inside k = inr refl
with-else width (o ∷ os) [] bytes whole inside k = inr refl
with-else width (o ∷ os) (part ∷ parts) bytes whole inside k =
    let same : length (put o part bytes) ≡ length bytes = length-put o part bytes (omega (arith, whole.0, inside.0)) in
    elim (with-else width os parts (put o part bytes) whole.1 (subst (λ n. AllByRecursion (λ o. o + width ≤ n) os) (sym same) inside.1) k) [
      | inl within ↦ inl (inr within)
      | inr later ↦ elim (put-else width o part bytes k whole.0 inside.0) [ inl here ↦ inl (inl here) | inr before ↦ inr (later ∙ before) ]
    ]

-- a byte of an item that is written back
put-here : (width o : ℕ) (old bytes : List ℕ) (k : ℕ) → o + width ≤ length old → o + width ≤ length bytes → o ≤ k → k < o + width → get_or (put o (item_at o width old) bytes) k 0 ≡ get_or old k 0
put-here width o old bytes k within inside from below =
    let item : List ℕ = item_at o width old in
    let long : length item ≡ width = length-item_at o width old within in
    let new : List ℕ = put o item bytes in
    let i : ℕ = k - o in
    let there : o + i ≡ k = omega (arith, from) in
    let less : i < width = omega (arith, from, below) in
    let read : (l : List ℕ) → get_or (item_at o width l) i 0 ≡ get_or l k 0 = λ l. get_or-take width (drop o l) i 0 less ∙ get_or-drop o l i 0 ∙ ap (λ j. get_or l j 0) there in
    sym (read new) ∙ ap (λ (l : List ℕ). get_or l i 0) (ap (λ n. item_at o n new) (sym long) ∙ item_at-put_same o item bytes (omega (arith, long, inside))) ∙ read old

-- writing old items back restores the bytes if all others are unchanged
pub put-back : (width : ℕ) (os : List ℕ) (old new : List ℕ) → length new ≡ length old → AllByRecursion (λ o. o + width ≤ length old) os → SameElse width os new old → with_items os (items_at os width old) new ≡ old
put-back width [] old new long inside same = ext_get_or 0 new old long (λ k less. elim (same k) [ inl nothing ↦ absurd nothing | inr is ↦ is ])
put-back width (o ∷ os) old new long inside same =
    let item : List ℕ = item_at o width old in
    let counted : length item ≡ width = length-item_at o width old inside.0 in
    let kept : length (put o item new) ≡ length new = length-put o item new (omega (arith, counted, long, inside.0)) in
    put-back width os old (put o item new) (kept ∙ long) inside.1 (λ k. elim (three o width k) [
      | inl before ↦ elim (same k) [
        | inl within ↦ elim within [ inl here ↦ absurd (omega (arith, here.0, before)) | inr later ↦ inl later ]
        | inr is ↦ inr (get_or-put_before o item new (omega (arith, counted, long, inside.0)) k before ∙ is)
      ]
      | inr from ↦ elim from [
        | inl here ↦ inr (put-here width o old new k inside.0 (omega (arith, long, inside.0)) here.0 here.1)
        | inr past ↦ elim (same k) [
          | inl within ↦ elim within [ inl here ↦ absurd (omega (arith, here.1, past)) | inr later ↦ inl later ]
          | inr is ↦ inr (get_or-put_after o item new (omega (arith, counted, long, inside.0)) k (omega (arith, counted, past)) ∙ is)
        ]
      ]
    ])

-- ---- in another order

within-at : (width : ℕ) (os : List ℕ) (k : ℕ) → Within width os k → (j : ℕ) × (j < length os) × (get_or os j 0 ≤ k) × (k < get_or os j 0 + width)
within-at width [] k within = absurd within
within-at width (o ∷ os) k within = elim within [
  | inl here ↦ (0, omega arith, here.0, here.1)
  | inr later ↦ let found = within-at width os k later in (suc found.0, omega (arith, found.1), found.2, found.3)
]

at-within : (width : ℕ) (os : List ℕ) (j k : ℕ) → j < length os → get_or os j 0 ≤ k → k < get_or os j 0 + width → Within width os k
at-within width [] j k below from to = absurd (omega arith)
at-within width (o ∷ os) zero k below from to = inl (from, to)
at-within width (o ∷ os) (suc j) k below from to = inr (at-within width os j k (omega arith) from to)

within-moved : (width : ℕ) (os os' : List ℕ) (k : ℕ) → IsPermutation os os' → Within width os k → Within width os' k
within-moved width os os' k moved within =
    let found = within-at width os k within in
    let o = get_or os found.0 0 in
    let there = Contains-permutation os os' o moved (Contains-get_or os found.0 0 found.1) in
    let is : get_or os' there.0 0 ≡ o = get_or_default os' there.0 0 o there.1 ∙ there.2 in
    at-within width os' there.0 k there.1 (omega (arith, is, found.2)) (omega (arith, is, found.3))

pub restores-moved : (width : ℕ) (os os' : List ℕ) (parts : List (List ℕ)) (old : List ℕ) → IsPermutation os os' → AllByRecursion (λ part. length part ≡ width) parts → AllByRecursion (λ o. o + width ≤ length old) os → AllByRecursion (λ o. o + width ≤ length old) os' →
    with_items os' (items_at os' width old) (with_items os parts old) ≡ old
restores-moved width os os' parts old moved whole inside inside' =
    put-back width os' old (with_items os parts old) (length-with width os parts old whole inside) inside' (λ k. elim (with-else width os parts old whole inside k) [
      | inl within ↦ inl (within-moved width os os' k moved within)
      | inr same ↦ inr same
    ])
