-- A block that replaces another has the bytes that a copy of all its items would have written.
use Rattle.std.proofs.Common.{◌≡◌, ◌+◌, ◌*◌, ◌≤◌, ◌<◌, ◌==◌, ℕ, zero, suc, true, List, [], ◌∷◌, length, map, replicate, refl, sym, ap, subst, ◌∙◌, All, arith, inl, inr}
use Rattle.name_store.proofs.Words.{AllByRecursion, range_with_len, cases_lt, eqb-true, and_parts, get_or_past, recursion_from_All, mul-suc, mul_comm, item_at, joined, length-joined, item_of_joined, item_size, is_c_contiguous, length-offsets, offsets, multiples, Fits, Owned, items_at, with_items, OldItems, AreAll, IsPacked, AreOld}
use Rattle.name_store.proofs.LaidLaws.{offsets-within}
use Rattle.name_store.proofs.RestoreLaws.{Within, put-back}

-- Items in C order, from the start to the end of a block.

c-ends : (item a : ℕ) (os : List ℕ) (end : ℕ) → is_c_contiguous item (a ∷ os) ≡ true → AllByRecursion (λ o. o + item ≤ end) (a ∷ os) → a + item * length os + item ≤ end
c-ends item a [] end test all = omega (arith, all.0)
c-ends item a (b ∷ os) end test all =
    let parts = and_parts (b == a + item) (is_c_contiguous item (b ∷ os)) test in
    omega (arith, eqb-true b (a + item) parts.0, c-ends item b os end parts.1 all.1, mul-suc item (length os))

c-goes : (item k a : ℕ) (os : List ℕ) → a ≡ item * k → is_c_contiguous item (a ∷ os) ≡ true → a ∷ os ≡ map (λ j. item * j) (range_with_len k (suc (length os)))
c-goes item k a [] is test = λ i. is i ∷ []
c-goes item k a (b ∷ os) is test =
    let parts = and_parts (b == a + item) (is_c_contiguous item (b ∷ os)) test in
    λ i. is i ∷ c-goes item (k + 1) b os (omega (arith, eqb-true b (a + item) parts.0, is, mul-suc item k)) parts.1 i

-- their offsets are the multiples of their size
pub c-packed : (item : ℕ) (os : List ℕ) → is_c_contiguous item os ≡ true → AllByRecursion (λ o. o + item ≤ length os * item) os → os ≡ multiples item (length os)
c-packed item [] test all = refl
c-packed item (a ∷ os) test all =
    let ends = c-ends item a os (suc (length os) * item) test all in
    c-goes item 0 a os (omega (arith, ends, mul-suc item (length os))) test

-- if the items are adjacent, each byte belongs to one of them
within-run : (width a n from k : ℕ) → from ≡ width * a → from ≤ k → k < from + width * n → Within width (map (λ j. width * j) (range_with_len a n)) k
within-run width a zero from k is above below = absurd (omega (arith, above, below))
within-run width a (suc n) from k is above below =
    elim (cases_lt k (width * a + width)) [
      | inl inside ↦ inl (omega (arith, is, above), inside)
      | inr past ↦ inr (within-run width (a + 1) n (from + width) k (omega (arith, is, mul-suc width a)) (omega (arith, is, past)) (omega (arith, below, mul-suc width n)))
    ]

-- if all the items of a block are written over another, the result is the block
pub all-put : (width : ℕ) (os new old : List ℕ) → os ≡ multiples width (length os) → length old ≡ length new → length new ≡ length os * width → AllByRecursion (λ o. o + width ≤ length new) os → with_items os (items_at os width new) old ≡ new
all-put width os new old are long whole inside =
    put-back width os new old long inside (λ k. elim (cases_lt k (length new)) [
      | inl less ↦ inl (subst (λ xs. Within width xs k) (sym are) (within-run width 0 (length os) 0 k (omega arith) (omega arith) (omega (arith, less, whole))))
      | inr past ↦ inr (get_or_past old k 0 (omega (arith, long, past)) ∙ sym (get_or_past new k 0 past))
    ])

-- copies of one item
repeated-items : (item : List ℕ) (m a n : ℕ) → a + n ≤ m → items_at (map (λ k. length item * k) (range_with_len a n)) (length item) (joined (λ _. item) m) ≡ replicate n item
repeated-items item m a zero low = refl
repeated-items item m a (suc n) low = λ i. one i ∷ repeated-items item m (a + 1) n (omega (arith, low)) i
  where
    one : item_at (length item * a) (length item) (joined (λ _. item) m) ≡ item
    one =
        ap (λ o. item_at o (length item) (joined (λ _. item) m)) (mul_comm (length item) a)
        ∙ item_of_joined (λ _. item) (length item) m a (λ j less. refl) (omega (arith, low))

pub repeated-packed : (item block : List ℕ) (n : ℕ) → block ≡ joined (λ _. item) n → IsPacked n (length item) (replicate n item) block
repeated-packed item block n is = record {
  long = ap length is ∙ length-joined (λ _. item) (length item) n (λ k less. refl);
  items = ap (items_at (multiples (length item) n) (length item)) is ∙ repeated-items item n 0 n (omega arith);
}

-- the adjacent items of an array that owns its block
own-whole : (o : Owned) (width : ℕ) → item_size o.descr ≡ width → length o.block ≡ length (offsets o.layout) * width
own-whole o width size = o.fills_block.fills ∙ λ i. sym (length-offsets o.layout) i * size i

pub own-offsets : (o : Owned) (width : ℕ) → item_size o.descr ≡ width → is_c_contiguous width (offsets o.layout) ≡ true → offsets o.layout ≡ multiples width (length (offsets o.layout))
own-offsets o width size test =
    let inside = offsets-within o.layout (length o.block) width (subst (Fits o.layout (length o.block)) size o.fills_block.fits) in
    c-packed width (offsets o.layout) test (subst (λ n. AllByRecursion (λ a. a + width ≤ n) (offsets o.layout)) (own-whole o width size) inside)

pub own-packed : (o : Owned) (width n : ℕ) → item_size o.descr ≡ width → length (offsets o.layout) ≡ n → is_c_contiguous width (offsets o.layout) ≡ true → IsPacked n width (items_at (offsets o.layout) width o.block) o.block
own-packed o width n size many test = record {
  long = own-whole o width size ∙ ap (λ n. n * width) many;
  items = ap (λ os. items_at os width o.block) (ap (multiples width) (sym many) ∙ sym (own-offsets o width size test));
}

module _ (width : ℕ) (block os : List ℕ) (within : All (λ o. o + width ≤ length block) os) (all : AreAll width block os) where
  inside : AllByRecursion (λ o. o + width ≤ length block) os
  inside = recursion_from_All (λ o. o + width ≤ length block) os within

  to-run : os ≡ multiples width (length os)
  to-run = c-packed width os all.order (subst (λ n. AllByRecursion (λ o. o + width ≤ n) os) all.whole inside)

  -- the block of new items is the same as the old block after they are written to it
  pub replaced : (parts : List (List ℕ)) (new : List ℕ) → IsPacked (length os) width parts new → new ≡ with_items os parts block
  replaced parts new packed =
      sym (ap (λ parts. with_items os parts block) (sym packed.items ∙ ap (λ at. items_at at width new) (sym to-run))
      ∙ all-put width os new block to-run (all.whole ∙ sym packed.long) packed.long (subst (λ n. AllByRecursion (λ o. o + width ≤ n) os) (all.whole ∙ sym packed.long) inside))

  -- and the old block has the old items
  pub replaced-old : (o : OldItems) → o.width ≡ width → o.block ≡ block → AreOld width block os o
  replaced-old o width-is block-is = record {
    size = width-is;
    packed = record {
      long = ap length block-is ∙ all.whole ∙ ap (λ n. length os * n) (sym width-is);
      items = (λ i. items_at (multiples (width-is i) (length os)) (width-is i) (block-is i)) ∙ ap (λ from. items_at from width block) (sym to-run);
    };
  }
