-- Integers that are read by a table of offsets.
use Rattle.std.proofs.Common.{◌≡◌, ◌⊎◌, inl, inr, ℕ, ◌+◌, ◌-◌, ◌*◌, ◌/◌, ◌%◌, ◌<◌, ◌≤◌, Bool, true, false, ◌&&◌, List, [], ◌∷◌, ◌++◌, map, length, get_or, take, drop, refl, sym, ap, subst, ◌∙◌, arith, length-take-le, mul-le-mul_right, ℤ, pos, ◌+ℤ◌, ◌≤ℤ◌}
use Rattle.std.proofs.lemmas.Bool.{false_from_ne_true}
use Rattle.std.proofs.lemmas.List.Sums.{AllPass-from_list_all, list_all-from_AllPass}
use Rattle.std.proofs.lemmas.Slice.{take-put_mid_below, drop-put_mid}
use borrow.Rule.Slice.PartMut.{put_mid}
use Rattle.fancy_index.proofs.Words.{list_all, and_parts, cases_lt, get_or-map, get_or-take, get_or-drop, get_or-append_right, length-map, take-put_mid, get_or_default, same_lists, ints, div-add-mod', false≢true, take-append-drop, is_place, place_of, ArePlaces, Layout, count, rank, IsIndex, index_at, address, address_at, offsets, count-append, IsIndex-first, zero_filled, dot-zeros, max_bytes, +ℤ_idr, pos-offset}
use Rattle.fancy_index.proofs.CutLaws.{IsIndex-whole, address-both}
use Rattle.fancy_index.specs.inside.Tables.{AreRead, InCells}

module _ (n : ℕ) (numbers : List ℤ) where
  -- nothing was read
  pub unread : (among : ℕ → Type 0) (places : List ℕ) → ((k : ℕ) → among k → ⊥) → AreRead n numbers among true places places
  unread among places none = record {
    named = λ _ k _ is. absurd (none k is);
    outside = λ is. absurd (false≢true (sym is));
    placed = λ _ k _ is. absurd (none k is);
    kept = λ _ k _ right. right;
  }

  both-outside : (are is : Bool) → (are ≡ false → list_all (is_place n) numbers ≡ false) → (is ≡ false → list_all (is_place n) numbers ≡ false) → (are && is) ≡ false → list_all (is_place n) numbers ≡ false
  both-outside true is _ h both = h both
  both-outside false is h _ both = h refl

  -- some places were read, and then some more
  pub both-read : (first then all : ℕ → Type 0) (are is : Bool) (old mid new : List ℕ) → AreRead n numbers first are old mid → AreRead n numbers then is mid new → ((k : ℕ) → k < length numbers → all k → first k ⊎ then k) →
      AreRead n numbers all (are && is) old new
  both-read first then all are is old mid new a b each = record {
    named = λ both k below in-k. elim (each k below in-k) [ inl x ↦ a.named (and_parts are is both).0 k below x | inr y ↦ b.named (and_parts are is both).1 k below y ];
    outside = both-outside are is a.outside b.outside;
    placed = λ good k below in-k. elim (each k below in-k) [ inl x ↦ b.kept good k below (a.placed good k below x) | inr y ↦ b.placed good k below y ];
    kept = λ good k below right. b.kept good k below (a.kept good k below right);
  }

  -- some of these places
  pub fewer-read : (among some : ℕ → Type 0) (are : Bool) (old new : List ℕ) → AreRead n numbers among are old new → ((k : ℕ) → k < length numbers → some k → among k) → AreRead n numbers some are old new
  fewer-read among some are old new a each = record {
    named = λ is k below in-k. a.named is k below (each k below in-k);
    outside = a.outside;
    placed = λ good k below in-k. a.placed good k below (each k below in-k);
    kept = a.kept;
  }

  all-named : (are : Bool) → (are ≡ true → (k : ℕ) → k < length numbers → is_place n (get_or numbers k (pos 0)) ≡ true) → (are ≡ false → list_all (is_place n) numbers ≡ false) → are ≡ list_all (is_place n) numbers
  all-named true h h' = sym (list_all-from_AllPass (is_place n) numbers (λ k d below. ap (is_place n) (get_or_default numbers k d (pos 0) below) ∙ h refl k below))
  all-named false h h' = sym (h' refl)

  -- all places were read
  pub all-read : (among : ℕ → Type 0) (are : Bool) (old new : List ℕ) → AreRead n numbers among are old new → length new ≡ length numbers → ((k : ℕ) → k < length numbers → among k) → ArePlaces n numbers are new
  all-read among are old new a many each =
      let is : are ≡ list_all (is_place n) numbers = all-named are (λ is k below. a.named is k below (each k below)) a.outside in (
        is,
        λ named. same_lists new (map (place_of n) numbers) (many ∙ sym (length-map numbers (place_of n))) (λ k d below.
            let low : k < length numbers = omega (arith, below, many) in
            get_or_default new k d 0 below ∙ a.placed (sym is ∙ named) k low (each k low) ∙ sym (get_or-map (place_of n) numbers k (pos 0) d low)),
      )

-- ---- the items of a list whose part was written

module _ (at m : ℕ) (xs ys : List ℕ) (within : at ≤ length xs) (size : length ys ≡ m) where
  pub mid-put : (j : ℕ) → j < m → get_or (put_mid at m xs ys) (at + j) 0 ≡ get_or ys j 0
  mid-put j low =
      let front : length (take at xs) ≡ at = length-take-le at xs within in
      let there : at + j - at ≡ j = omega arith in
      sym (get_or-take (at + length ys) (put_mid at m xs ys) (at + j) 0 (omega (arith, low, size)))
      ∙ ap (λ l. get_or l (at + j) 0) (take-put_mid at m xs ys (at + length ys) refl within)
      ∙ get_or-append_right (take at xs) ys at (at + j) 0 front (omega arith)
      ∙ ap (λ i. get_or ys i 0) there

  pub before-put : (k : ℕ) → k < at → get_or (put_mid at m xs ys) k 0 ≡ get_or xs k 0
  before-put k low =
      sym (get_or-take at (put_mid at m xs ys) k 0 low)
      ∙ ap (λ l. get_or l k 0) (take-put_mid_below at m xs ys at (omega arith) within)
      ∙ get_or-take at xs k 0 low

  pub behind-put : (i : ℕ) → get_or (put_mid at m xs ys) (at + m + i) 0 ≡ get_or xs (at + m + i) 0
  behind-put i =
      sym (get_or-drop (at + m) (put_mid at m xs ys) i 0)
      ∙ ap (λ l. get_or l i 0) (drop-put_mid at m xs ys (at + m) (omega arith) within size)
      ∙ get_or-drop (at + m) xs i 0

-- ---- some columns of a row

module _ (n : ℕ) (numbers cells : List ℤ) (columns row from end m : ℕ) (old ys : List ℕ) (is : Bool)
    (order : from ≤ end) (room : row * columns + end ≤ length numbers) (many : length old ≡ length numbers) (some : m ≡ end - from) (size : length ys ≡ m) (sized : length cells ≡ m)
    (each : (j : ℕ) → j < m → get_or cells j (pos 0) ≡ get_or numbers (row * columns + from + j) (pos 0)) (are : ArePlaces n cells is ys) where
  abbrev at : ℕ
  at = row * columns + from

  abbrev new : List ℕ
  new = put_mid at m old ys

  within : at ≤ length old
  within = omega (arith, order, room, many)

  there : (j : ℕ) → j < m → at + j < length numbers
  there j low = omega (arith, low, some, order, room)

  all-cells : list_all (is_place n) numbers ≡ true → list_all (is_place n) cells ≡ true
  all-cells good = list_all-from_AllPass (is_place n) cells (λ j d below.
      let low : j < m = omega (arith, below, sized) in
      ap (is_place n) (get_or_default cells j d (pos 0) below ∙ each j low) ∙ AllPass-from_list_all (is_place n) numbers good (at + j) (pos 0) (there j low))

  right-at : list_all (is_place n) numbers ≡ true → (j : ℕ) → j < m → get_or new (at + j) 0 ≡ place_of n (get_or numbers (at + j) (pos 0))
  right-at good j low =
      mid-put at m old ys within size j low
      ∙ ap (λ l. get_or l j 0) (are.1 (are.0 ∙ all-cells good))
      ∙ get_or-map (place_of n) cells j (pos 0) 0 (omega (arith, low, sized))
      ∙ ap (place_of n) (each j low)

  -- the column of an item of these cells, counted from the first
  found : (k : ℕ) → InCells columns row from end k → (j : ℕ) × (j < m) × (at + j ≡ k)
  found k in-k =
      let is-row : k / columns * columns ≡ row * columns = ap (λ r. r * columns) in-k.in_row in
      (k % columns - from, omega (arith, some, in-k.low, in-k.high), omega (arith, is-row, div-add-mod' k columns, in-k.low))

  moved-to : (k j : ℕ) → at + j ≡ k → get_or new (at + j) 0 ≡ place_of n (get_or numbers (at + j) (pos 0)) → get_or new k 0 ≡ place_of n (get_or numbers k (pos 0))
  moved-to k j e right = subst (λ i. get_or new i 0 ≡ place_of n (get_or numbers i (pos 0))) e right

  behind : (k i : ℕ) → at + m + i ≡ k → get_or new k 0 ≡ get_or old k 0
  behind k i e = subst (λ i. get_or new i 0 ≡ get_or old i 0) e (behind-put at m old ys within size i)

  right-kept : list_all (is_place n) numbers ≡ true → (k : ℕ) → get_or old k 0 ≡ place_of n (get_or numbers k (pos 0)) → (k < at) ⊎ (at ≤ k) → (k < at + m) ⊎ (at + m ≤ k) → get_or new k 0 ≡ place_of n (get_or numbers k (pos 0))
  right-kept good k right (inl low) _ = before-put at m old ys within size k low ∙ right
  right-kept good k right (inr high) (inl low) = moved-to k (k - at) (omega (arith, high)) (right-at good (k - at) (omega (arith, high, low)))
  right-kept good k right (inr high) (inr far) = behind k (k - (at + m)) (omega (arith, far)) ∙ right

  pub cells-read : AreRead n numbers (InCells columns row from end) is old new
  cells-read = record {
    named = λ good k below in-k.
        let j = found k in-k in
        ap (λ i. is_place n (get_or numbers i (pos 0))) (sym j.2) ∙ ap (is_place n) (sym (each j.0 j.1)) ∙ AllPass-from_list_all (is_place n) cells (sym are.0 ∙ good) j.0 (pos 0) (omega (arith, j.1, sized));
    outside = λ bad. false_from_ne_true (list_all (is_place n) numbers) (λ good. false≢true (sym bad ∙ are.0 ∙ all-cells good));
    placed = λ good k below in-k.
        let j = found k in-k in
        moved-to k j.0 j.2 (right-at good j.0 j.1);
    kept = λ good k below right. right-kept good k right (cases_lt k at) (cases_lt k (at + m));
  }

-- ---- rows

-- of the rows that are multiples of `step` behind a row, only one is among the next `step` rows
pub same-row : (step first row other : ℕ) → row % step ≡ first → other % step ≡ first → row ≤ other → other < row + step → (row / step < other / step) ⊎ (other / step ≤ row / step) → other ≡ row
same-row step first row other is is' low high (inl less) = absurd (omega (arith, mul-le-mul_right step less, div-add-mod' row step, div-add-mod' other step, is, is', high))
same-row step first row other is is' low high (inr more) = omega (arith, mul-le-mul_right step more, div-add-mod' row step, div-add-mod' other step, is, is', low)

-- ---- the sums of offsets

regroup : (k a b r s : ℕ) → k * (a * b) + (r * b + s) ≡ (k * a + r) * b + s
regroup k a b r s = omega arith

rank-both : (front back i j : List ℕ) → IsIndex front i → rank (front ++ back) (i ++ j) ≡ rank front i * count back + rank back j
rank-both [] back [] j in' = omega arith
rank-both [] back (k ∷ i) j in' = absurd in'
rank-both (n ∷ front) back [] j in' = absurd in'
rank-both (n ∷ front) back (k ∷ i) j in' =
    (λ z. k * count-append front back z + rank-both front back i j in'.1 z) ∙ regroup k (count front) (count back) (rank front i) (rank back j)

module _ (layout outer inner : Layout) (k : ℕ) (within : k ≤ length layout.shape) (some : 0 < count layout.shape)
    (outer_shape : outer.shape ≡ take k layout.shape) (outer_strides : outer.strides ≡ take k layout.strides) (outer_offset : outer.offset ≡ layout.offset)
    (inner_shape : inner.shape ≡ drop k layout.shape) (inner_strides : inner.strides ≡ drop k layout.strides) (inner_offset : inner.offset ≡ layout.offset) where
  pub counted : count layout.shape ≡ count outer.shape * count inner.shape
  counted = ap count (sym (take-append-drop k layout.shape)) ∙ count-append (take k layout.shape) (drop k layout.shape) ∙ (λ z. count (sym outer_shape z) * count (sym inner_shape z))

  pub summed : (r c : ℕ) → r < count outer.shape → c < count inner.shape → get_or (offsets layout) (r * count inner.shape + c) 0 + layout.offset ≡ get_or (offsets outer) r 0 + get_or (offsets inner) c 0
  summed r c below below' =
      let i = index_at outer.shape r below in
      let j = index_at inner.shape c below' in
      let in-i : IsIndex (take k layout.shape) i.0 = subst (λ (s : List ℕ). IsIndex s i.0) outer_shape i.1 in
      let in-j : IsIndex (drop k layout.shape) j.0 = subst (λ (s : List ℕ). IsIndex s j.0) inner_shape j.1 in
      let in-both : IsIndex layout.shape (i.0 ++ j.0) = IsIndex-whole layout.shape k some i.0 j.0 in-i in-j in
      let row : rank (take k layout.shape) i.0 ≡ r = ap (λ (s : List ℕ). rank s i.0) (sym outer_shape) ∙ i.2 in
      let column : rank (drop k layout.shape) j.0 ≡ c = ap (λ (s : List ℕ). rank s j.0) (sym inner_shape) ∙ j.2 in
      let ranked : rank layout.shape (i.0 ++ j.0) ≡ r * count inner.shape + c = ap (λ (s : List ℕ). rank s (i.0 ++ j.0)) (sym (take-append-drop k layout.shape)) ∙ rank-both (take k layout.shape) (drop k layout.shape) i.0 j.0 in-i ∙ (λ z. row z * count (sym inner_shape z) + column z) in
      let here : pos (get_or (offsets layout) (r * count inner.shape + c) 0) ≡ address layout (i.0 ++ j.0) = ap (λ x. pos (get_or (offsets layout) x 0)) (sym ranked) ∙ pos-offset layout (i.0 ++ j.0) 0 in-both in
      let out : pos (get_or (offsets outer) r 0) ≡ address_at (take k layout.strides) layout.offset i.0 = ap (λ x. pos (get_or (offsets outer) x 0)) (sym i.2) ∙ pos-offset outer i.0 0 i.1 ∙ (λ z. address_at (outer_strides z) (outer_offset z) i.0) in
      let along : pos (get_or (offsets inner) c 0) ≡ address_at (drop k layout.strides) layout.offset j.0 = ap (λ x. pos (get_or (offsets inner) x 0)) (sym j.2) ∙ pos-offset inner j.0 0 j.1 ∙ (λ z. address_at (inner_strides z) (inner_offset z) j.0) in
      joined _ _ _ _ _ _ _ here out along (address-both layout k within some i.0 j.0 in-i)
    where
      joined : (x b u v : ℕ) (z w y : ℤ) → pos x ≡ z → pos u ≡ w → pos v ≡ y → z +ℤ pos b ≡ w +ℤ y → x + b ≡ u + v
      joined x b u v z w y is is' is'' both = omega (arith, ints, is, is', is'', both)

pub start-small : (l : Layout) → 0 < count l.shape → l.offset ≤ max_bytes
start-small l some =
    below (address l (zero_filled l.shape [])) l.offset (ap (λ z. pos l.offset +ℤ z) (dot-zeros l.strides l.shape) ∙ +ℤ_idr (pos l.offset)) (l.within_limit.within (zero_filled l.shape []) (IsIndex-first l.shape some))
  where
    below : (z : ℤ) (n : ℕ) → z ≡ pos n → (z +ℤ pos 1) ≤ℤ pos max_bytes → n ≤ max_bytes
    below z n is high = omega (arith, ints, is, high)
