-- A plan is made of the other axes and of the offset of the first item with each point.
use Rattle.std.proofs.Common.{◌≡◌, ℕ, zero, suc, ◌+◌, ◌*◌, ◌/◌, ◌<◌, ◌≤◌, ◌≤ℤ◌, List, [], ◌++◌, map, length, get_or, take, drop, All, sym, ap, subst, ◌∙◌, arith, append_assoc, mul_assoc, mul_comm, length-take-le, ℤ, pos, ◌+ℤ◌}
use Rattle.fancy_index.proofs.Words.{ints, div-mul-add, length-map, drop-drop, take-append-drop, All-map, take-append_seam, drop-append_seam, +ℤ_idr, Layout, max_bytes, count, indexes, rank, IsIndex, dot, address_at, natural, address, offsets, zero_filled, factors_pos, length-index, length-indexes, dot-zeros, IsIndex-first, pos-natural, get_or-offsets, count-append, picked_index, view_through, IndexPart, Part, other_axes, points_place, leads, all_axes, leads_through, Planned, IsPlanOf, moved_offset, moved_all, IsMoved, IsStart, AreStarts, shown_part, AreParts, IsReady, IsReadyAt, first_at, first_offset, rest_picks, IsRest}
use Rattle.fancy_index.proofs.CutLaws.{IsIndex-whole, some-behind, address-both}
use Rattle.fancy_index.proofs.IndexSplits.{all_indexes, all_offsets, moved-joined, IsIndex-cut}
use Rattle.fancy_index.proofs.LeadLaws.{leads-in, first-leads, picked-starts, split}
use Rattle.fancy_index.proofs.PlaceLaws.{place-within}
use Rattle.fancy_index.proofs.ShiftLaws.{all_ready_at}

-- ---- where the axes of the points are

module _ (parts : List IndexPart) (points : List ℕ) where
  abbrev pub shown_parts : List Part
  shown_parts = map shown_part parts

  abbrev pub others : List ℕ
  others = other_axes shown_parts

  abbrev pub place : ℕ
  place = points_place shown_parts

  counts : count (all_axes points shown_parts) ≡ count (take place others) * (count points * count (drop place others))
  counts =
      ap count (append_assoc (take place others) points (drop place others)) ∙ count-append (take place others) (points ++ drop place others) ∙ ap (λ c. count (take place others) * c) (count-append points (drop place others))

  pub some_others : 0 < count (all_axes points shown_parts) → (0 < count others) × (0 < count points)
  some_others some =
      let first = factors_pos (count (take place others)) (count points * count (drop place others)) (omega (arith, counts, some)) in
      let second = factors_pos (count points) (count (drop place others)) first.1 in
      let whole : count others ≡ count (take place others) * count (drop place others) = ap count (sym (take-append-drop place others)) ∙ count-append (take place others) (drop place others) in
      (omega (arith, whole, product (count (take place others)) (count (drop place others)) first.0 second.1), second.0)
    where
      product : (m n : ℕ) → 0 < m → 0 < n → 0 < m * n
      product zero n some some' = absurd (omega arith)
      product (suc m) zero some some' = absurd (omega arith)
      product (suc m) (suc n) some some' = omega arith

-- the outer and the inner layout of a plan are the rest of the layout, cut at the place of the points
pub record IsLaid (layout rest outer inner : Layout) (parts : List IndexPart) (points : List ℕ) : Type 0 where
  pub are : AreParts layout.shape parts
  pub ready : All (IsReady points) parts
  pub is_rest : IsRest layout parts rest
  pub some : 0 < count (other_axes (map shown_part parts))
  pub outer_shape : outer.shape ≡ take (points_place (map shown_part parts)) rest.shape
  pub outer_strides : outer.strides ≡ take (points_place (map shown_part parts)) rest.strides
  pub outer_offset : outer.offset ≡ rest.offset
  pub inner_shape : inner.shape ≡ drop (points_place (map shown_part parts)) rest.shape
  pub inner_strides : inner.strides ≡ drop (points_place (map shown_part parts)) rest.strides
  pub inner_offset : inner.offset ≡ rest.offset

combine : (off dj dpz dz dpj rj rz b o i : ℤ) → dj +ℤ dpz ≡ dz +ℤ dpj → rj ≡ off +ℤ dpj → rz ≡ off +ℤ dpz → rz ≡ b → rj +ℤ b ≡ o +ℤ i → ((off +ℤ dj) +ℤ b) +ℤ b ≡ ((off +ℤ dz) +ℤ o) +ℤ i
combine off dj dpz dz dpj rj rz b o i same one two none both = omega (arith, ints, same, one, two, none, both)

naturals : (za zs zo zi : ℤ) (a s o i b : ℕ) → pos a ≡ za → pos s ≡ zs → pos o ≡ zo → pos i ≡ zi → (za +ℤ pos b) +ℤ pos b ≡ (zs +ℤ zo) +ℤ zi → a + b + b ≡ s + o + i
naturals za zs zo zi a s o i b is-a is-s is-o is-i sum = omega (arith, ints, is-a, is-s, is-o, is-i, sum)

module _ (layout rest outer inner : Layout) (parts : List IndexPart) (points : List ℕ) (laid : IsLaid layout rest outer inner parts points) where
  abbrev shown : List Part
  shown = map shown_part parts

  abbrev k : ℕ
  k = points_place shown

  abbrev zeros : List ℕ
  zeros = zero_filled (other_axes shown) []

  zeros-in : IsIndex (other_axes shown) zeros
  zeros-in = IsIndex-first (other_axes shown) laid.some

  within : k ≤ length rest.shape
  within = omega (arith, place-within shown, ap length laid.is_rest.shape)

  some : 0 < count rest.shape
  some = omega (arith, laid.some, ap count laid.is_rest.shape)

  ready : (at : List ℕ) → IsIndex points at → All (IsReadyAt at) parts
  ready at in-at = all_ready_at points at parts in-at laid.ready

  in-rest : (o i : List ℕ) → IsIndex outer.shape o → IsIndex inner.shape i → IsIndex rest.shape (o ++ i)
  in-rest o i in-o in-i =
      IsIndex-whole rest.shape k some o i (subst (λ (s : List ℕ). IsIndex s o) laid.outer_shape in-o) (subst (λ (s : List ℕ). IsIndex s i) laid.inner_shape in-i)

  in-others : (j : List ℕ) → IsIndex rest.shape j → IsIndex (other_axes shown) j
  in-others j in-j = subst (λ (s : List ℕ). IsIndex s j) laid.is_rest.shape in-j

  to-rest : (j : List ℕ) → IsIndex (other_axes shown) j → IsIndex rest.shape j
  to-rest j in-j = subst (λ (s : List ℕ). IsIndex s j) (sym laid.is_rest.shape) in-j

  zeros-rest : address rest zeros ≡ pos rest.offset
  zeros-rest = ap (λ z. pos rest.offset +ℤ z) (dot-zeros rest.strides (other_axes shown)) ∙ +ℤ_idr (pos rest.offset)

  -- the rest begins at the item with all points at 0
  pub rest-start : pos rest.offset ≡ address layout (Rattle.fancy_index.specs.inside.Sums.starts parts)
  rest-start = sym zeros-rest ∙ laid.is_rest.same zeros (to-rest zeros zeros-in) ∙ ap (address layout) (picked-starts parts zeros-in)

  pub leads-to : (at j : List ℕ) → IsIndex points at → IsIndex (other_axes shown) j → IsIndex layout.shape (leads at shown j)
  leads-to at j in-at in-j = leads-in at layout.shape parts j laid.are (ready at in-at) in-j

  pub first-in : (at : List ℕ) → IsIndex points at → IsIndex layout.shape (first_at parts at)
  first-in at in-at = subst (IsIndex layout.shape) (sym (first-leads at layout.shape parts laid.are (ready at in-at) zeros-in)) (leads-to at zeros in-at zeros-in)

  -- the address of an item is the sum of the point's address and those of the outer and the inner index
  integers : (at o i : List ℕ) → IsIndex points at → IsIndex outer.shape o → IsIndex inner.shape i →
      (address layout (leads at shown (o ++ i)) +ℤ pos rest.offset) +ℤ pos rest.offset ≡ (address layout (first_at parts at) +ℤ address outer o) +ℤ address inner i
  integers at o i in-at in-o in-i =
      let j = o ++ i in
      let in-j = in-rest o i in-o in-i in
      let picked = λ (x : List ℕ). picked_index (map Rattle.view_ops.specs.Picks.pick_shown (rest_picks parts)) x in
      let first = first-leads at layout.shape parts laid.are (ready at in-at) zeros-in in
      let outer-is : address outer o ≡ address_at (take k rest.strides) rest.offset o = λ i. address_at (laid.outer_strides i) (laid.outer_offset i) o in
      let inner-is : address inner i ≡ address_at (drop k rest.strides) rest.offset i = λ t. address_at (laid.inner_strides t) (laid.inner_offset t) i in
      combine (pos layout.offset) (dot layout.strides (leads at shown j)) (dot layout.strides (picked zeros)) (dot layout.strides (leads at shown zeros)) (dot layout.strides (picked j)) (address rest j) (address rest zeros) (pos rest.offset)
      (address_at (take k rest.strides) rest.offset o) (address_at (drop k rest.strides) rest.offset i)
      (split at layout.strides layout.shape parts j zeros laid.are (ready at in-at) (in-others j in-j) zeros-in)
      (laid.is_rest.same j in-j)
      (laid.is_rest.same zeros (to-rest zeros zeros-in))
      zeros-rest
      (address-both rest k within some o i (subst (λ (s : List ℕ). IsIndex s o) laid.outer_shape in-o))
      ∙ sym (λ t. (address layout (first t) +ℤ outer-is t) +ℤ inner-is t)

  abbrev shift : List ℕ → ℕ
  shift at = first_offset layout parts at

  abbrev item : List ℕ → List ℕ → List ℕ → ℕ
  item at o i = natural (address layout (leads at shown (o ++ i)))

  sum : (at o i : List ℕ) → IsIndex points at → IsIndex outer.shape o → IsIndex inner.shape i → item at o i + inner.offset + inner.offset ≡ shift at + natural (address outer o) + natural (address inner i)
  sum at o i in-at in-o in-i =
      subst (λ b. item at o i + b + b ≡ shift at + natural (address outer o) + natural (address inner i)) (sym laid.inner_offset) (naturals _ _ _ _ (item at o i) (shift at) (natural (address outer o)) (natural (address inner i)) rest.offset
      (pos-natural _ (layout.within_limit.from_zero (leads at shown (o ++ i)) (leads-to at (o ++ i) in-at (in-others (o ++ i) (in-rest o i in-o in-i)))))
      (pos-natural _ (layout.within_limit.from_zero (first_at parts at) (first-in at in-at)))
      (pos-natural _ (outer.within_limit.from_zero o in-o))
      (pos-natural _ (inner.within_limit.from_zero i in-i))
      (integers at o i in-at in-o in-i))

  item-low : (at o i : List ℕ) → IsIndex points at → IsIndex outer.shape o → IsIndex inner.shape i → item at o i < max_bytes
  item-low at o i in-at in-o in-i =
      let in-l = leads-to at (o ++ i) in-at (in-others (o ++ i) (in-rest o i in-o in-i)) in
      below (address layout (leads at shown (o ++ i))) (layout.within_limit.from_zero _ in-l) (layout.within_limit.within _ in-l)
    where
      below : (z : ℤ) → pos 0 ≤ℤ z → (z +ℤ pos 1) ≤ℤ pos max_bytes → natural z < max_bytes
      below z low high = omega (arith, ints, pos-natural z low)

  -- the index of the first inner item
  abbrev inner-zeros : List ℕ
  inner-zeros = zero_filled inner.shape []

  inner-some : 0 < count inner.shape
  inner-some = omega (arith, ap count laid.inner_shape, some-behind rest.shape k some)

  inner-first : natural (address inner inner-zeros) ≡ inner.offset
  inner-first = ap natural (ap (λ z. pos inner.offset +ℤ z) (dot-zeros inner.strides inner.shape) ∙ +ℤ_idr (pos inner.offset))

  pub small-offset : inner.offset ≤ max_bytes
  small-offset =
      below (address inner inner-zeros) inner.offset (ap (λ z. pos inner.offset +ℤ z) (dot-zeros inner.strides inner.shape) ∙ +ℤ_idr (pos inner.offset)) (inner.within_limit.within inner-zeros (IsIndex-first inner.shape inner-some))
    where
      below : (z : ℤ) (n : ℕ) → z ≡ pos n → (z +ℤ pos 1) ≤ℤ pos max_bytes → n ≤ max_bytes
      below z n is high = omega (arith, ints, is, high)

  -- the start of the items at an outer place with a point
  start-is : (at o : List ℕ) → IsIndex points at → IsIndex outer.shape o → item at o inner-zeros + inner.offset ≡ natural (address outer o) + shift at
  start-is at o in-at in-o = omega (arith, sum at o inner-zeros in-at in-o (IsIndex-first inner.shape inner-some), inner-first)

  pub same-offset : (o at i : List ℕ) → IsIndex outer.shape o → IsIndex points at → IsIndex inner.shape i → moved_offset inner.offset (moved_offset inner.offset (natural (address outer o)) (shift at)) (natural (address inner i)) ≡ item at o i
  same-offset o at i in-o in-at in-i =
      omega (arith, sum at o i in-at in-o in-i, start-is at o in-at in-o)

  start-at : (o at : List ℕ) → IsIndex outer.shape o → IsIndex points at → IsStart inner.offset (offsets inner) (natural (address outer o)) (shift at)
  start-at o at in-o in-at = record {
    start = record { from = omega (arith, start-is at o in-at in-o); below = omega (arith, start-is at o in-at in-o, item-low at o inner-zeros in-at in-o (IsIndex-first inner.shape inner-some)) };
    items = all_offsets (IsMoved inner.offset (moved_offset inner.offset (natural (address outer o)) (shift at))) inner (λ i in-i. record {
      from = omega (arith, sum at o i in-at in-o in-i, start-is at o in-at in-o);
      below = omega (arith, sum at o i in-at in-o in-i, start-is at o in-at in-o, item-low at o i in-at in-o in-i);
    });
  }

  pub starts : All (AreStarts inner.offset (offsets inner) (map (first_offset layout parts) (indexes points))) (offsets outer)
  starts = all_offsets (AreStarts inner.offset (offsets inner) (map (first_offset layout parts) (indexes points))) outer (λ o in-o.
      All-map (IsStart inner.offset (offsets inner) (natural (address outer o))) (first_offset layout parts) (indexes points) (all_indexes (λ at. IsStart inner.offset (offsets inner) (natural (address outer o)) (shift at)) points (λ at in-at. start-at o at in-o in-at)))

  -- ---- the list of offsets

  abbrev view-leads : List ℕ → List ℕ
  view-leads = leads_through (length points) shown

  shapes-are : outer.shape ++ (points ++ inner.shape) ≡ all_axes points shown
  shapes-are =
      (λ t. (laid.outer_shape ∙ ap (take k) laid.is_rest.shape) t ++ (points ++ (laid.inner_shape ∙ ap (drop k) laid.is_rest.shape) t))
      ∙ sym (append_assoc (take k (other_axes shown)) points (drop k (other_axes shown)))

  leads-joined : (o at i : List ℕ) → IsIndex outer.shape o → IsIndex points at → IsIndex inner.shape i → view-leads (o ++ (at ++ i)) ≡ leads at shown (o ++ i)
  leads-joined o at i in-o in-at in-i =
      let size : length o ≡ k = length-index outer.shape o in-o ∙ ap length laid.outer_shape ∙ length-take-le k rest.shape within in
      let size' : length at ≡ length points = length-index points at in-at in
      let front : take k (o ++ (at ++ i)) ≡ o = ap (λ n. take n (o ++ (at ++ i))) (sym size) ∙ take-append_seam o (at ++ i) in
      let later : drop k (o ++ (at ++ i)) ≡ at ++ i = ap (λ n. drop n (o ++ (at ++ i))) (sym size) ∙ drop-append_seam o (at ++ i) in
      let middle : take (length points) (drop k (o ++ (at ++ i))) ≡ at = ap (take (length points)) later ∙ ap (λ n. take n (at ++ i)) (sym size') ∙ take-append_seam at i in
      let back : drop (k + length points) (o ++ (at ++ i)) ≡ i = sym (drop-drop (length points) k (o ++ (at ++ i))) ∙ ap (drop (length points)) later ∙ ap (λ n. drop n (at ++ i)) (sym size') ∙ drop-append_seam at i in
      λ t. leads (middle t) shown (front t ++ back t)

  pub places : moved_all inner.offset (offsets outer) (map (first_offset layout parts) (indexes points)) (offsets inner) ≡ view_through (offsets layout) layout.shape (all_axes points shown) view-leads
  places =
      let f = λ (index : List ℕ). get_or (offsets layout) (rank layout.shape (view-leads index)) 0 in
      moved-joined inner.offset outer inner points (first_offset layout parts) f (λ o at i in-o in-at in-i.
      let in-l = leads-to at (o ++ i) in-at (in-others (o ++ i) (in-rest o i in-o in-i)) in
      same-offset o at i in-o in-at in-i
      ∙ sym (get_or-offsets layout (leads at shown (o ++ i)) 0 in-l)
      ∙ ap (λ l. get_or (offsets layout) (rank layout.shape l) 0) (sym (leads-joined o at i in-o in-at in-i)))
      ∙ ap (λ s. map f (indexes s)) shapes-are

  pub view-in : (index : List ℕ) → IsIndex (all_axes points shown) index → IsIndex layout.shape (view-leads index)
  view-in index in' =
      let size : length (take k (other_axes shown)) ≡ k = length-take-le k (other_axes shown) (place-within shown) in
      let first = IsIndex-cut (take k (other_axes shown)) (points ++ drop k (other_axes shown)) index (subst (λ (s : List ℕ). IsIndex s index) (append_assoc (take k (other_axes shown)) points (drop k (other_axes shown))) in') in
      let second = IsIndex-cut points (drop k (other_axes shown)) (drop (length (take k (other_axes shown))) index) first.1 in
      let front : IsIndex (take k (other_axes shown)) (take k index) = subst (λ n. IsIndex (take k (other_axes shown)) (take n index)) size first.0 in
      let middle : IsIndex points (take (length points) (drop k index)) = subst (λ n. IsIndex points (take (length points) (drop n index))) size second.0 in
      let back : IsIndex (drop k (other_axes shown)) (drop (k + length points) index) = subst (IsIndex (drop k (other_axes shown))) (ap (λ n. drop (length points) (drop n index)) size ∙ drop-drop (length points) k index) second.1 in
      leads-to (take (length points) (drop k index)) (take k index ++ drop (k + length points) index) middle (IsIndex-whole (other_axes shown) k laid.some (take k index) (drop (k + length points) index) front back)

  pub is-plan : (plan : Planned) → plan.shape ≡ all_axes points shown → plan.offsets ≡ moved_all inner.offset (offsets outer) (map (first_offset layout parts) (indexes points)) (offsets inner) → IsPlanOf layout plan (record { shape = all_axes points shown; leads = leads_through (length points) shown })
  is-plan plan shape offsets-are = record { shape = shape; leads = view-in; places = offsets-are ∙ places }

  pub count-is : length (moved_all inner.offset (offsets outer) (map (first_offset layout parts) (indexes points)) (offsets inner)) ≡ count (all_axes points shown)
  count-is = ap length places ∙ length-map (indexes (all_axes points shown)) (λ index. get_or (offsets layout) (rank layout.shape (view-leads index)) 0) ∙ length-indexes (all_axes points shown)

-- the number of points is the number of all items, divided by the number of items on the other axes
pub points_many : (parts : List IndexPart) (points : List ℕ) → 0 < count (other_axes (map shown_part parts)) → count (all_axes points (map shown_part parts)) / count (other_axes (map shown_part parts)) ≡ count points
points_many parts points some =
    let k = points_place (map shown_part parts) in
    let others = other_axes (map shown_part parts) in
    let whole : count others ≡ count (take k others) * count (drop k others) = ap count (sym (take-append-drop k others)) ∙ count-append (take k others) (drop k others) in
    let all : count (all_axes points (map shown_part parts)) ≡ count points * count others =
    counts parts points ∙ turned (count (take k others)) (count points) (count (drop k others)) ∙ ap (λ c. count points * c) (sym whole) in
    ap (λ c. c / count others) (all ∙ more (count points * count others)) ∙ div-mul-add (count points) (count others) 0 some
  where
    more : (n : ℕ) → n ≡ n + 0
    more n = omega arith

    turned : (a p b : ℕ) → a * (p * b) ≡ p * (a * b)
    turned a p b = sym (mul_assoc a p b) ∙ ap (λ c. c * b) (mul_comm a p) ∙ mul_assoc p a b
