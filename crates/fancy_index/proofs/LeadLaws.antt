-- Which indexes of the array the indexes of the result lead to, part by part.
use Rattle.std.proofs.Common.{◌≡◌, ℕ, ◌+◌, ◌<◌, ◌≤◌, IsTrue, List, [], ◌∷◌, ◌++◌, map, length, get_or, take, drop, All, refl, sym, ap, subst, ◌∙◌, arith, length-append, ℤ, pos, ◌+ℤ◌, ◌*ℤ◌}
use Rattle.fancy_index.proofs.Words.{ints, get_or-map, All-head, All-tail, All-cons, All-nil, +ℤ_idl, *ℤ-zero, max_axes, count, rank, IsIndex, dot, zero_filled, factors_pos, length-index, IsIndex-append, AxisPick, run_numbers, picked_index, pick_shown, ArePicks, length-run, number_at, can_stretch, broadcast_index, AtAxis, AlongAxis, NewAxis, PointList, IndexPart, AxisPart, PointsPart, BetweenPart, point_shapes, other_axes, leads, tuple, ranks_of, shown_part, AreParts, IsReady, HasPointAt, IsReadyAt, point_of, first_at, rest_picks, starts}
use Rattle.fancy_index.specs.Words.{first_number}
use Rattle.fancy_index.proofs.CutLaws.{dot-cut}
use Rattle.fancy_index.proofs.ShiftLaws.{rank-low, point-low, tuple-in}

-- ---- points that are stretched to the common shape

pub all_ready : (shape points : List ℕ) (parts : List IndexPart) → AreParts shape parts → length shape ≤ max_axes → All (λ s. IsTrue (can_stretch s points)) (point_shapes (map shown_part parts)) → All (IsReady points) parts
all_ready shape points (BetweenPart ∷ parts) are few fit = All-cons (IsReady points) BetweenPart parts tt (all_ready shape points parts are few fit)
all_ready shape points (PointsPart p ∷ parts) are few fit =
    let stretches : List ℕ → Type 0 = λ s. IsTrue (can_stretch s points) in
    let later = point_shapes (map shown_part parts) in
    let size : length shape ≡ length p.axes.items + length are.1 = ap length are.2 ∙ length-append p.axes.items are.1 in
    All-cons (IsReady points) (PointsPart p) parts (are.0, All-head stretches p.lengths.items later fit, omega (arith, size, few)) (all_ready are.1 points parts are.3 (omega (arith, size, few)) (All-tail stretches p.lengths.items later fit))
all_ready shape points (AxisPart NewAxis ∷ parts) are few fit = All-cons (IsReady points) (AxisPart NewAxis) parts tt (all_ready shape points parts are few fit)
all_ready [] points [] are few fit = All-nil (IsReady points)
all_ready [] points (AxisPart (AtAxis number) ∷ parts) are few fit = absurd are
all_ready [] points (AxisPart (AlongAxis run) ∷ parts) are few fit = absurd are
all_ready (n ∷ shape) points [] are few fit = absurd are
all_ready (n ∷ shape) points (AxisPart (AtAxis number) ∷ parts) are few fit = All-cons (IsReady points) (AxisPart (AtAxis number)) parts tt (all_ready shape points parts are.1 (omega (arith, few)) fit)
all_ready (n ∷ shape) points (AxisPart (AlongAxis run) ∷ parts) are few fit = All-cons (IsReady points) (AxisPart (AlongAxis run)) parts tt (all_ready shape points parts are.1 (omega (arith, few)) fit)

-- ---- the first item that is picked if all points are 0

zeros-picked : (axes : List ℕ) (picks : List AxisPick) (index : List ℕ) → picked_index (map pick_shown (map (λ _. AtAxis 0) axes ++ picks)) index ≡ map (λ _. 0) axes ++ picked_index (map pick_shown picks) index
zeros-picked [] picks index = refl
zeros-picked (n ∷ axes) picks index = ap (λ l. 0 ∷ l) (zeros-picked axes picks index)

pub picked-starts : (parts : List IndexPart) → IsIndex (other_axes (map shown_part parts)) (zero_filled (other_axes (map shown_part parts)) []) →
    picked_index (map pick_shown (rest_picks parts)) (zero_filled (other_axes (map shown_part parts)) []) ≡ starts parts
picked-starts [] in' = refl
picked-starts (BetweenPart ∷ parts) in' = picked-starts parts in'
picked-starts (PointsPart p ∷ parts) in' = zeros-picked p.axes.items (rest_picks parts) _ ∙ ap (λ l. map (λ _. 0) p.axes.items ++ l) (picked-starts parts in')
picked-starts (AxisPart NewAxis ∷ parts) in' = picked-starts parts in'.1
picked-starts (AxisPart (AtAxis number) ∷ parts) in' = ap (λ l. number ∷ l) (picked-starts parts in')
picked-starts (AxisPart (AlongAxis run) ∷ parts) in' =
    let number : get_or (run_numbers run) 0 0 ≡ run.first = number_at run 0 (omega (arith, length-run run, in'.0)) ∙ first_number run in
    let later = picked-starts parts in'.1 in
    λ i. number i ∷ later i

-- ---- for the point of one index

module _ (at : List ℕ) where
  -- the point is the one of the definition
  lead-point : (p : PointList) → HasPointAt at p → get_or (map (tuple p.axes.items) (ranks_of p.ranks)) (rank p.lengths.items (broadcast_index p.lengths.items at)) [] ≡ point_of p at
  lead-point p has = get_or-map (tuple p.axes.items) (ranks_of p.ranks) (rank p.lengths.items (broadcast_index p.lengths.items at)) 0 [] (rank-low at p has)

  point-in : (p : PointList) → HasPointAt at p → IsIndex p.axes.items (point_of p at)
  point-in p has = tuple-in p.axes.items _ (point-low at p 0 has)

  head : (part : IndexPart) (parts : List IndexPart) → All (IsReadyAt at) (part ∷ parts) → IsReadyAt at part
  head part parts ready = All-head (IsReadyAt at) part parts ready

  tail : (part : IndexPart) (parts : List IndexPart) → All (IsReadyAt at) (part ∷ parts) → All (IsReadyAt at) parts
  tail part parts ready = All-tail (IsReadyAt at) part parts ready

  pub leads-in : (shape : List ℕ) (parts : List IndexPart) (index : List ℕ) → AreParts shape parts → All (IsReadyAt at) parts → IsIndex (other_axes (map shown_part parts)) index → IsIndex shape (leads at (map shown_part parts) index)
  leads-in shape (BetweenPart ∷ parts) index are ready in' = leads-in shape parts index are (tail BetweenPart parts ready) in'
  leads-in shape (PointsPart p ∷ parts) index are ready in' =
      let has = head (PointsPart p) parts ready in
      let later = leads at (map shown_part parts) index in
      let whole : IsIndex (p.axes.items ++ are.1) (point_of p at ++ later) = IsIndex-append p.axes.items are.1 (point_of p at) later (point-in p has) (leads-in are.1 parts index are.3 (tail (PointsPart p) parts ready) in') in
      subst (λ (s : List ℕ). IsIndex s (leads at (map shown_part (PointsPart p ∷ parts)) index)) (sym are.2) (subst (λ (x : List ℕ). IsIndex (p.axes.items ++ are.1) (x ++ later)) (sym (lead-point p has)) whole)
  leads-in shape (AxisPart NewAxis ∷ parts) [] are ready in' = absurd in'
  leads-in shape (AxisPart NewAxis ∷ parts) (k ∷ index) are ready in' = leads-in shape parts index are (tail (AxisPart NewAxis) parts ready) in'.1
  leads-in [] [] index are ready in' = tt
  leads-in [] (AxisPart (AtAxis number) ∷ parts) index are ready in' = absurd are
  leads-in [] (AxisPart (AlongAxis run) ∷ parts) index are ready in' = absurd are
  leads-in (n ∷ shape) [] index are ready in' = absurd are
  leads-in (n ∷ shape) (AxisPart (AtAxis number) ∷ parts) index are ready in' = (are.0, leads-in shape parts index are.1 (tail (AxisPart (AtAxis number)) parts ready) in')
  leads-in (n ∷ shape) (AxisPart (AlongAxis run) ∷ parts) [] are ready in' = absurd in'
  leads-in (n ∷ shape) (AxisPart (AlongAxis run) ∷ parts) (k ∷ index) are ready in' =
      let low : k < run.count = omega (arith, length-run run, in'.0) in
      (rw (number_at run k low) (are.0.below k low), leads-in shape parts index are.1 (tail (AxisPart (AlongAxis run)) parts ready) in'.1)

  -- the first item with the point
  pub first-leads : (shape : List ℕ) (parts : List IndexPart) → AreParts shape parts → All (IsReadyAt at) parts → IsIndex (other_axes (map shown_part parts)) (zero_filled (other_axes (map shown_part parts)) []) →
      first_at parts at ≡ leads at (map shown_part parts) (zero_filled (other_axes (map shown_part parts)) [])
  first-leads shape (BetweenPart ∷ parts) are ready in' = first-leads shape parts are (tail BetweenPart parts ready) in'
  first-leads shape (PointsPart p ∷ parts) are ready in' =
      let point = lead-point p (head (PointsPart p) parts ready) in
      let later = first-leads are.1 parts are.3 (tail (PointsPart p) parts ready) in' in
      λ i. sym point i ++ later i
  first-leads shape (AxisPart NewAxis ∷ parts) are ready in' = first-leads shape parts are (tail (AxisPart NewAxis) parts ready) in'.1
  first-leads [] [] are ready in' = refl
  first-leads [] (AxisPart (AtAxis number) ∷ parts) are ready in' = absurd are
  first-leads [] (AxisPart (AlongAxis run) ∷ parts) are ready in' = absurd are
  first-leads (n ∷ shape) [] are ready in' = absurd are
  first-leads (n ∷ shape) (AxisPart (AtAxis number) ∷ parts) are ready in' = ap (λ l. number ∷ l) (first-leads shape parts are.1 (tail (AxisPart (AtAxis number)) parts ready) in')
  first-leads (n ∷ shape) (AxisPart (AlongAxis run) ∷ parts) are ready in' =
      let low : 0 < run.count = omega (arith, length-run run, in'.0) in
      let number : run.first ≡ get_or (run_numbers run) 0 0 = sym (number_at run 0 low ∙ first_number run) in
      let later = first-leads shape parts are.1 (tail (AxisPart (AlongAxis run)) parts ready) in'.1 in
      λ i. number i ∷ later i

  -- ---- the picks if all points are 0

  zeros-are : (axes rest : List ℕ) (picks : List AxisPick) → 0 < count axes → ArePicks rest picks → ArePicks (axes ++ rest) (map (λ _. AtAxis 0) axes ++ picks)
  zeros-are [] rest picks some are = are
  zeros-are (n ∷ axes) rest picks some are =
      let both = factors_pos n (count axes) some in
      (both.0, zeros-are axes rest picks both.1 are)

  pub rest-are : (shape : List ℕ) (parts : List IndexPart) → AreParts shape parts → All (IsReadyAt at) parts → ArePicks shape (rest_picks parts)
  rest-are shape (BetweenPart ∷ parts) are ready = rest-are shape parts are (tail BetweenPart parts ready)
  rest-are shape (PointsPart p ∷ parts) are ready =
      let low = point-low at p 0 (head (PointsPart p) parts ready) in
      subst (λ (s : List ℕ). ArePicks s (rest_picks (PointsPart p ∷ parts))) (sym are.2) (zeros-are p.axes.items are.1 (rest_picks parts) (omega (arith, low)) (rest-are are.1 parts are.3 (tail (PointsPart p) parts ready)))
  rest-are shape (AxisPart NewAxis ∷ parts) are ready = rest-are shape parts are (tail (AxisPart NewAxis) parts ready)
  rest-are [] [] are ready = tt
  rest-are [] (AxisPart (AtAxis number) ∷ parts) are ready = absurd are
  rest-are [] (AxisPart (AlongAxis run) ∷ parts) are ready = absurd are
  rest-are (n ∷ shape) [] are ready = absurd are
  rest-are (n ∷ shape) (AxisPart (AtAxis number) ∷ parts) are ready = (are.0, rest-are shape parts are.1 (tail (AxisPart (AtAxis number)) parts ready))
  rest-are (n ∷ shape) (AxisPart (AlongAxis run) ∷ parts) are ready = (are.0, rest-are shape parts are.1 (tail (AxisPart (AlongAxis run)) parts ready))

  -- ---- sums

  -- points that are 0 add nothing
  dot-rest : (axes : List ℕ) (strides : List ℤ) (picks : List AxisPick) (index : List ℕ) → dot strides (picked_index (map pick_shown (map (λ _. AtAxis 0) axes ++ picks)) index) ≡ dot (drop (length axes) strides) (picked_index (map pick_shown picks) index)
  dot-rest [] strides picks index = refl
  dot-rest (n ∷ axes) [] picks index = refl
  dot-rest (n ∷ axes) (s ∷ strides) picks index =
      let later = dot strides (picked_index (map pick_shown (map (λ _. AtAxis 0) axes ++ picks)) index) in
      ap (λ z. z +ℤ later) (*ℤ-zero s) ∙ +ℤ_idl later ∙ dot-rest axes strides picks index

  swapped : (t a b c d : ℤ) → a +ℤ b ≡ c +ℤ d → (t +ℤ a) +ℤ b ≡ (t +ℤ c) +ℤ d
  swapped t a b c d same = omega (arith, ints, same)

  swapped-both : (t u a b c d : ℤ) → a +ℤ b ≡ c +ℤ d → (t +ℤ a) +ℤ (u +ℤ b) ≡ (u +ℤ c) +ℤ (t +ℤ d)
  swapped-both t u a b c d same = omega (arith, ints, same)

  -- the other numbers add the same for every point
  pub split : (strides : List ℤ) (shape : List ℕ) (parts : List IndexPart) (i j : List ℕ) → AreParts shape parts → All (IsReadyAt at) parts → IsIndex (other_axes (map shown_part parts)) i → IsIndex (other_axes (map shown_part parts)) j →
      dot strides (leads at (map shown_part parts) i) +ℤ dot strides (picked_index (map pick_shown (rest_picks parts)) j) ≡ dot strides (leads at (map shown_part parts) j) +ℤ dot strides (picked_index (map pick_shown (rest_picks parts)) i)
  split strides shape (BetweenPart ∷ parts) i j are ready in-i in-j = split strides shape parts i j are (tail BetweenPart parts ready) in-i in-j
  split strides shape (PointsPart p ∷ parts) i j are ready in-i in-j =
      let has = head (PointsPart p) parts ready in
      let point = get_or (map (tuple p.axes.items) (ranks_of p.ranks)) (rank p.lengths.items (broadcast_index p.lengths.items at)) [] in
      let size : length point ≡ length p.axes.items = ap length (lead-point p has) ∙ length-index p.axes.items (point_of p at) (point-in p has) in
      let left = drop (length p.axes.items) strides in
      let first = dot (take (length point) strides) point in
      let cut : (x : List ℕ) → dot strides (point ++ x) ≡ first +ℤ dot left x = λ x. dot-cut strides point x ∙ ap (λ n. first +ℤ dot (drop n strides) x) size in
      let at-i = leads at (map shown_part parts) i in
      let at-j = leads at (map shown_part parts) j in
      (λ k. cut at-i k +ℤ dot-rest p.axes.items strides (rest_picks parts) j k)
      ∙ swapped first (dot left at-i) _ (dot left at-j) _ (split left are.1 parts i j are.3 (tail (PointsPart p) parts ready) in-i in-j)
      ∙ sym (λ k. cut at-j k +ℤ dot-rest p.axes.items strides (rest_picks parts) i k)
  split strides shape (AxisPart NewAxis ∷ parts) [] j are ready in-i in-j = absurd in-i
  split strides shape (AxisPart NewAxis ∷ parts) (k ∷ i) [] are ready in-i in-j = absurd in-j
  split strides shape (AxisPart NewAxis ∷ parts) (k ∷ i) (k' ∷ j) are ready in-i in-j = split strides shape parts i j are (tail (AxisPart NewAxis) parts ready) in-i.1 in-j.1
  split strides [] [] i j are ready in-i in-j = refl
  split strides [] (AxisPart (AtAxis number) ∷ parts) i j are ready in-i in-j = absurd are
  split strides [] (AxisPart (AlongAxis run) ∷ parts) i j are ready in-i in-j = absurd are
  split strides (n ∷ shape) [] i j are ready in-i in-j = absurd are
  split [] (n ∷ shape) (AxisPart (AtAxis number) ∷ parts) i j are ready in-i in-j = refl
  split (s ∷ strides) (n ∷ shape) (AxisPart (AtAxis number) ∷ parts) i j are ready in-i in-j =
      swapped-both (s *ℤ pos number) (s *ℤ pos number) (dot strides (leads at (map shown_part parts) i)) _ (dot strides (leads at (map shown_part parts) j)) _ (split strides shape parts i j are.1 (tail (AxisPart (AtAxis number)) parts ready) in-i in-j)
  split strides (n ∷ shape) (AxisPart (AlongAxis run) ∷ parts) [] j are ready in-i in-j = absurd in-i
  split strides (n ∷ shape) (AxisPart (AlongAxis run) ∷ parts) (k ∷ i) [] are ready in-i in-j = absurd in-j
  split [] (n ∷ shape) (AxisPart (AlongAxis run) ∷ parts) (k ∷ i) (k' ∷ j) are ready in-i in-j = refl
  split (s ∷ strides) (n ∷ shape) (AxisPart (AlongAxis run) ∷ parts) (k ∷ i) (k' ∷ j) are ready in-i in-j =
      swapped-both (s *ℤ pos (get_or (run_numbers run) k 0)) (s *ℤ pos (get_or (run_numbers run) k' 0)) (dot strides (leads at (map shown_part parts) i)) _ (dot strides (leads at (map shown_part parts) j)) _ (split strides shape parts i j are.1 (tail (AxisPart (AlongAxis run)) parts ready) in-i.1 in-j.1)
