-- The loop that moves to the next index in C order, one iteration at a time.
use Rattle.std.proofs.Common.{◌≡◌, ℕ, zero, suc, ◌+◌, ◌-◌, ◌<◌, ◌≤◌, ℤ, pos, ◌+ℤ◌, ◌-ℤ◌, ◌*ℤ◌, ◌≤ℤ◌, List, [], ◌∷◌, ◌++◌, length, get_or, set, take, drop, replicate, refl, sym, ◌∙◌, ap, subst, arith, length-take-le, length-append, take_all}
use Rattle.shape_strides.proofs.Words.{ints, length-map, drop_more, drop_all, +ℤ_idr, Layout, count, indexes, rank, IsIndex, max_bytes, max_items, dot, natural, address_at, address, offsets, AreAxes, IsOnWalk, offsets_at, IsIndex-first, dot-zeros, rank-zeros, *ℤ-more, length-offsets, pos-offset, length-index, length-indexes, number-lt, zero_filled}
use Rattle.shape_strides.proofs.StepLaws.{length-padded, dot-padded, dot-push, dot-take_more, IsIndex-padded_push, rank-stepped, part_low, part_high, sum_start, sum_bounds, IsIndex-zeros, last-more}

-- the layout with these axes
abbrev pub layout_of : (shape : List ℕ) (strides : List ℤ) (offset : ℕ) → AreAxes shape strides offset → Layout
layout_of shape strides offset axes = record {
  shape = shape;
  strides = strides;
  offset = offset;
  one_stride_an_axis = axes.one_stride_an_axis;
  within_limit = axes.within_limit;
  zero_if_empty = axes.zero_if_empty;
}

pub offsets-at : (l : Layout) → offsets l ≡ offsets_at l.shape l.strides l.offset
unfolding offsets
offsets-at l = refl

-- The number before the zeros is unchanged.
pub get_or-padded_take : (shape index : List ℕ) (j : ℕ) → IsIndex shape index → j < length shape → get_or (zero_filled shape (take (suc j) index)) j 0 ≡ get_or index j 0
get_or-padded_take (n ∷ shape) (k ∷ index) (suc j) in' below = get_or-padded_take shape index j in'.1 (omega arith)
get_or-padded_take _ _ j in' below = omega arith

pub set-padded_take : (shape index : List ℕ) (j x : ℕ) → IsIndex shape index → j < length shape → set (zero_filled shape (take (suc j) index)) j x ≡ zero_filled shape (take j index ++ x ∷ [])
set-padded_take (n ∷ shape) (k ∷ index) zero x in' below = refl
set-padded_take (n ∷ shape) (k ∷ index) (suc j) x in' below = ap (λ i. k ∷ i) (set-padded_take shape index j x in'.1 (omega arith))
set-padded_take _ _ j x in' below = absurd (omega arith)

pub set-padded_zero : (shape index : List ℕ) (j : ℕ) → IsIndex shape index → j < length shape → set (zero_filled shape (take (suc j) index)) j 0 ≡ zero_filled shape (take j index)
set-padded_zero (n ∷ shape) (k ∷ index) zero in' below = refl
set-padded_zero (n ∷ shape) (k ∷ index) (suc j) in' below = ap (λ i. k ∷ i) (set-padded_zero shape index j in'.1 (omega arith))
set-padded_zero _ _ j in' below = absurd (omega arith)

-- Filling a whole index with zeros changes nothing.
pub padded-all : (shape index : List ℕ) → IsIndex shape index → zero_filled shape index ≡ index
padded-all [] [] in' = refl
padded-all (n ∷ shape) (k ∷ index) in' = ap (λ i. k ∷ i) (padded-all shape index in'.1)
padded-all _ _ in' = absurd in'

-- the state before the loop looks at the axes below `a`: the axes from `a` on were at their last numbers and are at 0
-- now
pub record StandsAt (shape : List ℕ) (strides : List ℤ) (start : ℕ) (old index : List ℕ) (a offset : ℕ) : Type 0 where
  pub within : a ≤ length shape
  pub index_is : index ≡ zero_filled shape (take a old)
  pub offset_is : pos offset ≡ pos start +ℤ dot strides (take a old)
  pub last : rank (drop a shape) (drop a old) + 1 ≡ count (drop a shape)

pub starts_at : {shape : List ℕ} {strides : List ℤ} {start : ℕ} {index : List ℕ} {offset : ℕ} → IsIndex shape index → pos offset ≡ address_at strides start index → StandsAt shape strides start index index (length shape) offset
starts_at {shape} {strides} {start} {index} {offset} in' is =
    let size = length-index shape index in' in
    let all : take (length shape) index ≡ index = take_all (length shape) index (omega arith) in
    let none : drop (length shape) index ≡ [] = drop_all (length shape) index (omega arith) in
    let none' : drop (length shape) shape ≡ [] = drop_all (length shape) shape (omega arith) in
    record {
      within = omega arith;
      index_is = rw all (sym (padded-all shape index in'));
      offset_is = rw all is;
      last = rw (none, none') refl;
    }

-- the state before the loop looks at axis j: the axes after it were at their last numbers and are at 0 now
pub record Turns (l : Layout) (old index : List ℕ) (j offset : ℕ) : Type 0 where
  pub in_shape : IsIndex l.shape old
  pub below : j < length l.shape
  pub few : get_or l.shape j 0 ≤ max_items
  pub index_is : index ≡ zero_filled l.shape (take (suc j) old)
  pub offset_is : pos offset ≡ pos l.offset +ℤ dot l.strides (take (suc j) old)
  pub last : rank (drop (suc j) l.shape) (drop (suc j) old) + 1 ≡ count (drop (suc j) l.shape)

pub turns_at : {shape : List ℕ} {strides : List ℤ} {start : ℕ} {old index : List ℕ} {a offset : ℕ} (axes : AreAxes shape strides start) → IsIndex shape old → 0 < a → StandsAt shape strides start old index a offset → Turns (layout_of shape strides start axes) old index (a - 1) offset
turns_at {shape} {strides} {start} {old} {index} {a} {offset} axes in' some at =
    let next : a ≡ suc (a - 1) = omega (arith, some) in
    let here = subst (λ k. StandsAt shape strides start old index k offset) next at in
    let below : a - 1 < length shape = omega (arith, some, at.within) in
    record { in_shape = in'; below = below; few = axes.small (a - 1) 0 below; index_is = here.index_is; offset_is = here.offset_is; last = here.last }

-- The number at axis j is still the old one.
pub number_is : {l : Layout} {old index : List ℕ} {j offset : ℕ} → Turns l old index j offset → get_or index j 0 ≡ get_or old j 0
number_is {l} {old} {index} {j} {offset} t = ap (λ i. get_or i j 0) t.index_is ∙ get_or-padded_take l.shape old j t.in_shape t.below

pub number_low : {l : Layout} {old index : List ℕ} {j offset : ℕ} → Turns l old index j offset → get_or index j 0 < max_items
number_low {l} {old} {index} {j} {offset} t = omega (arith, number_is t, number-lt l.shape old j t.in_shape t.below, t.few)

pub length_is : {l : Layout} {old index : List ℕ} {j offset : ℕ} → Turns l old index j offset → length index ≡ length l.shape
length_is {l} {old} {index} {j} {offset} t = ap length t.index_is ∙ length-padded l.shape (take (suc j) old)

pub offset-lt : {l : Layout} {old index : List ℕ} {j offset : ℕ} → Turns l old index j offset → offset < max_bytes
offset-lt {l} {old} {index} {j} {offset} t =
    sum_start offset max_bytes (pos l.offset +ℤ dot l.strides (take (suc j) old)) t.offset_is (part_high l old (suc j) t.in_shape)

-- ---- axis j moves one step on

-- the next index
abbrev pub stepped : Layout → List ℕ → ℕ → List ℕ
stepped l old j = zero_filled l.shape (take j old ++ (get_or old j 0 + 1) ∷ [])

step_on : (off d d' d'' at s p q : ℤ) → at ≡ off +ℤ d' → d' ≡ d +ℤ p → d'' ≡ d +ℤ q → q ≡ p +ℤ s → at +ℤ s ≡ off +ℤ d''
step_on off d d' d'' at s p q is one two more = omega (arith, ints)

pub step-address : {l : Layout} {old index : List ℕ} {j offset : ℕ} → Turns l old index j offset → pos offset +ℤ get_or l.strides j (pos 0) *ℤ pos 1 ≡ address l (stepped l old j)
step-address {l} {old} {index} {j} {offset} t =
    let k = get_or old j 0 in
    let s = get_or l.strides j (pos 0) in
    let size = length-index l.shape old t.in_shape in
    let inside : j < length old = omega (arith, t.below) in
    let axis : j < length l.strides = omega (arith, t.below, l.one_stride_an_axis) in
    let front : length (take j old) ≡ j = length-take-le j old (omega arith) in
    let short : length (take j old ++ (k + 1) ∷ []) ≤ length l.shape = omega (arith, length-append (take j old) ((k + 1) ∷ []), t.below) in
    let new = dot-padded l.strides l.shape (take j old ++ (k + 1) ∷ []) short ∙ dot-push l.strides (take j old) (k + 1) j front axis in
    step_on (pos l.offset) (dot l.strides (take j old)) (dot l.strides (take (suc j) old)) (dot l.strides (zero_filled l.shape (take j old ++ (k + 1) ∷ []))) (pos offset) (s *ℤ pos 1) (s *ℤ pos k) (s *ℤ pos (k + 1)) t.offset_is (dot-take_more l.strides old j inside axis) new (*ℤ-more s k)

pub IsIndex-stepped : {l : Layout} {old index : List ℕ} {j offset : ℕ} → Turns l old index j offset → get_or index j 0 + 1 < get_or l.shape j 0 → IsIndex l.shape (stepped l old j)
IsIndex-stepped {l} {old} {index} {j} {offset} t below = IsIndex-padded_push l.shape old j (get_or old j 0 + 1) t.in_shape t.below (omega (arith, number_is t, below))

pub set-stepped : {l : Layout} {old index : List ℕ} {j offset : ℕ} → Turns l old index j offset → set index j (get_or old j 0 + 1) ≡ stepped l old j
set-stepped {l} {old} {index} {j} {offset} t = ap (λ i. set i j (get_or old j 0 + 1)) t.index_is ∙ set-padded_take l.shape old j (get_or old j 0 + 1) t.in_shape t.below

pub rank-next : {l : Layout} {old index : List ℕ} {j offset : ℕ} → Turns l old index j offset → rank l.shape (stepped l old j) ≡ rank l.shape old + 1
rank-next {l} {old} {index} {j} {offset} t = rank-stepped l.shape old j t.in_shape t.below t.last

-- ---- axis j goes back to 0

back_by : (off d d' at p : ℤ) → at ≡ off +ℤ d' → d' ≡ d +ℤ p → at -ℤ p ≡ off +ℤ d
back_by off d d' at p is one = omega (arith, ints)

pub back-address : {l : Layout} {old index : List ℕ} {j offset : ℕ} → Turns l old index j offset → pos offset -ℤ get_or l.strides j (pos 0) *ℤ pos (get_or old j 0) ≡ pos l.offset +ℤ dot l.strides (take j old)
back-address {l} {old} {index} {j} {offset} t =
    let size = length-index l.shape old t.in_shape in
    let inside : j < length old = omega (arith, t.below) in
    let axis : j < length l.strides = omega (arith, t.below, l.one_stride_an_axis) in
    back_by (pos l.offset) (dot l.strides (take j old)) (dot l.strides (take (suc j) old)) (pos offset) (get_or l.strides j (pos 0) *ℤ pos (get_or old j 0)) t.offset_is (dot-take_more l.strides old j inside axis)

pub step-bounds : {l : Layout} {old index : List ℕ} {j offset : ℕ} → Turns l old index j offset → get_or index j 0 + 1 < get_or l.shape j 0 → (pos 0 ≤ℤ (pos offset +ℤ get_or l.strides j (pos 0) *ℤ pos 1)) × ((pos offset +ℤ get_or l.strides j (pos 0) *ℤ pos 1) ≤ℤ pos max_bytes)
step-bounds {l} {old} {index} {j} {offset} t below =
    let in' = IsIndex-stepped t below in
    sum_bounds (address l (stepped l old j)) (pos offset +ℤ get_or l.strides j (pos 0) *ℤ pos 1) max_bytes (step-address t) (l.within_limit.from_zero (stepped l old j) in') (l.within_limit.within (stepped l old j) in')

pub back-bounds : {l : Layout} {old index : List ℕ} {j offset : ℕ} → Turns l old index j offset → (pos 0 ≤ℤ (pos offset -ℤ get_or l.strides j (pos 0) *ℤ pos (get_or old j 0))) × ((pos offset -ℤ get_or l.strides j (pos 0) *ℤ pos (get_or old j 0)) ≤ℤ pos max_bytes)
back-bounds {l} {old} {index} {j} {offset} t =
    sum_bounds (pos l.offset +ℤ dot l.strides (take j old)) (pos offset -ℤ get_or l.strides j (pos 0) *ℤ pos (get_or old j 0)) max_bytes (back-address t) (part_low l old j t.in_shape) (part_high l old j t.in_shape)

pub set-back : {l : Layout} {old index : List ℕ} {j offset : ℕ} → Turns l old index j offset → set index j 0 ≡ zero_filled l.shape (take j old)
set-back {l} {old} {index} {j} {offset} t = ap (λ i. set i j 0) t.index_is ∙ set-padded_zero l.shape old j t.in_shape t.below

-- If axis j is at its last number too, it goes back to 0, and the loop continues with the axis before it.
pub stands_before : {l : Layout} {old index : List ℕ} {j offset back : ℕ} → Turns l old index j offset → get_or l.shape j 0 ≤ get_or index j 0 + 1 → pos back ≡ pos offset -ℤ get_or l.strides j (pos 0) *ℤ pos (get_or index j 0) → StandsAt l.shape l.strides l.offset old (set index j 0) j back
stands_before {l} {old} {index} {j} {offset} {back} t top is =
    let number = number_is t in
    record {
      within = omega (arith, t.below);
      index_is = set-back t;
      offset_is = is ∙ ap (λ k. pos offset -ℤ get_or l.strides j (pos 0) *ℤ pos k) number ∙ back-address t;
      last = last-more l.shape old j t.in_shape t.below (omega arith) t.last;
    }

pub back-range : {l : Layout} {old index : List ℕ} {j offset : ℕ} → Turns l old index j offset → (pos 0 ≤ℤ (pos offset -ℤ get_or l.strides j (pos 0) *ℤ pos (get_or index j 0))) × ((pos offset -ℤ get_or l.strides j (pos 0) *ℤ pos (get_or index j 0)) ≤ℤ pos max_bytes)
back-range {l} {old} {index} {j} {offset} t = rw (number_is t) (back-bounds t)

-- The index that is written is the next one.
pub set-next : {l : Layout} {old index : List ℕ} {j offset : ℕ} → Turns l old index j offset → set index j (get_or index j 0 + 1) ≡ stepped l old j
set-next {l} {old} {index} {j} {offset} t = ap (λ k. set index j (k + 1)) (number_is t) ∙ set-stepped t

-- If no axis remains, the index is the first one again.
pub over : {shape : List ℕ} {strides : List ℤ} {start : ℕ} {old index : List ℕ} {a offset : ℕ} → a ≤ 0 → IsIndex shape old → StandsAt shape strides start old index a offset → IsIndex shape index × (rank shape old + 1 ≡ count shape) × (pos start ≡ address_at strides start index)
over {shape} {strides} {start} {old} {index} {a} {offset} none in' at =
    let first : a ≡ 0 = omega (arith, none) in
    let here = subst (λ k. StandsAt shape strides start old index k offset) first at in
    (rw here.index_is (IsIndex-zeros shape old in'), here.last, sym (ap (λ z. pos start +ℤ z) (ap (dot strides) here.index_is ∙ dot-zeros strides shape) ∙ +ℤ_idr (pos start)))

-- ---- the start and the end of a walk

pub padded-nil : (shape : List ℕ) → replicate (length shape) 0 ≡ zero_filled shape []
padded-nil [] = refl
padded-nil (n ∷ shape) = ap (λ i. 0 ∷ i) (padded-nil shape)

-- A walk begins at the first index.
pub walk_begins : (shape : List ℕ) (strides : List ℤ) (start : ℕ) (index : List ℕ) (left : ℕ) → index ≡ zero_filled shape [] → left ≡ count shape → IsOnWalk shape strides start index start left
walk_begins shape strides start index left zeros all = record {
  most = omega arith;
  axes = ap length zeros ∙ length-padded shape [];
  next = λ some. record {
    in_shape = rw zeros (IsIndex-first shape (omega arith));
    place = omega (arith, ap (rank shape) zeros, rank-zeros shape);
    address_is = sym (ap (λ i. pos start +ℤ dot strides i) zeros ∙ ap (λ z. pos start +ℤ z) (dot-zeros strides shape) ∙ +ℤ_idr (pos start));
  };
}

-- A walk takes one item.
pub walk_step : (l : Layout) (index : List ℕ) (offset left : ℕ) → IsOnWalk l.shape l.strides l.offset index offset left → 0 < left → drop (count l.shape - left) (offsets l) ≡ offset ∷ drop (count l.shape - (left - 1)) (offsets l)
walk_step l index offset left on some =
    let next = on.next some in
    let size = length-offsets l in
    let place : count l.shape - left ≡ rank l.shape index = omega (arith, next.place) in
    let later : rank l.shape index + 1 ≡ count l.shape - (left - 1) = omega (arith, next.place) in
    let inside : rank l.shape index < length (offsets l) = omega (arith, next.place) in
    let entry = pos-offset l index 0 next.in_shape ∙ sym next.address_is in
    let is : get_or (offsets l) (rank l.shape index) 0 ≡ offset = omega (arith, ints, entry) in
    ap (λ k. drop k (offsets l)) place ∙ drop_more (offsets l) (rank l.shape index) 0 inside ∙ ap (λ x. x ∷ drop (rank l.shape index + 1) (offsets l)) is ∙ ap (λ k. offset ∷ drop k (offsets l)) later

pub walk_step_at : (shape : List ℕ) (strides : List ℤ) (start : ℕ) (index : List ℕ) (offset left : ℕ) → AreAxes shape strides start → IsOnWalk shape strides start index offset left → 0 < left → drop (count shape - left) (offsets_at shape strides start) ≡ offset ∷ drop (count shape - (left - 1)) (offsets_at shape strides start)
walk_step_at shape strides start index offset left axes on some =
    let l = layout_of shape strides start axes in
    subst (λ all. drop (count shape - left) all ≡ offset ∷ drop (count shape - (left - 1)) all) (offsets-at l) (walk_step l index offset left on some)

-- Without items left, a walk is over.
pub walk_over_at : (shape : List ℕ) (strides : List ℤ) (start left : ℕ) → left ≤ 0 → drop (count shape - left) (offsets_at shape strides start) ≡ []
walk_over_at shape strides start left none =
    let at = λ (index : List ℕ). natural (address_at strides start index) in
    drop_all (count shape - left) (offsets_at shape strides start) (omega (arith, length-map (indexes shape) at, length-indexes shape))
