-- In a stacked layout, no two items share a byte.
use Rattle.std.proofs.Common.{◌≡◌, ◌≢◌, ◌⊎◌, ℕ, suc, ◌+◌, ◌-◌, ◌*◌, ◌<◌, ◌≤◌, ℤ, pos, negsuc, ◌+ℤ◌, ◌*ℤ◌, ◌≤ℤ◌, unsigned_abs, List, [], ◌∷◌, All, sum_by, length, get_or, inl, inr, refl, sym, ◌∙◌, ap, arith, mul-le-mul_left}
use Rattle.shape_strides.proofs.Words.{cases_lt, cases_eq, cases_order, ints, All-head, All-tail, sum_by-cons, negsuc-*ℤ-pos, Layout, rank, IsIndex, dot, offsets, IsNested, distance, Axis, reach, axes, IsStacked, index_at, length-offsets, pos-offset, mul-step}
use Rattle.shape_strides.proofs.StackLaws.{within, within-all, within-none, within-le, IsClear, each_from_CanStack}

-- ---- one axis

-- Two numbers of an axis are no further apart than the axis reaches.
part-near : (s : ℤ) (n a b : ℕ) → a < n → b < n → (s *ℤ pos a) ≤ℤ (s *ℤ pos b +ℤ pos (unsigned_abs s * (n - 1)))
part-near (pos m) n a b low low' = let most : m * a ≤ m * (n - 1) = mul-le-mul_left m (omega arith) in omega (arith, ints)
part-near (negsuc m) n a b low low' =
    let most : suc m * b ≤ suc m * (n - 1) = mul-le-mul_left (suc m) (omega arith) in
    let first = negsuc-*ℤ-pos m a in
    let second = negsuc-*ℤ-pos m b in
    omega (arith, ints)

-- Two different numbers are at least a step apart.
part-apart : (s : ℤ) (a b : ℕ) → a < b → ((s *ℤ pos a +ℤ pos (unsigned_abs s)) ≤ℤ (s *ℤ pos b)) ⊎ ((s *ℤ pos b +ℤ pos (unsigned_abs s)) ≤ℤ (s *ℤ pos a))
part-apart (pos m) a b low = inl (let step = mul-step m a b low in omega (arith, ints))
part-apart (negsuc m) a b low = inr (
    let step = mul-step (suc m) a b low in
    let first = negsuc-*ℤ-pos m a in
    let second = negsuc-*ℤ-pos m b in
    omega (arith, ints)
    )

pub part-different : (s : ℤ) (a b : ℕ) → a ≢ b → ((s *ℤ pos a +ℤ pos (unsigned_abs s)) ≤ℤ (s *ℤ pos b)) ⊎ ((s *ℤ pos b +ℤ pos (unsigned_abs s)) ≤ℤ (s *ℤ pos a))
part-different s a b other = elim (cases_order a b) [
  | inl same ↦ absurd (other same)
  | inr (inl low) ↦ part-apart s a b low
  | inr (inr high) ↦ elim (part-apart s b a high) [ inl up ↦ inr up | inr down ↦ inl down ]
]

-- ---- two sums of strides

-- This axis has the largest step of those on which the sums x and y differ. The sums are at most as far apart as the
-- axes of no larger step reach, and at least as far as the step less the reach of the others of these axes.
pub record DifferBy (all : List Axis) (P : Axis → Type 0) (x y : ℤ) : Type 0 where
  pub axis : Axis
  pub has : P axis
  pub long : 2 ≤ axis.len
  pub above : x ≤ℤ (y +ℤ pos (sum_by (within axis.step) all))
  pub below : y ≤ℤ (x +ℤ pos (sum_by (within axis.step) all))
  pub apart : ((x +ℤ pos (axis.step + reach axis)) ≤ℤ (y +ℤ pos (sum_by (within axis.step) all))) ⊎ ((y +ℤ pos (axis.step + reach axis)) ≤ℤ (x +ℤ pos (sum_by (within axis.step) all)))

-- the arithmetic behind it
near_more : (X Y x y : ℤ) (r s t : ℕ) → X ≤ℤ (Y +ℤ pos r) → x ≤ℤ (y +ℤ pos s) → r + s ≤ t → (X +ℤ x) ≤ℤ (Y +ℤ y +ℤ pos t)
near_more X Y x y r s t first later sum = omega (arith, ints)

apart_later : (X Y x y : ℤ) (r s t g : ℕ) → X ≤ℤ (Y +ℤ pos r) → (x +ℤ pos g) ≤ℤ (y +ℤ pos s) → r + s ≤ t → (X +ℤ x +ℤ pos g) ≤ℤ (Y +ℤ y +ℤ pos t)
apart_later X Y x y r s t g first later sum = omega (arith, ints)

apart_here : (X Y x y : ℤ) (g r s t : ℕ) → (X +ℤ pos g) ≤ℤ Y → x ≤ℤ (y +ℤ pos s) → r + s ≤ t → (X +ℤ x +ℤ pos (g + r)) ≤ℤ (Y +ℤ y +ℤ pos t)
apart_here X Y x y g r s t first later sum = omega (arith, ints)

same_near : (x : ℤ) (r : ℕ) → x ≤ℤ (x +ℤ pos r)
same_near x r = omega (arith, ints)

-- A larger step includes more axes.
sum-within_more : (low high : ℕ) (all : List Axis) → low ≤ high → sum_by (within low) all ≤ sum_by (within high) all
sum-within_more low high [] more = omega arith
sum-within_more low high (a ∷ all) more =
    let own : within low a ≤ within high a = elim (cases_lt high a.step) [
      | inl out ↦ omega (arith, within-none low a (omega arith))
      | inr in' ↦ omega (arith, within-all high a in', within-le low a)
    ] in
    omega (arith, own, sum_by-cons (within low) a all, sum_by-cons (within high) a all, sum-within_more low high all more)

-- The first axis is this one.
differ_here : (P : Axis → Type 0) (s : ℤ) (n : ℕ) (all : List Axis) (a b : ℕ) (x y : ℤ) (m : ℕ) → P (record { step = unsigned_abs s; len = n }) → a < n → b < n → a ≢ b → m ≤ sum_by (within (unsigned_abs s)) all → x ≤ℤ (y +ℤ pos m) → y ≤ℤ (x +ℤ pos m) → DifferBy (record { step = unsigned_abs s; len = n } ∷ all) P (s *ℤ pos a +ℤ x) (s *ℤ pos b +ℤ y)
differ_here P s n all a b x y m has low low' other few above below =
    let own : Axis = record { step = unsigned_abs s; len = n } in
    let total = sum_by (within own.step) (own ∷ all) in
    let part : within own.step own ≡ reach own = within-all own.step own (omega arith) in
    let sum : reach own + m ≤ total = omega (arith, few, part, sum_by-cons (within own.step) own all) in
    record {
      axis = own;
      has = has;
      long = omega (arith, other);
      above = near_more (s *ℤ pos a) (s *ℤ pos b) x y (reach own) m total (part-near s n a b low low') above sum;
      below = near_more (s *ℤ pos b) (s *ℤ pos a) y x (reach own) m total (part-near s n b a low' low) below sum;
      apart = elim (part-different s a b other) [
        | inl up ↦ inl (apart_here (s *ℤ pos a) (s *ℤ pos b) x y own.step (reach own) m total up above sum)
        | inr down ↦ inr (apart_here (s *ℤ pos b) (s *ℤ pos a) y x own.step (reach own) m total down below sum)
      ];
    }

-- It is a later axis, which has at least the step of the first one, or the numbers on the first axis are equal.
differ_later : (P : Axis → Type 0) (s : ℤ) (own : Axis) (all : List Axis) (a b r : ℕ) (x y : ℤ) (d : DifferBy all P x y) → (s *ℤ pos a) ≤ℤ (s *ℤ pos b +ℤ pos r) → (s *ℤ pos b) ≤ℤ (s *ℤ pos a +ℤ pos r) → r ≤ within d.axis.step own → DifferBy (own ∷ all) P (s *ℤ pos a +ℤ x) (s *ℤ pos b +ℤ y)
differ_later P s own all a b r x y d first second some =
    let m = sum_by (within d.axis.step) all in
    let total = sum_by (within d.axis.step) (own ∷ all) in
    let g = d.axis.step + reach d.axis in
    let sum : r + m ≤ total = omega (arith, some, sum_by-cons (within d.axis.step) own all) in
    record {
      axis = d.axis;
      has = d.has;
      long = d.long;
      above = near_more (s *ℤ pos a) (s *ℤ pos b) x y r m total first d.above sum;
      below = near_more (s *ℤ pos b) (s *ℤ pos a) y x r m total second d.below sum;
      apart = elim d.apart [
        | inl up ↦ inl (apart_later (s *ℤ pos a) (s *ℤ pos b) x y r m total g first up sum)
        | inr down ↦ inr (apart_later (s *ℤ pos b) (s *ℤ pos a) y x r m total g second down sum)
      ];
    }

-- Two indexes are equal, or their sums differ in this way.
pub same_or_differ : (P : Axis → Type 0) (strides : List ℤ) (shape i j : List ℕ) → length strides ≡ length shape → All P (axes strides shape) → IsIndex shape i → IsIndex shape j → (i ≡ j) ⊎ DifferBy (axes strides shape) P (dot strides i) (dot strides j)
same_or_differ P [] [] [] [] same all in-i in-j = inl refl
same_or_differ P (s ∷ strides) (n ∷ shape) (a ∷ i) (b ∷ j) same all in-i in-j =
    let own : Axis = record { step = unsigned_abs s; len = n } in
    let rest = axes strides shape in
    let has = All-head P own rest all in
    elim (cases_eq a b) [
      | inl number ↦
          let near : (s *ℤ pos a) ≤ℤ (s *ℤ pos b +ℤ pos 0) = rw number (same_near (s *ℤ pos b) 0) in
          let near' : (s *ℤ pos b) ≤ℤ (s *ℤ pos a +ℤ pos 0) = rw number (same_near (s *ℤ pos b) 0) in
          elim (same_or_differ P strides shape i j (omega arith) (All-tail P own rest all) in-i.1 in-j.1) [
            | inl later ↦ inl (ap (λ k. k ∷ i) number ∙ ap (λ k. b ∷ k) later)
            | inr d ↦ inr (differ_later P s own rest a b 0 (dot strides i) (dot strides j) d near near' (omega arith))
          ]
      | inr other ↦ elim (same_or_differ P strides shape i j (omega arith) (All-tail P own rest all) in-i.1 in-j.1) [
        | inl later ↦
            let near : dot strides i ≤ℤ (dot strides j +ℤ pos 0) = rw later (same_near (dot strides j) 0) in
            let near' : dot strides j ≤ℤ (dot strides i +ℤ pos 0) = rw later (same_near (dot strides j) 0) in
            inr (differ_here P s n rest a b (dot strides i) (dot strides j) 0 has in-i.0 in-j.0 other (omega arith) near near')
        | inr d ↦ elim (cases_lt d.axis.step own.step) [
          | inl greater ↦ inr (differ_here P s n rest a b (dot strides i) (dot strides j) (sum_by (within d.axis.step) rest) has in-i.0 in-j.0 other (sum-within_more d.axis.step own.step rest (omega arith)) d.above d.below)
          | inr less ↦ inr (differ_later P s own rest a b (reach own) (dot strides i) (dot strides j) d (part-near s n a b in-i.0 in-j.0) (part-near s n b a in-j.0 in-i.0) (omega (arith, within-all d.axis.step own less)))
        ]
      ]
    ]
same_or_differ P _ _ _ _ same all in-i in-j = absurd (omega arith)

-- ---- stacked layouts

apart_by_item : (x y : ℤ) (item total g : ℕ) → (x +ℤ pos g) ≤ℤ (y +ℤ pos total) → item + total ≤ g → (x +ℤ pos item) ≤ℤ y
apart_by_item x y item total g far clear = omega (arith, ints)

distance_low : (x y : ℤ) (off a b item : ℕ) → pos a ≡ pos off +ℤ x → pos b ≡ pos off +ℤ y → (x +ℤ pos item) ≤ℤ y → item ≤ distance a b
distance_low x y off a b item first second low = omega (arith, ints)

distance_high : (x y : ℤ) (off a b item : ℕ) → pos a ≡ pos off +ℤ x → pos b ≡ pos off +ℤ y → (y +ℤ pos item) ≤ℤ x → item ≤ distance a b
distance_high x y off a b item first second low = omega (arith, ints)

pub IsNested-stacked : (l : Layout) (item : ℕ) → 0 < item → IsStacked l item → IsNested (offsets l) item
IsNested-stacked l item some stacked = record {
  apart = λ j k before inside.
      let size = length-offsets l in
      let all = axes l.strides l.shape in
      let P : Axis → Type 0 = IsClear item all in
      let each = each_from_CanStack all item some (stacked (omega arith)) in
      let low = index_at l.shape j (omega arith) in
      let high = index_at l.shape k (omega arith) in
      let x = dot l.strides low.0 in
      let y = dot l.strides high.0 in
      let first : pos (get_or (offsets l) j 0) ≡ pos l.offset +ℤ x = ap (λ r. pos (get_or (offsets l) r 0)) (sym low.2) ∙ pos-offset l low.0 0 low.1 in
      let second : pos (get_or (offsets l) k 0) ≡ pos l.offset +ℤ y = ap (λ r. pos (get_or (offsets l) r 0)) (sym high.2) ∙ pos-offset l high.0 0 high.1 in
      elim (same_or_differ P l.strides l.shape low.0 high.0 l.one_stride_an_axis each low.1 high.1) [
        | inl whole ↦ absurd (omega (arith, ap (rank l.shape) whole, low.2, high.2))
        | inr d ↦
            let total = sum_by (within d.axis.step) all in
            let g = d.axis.step + reach d.axis in
            let clear : item + total ≤ g = d.has d.long in
            elim d.apart [
              | inl up ↦ distance_low x y l.offset (get_or (offsets l) j 0) (get_or (offsets l) k 0) item first second (apart_by_item x y item total g up clear)
              | inr down ↦ distance_high x y l.offset (get_or (offsets l) j 0) (get_or (offsets l) k 0) item first second (apart_by_item y x item total g down clear)
            ]
      ];
}
