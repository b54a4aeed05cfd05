-- Laws of the axes that the items of an index take, and of what they pick.
use Rattle.std.proofs.Common.{◌≡◌, ℕ, zero, suc, ◌+◌, ◌-◌, ◌<◌, ◌≤◌, Bool, true, ◌&&◌, ℤ, pos, ◌+ℤ◌, ◌*ℤ◌, List, [], ◌∷◌, ◌++◌, map, length, get_or, take, drop, slice_range, refl, sym, ap, ◌∙◌, arith, length-drop, append_assoc, Option}
use Rattle.view_ops.proofs.Words.{ints, drop-drop, drop_more, map-append, and_parts, is_ok, drop_split, list_all, flat_map, range_with_len, IndexItem, Integer, Slice, is_basic, natural, AxisPick, AtAxis, AlongAxis, NewAxis, Progression, slice_indices, axes_taken, width, placed, has_step, is_on_axis, are_on_axes, whole, picks_of, picks, pick_shown, ArePicks, AddsPicks}

-- ---- the axes of items

drop_on : (shape : List ℕ) (a end n : ℕ) → a ≤ end → end ≡ a + n → drop n (drop a shape) ≡ drop end shape
drop_on shape a end n later is = drop-drop n a shape ∙ ap (λ m. drop m shape) (sym is)

-- one more item
pub placed_more : {A : Type 0} (shape : List ℕ) (items : List (IndexItem A)) (k a end : ℕ) → k < length items → a ≤ end → end ≡ a + width axes_taken (length shape - a) (get_or items k (Integer (pos 0))) (drop (k + 1) items) → placed axes_taken (drop a shape) (drop k items) ≡ record { item = get_or items k (Integer (pos 0)); axes = slice_range shape a end } ∷ placed axes_taken (drop end shape) (drop (k + 1) items)
placed_more shape items k a end low later is =
    let x = get_or items k (Integer (pos 0)) in
    let rest = drop (k + 1) items in
    let size : width axes_taken (length (drop a shape)) x rest ≡ end - a = ap (λ n. width axes_taken n x rest) (length-drop a shape) ∙ omega (arith, is) in
    let here : end ≡ a + (end - a) = omega arith in
    ap (placed axes_taken (drop a shape)) (drop_more items k (Integer (pos 0)) low) ∙ ap (λ n. record { item = x; axes = take n (drop a shape) } ∷ placed axes_taken (drop n (drop a shape)) rest) size ∙ ap (λ s. record { item = x; axes = slice_range shape a end } ∷ placed axes_taken s rest) (drop_on shape a end (end - a) later here)

-- ---- picks

pub ArePicks-append : (shape shape' : List ℕ) (picks picks' : List AxisPick) → ArePicks shape picks → ArePicks shape' picks' → ArePicks (shape ++ shape') (picks ++ picks')
ArePicks-append shape shape' (NewAxis ∷ picks) picks' are later = ArePicks-append shape shape' picks picks' are later
ArePicks-append [] shape' [] picks' are later = later
ArePicks-append (n ∷ shape) shape' (AtAxis number ∷ picks) picks' are later = (are.0, ArePicks-append shape shape' picks picks' are.1 later)
ArePicks-append (n ∷ shape) shape' (AlongAxis run ∷ picks) picks' are later = (are.0, ArePicks-append shape shape' picks picks' are.1 later)
ArePicks-append _ shape' _ picks' are later = absurd are

-- ---- a whole axis

one_by_one : (k : ℕ) → natural (pos 0 +ℤ pos 1 *ℤ pos k) ≡ k
one_by_one k = omega arith

numbers-whole : (a n : ℕ) → map (λ k. natural (pos 0 +ℤ pos 1 *ℤ pos k)) (range_with_len a n) ≡ range_with_len a n
numbers-whole a zero = refl
numbers-whole a (suc n) = rw (one_by_one a) (ap (λ xs. a ∷ xs) (numbers-whole (a + 1) n))

abbrev pub whole_run : ℕ → Progression
whole_run n = record { first = 0; step = pos 1; count = n }

pub shown-whole : (n : ℕ) → pick_shown (AlongAxis (whole_run n)) ≡ whole n
shown-whole n = ap Rattle.view_ops.specs.Basics.Along (numbers-whole 0 n)

not_zero : pos 1 ≡ pos 0 → ⊥
not_zero same = omega (arith, ints)

-- one more whole axis
pub whole_more : (old new : List AxisPick) (axes : List ℕ) (n : ℕ) (pick : AxisPick) → ArePicks (n ∷ []) (pick ∷ []) → pick_shown pick ≡ whole n → AddsPicks old new axes (map whole axes) → AddsPicks old (new ++ pick ∷ []) (axes ++ n ∷ []) (map whole (axes ++ n ∷ []))
whole_more old new axes n pick within is adds = record {
  added = adds.added ++ pick ∷ [];
  after = ap (λ l. l ++ pick ∷ []) adds.after ∙ append_assoc old adds.added (pick ∷ []);
  are = ArePicks-append axes (n ∷ []) adds.added (pick ∷ []) adds.are within;
  show = map-append pick_shown adds.added (pick ∷ []) ∙ ap (λ l. l ++ pick_shown pick ∷ []) adds.show ∙ ap (λ p. map whole axes ++ p ∷ []) is ∙ sym (map-append whole axes (n ∷ []));
}

-- ---- a slice with a step is not refused

pub has_step-ok : (n : ℕ) (start stop step : Option ℤ) → has_step {A = ℕ} (Slice start stop step) ≡ true → is_ok (slice_indices n start stop step) ≡ true
unfolding slice_indices
has_step-ok n start stop step has = rw has refl

-- ---- the loop over the items, before item k

pub record HavePicked {A : Type 0} (shape : List ℕ) (items : List (IndexItem A)) (done : List AxisPick) (k axis : ℕ) : Type 0 where
  pub within : axis ≤ length shape
  pub enough : axes_taken (drop k items) ≤ length shape - axis
  pub basic : list_all is_basic (drop k items) ≡ true
  pub steps : list_all has_step (drop k items) ≡ true
  pub in_range : are_on_axes (drop axis shape) (drop k items) ≡ true
  pub are : (more : List AxisPick) → ArePicks (drop axis shape) more → ArePicks shape (done ++ more)
  pub show : map pick_shown done ++ picks (drop axis shape) (drop k items) ≡ picks shape items

rest_hold : {X : Type 0} (p : X → Bool) (xs : List X) (k : ℕ) (d : X) → k < length xs → list_all p (drop k xs) ≡ true → list_all p (drop (k + 1) xs) ≡ true
rest_hold p xs k d low all = (and_parts (p (get_or xs k d)) (list_all p (drop (k + 1) xs)) (sym (ap (list_all p) (drop_more xs k d low)) ∙ all)).1

pub picked_more : {A : Type 0} (shape : List ℕ) (items : List (IndexItem A)) (done new : List AxisPick) (k axis end : ℕ) → k < length items → axis ≤ end → end ≤ length shape → axes_taken (drop (k + 1) items) ≤ length shape - end → end ≡ axis + width axes_taken (length shape - axis) (get_or items k (Integer (pos 0))) (drop (k + 1) items) → HavePicked shape items done k axis → AddsPicks done new (slice_range shape axis end) (picks_of (slice_range shape axis end) (get_or items k (Integer (pos 0)))) → HavePicked shape items new (k + 1) end
picked_more shape items done new k axis end low later within enough is have adds =
    let x = get_or items k (Integer (pos 0)) in
    let axes = slice_range shape axis end in
    let next = placed_more shape items k axis end low later is in
    let range : (is_on_axis axes x && are_on_axes (drop end shape) (drop (k + 1) items)) ≡ true = sym (ap (list_all (λ p. is_on_axis p.axes p.item)) next) ∙ have.in_range in
    let left = picks (drop end shape) (drop (k + 1) items) in
    record {
      within = within;
      enough = enough;
      basic = rest_hold is_basic items k (Integer (pos 0)) low have.basic;
      steps = rest_hold has_step items k (Integer (pos 0)) low have.steps;
      in_range = (and_parts (is_on_axis axes x) (are_on_axes (drop end shape) (drop (k + 1) items)) range).1;
      are = λ more are-more.
          let these : ArePicks (drop axis shape) (adds.added ++ more) = rw (drop_split shape axis end later) (ArePicks-append axes (drop end shape) adds.added more adds.are are-more) in
          rw (adds.after, append_assoc done adds.added more) (have.are (adds.added ++ more) these);
      show = ap (λ l. map pick_shown l ++ left) adds.after ∙ ap (λ l. l ++ left) (map-append pick_shown done adds.added) ∙ ap (λ l. (map pick_shown done ++ l) ++ left) adds.show ∙ append_assoc (map pick_shown done) (picks_of axes x) left ∙ ap (λ l. map pick_shown done ++ flat_map (λ p. picks_of p.axes p.item) l) (sym next) ∙ have.show;
    }
