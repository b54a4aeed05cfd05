-- Laws of sums along axes, and of the search for a sum within bounds.
use Rattle.std.proofs.Common.{◌≡◌, ℕ, ◌+◌, ◌-◌, ◌*◌, ◌<◌, ◌≤◌, inl, inr, List, [], ◌∷◌, length, get_or, take, drop, sum_by, All, ◌↔◌, sym, subst, ap, refl, ◌∙◌, arith, mul-suc, mul-zero, zero-mul, mul-le-mul_left, mul_comm}
use Rattle.overlap_copy.proofs.Words.{IsPermutation, All-permutation, reordered, sum_by-cons, sum_by-IsPermutation, div_ceil, cases_lt, div_ceil_times, take_all, recursion_from_All, All-from_recursion, IsIndex, Axis, reach, lengths_in, reached, reach_of, AreForward, HasSum}

-- ---- the first axis and the rest

abbrev pub no_axis : Axis
no_axis = record { step = 0; len = 0 }

-- a list that is not empty, as the pattern of a slice splits it
pub first_rest : (axes : List Axis) → 1 ≤ length axes → axes ≡ get_or axes 0 no_axis ∷ take (length axes - 1) (drop 1 axes)
first_rest [] some = absurd (omega arith)
first_rest (a ∷ axes) some = ap (λ l. a ∷ l) (sym (take_all (length (a ∷ axes) - 1) axes (omega arith)))

-- a sum that begins with item k of the first axis
pub with_first : (a : Axis) (axes : List Axis) (low high k low' : ℕ) → k < a.len → a.step * k ≤ high → low' ≡ low - a.step * k → HasSum axes low' (high - a.step * k) → HasSum (a ∷ axes) low high
with_first a axes low high k low' below within is s = record {
  index = k ∷ s.index;
  inside = (below, s.inside);
  from = omega (arith, s.from, is);
  to = omega (arith, s.to);
}

-- a sum starts at item k of the first axis, and the others have a sum within the bounds that are left
pub record StartsAt (a : Axis) (axes : List Axis) (low high : ℕ) : Type 0 where
  pub k : ℕ
  pub below : k < a.len
  pub within : a.step * k ≤ high
  pub others : HasSum axes (low - a.step * k) (high - a.step * k)

pub first_of : (a : Axis) (axes : List Axis) (low high : ℕ) → HasSum (a ∷ axes) low high → StartsAt a axes low high
first_of a axes low high s = at s.index s.inside s.from s.to
  where
    at : (index : List ℕ) → IsIndex (lengths_in (a ∷ axes)) index → low ≤ reached (a ∷ axes) index → reached (a ∷ axes) index ≤ high → StartsAt a axes low high
    at [] inside from to = absurd inside
    at (k ∷ index) inside from to = record {
      k = k;
      below = inside.0;
      within = omega (arith, to);
      others = record { index = index; inside = inside.1; from = omega (arith, from); to = omega (arith, to) };
    }

-- an axis with step 0 adds nothing
pub still : (a : Axis) (axes : List Axis) (low high : ℕ) → a.step ≡ 0 → 0 < a.len → HasSum axes low high ↔ HasSum (a ∷ axes) low high
still a axes low high none some = (
  λ s. record { index = 0 ∷ s.index; inside = (some, s.inside); from = omega (arith, s.from, mul-zero a.step); to = omega (arith, s.to, mul-zero a.step) },
  λ s.
      let first = first_of a axes low high s in
      let nothing : a.step * first.k ≡ 0 = ap (λ z. z * first.k) none ∙ zero-mul first.k in
      record { index = first.others.index; inside = first.others.inside; from = omega (arith, first.others.from, nothing); to = omega (arith, first.others.to, nothing) },
)

-- no sum exceeds the reach
pub most_sum : (axes : List Axis) (index : List ℕ) → IsIndex (lengths_in axes) index → reached axes index ≤ reach_of axes
most_sum [] [] inside = omega arith
most_sum (a ∷ axes) (k ∷ index) inside =
    let least : k ≤ a.len - 1 = omega (arith, inside.0) in
    omega (arith, mul-le-mul_left a.step least, most_sum axes index inside.1)
most_sum _ _ inside = absurd inside

-- ---- the items of the first axis one by one

-- no sum within the bounds has an item below k of the first axis
pub record NoneBelow (a : Axis) (axes : List Axis) (low high k : ℕ) : Type 0 where
  pub none : (j : ℕ) → j < k → a.step * j ≤ high → HasSum axes (low - a.step * j) (high - a.step * j) → ⊥

-- from the first items, the other axes cannot reach the bounds
pub none_at_first : (a : Axis) (axes : List Axis) (low high beyond short least : ℕ) → 0 < a.step → beyond ≡ reach_of axes → short ≡ low - beyond → least ≡ div_ceil short a.step → NoneBelow a axes low high least
none_at_first a axes low high beyond short least forward is left ceil = record { none = none }
  where
    none : (j : ℕ) → j < least → a.step * j ≤ high → HasSum axes (low - a.step * j) (high - a.step * j) → ⊥
    none j below within s =
        let times = div_ceil_times short a.step forward in
        let near : least * a.step < short + a.step = subst (λ n. n * a.step < short + a.step) (sym ceil) times.1 in
        let more = mul-le-mul_left a.step below in
        omega (arith, near, left, more, mul_comm least a.step, mul-suc a.step j, most_sum axes s.index s.inside, s.from, is)

pub none_more : (a : Axis) (axes : List Axis) (low high k low' : ℕ) → NoneBelow a axes low high k → low' ≡ low - a.step * k → (HasSum axes low' (high - a.step * k) → ⊥) → NoneBelow a axes low high (k + 1)
none_more a axes low high k low' before is here = record { none = none }
  where
    none : (j : ℕ) → j < k + 1 → a.step * j ≤ high → HasSum axes (low - a.step * j) (high - a.step * j) → ⊥
    none j below within s = elim (cases_lt j k) [
      | inl less ↦ before.none j less within s
      | inr not_less ↦ let same : j ≡ k = omega (arith, not_less, below) in
          here (subst (λ n. HasSum axes n (high - a.step * k)) (sym is) (subst (λ i. HasSum axes (low - a.step * i) (high - a.step * i)) same s))
    ]

-- there is no sum within the bounds if the remaining items are beyond the bounds by themselves
pub none_left : (a : Axis) (axes : List Axis) (low high k : ℕ) → NoneBelow a axes low high k → ((j : ℕ) → j < a.len → k ≤ j → high < a.step * j) → HasSum (a ∷ axes) low high → ⊥
none_left a axes low high k before beyond s =
    let first = first_of a axes low high s in
    elim (cases_lt first.k k) [
      | inl less ↦ before.none first.k less first.within first.others
      | inr not_less ↦ absurd (omega (arith, beyond first.k first.below not_less, first.within))
    ]

pub none_beyond : (a : Axis) (axes : List Axis) (low high k : ℕ) → NoneBelow a axes low high k → high < a.step * k → HasSum (a ∷ axes) low high → ⊥
none_beyond a axes low high k before above = none_left a axes low high k before (λ j below from. omega (arith, mul-le-mul_left a.step from, above))

-- ---- what is known of all axes also holds for the rest

pub reach_rest : (axes : List Axis) (whole : ℕ) → 1 ≤ length axes → whole ≡ reach_of axes → whole - reach (get_or axes 0 no_axis) ≡ reach_of (take (length axes - 1) (drop 1 axes))
reach_rest axes whole some is = omega (arith, is, ap reach_of (first_rest axes some))

all_rest : (P : Axis → Type 0) (axes : List Axis) → 1 ≤ length axes → All P axes → All P (take (length axes - 1) (drop 1 axes))
all_rest P axes some all = All-from_recursion P (take (length axes - 1) (drop 1 axes)) (recursion_from_All P (get_or axes 0 no_axis ∷ take (length axes - 1) (drop 1 axes)) (subst (λ l. All P l) (first_rest axes some) all)).1

pub forward_rest : (axes : List Axis) → 1 ≤ length axes → AreForward axes → AreForward (take (length axes - 1) (drop 1 axes))
forward_rest axes some are = record {
  items = all_rest (λ a. 0 < a.len) axes some are.items;
  near = omega (arith, are.near, reach_rest axes (reach_of axes) some refl);
}

-- ---- axes in another order

pub sum-reordered : (axes order : List Axis) → IsPermutation axes order → (low high : ℕ) → HasSum axes low high → HasSum order low high
sum-reordered axes order same low high s =
    let found = reordered axes order s.index same s.inside in
    record { index = found.0; inside = found.1; from = omega (arith, s.from, found.2); to = omega (arith, s.to, found.2) }

reach-sum : (axes : List Axis) → reach_of axes ≡ sum_by reach axes
reach-sum [] = refl
reach-sum (a ∷ axes) = omega (arith, reach-sum axes, sum_by-cons reach a axes)

pub forward-reordered : (axes order : List Axis) → IsPermutation axes order → AreForward axes → AreForward order
forward-reordered axes order same are = record {
  items = All-permutation (λ a. 0 < a.len) axes order same are.items;
  near = omega (arith, are.near, reach-sum axes, reach-sum order, sum_by-IsPermutation reach axes order same);
}
