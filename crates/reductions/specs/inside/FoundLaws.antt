-- The place of the least or of the greatest number, found block by block.
use Rattle.std.specs.Prelude.{◌≡◌, ◌+◌, ◌<◌, ℕ, ℤ, true, false, Bool, List, [], ◌∷◌, ◌++◌, length, ◌⊎◌}
use Rattle.reductions.specs.Words.{signed_Decides, int_min, int_max, fold, int_eq, false_from_ne_true, ints, fold-int_min_bounds, fold-int_min_reached, fold-int_max_bounds, fold-int_max_reached, All-head, All-tail, fold-append, first_is}
use Rattle.std.proofs.Common.{All, zero, suc, get_or, inl, inr, refl, sym, ap, subst, ◌∙◌, arith, length-append}
use Rattle.reductions.specs.Reductions.{first_place}
use Rattle.reductions.specs.inside.Extremes.{better, is_better, better-one, better-none}

-- `best` is the best of `first` and the numbers seen so far. If these begin with `first`, `place` is the first place of
-- `best` among them. `place` is 0 if there are none.
pub record HasFound (pick : ℤ → ℤ → ℤ) (best : ℤ) (place : ℕ) (first : ℤ) (seen : List ℤ) : Type 0 where
  pub best_is : best ≡ fold pick first seen
  pub none : seen ≡ [] → place ≡ 0
  pub place_is : (rest : List ℤ) → seen ≡ first ∷ rest → place ≡ first_place best seen
  pub low : 0 < length seen → place < length seen

-- The best number after a block of numbers, and how many numbers come before the block that it is in. If no number of
-- the block is better than `best`, both stay. Otherwise the new best number is in this block, and `at` numbers come
-- before the block.
abbrev pub HasSought : Bool → List ℤ → ℤ → ℕ → ℕ → ℤ → ℕ → Type 0
HasSought greatest numbers best before at best' before' =
    let z = fold (better greatest) best numbers in
    ((is_better greatest z best ≡ false) × (best' ≡ best) × (before' ≡ before)) ⊎ ((is_better greatest z best ≡ true) × (best' ≡ z) × (before' ≡ at))

-- ---- places

here : (z : ℤ) (rest : List ℤ) → first_place z (z ∷ rest) ≡ 0
here z rest = let same : int_eq z z ≡ true = (signed_Decides z z).1 refl in rw same refl

past : (z x : ℤ) (rest : List ℤ) → (x ≡ z → ⊥) → first_place z (x ∷ rest) ≡ suc (first_place z rest)
past z x rest other = let no : int_eq x z ≡ false = false_from_ne_true (int_eq x z) (λ same. other ((signed_Decides x z).0 same)) in rw no refl

absent : (z : ℤ) (xs : List ℤ) → All (λ x. x ≡ z → ⊥) xs → first_place z xs ≡ length xs
absent z [] other = refl
absent z (x ∷ xs) other = past z x xs (All-head (λ x. x ≡ z → ⊥) x xs other) ∙ ap suc (absent z xs (All-tail (λ x. x ≡ z → ⊥) x xs other))

-- If a number is not among those seen, its first place is among those that follow.
comes : (z : ℤ) (seen more : List ℤ) → first_place z seen ≡ length seen → first_place z (seen ++ more) ≡ length seen + first_place z more
comes z [] more none = omega arith
comes z (x ∷ seen) more none =
    elim (int_eq x z) as (λ t. int_eq x z ≡ t → first_place z (x ∷ seen ++ more) ≡ length (x ∷ seen) + first_place z more) [
      | true ↦ λ e. absurd (omega (arith, (rw e at none)))
      | false ↦ λ e.
          let rest : first_place z seen ≡ length seen = omega (arith, (rw e at none)) in
          rw e (omega (arith, comes z seen more rest))
    ] refl

-- If a number is among those seen, its place does not change.
stays : (z : ℤ) (seen more : List ℤ) → first_place z seen < length seen → first_place z (seen ++ more) ≡ first_place z seen
stays z [] more low = absurd (omega (arith, low))
stays z (x ∷ seen) more low =
    elim (int_eq x z) as (λ t. int_eq x z ≡ t → first_place z (x ∷ seen ++ more) ≡ first_place z (x ∷ seen)) [
      | true ↦ λ e. rw e refl
      | false ↦ λ e.
          let less : first_place z seen < length seen = omega (arith, (rw e at low)) in
          rw e (ap suc (stays z seen more less))
    ] refl

-- If a number is in a list, its first place is less than the length.
present : (z : ℤ) (xs : List ℤ) (k : ℕ) → k < length xs → get_or xs k z ≡ z → first_place z xs < length xs
present z [] k low is = absurd (omega (arith, low))
present z (x ∷ xs) zero low is = omega (arith, ap (λ y. first_place z (y ∷ xs)) is, here z xs)
present z (x ∷ xs) (suc k) low is =
    let rest = present z xs k (omega (arith, low)) is in
    elim (int_eq x z) as (λ t. int_eq x z ≡ t → first_place z (x ∷ xs) < length (x ∷ xs)) [
      | true ↦ λ e. rw e (omega arith)
      | false ↦ λ e. rw e (omega (arith, rest))
    ] refl

-- The number is not among the first ones: either the next one is that number, or it is not that one either.
pub found-next : (v z : ℤ) (xs ys : List ℤ) → first_place v xs ≡ length xs → z ≡ v → first_place v (xs ++ z ∷ [] ++ ys) ≡ length xs
found-next v z xs ys none same =
    let one : first_place v (z ∷ []) ≡ 0 = ap (λ y. first_place v (y ∷ [])) same ∙ here v [] in
    let there : first_place v (xs ++ z ∷ []) ≡ length xs = omega (arith, comes v xs (z ∷ []) none, one) in
    stays v (xs ++ z ∷ []) ys (omega (arith, there, length-append xs (z ∷ []))) ∙ there

pub absent-next : (v z : ℤ) (xs : List ℤ) → first_place v xs ≡ length xs → (z ≡ v → ⊥) → first_place v (xs ++ z ∷ []) ≡ length xs + 1
absent-next v z xs none other = omega (arith, comes v xs (z ∷ []) none, past v z [] other)

-- ---- some more numbers

-- if one of them is better, it is taken
taken : (pick : ℤ → ℤ → ℤ) (best z first : ℤ) (seen more : List ℤ) → best ≡ fold pick first seen → z ≡ fold pick best more →
    All (λ x. x ≡ z → ⊥) seen → first_place z more < length more → HasFound pick z (length seen + first_place z more) first (seen ++ more)
taken pick best z first seen more so_far is other among = record {
  best_is = is ∙ ap (λ b. fold pick b more) so_far ∙ sym (fold-append pick first seen more);
  none = λ none. absurd (omega (arith, ap length none, length-append seen more, among));
  place_is = λ rest _. sym (comes z seen more (absent z seen other));
  low = λ some. omega (arith, length-append seen more, among);
}

-- if none of them is better, nothing changes
passed : (pick : ℤ → ℤ → ℤ) (best : ℤ) (place : ℕ) (first : ℤ) (seen more : List ℤ) → HasFound pick best place first seen → best ≡ fold pick best more → HasFound pick best place first (seen ++ more)
passed pick best place first [] more so_far is = record {
  best_is = is ∙ ap (λ b. fold pick b more) so_far.best_is;
  none = λ _. so_far.none refl;
  place_is = λ rest same.
      so_far.none refl ∙ sym (ap (first_place best) same ∙ ap (λ b. first_place b (first ∷ rest)) so_far.best_is ∙ here first rest);
  low = λ some. omega (arith, some, so_far.none refl);
}
passed pick best place first (x ∷ seen) more so_far is = record {
  best_is = is ∙ ap (λ b. fold pick b more) so_far.best_is ∙ sym (fold-append pick first (x ∷ seen) more);
  none = λ none. absurd (omega (arith, ap length none));
  place_is = λ rest same.
      let at = so_far.place_is seen (ap (λ y. y ∷ seen) (first_is x first (seen ++ more) rest same)) in
      at ∙ sym (stays best (x ∷ seen) more (omega (arith, at, so_far.low (omega arith))));
  low = λ some. omega (arith, so_far.low (omega arith), length-append seen more);
}

-- ---- the least and the greatest

pub better_taken : (greatest : Bool) (best z first : ℤ) (seen more : List ℤ) → best ≡ fold (better greatest) first seen → z ≡ fold (better greatest) best more → is_better greatest z best ≡ true →
    HasFound (better greatest) z (length seen + first_place z more) first (seen ++ more)
better_taken false best z first seen more so_far is less =
    let bounds = fold-int_min_bounds first seen best so_far in
    taken int_min best z first seen more so_far is (λ k d below same. let low = bounds.1 k d below in omega (arith, ints))
    (elim (fold-int_min_reached best more z is) as (λ _. first_place z more < length more) [
      | inl same ↦ absurd (omega (arith, ints))
      | inr there ↦ present z more there.0 there.1 there.2
    ])
better_taken true best z first seen more so_far is greater =
    let bounds = fold-int_max_bounds first seen best so_far in
    taken int_max best z first seen more so_far is (λ k d below same. let high = bounds.1 k d below in omega (arith, ints))
    (elim (fold-int_max_reached best more z is) as (λ _. first_place z more < length more) [
      | inl same ↦ absurd (omega (arith, ints))
      | inr there ↦ present z more there.0 there.1 there.2
    ])

-- if none is better, the best one stays
pub better_same : (greatest : Bool) (best z : ℤ) (more : List ℤ) → z ≡ fold (better greatest) best more → is_better greatest z best ≡ false → best ≡ z
better_same false best z more is worse = let low = (fold-int_min_bounds best more z is).0 in omega (arith, ints)
better_same true best z more is worse = let high = (fold-int_max_bounds best more z is).0 in omega (arith, ints)

pub better_passed : (greatest : Bool) (best z : ℤ) (place : ℕ) (first : ℤ) (seen more : List ℤ) → HasFound (better greatest) best place first seen → z ≡ fold (better greatest) best more → is_better greatest z best ≡ false →
    HasFound (better greatest) best place first (seen ++ more)
better_passed greatest best z place first seen more so_far is worse = passed (better greatest) best place first seen more so_far (better_same greatest best z more is worse ∙ is)

-- ---- one more number

pub better_next : (greatest : Bool) (best z : ℤ) (place at : ℕ) (first : ℤ) (seen : List ℤ) → HasFound (better greatest) best place first seen → at ≡ length seen → is_better greatest z best ≡ true → HasFound (better greatest) z at first (seen ++ z ∷ [])
better_next greatest best z place at first seen so_far there is =
    let last : length seen + first_place z (z ∷ []) ≡ at = omega (arith, there, here z []) in
    subst (λ n. HasFound (better greatest) z n first (seen ++ z ∷ [])) last (better_taken greatest best z first seen (z ∷ []) so_far.best_is (better-one greatest best z is) is)

pub better_stays : (greatest : Bool) (best z : ℤ) (place : ℕ) (first : ℤ) (seen : List ℤ) → HasFound (better greatest) best place first seen → is_better greatest z best ≡ false → HasFound (better greatest) best place first (seen ++ z ∷ [])
better_stays greatest best z place first seen so_far worse = passed (better greatest) best place first seen (z ∷ []) so_far (better-none greatest best z worse)
