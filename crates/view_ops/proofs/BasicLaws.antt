-- The result that the definition gives at each exit of a basic index.
use Rattle.std.proofs.Common.{◌≡◌, ◌⊎◌, inl, inr, Bool, Result, Ok, Err, ℕ, ◌<◌, ◌≤◌, nat_le, true, false, List, All, map, length, refl, ap, ◌∙◌, arith}
use Rattle.view_ops.proofs.Words.{list_all, cases_lt, nat_tests, Refusal, OutOfMemory, TooManyAxes, TooManyIndices, ZeroStep, IndexOutOfRange, ◌>>=◌, check, Layout, IndexItem, max_axes, max_items, count, shape_of, shape_of-many, AxisPick, axes_taken, has_step, are_on_axes, Pick, picked_shape, picked_index, picks, shape_picked, picked_view, basic, pick_shown, ArePicks, View, IsViewOf, GivesView}
use Rattle.view_ops.proofs.PickViews.{shape_of_picks, leads_of_picks, shape_of-picks}
use Rattle.view_ops.proofs.ViewLaws.{gives_refusal}

-- ---- the view of the picks

-- The shape made from the lengths is the shape of the picks.
pub shape_of-picked : (shape : List ℕ) (picks : List AxisPick) → ArePicks shape picks → All (λ m. m ≤ max_items) shape → count shape ≤ max_items → shape_of (shape_of_picks picks) ≡ shape_picked (map pick_shown picks)
unfolding shape_picked
shape_of-picked shape picks are low small =
    elim (cases_lt max_axes (length (shape_of_picks picks))) [
      | inl many ↦
          let test : nat_le (length (shape_of_picks picks)) max_axes ≡ false = grind (arith, nat_tests) in
          rw test (shape_of-many (shape_of_picks picks) many)
      | inr few ↦
          let test : nat_le (length (shape_of_picks picks)) max_axes ≡ true = grind (arith, nat_tests) in
          rw test (shape_of-picks shape picks are low small few)
    ]

from_check : (few : Bool) (shape made : List ℕ) (e : Refusal) → (do _ ← check few e; Ok shape) ≡ Ok made → made ≡ shape
from_check true shape made e is = cc
from_check false shape made e is = cc

pub made-shape : (picks : List AxisPick) (made : List ℕ) → shape_picked (map pick_shown picks) ≡ Ok made → made ≡ shape_of_picks picks
unfolding shape_picked
made-shape picks made is = from_check (nat_le (length (shape_of_picks picks)) max_axes) (shape_of_picks picks) made TooManyAxes is

-- the view of picks that have this shape
abbrev view_of : List Pick → List ℕ → Result View Refusal
view_of some shape = Ok (record { shape = shape; leads = picked_index some })

picked_view-shape : (some : List Pick) → picked_view some ≡ (shape_picked some >>= view_of some)
unfolding picked_view shape_picked
picked_view-shape some = by_check (nat_le (length (picked_shape some)) max_axes)
  where
    by_check : (few : Bool) → (check few TooManyAxes >>= λ _. view_of some (picked_shape some)) ≡ ((check few TooManyAxes >>= λ _. Ok (picked_shape some)) >>= view_of some)
    by_check true = refl
    by_check false = refl

pub gives_picks : (old new : Layout) (picks : List AxisPick) (made : List ℕ) → shape_picked (map pick_shown picks) ≡ Ok made → IsViewOf old new (record { shape = shape_of_picks picks; leads = leads_of_picks picks }) → GivesView old (Ok new) (picked_view (map pick_shown picks))
gives_picks old new picks made there view = rw (picked_view-shape (map pick_shown picks), there ∙ ap Ok (made-shape picks made there)) view

pub gives_no_shape : (old : Layout) (picks : List AxisPick) (e : Refusal) → (e ≡ OutOfMemory) ⊎ (shape_picked (map pick_shown picks) ≡ Err e) → GivesView old (Err e) (picked_view (map pick_shown picks))
gives_no_shape old picks e (inl memory) = gives_refusal old (picked_view (map pick_shown picks)) e (inl memory)
gives_no_shape old picks e (inr there) = gives_refusal old (picked_view (map pick_shown picks)) e (inr (rw (picked_view-shape (map pick_shown picks), there)))

-- ---- a basic index

pub basic-many : {A : Type 0} (shape : List ℕ) (items : List (IndexItem A)) → length shape < axes_taken items → basic shape items ≡ Err TooManyIndices
unfolding basic
basic-many shape items many =
    let test : nat_le (axes_taken items) (length shape) ≡ false = grind (arith, nat_tests) in
    rw test

pub basic-no_step : {A : Type 0} (shape : List ℕ) (items : List (IndexItem A)) → axes_taken items ≤ length shape → list_all has_step items ≡ false → basic shape items ≡ Err ZeroStep
unfolding basic
basic-no_step shape items few none =
    let test : nat_le (axes_taken items) (length shape) ≡ true = grind (arith, nat_tests) in
    rw (test, none)

pub basic-out : {A : Type 0} (shape : List ℕ) (items : List (IndexItem A)) → axes_taken items ≤ length shape → list_all has_step items ≡ true → are_on_axes shape items ≡ false → basic shape items ≡ Err IndexOutOfRange
unfolding basic
basic-out shape items few steps out =
    let test : nat_le (axes_taken items) (length shape) ≡ true = grind (arith, nat_tests) in
    rw (test, steps, out)

pub basic-picks : {A : Type 0} (shape : List ℕ) (items : List (IndexItem A)) → axes_taken items ≤ length shape → list_all has_step items ≡ true → are_on_axes shape items ≡ true → basic shape items ≡ picked_view (picks shape items)
unfolding basic
basic-picks shape items few steps in' =
    let test : nat_le (axes_taken items) (length shape) ≡ true = grind (arith, nat_tests) in
    rw (test, steps, in')
