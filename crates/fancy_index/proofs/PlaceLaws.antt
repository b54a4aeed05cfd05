-- The place of the points, part by part.
use Rattle.std.proofs.Common.{◌≡◌, ℕ, ◌+◌, ◌≤◌, ◌<◌, Bool, true, false, cond, if◌then◌else◌, List, [], ◌∷◌, ◌++◌, map, length, drop, get_or, sym, ap, ◌∙◌, arith, append_assoc, length-append}
use Rattle.fancy_index.proofs.Words.{drop_all, drop_more, Stretch, Before, Among, After, IndexPart, Part, Axis, Points, Between, axes_of_part, other_axes, axes_before, side_by_side, points_place, shown_part, stand}

-- the other axes before the first points that are still to come
abbrev axes_left : Stretch → List Part → ℕ
axes_left Before parts = axes_before parts
axes_left _ parts = 0

-- the place of the points after some parts, of which `place` other axes come before the points
abbrev pub place_from : ℕ → Stretch → List Part → ℕ
place_from place stretch parts = if stand stretch parts then place + axes_left stretch parts else 0

-- no parts are left
pub place-end : (parts : List IndexPart) (k place : ℕ) (stretch : Stretch) → length parts ≤ k → place_from place stretch (map shown_part (drop k parts)) ≡ place
place-end parts k place stretch all = ap (λ l. place_from place stretch (map shown_part l)) (drop_all k parts all) ∙ none stretch
  where
    none : (stretch : Stretch) → place_from place stretch [] ≡ place
    none Before = omega arith
    none Among = omega arith
    none After = omega arith

-- ---- axes before the points

axes-within : (parts : List Part) → axes_before parts ≤ length (other_axes parts)
axes-within [] = omega arith
axes-within (Points shape points ∷ parts) = omega arith
axes-within (Axis pick ∷ parts) = omega (arith, axes-within parts, length-append (axes_of_part (Axis pick)) (other_axes parts))
axes-within (Between ∷ parts) = omega (arith, axes-within parts)

place-of : (beside : Bool) (before all : ℕ) → before ≤ all → cond beside before 0 ≤ all
place-of true before all low = low
place-of false before all low = omega arith

pub place-within : (parts : List Part) → points_place parts ≤ length (other_axes parts)
place-within parts = place-of (side_by_side parts) (axes_before parts) (length (other_axes parts)) (axes-within parts)

-- ---- the lengths of the other axes

pub axes_more : (parts : List IndexPart) (k : ℕ) (part : IndexPart) (done new whole : List ℕ) → k < length parts → part ≡ get_or parts k part → new ≡ done ++ axes_of_part (shown_part part) →
    done ++ other_axes (map shown_part (drop k parts)) ≡ whole → new ++ other_axes (map shown_part (drop (k + 1) parts)) ≡ whole
axes_more parts k part done new whole low is added so_far =
    let later = other_axes (map shown_part (drop (k + 1) parts)) in
    ap (λ l. l ++ later) added
    ∙ append_assoc done (axes_of_part (shown_part part)) later
    ∙ ap (λ p. done ++ (axes_of_part (shown_part p) ++ later)) is
    ∙ sym (ap (λ l. done ++ other_axes (map shown_part l)) (drop_more parts k part low))
    ∙ so_far
