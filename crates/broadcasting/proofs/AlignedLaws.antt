-- Laws of aligned shapes, axis by axis.
use Rattle.std.proofs.Common.{◌≡◌, ℕ, ◌+◌, ◌<◌, ◌≤◌, ◌&&◌, max, ◌-◌, ◌==◌, Bool, true, false, Ok, Err, List, [], ◌∷◌, ◌++◌, length, drop, get_or, inl, inr, refl, sym, ap, ◌∙◌, arith, append-nil, replicate}
use Rattle.broadcasting.proofs.Words.{max-eq_left, max-eq_right, eq-eqb, or-true, cases_Bool, le-max_left, le-max_right, drop_of_length-le, false_from_ne_true, and_left, drop_more, ShapesDoNotBroadcast, aligned, go_together, all_go_together, common_lengths, common_of_two, can_stretch, length-aligned, common-none, common-some, few-axes}

-- ---- the common lengths of two shapes

pub together-drop : (left right : List ℕ) (k : ℕ) → k < length left → k < length right → all_go_together (drop k left) (drop k right) ≡ go_together (get_or left k 0) (get_or right k 0) && all_go_together (drop (k + 1) left) (drop (k + 1) right)
together-drop left right k in-left in-right = rw (drop_more left k 0 in-left, drop_more right k 0 in-right) refl

-- The shapes are not compatible at this axis.
pub refused-at : (left right : List ℕ) (rank axis first second : ℕ) (together : Bool) → rank ≡ max (length left) (length right) → axis < rank → first ≡ get_or (aligned rank left) axis 0 → second ≡ get_or (aligned rank right) axis 0 → together ≡ go_together first second → together ≡ false → all_go_together (drop axis (aligned rank left)) (drop axis (aligned rank right)) ≡ all_go_together (aligned rank left) (aligned rank right) → common_of_two left right ≡ Err ShapesDoNotBroadcast
refused-at left right rank axis first second together is below first-is second-is tested other rest =
    let few-left : length left ≤ rank = omega (arith, le-max_left (length left) (length right)) in
    let few-right : length right ≤ rank = omega (arith, le-max_right (length left) (length right)) in
    let in-left : axis < length (aligned rank left) = omega (arith, length-aligned rank left few-left) in
    let in-right : axis < length (aligned rank right) = omega (arith, length-aligned rank right few-right) in
    let here : go_together (get_or (aligned rank left) axis 0) (get_or (aligned rank right) axis 0) ≡ false = ap (λ m. go_together m (get_or (aligned rank right) axis 0)) (sym first-is) ∙ ap (λ n. go_together first n) (sym second-is) ∙ sym tested ∙ other in
    common-none left right rank is (sym rest ∙ together-drop (aligned rank left) (aligned rank right) axis in-left in-right ∙ and_left _ (all_go_together (drop (axis + 1) (aligned rank left)) (drop (axis + 1) (aligned rank right))) here)

-- The shapes are compatible at each axis, and these are the common lengths.
pub found-all : (left right : List ℕ) (rank axis : ℕ) (lengths : List ℕ) → rank ≡ max (length left) (length right) → rank ≤ axis → all_go_together (drop axis (aligned rank left)) (drop axis (aligned rank right)) ≡ all_go_together (aligned rank left) (aligned rank right) → lengths ++ common_lengths (drop axis (aligned rank left)) (drop axis (aligned rank right)) ≡ common_lengths (aligned rank left) (aligned rank right) → common_of_two left right ≡ Ok lengths
found-all left right rank axis lengths is past together are =
    let few-left : length left ≤ rank = omega (arith, le-max_left (length left) (length right)) in
    let none : drop axis (aligned rank left) ≡ [] = drop_of_length-le (aligned rank left) (omega (arith, length-aligned rank left few-left)) in
    let all : all_go_together (aligned rank left) (aligned rank right) ≡ true = sym together ∙ ap (λ l. all_go_together l (drop axis (aligned rank right))) none in
    let found : lengths ≡ common_lengths (aligned rank left) (aligned rank right) = sym (append-nil lengths) ∙ ap (λ l. lengths ++ common_lengths l (drop axis (aligned rank right))) (sym none) ∙ are in
    common-some left right rank is all ∙ ap Ok (sym found)

aligned-own : (shape : List ℕ) → aligned (length shape) shape ≡ shape
aligned-own shape = let none : length shape - length shape ≡ 0 = omega arith in rw none refl

together-same : (shape : List ℕ) → all_go_together shape shape ≡ true
together-same [] = refl
together-same (n ∷ shape) = let here : (n == n) ≡ true = eq-eqb n n refl in rw (here, together-same shape) refl

lengths-same : (shape : List ℕ) → common_lengths shape shape ≡ shape
lengths-same [] = refl
lengths-same (n ∷ shape) = elim (cases_Bool (n == 1)) [ inl one ↦ rw (one, lengths-same shape) refl | inr more ↦ rw (more, lengths-same shape) refl ]

-- The common lengths of a shape and itself are its own.
pub common-same : (shape : List ℕ) → common_of_two shape shape ≡ Ok shape
common-same shape =
    let is : length shape ≡ max (length shape) (length shape) = sym (max-eq_left (omega arith)) in
    let own = aligned-own shape in
    common-some shape shape (length shape) is (ap (λ l. all_go_together l l) own ∙ together-same shape) ∙ ap Ok (ap (λ l. common_lengths l l) own ∙ lengths-same shape)

together-ones : (shape : List ℕ) → all_go_together (replicate (length shape) 1 ++ []) shape ≡ true
together-ones [] = refl
together-ones (n ∷ shape) = rw (or-true (1 == n), together-ones shape) refl

lengths-ones : (shape : List ℕ) → common_lengths (replicate (length shape) 1 ++ []) shape ≡ shape
lengths-ones [] = refl
lengths-ones (n ∷ shape) = ap (λ l. n ∷ l) (lengths-ones shape)

-- The common lengths of no axes and a shape are those of the shape.
pub common-of-none : (shape : List ℕ) → common_of_two [] shape ≡ Ok shape
common-of-none shape =
    let missing : length shape - 0 ≡ length shape = omega arith in
    let ones : aligned (length shape) [] ≡ replicate (length shape) 1 ++ [] = ap (λ n. replicate n 1 ++ []) missing in
    let own = aligned-own shape in
    let together = ap (λ l. all_go_together l (aligned (length shape) shape)) ones ∙ ap (all_go_together _) own ∙ together-ones shape in
    let lengths = ap (λ l. common_lengths l (aligned (length shape) shape)) ones ∙ ap (common_lengths _) own ∙ lengths-ones shape in
    common-some [] shape (length shape) (sym (max-eq_right (omega arith))) together ∙ ap Ok lengths

-- ---- stretching

pub too-many-axes : (shape target : List ℕ) → length target < length shape → can_stretch shape target ≡ false
too-many-axes shape target many = false_from_ne_true (can_stretch shape target) (λ can. omega (arith, few-axes shape target can))
