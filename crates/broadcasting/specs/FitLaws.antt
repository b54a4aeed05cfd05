-- Shapes can be stretched to their common shape.
use Rattle.std.specs.Prelude.{◌≡◌, ℕ, ◌-◌, ◌+◌, ◌≤◌, ◌&&◌, max, true, IsTrue, List, ◌∷◌, ◌++◌, length, replicate, IfOk}
use Rattle.std.proofs.Common.{inl, inr, Result, Ok, Err, zero, suc, false, [], All, refl, sym, ap, ◌∙◌, arith, length-append}
use Rattle.broadcasting.specs.Words.{is_ok, le-max_left, le-max_right, false≢true, cases_Bool, and_parts, nat_tests, append_assoc, replicate-append-replicate, length-replicate, All-cons, All-nil, same_answer, Refusal, ShapesDoNotBroadcast, Gives, ◌>>=◌, shape_of, shape_of-same}
use Rattle.broadcasting.specs.Broadcasts.{aligned, go_together, common_length, all_go_together, common_lengths, common_of_two, common_with, common_shape, stretches, all_stretch, can_stretch}
use Rattle.broadcasting.specs.BroadcastLaws.{can-itself}

-- ---- aligned shapes

pub length-aligned : (rank : ℕ) (shape : List ℕ) → length shape ≤ rank → length (aligned rank shape) ≡ rank
length-aligned rank shape few =
    omega (arith, length-append (replicate (rank - length shape) 1) shape, length-replicate {A = ℕ} (rank - length shape) 1)

pub common-none : (left right : List ℕ) (rank : ℕ) → rank ≡ max (length left) (length right) → all_go_together (aligned rank left) (aligned rank right) ≡ false → common_of_two left right ≡ Err ShapesDoNotBroadcast
unfolding common_of_two
common-none left right rank is none = let found = ap (λ r. all_go_together (aligned r left) (aligned r right)) (sym is) ∙ none in rw found

pub common-some : (left right : List ℕ) (rank : ℕ) → rank ≡ max (length left) (length right) → all_go_together (aligned rank left) (aligned rank right) ≡ true → common_of_two left right ≡ Ok (common_lengths (aligned rank left) (aligned rank right))
unfolding common_of_two
common-some left right rank is all =
    let found = ap (λ r. all_go_together (aligned r left) (aligned r right)) (sym is) ∙ all in
    rw found (ap (λ r. Ok (common_lengths (aligned r left) (aligned r right))) (sym is))

pub length-all_stretch : (shape target : List ℕ) → all_stretch shape target ≡ true → length shape ≡ length target
length-all_stretch [] [] all = refl
length-all_stretch (m ∷ shape) (n ∷ target) all = ap suc (length-all_stretch shape target (and_parts (stretches m n) (all_stretch shape target) all).1)
length-all_stretch _ _ all = cc

-- No shape stretches to one with fewer axes.
pub few-axes : (shape target : List ℕ) → can_stretch shape target ≡ true → length shape ≤ length target
few-axes shape target can =
    omega (arith, length-all_stretch (aligned (length target) shape) target can, length-append (replicate (length target - length shape) 1) shape, length-replicate {A = ℕ} (length target - length shape) 1)

-- ---- one axis

left-fits : (m n : ℕ) → stretches m (common_length m n) ≡ true
left-fits m n = grind (arith, nat_tests)

right-fits : (m n : ℕ) → go_together m n ≡ true → stretches n (common_length m n) ≡ true
right-fits m n together = grind (arith, nat_tests)

fits-on : (k m n : ℕ) → stretches k m ≡ true → stretches m n ≡ true → stretches k n ≡ true
fits-on k m n first second = grind (arith, nat_tests)

-- ---- all axes

all-left : (left right : List ℕ) → length left ≡ length right → all_stretch left (common_lengths left right) ≡ true
all-left [] [] same = refl
all-left (m ∷ left) (n ∷ right) same = λ i. left-fits m n i && all-left left right (omega arith) i
all-left _ _ same = absurd (omega arith)

all-right : (left right : List ℕ) → length left ≡ length right → all_go_together left right ≡ true → all_stretch right (common_lengths left right) ≡ true
all-right [] [] same together = refl
all-right (m ∷ left) (n ∷ right) same together =
    let first = and_parts (go_together m n) (all_go_together left right) together in
    λ i. right-fits m n first.0 i && all-right left right (omega arith) first.1 i
all-right _ _ same together = absurd (omega arith)

length-common : (left right : List ℕ) → length left ≡ length right → length (common_lengths left right) ≡ length left
length-common [] [] same = refl
length-common (m ∷ left) (n ∷ right) same = ap suc (length-common left right (omega arith))
length-common _ _ same = absurd (omega arith)

all-on : (first middle last : List ℕ) → all_stretch first middle ≡ true → all_stretch middle last ≡ true → all_stretch first last ≡ true
all-on [] [] last one two = two
all-on (k ∷ first) (m ∷ middle) (n ∷ last) one two =
    let here = and_parts (stretches k m) (all_stretch first middle) one in
    let there = and_parts (stretches m n) (all_stretch middle last) two in
    λ i. fits-on k m n here.0 there.0 i && all-on first middle last here.1 there.1 i
all-on _ _ _ one two = cc

-- Stretching is transitive if `more` axes of length 1 come first.
all-behind : (more : ℕ) (first middle last : List ℕ) → all_stretch first middle ≡ true → all_stretch (replicate more 1 ++ middle) last ≡ true → all_stretch (replicate more 1 ++ first) last ≡ true
all-behind zero first middle last one two = all-on first middle last one two
all-behind (suc more) first middle [] one two = absurd (false≢true two)
all-behind (suc more) first middle (n ∷ last) one two =
    let there = and_parts (stretches 1 n) (all_stretch (replicate more 1 ++ middle) last) two in
    λ i. there.0 i && all-behind more first middle last one there.1 i

joined : (x a b c : ℕ) → a + b ≡ c → replicate a x ++ replicate b x ≡ replicate c x
joined x a b c sum = replicate-append-replicate a b x ∙ ap (λ k. replicate k x) sum

aligned-twice : (shape : List ℕ) (m n : ℕ) → length shape ≤ m → m ≤ n → replicate (n - m) 1 ++ aligned m shape ≡ aligned n shape
aligned-twice shape m n few more =
    sym (append_assoc (replicate (n - m) 1) (replicate (m - length shape) 1) shape) ∙ ap (λ front. front ++ shape) (joined 1 (n - m) (m - length shape) (n - length shape) (omega arith))

can-on : (first middle last : List ℕ) → can_stretch first middle ≡ true → can_stretch middle last ≡ true → can_stretch first last ≡ true
can-on first middle last one two =
    sym (ap (λ shape. all_stretch shape last) (aligned-twice first (length middle) (length last) (few-axes first middle one) (few-axes middle last two)))
    ∙ all-behind (length last - length middle) (aligned (length middle) first) middle last one two

-- ---- the shapes

pub both-fit : (left right common : List ℕ) → common_of_two left right ≡ Ok common → (can_stretch left common ≡ true) × (can_stretch right common ≡ true)
both-fit left right common found =
    let rank = max (length left) (length right) in
    let l = aligned rank left in
    let r = aligned rank right in
    let rank-left : length l ≡ rank = length-aligned rank left (le-max_left (length left) (length right)) in
    let rank-right : length r ≡ rank = length-aligned rank right (le-max_right (length left) (length right)) in
    elim (cases_Bool (all_go_together l r)) [
      | inl together ↦
          let is : common_lengths l r ≡ common = same_answer (common_lengths l r) common (sym (common-some left right rank refl together) ∙ found) in
          let size : length common ≡ rank = ap length (sym is) ∙ length-common l r (rank-left ∙ sym rank-right) ∙ rank-left in (
            ap (λ n. all_stretch (aligned n left) common) size ∙ ap (all_stretch l) (sym is) ∙ all-left l r (rank-left ∙ sym rank-right),
            ap (λ n. all_stretch (aligned n right) common) size ∙ ap (all_stretch r) (sym is) ∙ all-right l r (rank-left ∙ sym rank-right) together,
          )
      | inr other ↦ absurd (false≢true (ap is_ok (sym (common-none left right rank refl other) ∙ found)))
    ]

-- The common lengths so far, and each of the remaining shapes, stretch to the common shape of all.
abbrev pub AllFit : List ℕ → List (List ℕ) → List ℕ → Type 0
AllFit lengths shapes common = IsTrue (can_stretch lengths common) × All (λ shape. IsTrue (can_stretch shape common)) shapes

fits-next : (lengths shape common : List ℕ) (shapes : List (List ℕ)) (r : Result (List ℕ) Refusal) → ((next : List ℕ) → common_with next shapes ≡ Ok common → AllFit next shapes common) → common_of_two lengths shape ≡ r → r >>= (λ next. common_with next shapes) ≡ Ok common → AllFit lengths (shape ∷ shapes) common
fits-next lengths shape common shapes (Err e) rest is found = absurd (false≢true (ap is_ok found))
fits-next lengths shape common shapes (Ok next) rest is found =
    let fit = both-fit lengths shape next is in
    let later = rest next found in (
      can-on lengths next common fit.0 later.0,
      All-cons (λ shape. IsTrue (can_stretch shape common)) shape shapes (can-on shape next common fit.1 later.0) later.1,
    )

pub with-fits : (lengths : List ℕ) (shapes : List (List ℕ)) (common : List ℕ) → common_with lengths shapes ≡ Ok common → AllFit lengths shapes common
with-fits lengths [] common found =
    (ap (can_stretch lengths) (sym (same_answer lengths common found)) ∙ can-itself lengths, All-nil (λ shape. IsTrue (can_stretch shape common)))
with-fits lengths (shape ∷ shapes) common found =
    fits-next lengths shape common shapes (common_of_two lengths shape) (λ next. with-fits next shapes common) refl found

fits-common : (shapes : List (List ℕ)) (common : List ℕ) (r : Result (List ℕ) Refusal) → common_with [] shapes ≡ r → r >>= shape_of ≡ Ok common → All (λ shape. IsTrue (can_stretch shape common)) shapes
fits-common shapes common (Err e) is found = absurd (false≢true (ap is_ok found))
fits-common shapes common (Ok lengths) is found = (with-fits [] shapes common (is ∙ ap Ok (shape_of-same lengths common found))).1

pub common-fits : (shapes : List (List ℕ)) (common : List ℕ) → common_shape shapes ≡ Ok common → All (λ shape. IsTrue (can_stretch shape common)) shapes
unfolding common_shape
common-fits shapes common found = fits-common shapes common (common_with [] shapes) refl found

-- If a call returns the common shape, all shapes stretch to it.
pub given-fits : (shapes : List (List ℕ)) (result : Result (List ℕ) Refusal) → Gives (λ s. s) result (common_shape shapes) → IfOk result (λ common. All (λ shape. IsTrue (can_stretch shape common)) shapes)
given-fits shapes (Ok common) given = common-fits shapes common given
given-fits shapes (Err e) given = tt
