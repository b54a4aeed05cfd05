-- The axes that a list of numbers names.
use Rattle.std.proofs.Common.{◌≡◌, ◌≢◌, ℕ, zero, suc, ◌+◌, ◌-◌, ◌<◌, ◌≤◌, ◌==◌, true, false, not, ℤ, Option, Some, None, List, [], ◌∷◌, map, length, take, take_all, get_or, Result, Ok, Err, inl, inr, refl, sym, ap, ◌∙◌, arith}
use Rattle.view_ops.proofs.Words.{list_any, list_all, range_with_len, cases_Bool, cases_eq, and_parts, false≢true, not-true, is_ok, Refusal, BadAxis, axis_below, same_answer, nat_tests, length-map, length-range_with_len, natural, from_front, is_place, are_distinct, axes_of, AreAxes, AreAllAxes}

pub axes_of-count : (rank : ℕ) (named : List ℤ) → length named ≢ rank → axes_of rank (Some named) ≡ Err BadAxis
unfolding axes_of
axes_of-count rank named other =
    let test : (length named == rank) ≡ false = grind (arith, nat_tests) in
    rw test

pub axes_of-range : (rank : ℕ) (named : List ℤ) → length named ≡ rank → list_all (is_place rank) named ≡ false → axes_of rank (Some named) ≡ Err BadAxis
unfolding axes_of
axes_of-range rank named size out =
    let test : (length named == rank) ≡ true = grind (arith, nat_tests) in
    rw (test, out)

pub axes_of-repeated : (rank : ℕ) (named : List ℤ) → length named ≡ rank → list_all (is_place rank) named ≡ true → are_distinct (map (λ axis. natural (from_front rank axis)) named) ≡ false → axes_of rank (Some named) ≡ Err BadAxis
unfolding axes_of
axes_of-repeated rank named size within again =
    let test : (length named == rank) ≡ true = grind (arith, nat_tests) in
    rw (test, within, again)

pub axes_of-ok : (rank : ℕ) (named : List ℤ) (axes : List ℕ) → length named ≡ rank → list_all (is_place rank) named ≡ true → axes ≡ map (λ axis. natural (from_front rank axis)) named → are_distinct axes ≡ true → axes_of rank (Some named) ≡ Ok axes
unfolding axes_of
axes_of-ok rank named axes size within are once =
    let test : (length named == rank) ≡ true = grind (arith, nat_tests) in
    let once' : are_distinct (map (λ axis. natural (from_front rank axis)) named) ≡ true = ap are_distinct (sym are) ∙ once in
    rw (test, within, once') (ap Ok (sym are))

-- A loop over the axes has made these of all of them.
pub all_taken : {X Y : Type 0} (f : X → Y) (axes : List X) (k : ℕ) (made : List Y) → length axes ≤ k → made ≡ map f (take k axes) → made ≡ map f axes
all_taken f axes k made past is = is ∙ ap (map f) (take_all k axes past)

-- ---- the named axes

pub axis-lt : (n : ℕ) (axes : List ℕ) (k : ℕ) → AreAxes n axes → k < length axes → get_or axes k 0 < n
axis-lt n [] k are low = absurd (omega arith)
axis-lt n (a ∷ axes) zero are low = are.0
axis-lt n (a ∷ axes) (suc k) are low = axis-lt n axes k are.2 (omega arith)

AreAxes-counted : (n : ℕ) (named : List ℤ) → list_all (is_place n) named ≡ true → are_distinct (map (λ axis. natural (from_front n axis)) named) ≡ true → AreAxes n (map (λ axis. natural (from_front n axis)) named)
AreAxes-counted n [] within once = tt
AreAxes-counted n (axis ∷ named) within once =
    let rest = map (λ z. natural (from_front n z)) named in
    let a = natural (from_front n axis) in (
      axis_below n (from_front n axis) (and_parts (is_place n axis) (list_all (is_place n) named) within).0,
      not-true (list_any (λ other. other == a) rest) (and_parts (not (list_any (λ other. other == a) rest)) (are_distinct rest) once).0,
      AreAxes-counted n named (and_parts (is_place n axis) (list_all (is_place n) named) within).1 (and_parts (not (list_any (λ other. other == a) rest)) (are_distinct rest) once).1,
    )

not_later : (n a m j : ℕ) → a + m ≤ n → n - a ≤ j → list_any (λ other. other == j) (map (λ k. n - 1 - k) (range_with_len a m)) ≡ false
not_later n a zero j few high = refl
not_later n a (suc m) j few high =
    let test : (n - 1 - a == j) ≡ false = grind (arith, nat_tests) in
    rw (test, not_later n (a + 1) m j (omega arith) (omega arith))

AreAxes-reversed : (n a m : ℕ) → a + m ≤ n → AreAxes n (map (λ k. n - 1 - k) (range_with_len a m))
AreAxes-reversed n a zero few = tt
AreAxes-reversed n a (suc m) few = (omega arith, not_later n (a + 1) m (n - 1 - a) (omega arith) (omega arith), AreAxes-reversed n (a + 1) m (omega arith))

no_axes : (axes : List ℕ) (e : Refusal) (there : Result (List ℕ) Refusal) → there ≡ Err e → there ≡ Ok axes → ⊥
no_axes axes e there refused is = false≢true (ap is_ok (sym refused ∙ is))

pub all_axes : (n : ℕ) (named : Option (List ℤ)) (axes : List ℕ) → axes_of n named ≡ Ok axes → AreAllAxes n axes
unfolding axes_of
all_axes n None axes is =
    let list : map (λ k. n - 1 - k) (range_with_len 0 n) ≡ axes = same_answer _ axes is in
    rw (← list) (record { size = length-map (range_with_len 0 n) (λ k. n - 1 - k) ∙ length-range_with_len 0 n; are = AreAxes-reversed n 0 n (omega arith) })
all_axes n (Some named) axes is =
    let counted = map (λ axis. natural (from_front n axis)) named in
    elim (cases_eq (length named) n) [
      | inr other ↦ absurd (no_axes axes BadAxis (axes_of n (Some named)) (axes_of-count n named other) is)
      | inl size ↦ elim (cases_Bool (list_all (is_place n) named)) [
        | inr out ↦ absurd (no_axes axes BadAxis (axes_of n (Some named)) (axes_of-range n named size out) is)
        | inl within ↦ elim (cases_Bool (are_distinct counted)) [
          | inr again ↦ absurd (no_axes axes BadAxis (axes_of n (Some named)) (axes_of-repeated n named size within again) is)
          | inl once ↦
              let list : counted ≡ axes = same_answer counted axes (sym (axes_of-ok n named counted size within refl once) ∙ is) in
              rw (← list) (record { size = length-map named (λ axis. natural (from_front n axis)) ∙ size; are = AreAxes-counted n named within once })
        ]
      ]
    ]
