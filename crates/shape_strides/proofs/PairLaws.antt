-- Laws of two layouts that are walked together: the pairs cover the items of both.
use Rattle.std.proofs.Common.{◌≡◌, ℕ, zero, suc, ◌+◌, ◌-◌, ◌<◌, ◌≤◌, ◌==◌, min, ℤ, pos, ◌+ℤ◌, ◌*ℤ◌, List, [], ◌∷◌, ◌++◌, Option, Some, None, All, map, length, inl, inr, refl, sym, ◌∙◌, ap, subst, arith, append_assoc, length-append}
use Rattle.shape_strides.proofs.Words.{flat_map, Each, cases_lt, cond_both, cond-true, eq-eqb, eqb-true, eqb-false, map-append, All-from_recursion, numbers_from, Layout, StridedAxis, Run, RunPair, max_items, count, natural, offsets, strided_axes, all_joined, run_offsets, runs_from, runs, GoesBy, run_front, run_after, cut, paired, all_offsets, pairs, pairs_left, run_pairs, lengths_of, IsInBytes, IsWhole, AreWhole, AreEven, IsAtPair, IsHead, both, pos-natural, length-offsets, numbers-split, numbers-suc, length-run_offsets, length-first}
use Rattle.shape_strides.proofs.JoinedLaws.{flat_map-id, addresses}
use Rattle.shape_strides.proofs.RunLaws.{NoneBelow, Each-front, Each-back, numbers-natural, empty, IsJoined, HasItems, IsJoined-joined, HasItems-axes, runs-some, runs-none, runs-offsets, runs-alone}
use Rattle.shape_strides.proofs.FrontLaws.{in_bytes, lengths-low, count-whole}

none_low : (zs : List ℤ) → Each IsInBytes zs → NoneBelow zs
none_low [] each = tt
none_low (z ∷ zs) each = (each.0.0, none_low zs each.1)

pub split : (run : Run) (n : ℕ) → n ≤ run.count → numbers_from (pos run.offset) run.step run.count ≡ numbers_from (pos run.offset) run.step n ++ numbers_from (pos run.offset +ℤ run.step *ℤ pos n) run.step (run.count - n)
split run n low =
    let parts : run.count ≡ n + (run.count - n) = omega arith in
    ap (numbers_from (pos run.offset) run.step) parts ∙ numbers-split (pos run.offset) run.step n (run.count - n)

after-lies : (run : Run) (n : ℕ) → n ≤ run.count → IsWhole run → Each IsInBytes (numbers_from (pos run.offset +ℤ run.step *ℤ pos n) run.step (run.count - n))
after-lies run n low whole =
    Each-back IsInBytes (numbers_from (pos run.offset) run.step n) (numbers_from (pos run.offset +ℤ run.step *ℤ pos n) run.step (run.count - n)) (subst (Each IsInBytes) (split run n low) whole.lies)

-- A run is its first n items followed by the rest.
pub run-split : (run : Run) (n : ℕ) → n ≤ run.count → IsWhole run → run_offsets run ≡ run_offsets (run_front n run) ++ run_offsets (run_after n run)
run-split run n low whole =
    let later = numbers-natural (pos run.offset +ℤ run.step *ℤ pos n) run.step (run.count - n) (none_low _ (after-lies run n low whole)) in
    ap (map natural) (split run n low) ∙ map-append natural (numbers_from (pos run.offset) run.step n) (numbers_from (pos run.offset +ℤ run.step *ℤ pos n) run.step (run.count - n)) ∙ ap (λ zs. run_offsets (run_front n run) ++ map natural zs) (sym later)

pub cut-offsets : (n : ℕ) (run : Run) (runs : List Run) → n ≤ run.count → IsWhole run → run_offsets (run_front n run) ++ all_offsets (cut n run runs) ≡ all_offsets (run ∷ runs)
cut-offsets n run runs low whole =
    cond_both (run.count == n) runs (run_after n run ∷ runs) (λ rest. run_offsets (run_front n run) ++ all_offsets rest ≡ all_offsets (run ∷ runs)) (λ all. ap (λ m. run_offsets (run_front m run) ++ all_offsets runs) (sym (eqb-true run.count n all))) (λ _.
    sym (append_assoc (run_offsets (run_front n run)) (run_offsets (run_after n run)) (all_offsets runs)) ∙ ap (λ os. os ++ all_offsets runs) (sym (run-split run n low whole)))

pub cut-whole : (n : ℕ) (run : Run) (runs : List Run) → n ≤ run.count → IsWhole run → AreWhole runs → AreWhole (cut n run runs)
cut-whole n run runs low whole others =
    cond_both (run.count == n) runs (run_after n run ∷ runs) AreWhole (λ _. others) (λ more.
    let other = eqb-false run.count n more in
    let lies = after-lies run n low whole in
    (record { some = omega arith; few = omega (arith, whole.few); lies = subst (Each IsInBytes) (sym (numbers-natural (pos run.offset +ℤ run.step *ℤ pos n) run.step (run.count - n) (none_low _ lies))) lies }, others))

length-cut : (n : ℕ) (run : Run) (runs : List Run) → n ≤ run.count → IsWhole run → n + length (all_offsets (cut n run runs)) ≡ length (all_offsets (run ∷ runs))
length-cut n run runs low whole =
    omega (arith, length-append (run_offsets (run_front n run)) (all_offsets (cut n run runs)), length-run_offsets (run_front n run), ap length (cut-offsets n run runs low whole))

pub even_after : (most : ℕ) (x y : Run) (xs ys : List Run) → AreEven (suc most) (x ∷ xs) (y ∷ ys) → AreEven most (cut (min x.count y.count) x xs) (cut (min x.count y.count) y ys)
even_after most x y xs ys even =
    let n = min x.count y.count in
    let low : n ≤ x.count = omega arith in
    let low' : n ≤ y.count = omega arith in
    let some = even.whole.0.some in
    let some' = even.whole'.0.some in
    let size = length-cut n x xs low even.whole.0 in
    let size' = length-cut n y ys low' even.whole'.0 in
    record {
      whole = cut-whole n x xs low even.whole.0 even.whole.1;
      whole' = cut-whole n y ys low' even.whole'.0 even.whole'.1;
      same = omega (arith, even.same, size, size');
      few = omega (arith, even.few, size, some, some');
    }

-- The first runs of the pairs cover the items of `xs`, and the second runs cover those of `ys`.
pub paired-first : (most : ℕ) (xs ys : List Run) → AreEven most xs ys → flat_map (λ pair. run_offsets pair.first) (paired most xs ys) ≡ all_offsets xs
paired-first zero xs ys even = sym (empty (all_offsets xs) (omega (arith, even.few)))
paired-first (suc most) [] ys even = refl
paired-first (suc most) (x ∷ xs) [] even = absurd (omega (arith, even.same, length-first x xs, even.whole.0.some))
paired-first (suc most) (x ∷ xs) (y ∷ ys) even =
    let n = min x.count y.count in
    ap (λ os. run_offsets (run_front n x) ++ os) (paired-first most (cut n x xs) (cut n y ys) (even_after most x y xs ys even)) ∙ cut-offsets n x xs (omega arith) even.whole.0

pub paired-second : (most : ℕ) (xs ys : List Run) → AreEven most xs ys → flat_map (λ pair. run_offsets pair.second) (paired most xs ys) ≡ all_offsets ys
paired-second zero xs ys even = sym (empty (all_offsets ys) (omega (arith, even.few, even.same)))
paired-second (suc most) [] ys even = sym (empty (all_offsets ys) (sym even.same))
paired-second (suc most) (x ∷ xs) [] even = refl
paired-second (suc most) (x ∷ xs) (y ∷ ys) even =
    let n = min x.count y.count in
    ap (λ os. run_offsets (run_front n y) ++ os) (paired-second most (cut n x xs) (cut n y ys) (even_after most x y xs ys even)) ∙ cut-offsets n y ys (omega arith) even.whole'.0

-- The bound on the number of pairs does not matter if it is large enough.
pub paired-enough : (most more : ℕ) (xs ys : List Run) → AreEven most xs ys → AreEven more xs ys → paired most xs ys ≡ paired more xs ys
paired-enough zero (suc more) (x ∷ xs) ys even even' = absurd (omega (arith, even.few, length-first x xs, even.whole.0.some))
paired-enough (suc most) zero (x ∷ xs) ys even even' = absurd (omega (arith, even'.few, length-first x xs, even'.whole.0.some))
paired-enough (suc most) (suc more) (x ∷ xs) (y ∷ ys) even even' =
    ap (λ later. record { first = run_front (min x.count y.count) x; second = run_front (min x.count y.count) y } ∷ later) (paired-enough most more (cut (min x.count y.count) x xs) (cut (min x.count y.count) y ys) (even_after most x y xs ys even) (even_after more x y xs ys even'))
paired-enough _ _ _ _ even even' = refl

-- If the first n items are not the whole run, the next item is within the limit too.
pub after-range : (run : Run) (n : ℕ) → n ≤ run.count → (run.count ≡ n → ⊥) → IsWhole run → IsInBytes (pos run.offset +ℤ run.step *ℤ pos n)
after-range run n low other whole =
    first (run.count - n) (omega arith) (after-lies run n low whole)
  where
    first : (m : ℕ) → 1 ≤ m → Each IsInBytes (numbers_from (pos run.offset +ℤ run.step *ℤ pos n) run.step m) → IsInBytes (pos run.offset +ℤ run.step *ℤ pos n)
    first zero some each = absurd (omega arith)
    first (suc m) some each = (subst (Each IsInBytes) (numbers-suc (pos run.offset +ℤ run.step *ℤ pos n) run.step m) each).0

-- ---- one pair of a walk

pairs-end : (most : ℕ) (x : Run) (xs : List Run) → paired most (x ∷ xs) [] ≡ []
pairs-end zero x xs = refl
pairs-end (suc most) x xs = refl

pairs-start : (most : ℕ) (ys : List Run) → paired most [] ys ≡ []
pairs-start zero ys = refl
pairs-start (suc most) ys = refl

-- the pairs that remain, given the first runs of both lists
pub left-is : (first second : Option Run) (xs xs' ys ys' : List Run) → IsHead first xs' xs → IsHead second ys' ys → pairs_left (both first second) xs' ys' ≡ pairs xs ys
left-is None second xs xs' ys ys' head head' = sym (ap (λ l. pairs l ys) head.0 ∙ pairs-start 0 ys)
left-is (Some x) None xs xs' ys ys' head head' = sym (ap (λ l. pairs l ys) head ∙ ap (pairs (x ∷ xs')) head'.0 ∙ pairs-end (length (all_offsets (x ∷ xs'))) x xs')
left-is (Some x) (Some y) xs xs' ys ys' head head' = sym (ap (λ l. pairs l ys) head ∙ ap (pairs (x ∷ xs')) head')

pub left-even : (most : ℕ) (first second : Option Run) (xs xs' ys ys' : List Run) → IsHead first xs' xs → IsHead second ys' ys → AreEven most xs ys → IsAtPair (both first second) xs' ys'
left-even most (Some x) (Some y) xs xs' ys ys' head head' even =
    let there = subst (λ l. AreEven most l ys) head even in
    let here = subst (λ l. AreEven most (x ∷ xs') l) head' there in
    record { whole = here.whole; whole' = here.whole'; same = here.same; few = omega arith }
left-even most _ _ xs xs' ys ys' head head' even = tt

pub pairs-step : (x y : Run) (xs ys : List Run) → AreEven (length (all_offsets (x ∷ xs))) (x ∷ xs) (y ∷ ys) → (AreEven (length (all_offsets (cut (min x.count y.count) x xs))) (cut (min x.count y.count) x xs) (cut (min x.count y.count) y ys)) × (pairs (x ∷ xs) (y ∷ ys) ≡ record { first = run_front (min x.count y.count) x; second = run_front (min x.count y.count) y } ∷ pairs (cut (min x.count y.count) x xs) (cut (min x.count y.count) y ys))
pairs-step x y xs ys even = at (length (all_offsets (x ∷ xs))) even (omega (arith, length-first x xs, even.whole.0.some))
  where
    at : (most : ℕ) → AreEven most (x ∷ xs) (y ∷ ys) → 1 ≤ most → (AreEven (length (all_offsets (cut (min x.count y.count) x xs))) (cut (min x.count y.count) x xs) (cut (min x.count y.count) y ys)) × (paired most (x ∷ xs) (y ∷ ys) ≡ record { first = run_front (min x.count y.count) x; second = run_front (min x.count y.count) y } ∷ pairs (cut (min x.count y.count) x xs) (cut (min x.count y.count) y ys))
    at zero even some = absurd (omega arith)
    at (suc most) even some =
        let later = even_after most x y xs ys even in
        let exact : AreEven (length (all_offsets (cut (min x.count y.count) x xs))) (cut (min x.count y.count) x xs) (cut (min x.count y.count) y ys) = record { whole = later.whole; whole' = later.whole'; same = later.same; few = omega arith } in
        (exact, ap (λ ps. record { first = run_front (min x.count y.count) x; second = run_front (min x.count y.count) y } ∷ ps) (paired-enough most (length (all_offsets (cut (min x.count y.count) x xs))) (cut (min x.count y.count) x xs) (cut (min x.count y.count) y ys) later exact))

-- the current pair of a walk, and the pairs that remain after it
pub next_pair : (n : ℕ) (pair : RunPair) (first second : Option Run) (xs xs' ys ys' : List Run) → n ≡ min pair.first.count pair.second.count → IsAtPair (Some pair) xs ys → IsHead first xs' (cut n pair.first xs) → IsHead second ys' (cut n pair.second ys) → (IsAtPair (both first second) xs' ys') × (pairs (pair.first ∷ xs) (pair.second ∷ ys) ≡ record { first = run_front n pair.first; second = run_front n pair.second } ∷ pairs_left (both first second) xs' ys')
next_pair n pair first second xs xs' ys ys' least even head head' =
    let step = pairs-step pair.first pair.second xs ys even in
    let h = subst (λ m. IsHead first xs' (cut m pair.first xs)) least head in
    let h' = subst (λ m. IsHead second ys' (cut m pair.second ys)) least head' in
    let m = min pair.first.count pair.second.count in (
      left-even (length (all_offsets (cut m pair.first xs))) first second (cut m pair.first xs) xs' (cut m pair.second ys) ys' h h' step.0,
      step.1 ∙ ap (λ ps. record { first = run_front m pair.first; second = run_front m pair.second } ∷ ps) (sym (left-is first second (cut m pair.first xs) xs' (cut m pair.second ys) ys' h h')) ∙ ap (λ k. record { first = run_front k pair.first; second = run_front k pair.second } ∷ pairs_left (both first second) xs' ys') (sym least),
    )

-- ---- each run of a layout has items within the limit

whole-gathered : (f : ℤ → List Run) (g : ℤ → List ℤ) → ((at : ℤ) → Each IsInBytes (g at) → AreWhole (f at)) → (zs : List ℤ) → Each IsInBytes (flat_map g zs) → AreWhole (flat_map f zs)
whole-gathered f g whole [] each = tt
whole-gathered f g whole (z ∷ zs) each = join (f z) (flat_map f zs) (whole z (Each-front IsInBytes (g z) (flat_map g zs) each)) (whole-gathered f g whole zs (Each-back IsInBytes (g z) (flat_map g zs) each))
  where
    join : (xs ys : List Run) → AreWhole xs → AreWhole ys → AreWhole (xs ++ ys)
    join [] ys some later = later
    join (x ∷ xs) ys some later = (some.0, join xs ys some.1 later)

runs_from-whole : (at : ℤ) (axes : List StridedAxis) → HasItems axes → Each (λ n. n ≤ max_items) (lengths_of axes) → Each IsInBytes (addresses at axes) → AreWhole (runs_from at axes)
runs_from-whole at [] some low each =
    let one = numbers-suc (pos (natural at)) (pos 0) 0 ∙ ap (λ z. z ∷ []) (pos-natural at each.0.0) in
    (record { some = omega arith; few = omega arith; lies = subst (Each IsInBytes) (sym one) each }, tt)
runs_from-whole at (axis ∷ []) some low each =
    let lies = subst (Each IsInBytes) (flat_map-id (numbers_from at axis.stride axis.len)) each in
    (record { some = some.0; few = low.0; lies = subst (Each IsInBytes) (sym (numbers-natural at axis.stride axis.len (none_low _ lies))) lies }, tt)
runs_from-whole at (axis ∷ inner ∷ axes) some low each =
    whole-gathered (λ next. runs_from next (inner ∷ axes)) (λ next. addresses next (inner ∷ axes)) (λ next. runs_from-whole next (inner ∷ axes) some.1 low.1) (numbers_from at axis.stride axis.len) each

HasItems-joined : (axes : List StridedAxis) → IsJoined axes → HasItems axes
HasItems-joined [] done = tt
HasItems-joined (axis ∷ axes) done = (omega (arith, done.0), HasItems-joined axes done.2)

pub whole-runs : (l : Layout) → count l.shape ≤ max_items → AreWhole (runs l)
whole-runs l items =
    elim (cases_lt 0 (count l.shape)) [
      | inl some ↦
          let axes = strided_axes l.strides l.shape in
          let done = IsJoined-joined axes (HasItems-axes l.strides l.shape some) in
          let size = count-whole l in
          subst AreWhole (sym (runs-some l some)) (runs_from-whole (pos l.offset) (all_joined axes) (HasItems-joined (all_joined axes) done) (lengths-low (lengths_of (all_joined axes)) max_items (omega arith) (omega arith)) (in_bytes l))
      | inr above ↦ let none : count l.shape ≡ 0 = omega arith in subst AreWhole (sym (runs-none l none)) tt
    ]

some_each : (xs : List Run) → AreWhole xs → Each (λ run. 1 ≤ run.count) xs
some_each [] whole = tt
some_each (x ∷ xs) whole = (whole.0.some, some_each xs whole.1)

pub runs-some_each : (l : Layout) → count l.shape ≤ max_items → All (λ run. 1 ≤ run.count) (runs l)
runs-some_each l items = All-from_recursion (λ run. 1 ≤ run.count) (runs l) (some_each (runs l) (whole-runs l items))

pub even-runs : (l m : Layout) → count l.shape ≡ count m.shape → count l.shape ≤ max_items → AreEven (length (all_offsets (runs l))) (runs l) (runs m)
even-runs l m same items = record {
  whole = whole-runs l items;
  whole' = whole-runs m (omega arith);
  same = ap length (runs-offsets l) ∙ length-offsets l ∙ same ∙ sym (length-offsets m) ∙ sym (ap length (runs-offsets m));
  few = omega arith;
}

-- ---- the pairs of two layouts

pub run_pairs-first : (l m : Layout) → count l.shape ≡ count m.shape → count l.shape ≤ max_items → flat_map (λ pair. run_offsets pair.first) (run_pairs l m) ≡ offsets l
unfolding run_pairs
run_pairs-first l m same items = paired-first (length (all_offsets (runs l))) (runs l) (runs m) (even-runs l m same items) ∙ runs-offsets l

pub run_pairs-second : (l m : Layout) → count l.shape ≡ count m.shape → count l.shape ≤ max_items → flat_map (λ pair. run_offsets pair.second) (run_pairs l m) ≡ offsets m
unfolding run_pairs
run_pairs-second l m same items = paired-second (length (all_offsets (runs l))) (runs l) (runs m) (even-runs l m same items) ∙ runs-offsets m

paired-counts : (most : ℕ) (xs ys : List Run) → Each (λ pair. pair.first.count ≡ pair.second.count) (paired most xs ys)
paired-counts (suc most) (x ∷ xs) (y ∷ ys) = (refl, paired-counts most (cut (min x.count y.count) x xs) (cut (min x.count y.count) y ys))
paired-counts _ _ _ = tt

pub run_pairs-counts : (l m : Layout) → All (λ pair. pair.first.count ≡ pair.second.count) (run_pairs l m)
unfolding run_pairs
run_pairs-counts l m = All-from_recursion (λ pair. pair.first.count ≡ pair.second.count) (run_pairs l m) (paired-counts (length (all_offsets (runs l))) (runs l) (runs m))

cut-all : (n : ℕ) (run : Run) → run.count ≡ n → cut n run [] ≡ []
cut-all n run all = cond-true (run.count == n) [] (run_after n run ∷ []) (eq-eqb run.count n all)

paired-alone : (most : ℕ) (xs ys : List Run) → length xs ≡ 1 → length ys ≡ 1 → AreEven most xs ys → length (paired most xs ys) ≡ 1
paired-alone zero (x ∷ []) (y ∷ []) one one' even = absurd (omega (arith, even.few, length-first x [], even.whole.0.some))
paired-alone (suc most) (x ∷ []) (y ∷ []) one one' even =
    let same : x.count ≡ y.count = omega (arith, even.same, length-first x [], length-first y []) in
    let first = cut-all (min x.count y.count) x (omega arith) in
    let second = cut-all (min x.count y.count) y (omega arith) in
    ap (λ xs. suc (length (paired most xs (cut (min x.count y.count) y [])))) first ∙ ap (λ ys. suc (length (paired most [] ys))) second ∙ ap (λ ps. suc (length ps)) (pairs-start most [])
paired-alone most _ _ one one' even = absurd (omega arith)

pub run_pairs-alone : (l m : Layout) (step step' : ℤ) → count l.shape ≡ count m.shape → count l.shape ≤ max_items → 0 < count l.shape → GoesBy step (offsets l) → GoesBy step' (offsets m) → length (run_pairs l m) ≡ 1
unfolding run_pairs
run_pairs-alone l m step step' same items some by by' =
    paired-alone (length (all_offsets (runs l))) (runs l) (runs m) (runs-alone l step some by) (runs-alone m step' (omega arith) by') (even-runs l m same items)
