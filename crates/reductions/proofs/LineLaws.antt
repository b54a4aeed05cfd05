-- Runs of numbers, visited one by one.
use Rattle.std.proofs.Common.{◌≡◌, ◌+◌, ◌-◌, ◌≤◌, ◌<◌, ℕ, suc, List, [], ◌∷◌, ◌++◌, map, length, refl, sym, ap, subst, ◌∙◌, arith, add-one, append_assoc, drop, get_or, ℤ, pos, ◌+ℤ◌, ◌*ℤ◌, ◌≤ℤ◌, nat_abs}
use Rattle.reductions.proofs.Words.{map-append, length-map, zero-*ℤ, *ℤ_comm, +ℤ_idr, Scalar, size, decode, number_of, Side, number_of_side, numbers_from, numbers-suc, numbers-split, natural, position, place, item_at, EachWithin, not_negative, position-add, Run, run_offsets, length-run_offsets, run_offsets-more, first_place, found-next, number_at, numbers_at, numbers_of, IsPart, TakesIn}

-- the first `n` items of a run
abbrev pub front : ℕ → Run → Run
front n run = record { offset = run.offset; count = n; step = run.step }

pub fewer_within : (len width : ℕ) (run : Run) (n : ℕ) → n ≤ run.count → EachWithin len run.offset run.step width run.count → EachWithin len run.offset run.step width n
fewer_within len width run n few within = record { each = λ k low. within.each k (omega (arith, low, few)) }

-- the numbers of one more item of a run
pub numbers-more : (scalar : Scalar) (bytes : List ℕ) (len width : ℕ) (run : Run) (k : ℕ) → k < run.count → EachWithin len run.offset run.step width run.count →
    numbers_at scalar bytes (run_offsets (front (k + 1) run)) ≡ numbers_at scalar bytes (run_offsets (front k run)) ++ number_at scalar bytes (place run.offset run.step k) ∷ []
numbers-more scalar bytes len width run k low within =
    ap (λ n. numbers_at scalar bytes (run_offsets (front n run))) (add-one k)
    ∙ ap (numbers_at scalar bytes) (run_offsets-more len run.offset run.step width k (fewer_within len width run (suc k) (omega (arith, low)) within))
    ∙ map-append (number_at scalar bytes) (run_offsets (front k run)) (place run.offset run.step k ∷ [])

pub length-numbers : (scalar : Scalar) (bytes : List ℕ) (run : Run) → length (numbers_at scalar bytes (run_offsets run)) ≡ run.count
length-numbers scalar bytes run = length-map (run_offsets run) (number_at scalar bytes) ∙ length-run_offsets run

-- the numbers of a run begin with that of its first item
pub numbers-first : (scalar : Scalar) (bytes : List ℕ) (run : Run) (n : ℕ) → run.count ≡ suc n →
    numbers_at scalar bytes (run_offsets run) ≡ number_at scalar bytes run.offset ∷ numbers_at scalar bytes (map natural (numbers_from (pos run.offset +ℤ run.step) run.step n))
numbers-first scalar bytes run n is =
    ap (λ m. numbers_at scalar bytes (run_offsets (front m run))) is
    ∙ ap (λ offsets. numbers_at scalar bytes (map natural offsets)) (numbers-suc (pos run.offset) run.step n)

-- the `k`-th number of a side
pub side_number : (scalar : Scalar) (s : Side) (k : ℕ) → s.width ≡ size scalar → number_of_side scalar s k ≡ number_at scalar s.bytes.now (place s.run.offset s.run.step k)
side_number scalar s k wide = ap (λ w. number_of (decode scalar (item_at (place s.run.offset s.run.step k) w s.bytes.now))) wide

-- the numbers after the first one
abbrev pub side_rest : Scalar → Side → List ℤ
side_rest scalar s = numbers_at scalar s.bytes.now (map natural (numbers_from (pos s.run.offset +ℤ s.run.step) s.run.step (s.run.count - 1)))

pub at_first : (o : ℕ) (s : ℤ) → place o s 0 ≡ o
at_first o s = ap nat_abs (ap (λ z. pos o +ℤ z) (zero-*ℤ s) ∙ +ℤ_idr (pos o))

pub side_first : (scalar : Scalar) (s : Side) → 1 ≤ s.run.count → s.width ≡ size scalar → numbers_of scalar s ≡ number_of_side scalar s 0 ∷ side_rest scalar s
side_first scalar s some wide =
    numbers-first scalar s.bytes.now s.run (s.run.count - 1) (omega (arith, some))
    ∙ ap (λ z. z ∷ side_rest scalar s) (ap (number_at scalar s.bytes.now) (sym (at_first s.run.offset s.run.step)) ∙ sym (side_number scalar s 0 wide))

-- one more number is visited
pub one_more : (Holds : List ℤ → Type 0) (scalar : Scalar) (s : Side) (k : ℕ) (before : List ℤ) (v : ℤ) → k < s.run.count → v ≡ number_at scalar s.bytes.now (place s.run.offset s.run.step k) →
    Holds ((before ++ numbers_at scalar s.bytes.now (run_offsets (front k s.run))) ++ v ∷ []) → Holds (before ++ numbers_at scalar s.bytes.now (run_offsets (front (k + 1) s.run)))
one_more Holds scalar s k before v low is held =
    subst Holds
    (append_assoc before (numbers_at scalar s.bytes.now (run_offsets (front k s.run))) (v ∷ [])
    ∙ ap (λ z. before ++ (numbers_at scalar s.bytes.now (run_offsets (front k s.run)) ++ z ∷ [])) is
    ∙ ap (λ all. before ++ all) (sym (numbers-more scalar s.bytes.now (length s.bytes.now) s.width s.run k low s.within)))
    held

-- ---- a part of a run

-- `n` items of a run, from the `m`-th one on
abbrev pub part : ℕ → ℕ → Run → Run
part m n run = record { offset = place run.offset run.step m; count = n; step = run.step }

pub part_within : (len width : ℕ) (run : Run) (m n : ℕ) → m < run.count → m + n ≤ run.count → EachWithin len run.offset run.step width run.count → EachWithin len (place run.offset run.step m) run.step width n
part_within len width run m n low few within = record {
  each = λ k under.
      let is = position-add run.offset run.step m k (within.each m low).0 in
      let there = within.each (m + k) (omega (arith, under, few)) in
      (subst (λ z. pos 0 ≤ℤ z) (sym is) there.0, subst (λ z. (z +ℤ pos width) ≤ℤ pos len) (sym is) there.1);
}

-- the first numbers, and those after them
pub numbers-cut : (scalar : Scalar) (bytes : List ℕ) (run : Run) (m n : ℕ) →
    numbers_at scalar bytes (run_offsets (front (m + n) run)) ≡ numbers_at scalar bytes (run_offsets (front m run)) ++ numbers_at scalar bytes (map natural (numbers_from (pos run.offset +ℤ run.step *ℤ pos m) run.step n))
numbers-cut scalar bytes run m n =
    let firsts = numbers_from (pos run.offset) run.step m in
    let others = numbers_from (pos run.offset +ℤ run.step *ℤ pos m) run.step n in
    ap (λ zs. numbers_at scalar bytes (map natural zs)) (numbers-split (pos run.offset) run.step m n)
    ∙ ap (numbers_at scalar bytes) (map-append natural firsts others)
    ∙ map-append (number_at scalar bytes) (map natural firsts) (map natural others)

pub numbers-part : (scalar : Scalar) (bytes : List ℕ) (len width : ℕ) (run : Run) (m n : ℕ) → m < run.count → EachWithin len run.offset run.step width run.count →
    numbers_at scalar bytes (run_offsets (front (m + n) run)) ≡ numbers_at scalar bytes (run_offsets (front m run)) ++ numbers_at scalar bytes (run_offsets (part m n run))
numbers-part scalar bytes len width run m n low within =
    let at : pos run.offset +ℤ run.step *ℤ pos m ≡ pos (place run.offset run.step m) =
    ap (λ z. pos run.offset +ℤ z) (*ℤ_comm run.step (pos m)) ∙ sym (not_negative (position run.offset run.step m) (within.each m low).0) in
    numbers-cut scalar bytes run m n
    ∙ ap (λ z. numbers_at scalar bytes (run_offsets (front m run)) ++ numbers_at scalar bytes (map natural (numbers_from z run.step n))) at

pub part_numbers : (scalar : Scalar) (s t : Side) (m n : ℕ) → m < s.run.count → IsPart m n s t →
    numbers_at scalar s.bytes.now (run_offsets (front m s.run)) ++ numbers_of scalar t ≡ numbers_at scalar s.bytes.now (run_offsets (front (m + n) s.run))
part_numbers scalar s t m n low are =
    (λ i. numbers_at scalar s.bytes.now (run_offsets (front m s.run)) ++ numbers_at scalar (are.0 i) (run_offsets (are.2 i)))
    ∙ sym (numbers-part scalar s.bytes.now (length s.bytes.now) s.width s.run m n low s.within)

-- If a number is not among the first `k`, but is the `k`-th one, its first place is `k`.
pub found_in : (scalar : Scalar) (bytes : List ℕ) (len width : ℕ) (run : Run) (k : ℕ) (v : ℤ) → k < run.count → EachWithin len run.offset run.step width run.count → first_place v (numbers_at scalar bytes (run_offsets (front k run))) ≡ k →
    number_at scalar bytes (place run.offset run.step k) ≡ v → k ≡ first_place v (numbers_at scalar bytes (run_offsets run))
found_in scalar bytes len width run k v low within none same =
    let numbers = numbers_at scalar bytes (run_offsets (front k run)) in
    let next = number_at scalar bytes (place run.offset run.step k) in
    let others = numbers_at scalar bytes (map natural (numbers_from (pos run.offset +ℤ run.step *ℤ pos (k + 1)) run.step (run.count - (k + 1)))) in
    let whole : k + 1 + (run.count - (k + 1)) ≡ run.count = omega (arith, low) in
    let long : length numbers ≡ k = length-numbers scalar bytes (front k run) in
    sym (ap (λ n. first_place v (numbers_at scalar bytes (run_offsets (front n run)))) (sym whole)
    ∙ ap (first_place v) (numbers-cut scalar bytes run (k + 1) (run.count - (k + 1)) ∙ ap (λ xs. xs ++ others) (numbers-more scalar bytes len width run k low within))
    ∙ found-next v next numbers others (none ∙ sym long) same
    ∙ long)

-- ---- visiting the rest

-- a state that visits the remaining numbers is the state of all numbers
abbrev pub TakesOn : {Held : Type 0} → (Held → ℤ → List ℤ → Type 0) → Held → ℕ → List ℤ → ℤ → List ℤ → Type 0
TakesOn {Held} holds held seen left first all = (end : Held) → TakesIn holds held seen left end → holds end first all

-- a list with items begins with its first item
pub headed : (xs : List ℕ) → 0 < length xs → xs ≡ get_or xs 0 0 ∷ drop 1 xs
headed [] some = absurd (omega (arith, some))
headed (x ∷ xs) some = refl
