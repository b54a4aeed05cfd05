-- Axes in another order have the same number of items and reach the same distances from the first item.
use Rattle.std.specs.Prelude.{◌≡◌, ℕ, ◌+◌, ◌*◌, ◌<◌, List, [], ◌∷◌, map, length, Contains, swap}
use Rattle.std.proofs.Common.{zero, suc, sum_by, get_or, set, inl, inr, refl, sym, ◌∙◌, ap, subst, arith, mul_comm, mul_assoc, mul-zero, zero-mul}
use Rattle.shape_strides.specs.Words.{Each, IsPermutation, cases_lt, cases_eq, length-set, length-map, map-set, get_or-map, get_or-set_same, get_or-set_other, All-from_recursion, recursion_from_All, sum_by-cons, IsPermutation-refl, IsPermutation-trans, IsPermutation-swap, IsPermutation-map, IsPermutation-keeps, All-permutation, Contains-permutation, sum_by-IsPermutation}
use Rattle.shape_strides.specs.Indexes.{count, IsIndex}
use Rattle.shape_strides.specs.Stacks.{Axis, lengths_in}
use Rattle.shape_strides.specs.CountLaws.{factors_pos}

-- ---- the number of items

turn : (a b c : ℕ) → a * b * c ≡ c * b * a
turn a b c = mul_comm (a * b) c ∙ ap (λ m. c * m) (mul_comm a b) ∙ sym (mul_assoc c b a)

pub count-set : (ms : List ℕ) (i x : ℕ) → i < length ms → count (set ms i x) * get_or ms i 0 ≡ count ms * x
count-set [] i x below = absurd (omega arith)
count-set (n ∷ ms) zero x below = turn x (count ms) n
count-set (n ∷ ms) (suc i) x below =
    mul_assoc n (count (set ms i x)) (get_or ms i 0) ∙ ap (λ m. n * m) (count-set ms i x (omega arith)) ∙ sym (mul_assoc n (count ms) x)

pub factor-pos : (ms : List ℕ) (i : ℕ) → 0 < count ms → i < length ms → 0 < get_or ms i 0
factor-pos [] i some below = absurd (omega arith)
factor-pos (n ∷ ms) zero some below = (factors_pos n (count ms) some).0
factor-pos (n ∷ ms) (suc i) some below = factor-pos ms i (factors_pos n (count ms) some).1 (omega arith)

pub cancel : (m n b : ℕ) → 0 < b → m * b ≡ n * b → m ≡ n
cancel m n zero some same = absurd (omega arith)
cancel m n (suc b) some same = elim (cases_lt m n) [
  | inl low ↦ absurd (omega (arith, same, less m n b low))
  | inr up ↦ elim (cases_lt n m) [
    | inl high ↦ absurd (omega (arith, same, less n m b high))
    | inr even ↦ omega arith
  ]
]
  where
    less : (m n b : ℕ) → m < n → m * suc b < n * suc b
    less m zero b low = absurd (omega arith)
    less zero (suc n) b low = omega arith
    less (suc m) (suc n) b low = omega (arith, less m n b (omega arith))

swap_is : {X : Type 0} (l : List X) (i j : ℕ) (d : X) → i < length l → j < length l → swap l i j ≡ set (set l i (get_or l j d)) j (get_or l i d)
swap_is [] i j d below below' = absurd (omega arith)
swap_is (x ∷ l) i j d below below' = λ k. set (set (x ∷ l) i (any x l j d below' k)) j (any x l i d below k)
  where
    any : {X : Type 0} (x : X) (l : List X) (i : ℕ) (d : X) → i < length (x ∷ l) → get_or (x ∷ l) i x ≡ get_or (x ∷ l) i d
    any x l zero d below = refl
    any x l (suc i) d below = later l i x d (omega arith)
      where
        later : {X : Type 0} (l : List X) (i : ℕ) (d e : X) → i < length l → get_or l i d ≡ get_or l i e
        later [] i d e below = absurd (omega arith)
        later (y ∷ l) zero d e below = refl
        later (y ∷ l) (suc i) d e below = later l i d e (omega arith)

count-swap : (ms : List ℕ) (i j : ℕ) → 0 < count ms → i < length ms → j < length ms → count (swap ms i j) ≡ count ms
count-swap ms i j some below below' =
    let a = get_or ms i 0 in
    let b = get_or ms j 0 in
    let w = set ms i b in
    let long = length-set ms i b in
    let there : get_or w j 0 ≡ b = elim (cases_eq j i) [
      | inl e ↦ ap (λ n. get_or w n 0) e ∙ get_or-set_same ms i b 0 below
      | inr n ↦ get_or-set_other ms i j b 0 n
    ] in
    let first = count-set ms i b below in
    let second = count-set w j a (omega (arith, long)) in
    ap count (swap_is ms i j 0 below below') ∙ cancel (count (set w j a)) (count ms) b (factor-pos ms j some below') (ap (λ m. count (set w j a) * m) (sym there) ∙ second ∙ first)

zero-factor : (ms : List ℕ) → count ms ≡ 0 → Contains ms 0
zero-factor [] none = absurd (omega arith)
zero-factor (zero ∷ ms) none = (0, omega arith, refl)
zero-factor (suc n ∷ ms) none =
    let rest = zero-factor ms (omega arith) in
    (suc rest.0, omega (arith, rest.1), rest.2)

pub zero-count : (ms : List ℕ) (k : ℕ) → k < length ms → get_or ms k 0 ≡ 0 → count ms ≡ 0
zero-count [] k below is = absurd (omega arith)
zero-count (n ∷ ms) zero below is = ap (λ m. m * count ms) is ∙ zero-mul (count ms)
zero-count (n ∷ ms) (suc k) below is = ap (λ m. n * m) (zero-count ms k (omega arith) is) ∙ mul-zero n

pub count-permutation : (ms ns : List ℕ) → IsPermutation ms ns → count ns ≡ count ms
count-permutation ms ns same = elim (cases_lt 0 (count ms)) [
  | inl some ↦ IsPermutation-keeps ms (λ l. count l ≡ count ms) refl (λ l i j below below' is. count-swap l i j (omega (arith, is)) below below' ∙ is) ns same
  | inr above ↦
      let none : count ms ≡ 0 = omega arith in
      let found = Contains-permutation ms ns 0 same (zero-factor ms none) in
      zero-count ns found.0 found.1 found.2 ∙ sym none
]

pub count-order : (all order : List Axis) → IsPermutation all order → count (lengths_in order) ≡ count (lengths_in all)
count-order all order same = count-permutation (lengths_in all) (lengths_in order) (IsPermutation-map (λ axis. axis.len) all order same)

-- ---- distances in bytes

-- the number of bytes from the first item to the item at an index
abbrev pub reached : List Axis → List ℕ → ℕ
reached (axis ∷ order) (k ∷ index) = axis.step * k + reached order index
reached _ _ = 0

abbrev Numbered : Type 0
Numbered = Axis × ℕ

abbrev axes_in : List Numbered → List Axis
axes_in pairs = map (λ p. p.0) pairs

abbrev numbers_in : List Numbered → List ℕ
numbers_in pairs = map (λ p. p.1) pairs

abbrev IsBelow : Numbered → Type 0
IsBelow p = p.1 < p.0.len

abbrev part : Numbered → ℕ
part p = p.0.step * p.1

reached-pairs : (pairs : List Numbered) → reached (axes_in pairs) (numbers_in pairs) ≡ sum_by part pairs
reached-pairs [] = refl
reached-pairs (p ∷ pairs) = ap (λ r. part p + r) (reached-pairs pairs) ∙ sym (sum_by-cons part p pairs)

index-pairs : (pairs : List Numbered) → Each IsBelow pairs → IsIndex (lengths_in (axes_in pairs)) (numbers_in pairs)
index-pairs [] below = tt
index-pairs (p ∷ pairs) below = (below.0, index-pairs pairs below.1)

paired : (order : List Axis) (index : List ℕ) → IsIndex (lengths_in order) index → (pairs : List Numbered) × (axes_in pairs ≡ order) × (numbers_in pairs ≡ index) × Each IsBelow pairs
paired [] [] in' = ([], refl, refl, tt)
paired (a ∷ order) (k ∷ index) in' =
    let rest = paired order index in'.1 in
    ((a, k) ∷ rest.0, ap (λ l. a ∷ l) rest.1, ap (λ l. k ∷ l) rest.2, (in'.0, rest.3))
paired _ _ in' = absurd in'

pub map-swap : {X Y : Type 0} (f : X → Y) (l : List X) (i j : ℕ) (d : X) → i < length l → j < length l → map f (swap l i j) ≡ swap (map f l) i j
map-swap f l i j d below below' =
    let long = length-map l f in
    ap (map f) (swap_is l i j d below below')
    ∙ map-set f (set l i (get_or l j d)) j (get_or l i d)
    ∙ (λ t. set ((map-set f l i (get_or l j d) ∙ ap (set (map f l) i) (sym (get_or-map f l j d (f d) below'))) t) j (sym (get_or-map f l i d (f d) below) t))
    ∙ sym (swap_is (map f l) i j (f d) (omega arith) (omega arith))

-- The pairs can be put in the new order of the axes.
follow : (all order : List Axis) (pairs : List Numbered) → IsPermutation all order → axes_in pairs ≡ all → (turned : List Numbered) × (axes_in turned ≡ order) × IsPermutation pairs turned
follow all order pairs same are = IsPermutation-keeps all (λ l. (turned : List Numbered) × (axes_in turned ≡ l) × IsPermutation pairs turned) (pairs, are, IsPermutation-refl pairs) step order same
  where
    step : (l : List Axis) (i j : ℕ) → i < length l → j < length l → (turned : List Numbered) × (axes_in turned ≡ l) × IsPermutation pairs turned → (turned : List Numbered) × (axes_in turned ≡ swap l i j) × IsPermutation pairs turned
    step l i j below below' h =
        let turned = h.0 in
        let long : length turned ≡ length l = sym (length-map turned (λ p. p.0)) ∙ ap length h.1 in
        let d : Numbered = (record { step = 0; len = 0 }, 0) in
        (swap turned i j, map-swap (λ p. p.0) turned i j d (omega (arith, long)) (omega (arith, long)) ∙ ap (λ a. swap a i j) h.1, IsPermutation-trans pairs turned (swap turned i j) h.2 (IsPermutation-swap turned (swap turned i j) i j (omega (arith, long)) (omega (arith, long)) refl))

-- For each index there is an index of the reordered axes that is as far from the first item.
pub reordered : (all order : List Axis) (index : List ℕ) → IsPermutation all order → IsIndex (lengths_in all) index → (turned : List ℕ) × IsIndex (lengths_in order) turned × (reached order turned ≡ reached all index)
reordered all order index same in' =
    let pairs = paired all index in' in
    let turned = follow all order pairs.0 same pairs.1 in
    let below = recursion_from_All IsBelow turned.0 (All-permutation IsBelow pairs.0 turned.0 turned.2 (All-from_recursion IsBelow pairs.0 pairs.3)) in (
      numbers_in turned.0,
      subst (λ l. IsIndex (lengths_in l) (numbers_in turned.0)) turned.1 (index-pairs turned.0 below),
      ap (λ l. reached l (numbers_in turned.0)) (sym turned.1)
          ∙ reached-pairs turned.0
          ∙ sum_by-IsPermutation part pairs.0 turned.0 turned.2
          ∙ sym (reached-pairs pairs.0)
          ∙ (λ i. reached (pairs.1 i) (pairs.2 i)),
    )
