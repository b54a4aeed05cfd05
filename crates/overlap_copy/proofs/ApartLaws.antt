-- Laws of disjoint layouts: greatest common divisors, and items in the gaps between others.
use Rattle.std.proofs.Common.{◌≡◌, ◌+◌, ◌-◌, ◌*◌, ◌/◌, ◌%◌, ◌<◌, ◌≤◌, inl, inr, ℕ, zero, suc, ℤ, pos, negsuc, ◌+ℤ◌, ◌*ℤ◌, List, [], ◌∷◌, ◌++◌, length, map, get_or, drop, All, Contains, nat_le, false, refl, sym, ap, subst, ◌∙◌, arith, add-one, mul-suc, mul-zero, mul_assoc, mul-le-mul_left, unsigned_abs, neg_ℤ}
use Rattle.overlap_copy.proofs.Words.{IsGcd, ◌∣◌, Each, cases_lt, cond-true, le-leb, false_from_ne_true, ints, recursion_from_All, All-from_recursion, dvd_refl, dvd-zero, dvd_trans, dvd_antisymm, drop_all, div-add-mod, add-mul-mod_self_left, mod-mod, mod-lt, *ℤ-zero, Layout, IsIndex, address, offsets, axes, index_at, length-offsets, pos-offset, times_of, dot, have_common_byte, step_of, steps, IsGreatestDivisor, LieBetween}
use Rattle.overlap_copy.proofs.MovingLaws.{Each-append, Each-front, Each-back}
use Rattle.overlap_copy.proofs.OverlapLaws.{common_from_test}

-- ---- divisors of several numbers

abbrev pub DividesEach : ℕ → List ℕ → Type 0
DividesEach g numbers = Each (λ n. g ∣ n) numbers

each_of : (g : ℕ) (numbers : List ℕ) → All (λ n. g ∣ n) numbers → DividesEach g numbers
each_of g numbers all = recursion_from_All (λ n. g ∣ n) numbers all

all_of : (g : ℕ) (numbers : List ℕ) → DividesEach g numbers → All (λ n. g ∣ n) numbers
all_of g numbers each = All-from_recursion (λ n. g ∣ n) numbers each

-- the greatest divisor of one number
pub divisor-one : (n : ℕ) → IsGreatestDivisor n (n ∷ [])
divisor-one n = record { divides = all_of n (n ∷ []) (dvd_refl n, tt); greatest = λ d all. (each_of d (n ∷ []) all).0 }

-- two numbers can be replaced by their greatest common divisor
pub divisor-more : (g a b d : ℕ) (numbers : List ℕ) → IsGcd a b d → IsGreatestDivisor g (d ∷ numbers) → IsGreatestDivisor g (a ∷ b ∷ numbers)
divisor-more g a b d numbers of is =
    let each = each_of g (d ∷ numbers) is.divides in
    record {
      divides = all_of g (a ∷ b ∷ numbers) (dvd_trans g each.0 of.0, (dvd_trans g each.0 of.1, each.1));
      greatest = λ e all. let these = each_of e (a ∷ b ∷ numbers) all in is.greatest e (all_of e (d ∷ numbers) (of.2 e these.0 these.1.0, these.1.1));
    }

-- the divisor of two lists: that of the second list together with the divisor of the first
pub divisor-both : (g d : ℕ) (xs ys : List ℕ) → IsGreatestDivisor d (0 ∷ xs) → IsGreatestDivisor g (d ∷ ys) → IsGreatestDivisor g (xs ++ ys)
divisor-both g d xs ys first second =
    let those = each_of d (0 ∷ xs) first.divides in
    let these = each_of g (d ∷ ys) second.divides in
    record {
      divides = all_of g (xs ++ ys) (Each-append (λ n. g ∣ n) xs ys (through xs those.1 these.0) these.1);
      greatest = λ e all.
          let each = each_of e (xs ++ ys) all in
          second.greatest e (all_of e (d ∷ ys) (first.greatest e (all_of e (0 ∷ xs) (dvd-zero e, Each-front (λ n. e ∣ n) xs ys each)), Each-back (λ n. e ∣ n) xs ys each));
    }
  where
    through : (xs : List ℕ) → DividesEach d xs → g ∣ d → DividesEach g xs
    through [] each divides = tt
    through (x ∷ xs) each divides = (dvd_trans g divides each.0, through xs each.1 divides)

pub same_divisor : (g h : ℕ) (numbers : List ℕ) → IsGreatestDivisor g numbers → IsGreatestDivisor h numbers → g ≡ h
same_divisor g h numbers a b = dvd_antisymm (b.greatest g a.divides) (a.greatest h b.divides)

-- ---- addresses that are multiples of a common divisor apart

-- z is a multiple of g: a number of steps up, minus a number of steps down
pub record IsStepsFrom (g : ℕ) (z : ℤ) : Type 0 where
  pub up : ℕ
  pub down : ℕ
  pub is : z +ℤ pos (g * down) ≡ pos (g * up)

sum_steps : (g : ℕ) (y z : ℤ) → IsStepsFrom g y → IsStepsFrom g z → IsStepsFrom g (y +ℤ z)
sum_steps g y z a b = record {
  up = a.up + b.up;
  down = a.down + b.down;
  is = let first = a.is in let second = b.is in omega (arith, ints, first, second);
}

times-back : (n m : ℕ) → n ≡ m → neg_ℤ (pos n) +ℤ pos m ≡ pos 0
times-back n m same = omega (arith, ints, same)

times_steps : (g k : ℕ) (stride : ℤ) → g ∣ unsigned_abs stride → IsStepsFrom g (stride *ℤ pos k)
times_steps g k (pos s) divides = record { up = s / g * k; down = 0; is = ap pos (omega (arith, mul-zero g, ap (λ n. n * k) (times_of g s divides), mul_assoc g (s / g) k)) }
times_steps g k (negsuc s) divides = record {
  up = 0;
  down = suc s / g * k;
  is = times-back (suc s * k) (g * (suc s / g * k)) (ap (λ n. n * k) (times_of g (suc s) divides) ∙ mul_assoc g (suc s / g) k) ∙ ap pos (sym (mul-zero g));
}

no_steps : (g : ℕ) → IsStepsFrom g (pos 0)
no_steps g = record { up = 0; down = 0; is = ap pos (omega (arith, mul-zero g)) }

term_steps : (g k n : ℕ) (stride : ℤ) → k < n → g ∣ step_of (record { step = unsigned_abs stride; len = n }) → IsStepsFrom g (stride *ℤ pos k)
term_steps g k n stride below divides = elim (cases_lt n 2) [
  | inl short ↦ let none : k ≡ 0 = omega (arith, below, short) in subst (IsStepsFrom g) (sym (ap (λ i. stride *ℤ pos i) none ∙ *ℤ-zero stride)) (no_steps g)
  | inr long ↦ times_steps g k stride (subst (λ n. g ∣ n) (cond-true (nat_le 2 n) (unsigned_abs stride) 0 (le-leb 2 n long)) divides)
]

dot_steps : (g : ℕ) (strides : List ℤ) (shape index : List ℕ) → IsIndex shape index → DividesEach g (map step_of (axes strides shape)) → IsStepsFrom g (dot strides index)
dot_steps g [] shape index in' each = no_steps g
dot_steps g (s ∷ strides) shape [] in' each = no_steps g
dot_steps g (s ∷ strides) [] (k ∷ index) in' each = absurd in'
dot_steps g (s ∷ strides) (n ∷ shape) (k ∷ index) in' each = sum_steps g (s *ℤ pos k) (dot strides index) (term_steps g k n s in'.0 each.0) (dot_steps g strides shape index in'.1 each.1)

-- p is a multiple of g away from `at`
pub record LiesOnSteps (g at p : ℕ) : Type 0 where
  pub up : ℕ
  pub down : ℕ
  pub is : p + g * down ≡ at + g * up

on_steps : (g at p : ℕ) (z : ℤ) → pos p ≡ pos at +ℤ z → IsStepsFrom g z → LiesOnSteps g at p
on_steps g at p z is steps = record { up = steps.up; down = steps.down; is = let sum = steps.is in omega (arith, ints, sum, is) }

offset_steps : (l : Layout) (g p : ℕ) → DividesEach g (steps l) → Contains (offsets l) p → LiesOnSteps g l.offset p
offset_steps l g p each at_p =
    let found = index_at l.shape at_p.0 (omega (arith, at_p.1, length-offsets l)) in
    let entry = pos-offset l found.0 p found.1 in
    let is : pos p ≡ address l found.0 = ap pos (sym at_p.2 ∙ ap (λ r. get_or (offsets l) r p) (sym found.2)) ∙ entry in
    on_steps g l.offset p (dot l.strides found.0) is (dot_steps g l.strides l.shape found.0 found.1 each)

-- ---- items in the gaps between others

between_steps : (g p q p' q' r item other up down up' down' x y m : ℕ) → p' + g * down ≡ p + g * up → q' + g * down' ≡ q + g * up' → g * x + m ≡ p + r → g * y + m ≡ q → r + other ≤ g → item ≤ r → p' < q' + other → q' < p' + item → ⊥
between_steps g p q p' q' r item other up down up' down' x y m first second left right before after below above =
    let a = down' + x + up in
    let b = y + up' + down in
    let sum : g * a ≡ g * down' + g * x + g * up = grind arith in
    let sum' : g * b ≡ g * y + g * up' + g * down = grind arith in
    let whole : q' + g * a ≡ p' + r + g * b = omega (arith, first, second, left, right, sum, sum') in
    elim (cases_lt b a) [
      | inl more ↦
          let grown : g * suc b ≤ g * a = mul-le-mul_left g more in
          let next : g * suc b ≡ g * b + g = mul-suc' g b in
          omega (arith, whole, grown, next, before, below)
      | inr less ↦
          let grown : g * a ≤ g * b = mul-le-mul_left g less in
          omega (arith, whole, grown, after, above)
    ]
  where
    mul-suc' : (g b : ℕ) → g * suc b ≡ g * b + g
    mul-suc' g b = omega (arith, mul-suc g b)

pub between-common : (l : Layout) (item : ℕ) (m : Layout) (other : ℕ) → LieBetween l item m other → have_common_byte (offsets l) item (offsets m) other ≡ false
between-common l item m other b =
    let each = each_of b.g (steps l ++ steps m) b.divisor.divides in
    false_from_ne_true (have_common_byte (offsets l) item (offsets m) other) (λ holds.
    let c = common_from_test (offsets l) item (offsets m) other holds in
    let first = offset_steps l b.g c.p (Each-front (λ n. b.g ∣ n) (steps l) (steps m) each) c.at_p in
    let second = offset_steps m b.g c.q (Each-back (λ n. b.g ∣ n) (steps l) (steps m) each) c.at_q in
    let left : b.g * ((l.offset + b.r) / b.g) + m.offset % b.g ≡ l.offset + b.r = ap (λ rest. b.g * ((l.offset + b.r) / b.g) + rest) (sym b.difference) ∙ div-add-mod (l.offset + b.r) b.g in
    between_steps b.g l.offset m.offset c.p c.q b.r item other first.up first.down second.up second.down ((l.offset + b.r) / b.g) (m.offset / b.g) (m.offset % b.g) first.is second.is left (div-add-mod m.offset b.g) b.other_ends b.item_ends c.below c.above)

-- numbers below g are equal if they are equal modulo g after p is added
same_rest : (g p r s : ℕ) → r < g → s < g → (p + r) % g ≡ (p + s) % g → r ≡ s
same_rest g p r s low low' same =
    let x = (p + r) / g in
    let y = (p + s) / g in
    let left = div-add-mod (p + r) g in
    let right = div-add-mod (p + s) g in
    elim (cases_lt x y) [
      | inl less ↦ let grown : g * suc x ≤ g * y = mul-le-mul_left g less in omega (arith, grown, mul-suc g x, left, right, same, low, low')
      | inr most ↦ elim (cases_lt y x) [
        | inl less ↦ let grown : g * suc y ≤ g * x = mul-le-mul_left g less in omega (arith, grown, mul-suc g y, left, right, same, low, low')
        | inr most' ↦ let equal : x ≡ y = omega (arith, most, most') in let products = ap (λ n. g * n) equal in omega (arith, products, left, right, same)
      ]
    ]

-- the divisor and the distance of `LieBetween` are the ones that were found
pub between_found : (l : Layout) (item : ℕ) (m : Layout) (other g r : ℕ) → IsGreatestDivisor g (steps l ++ steps m) → r < g → (l.offset + r) % g ≡ m.offset % g → LieBetween l item m other → (item ≤ r) × (other ≤ g - r)
between_found l item m other g r divisor low is b =
    let same : b.g ≡ g = same_divisor b.g g (steps l ++ steps m) b.divisor divisor in
    let rest : b.r ≡ r = same_rest g l.offset b.r r (omega (arith, b.below, same)) low (subst (λ n. (l.offset + b.r) % n ≡ m.offset % n) same b.difference ∙ sym is) in
    (omega (arith, b.item_ends, rest), omega (arith, b.other_ends, rest, same))

pub between_made : (l : Layout) (item : ℕ) (m : Layout) (other g r : ℕ) → IsGreatestDivisor g (steps l ++ steps m) → r < g → (l.offset + r) % g ≡ m.offset % g → item ≤ r → other ≤ g - r → LieBetween l item m other
between_made l item m other g r divisor low is item_ends other_ends = record { g = g; r = r; divisor = divisor; below = low; difference = is; item_ends = item_ends; other_ends = omega (arith, other_ends, low) }

pub none_between : (l : Layout) (item : ℕ) (m : Layout) (other g : ℕ) → IsGreatestDivisor g (steps l ++ steps m) → g ≡ 0 → LieBetween l item m other → ⊥
none_between l item m other g divisor none b = omega (arith, same_divisor b.g g (steps l ++ steps m) b.divisor divisor, none, b.below)

-- ---- the axes one by one

pub steps_more : (strides : List ℤ) (lengths : List ℕ) (k : ℕ) → length strides ≡ length lengths → k < length lengths → map step_of (axes (drop k strides) (drop k lengths)) ≡ step_of (record { step = unsigned_abs (get_or strides k (pos 0)); len = get_or lengths k 0 }) ∷ map step_of (axes (drop (k + 1) strides) (drop (k + 1) lengths))
steps_more strides lengths k same below = at strides lengths k same below ∙ ap (λ j. step_of (record { step = unsigned_abs (get_or strides k (pos 0)); len = get_or lengths k 0 }) ∷ map step_of (axes (drop j strides) (drop j lengths))) (sym (add-one k))
  where
    at : (strides : List ℤ) (lengths : List ℕ) (k : ℕ) → length strides ≡ length lengths → k < length lengths → map step_of (axes (drop k strides) (drop k lengths)) ≡ step_of (record { step = unsigned_abs (get_or strides k (pos 0)); len = get_or lengths k 0 }) ∷ map step_of (axes (drop (suc k) strides) (drop (suc k) lengths))
    at (s ∷ strides) (n ∷ lengths) zero same below = refl
    at (s ∷ strides) (n ∷ lengths) (suc k) same below = at strides lengths k (omega (arith, same)) (omega (arith, below))
    at _ _ k same below = absurd (omega (arith, same, below))

pub no_axes : (strides : List ℤ) (lengths : List ℕ) (k : ℕ) → length lengths ≤ k → map step_of (axes (drop k strides) (drop k lengths)) ≡ []
no_axes strides lengths k most = ap (λ l. map step_of (axes (drop k strides) l)) (drop_all k lengths most) ∙ none (drop k strides)
  where
    none : (strides : List ℤ) → map step_of (axes strides []) ≡ []
    none [] = refl
    none (s ∷ strides) = refl

-- ---- numbers modulo a number

pub difference-up : (from to m : ℕ) → from % m ≤ to % m → (from + (to % m - from % m)) % m ≡ to % m
difference-up from to m up =
    let q = from / m in
    let whole : from + (to % m - from % m) ≡ to % m + m * q = omega (arith, div-add-mod from m, up) in
    ap (λ n. n % m) whole ∙ add-mul-mod_self_left (to % m) m q ∙ mod-mod to m

pub difference-round : (from to m : ℕ) → 0 < m → to % m < from % m → (from + (m - (from % m - to % m))) % m ≡ to % m
difference-round from to m some down =
    let q = from / m in
    let low = mod-lt from some in
    let whole : from + (m - (from % m - to % m)) ≡ to % m + m * suc q = omega (arith, div-add-mod from m, down, low, mul-suc m q) in
    ap (λ n. n % m) whole ∙ add-mul-mod_self_left (to % m) m (suc q) ∙ mod-mod to m
