-- A layout that is cut between two axes: its first axes with 0 on the later ones, and its later axes with 0 on the
-- first.
use Rattle.std.proofs.Common.{◌≡◌, ◌⊎◌, inl, inr, Result, Ok, Err, ℕ, ◌*◌, ◌<◌, ◌≤◌, List, [], ◌∷◌, ◌++◌, map, length, take, drop, All, append-nil, refl, sym, ap, subst, ◌∙◌, arith, length-drop, length-take-le, mul-le-mul_left, mul-le-mul_right, mul-one, one-mul, ℤ, pos, ◌+ℤ◌, ◌*ℤ◌}
use Rattle.fancy_index.proofs.Words.{is_ok, false≢true, ints, take-append-drop, All-take, +ℤ_idl, +ℤ_assoc, Refusal, OutOfMemory, Layout, max_axes, max_items, count, IsIndex, IsShape, dot, address_at, BeginAt, address, zero_filled, factors_pos, length-index, IsIndex-append, dot-zeros, *ℤ-zero, take_all, IsIndex-first, count-append}

-- ---- sums

pub dot-cut : (strides : List ℤ) (i j : List ℕ) → dot strides (i ++ j) ≡ dot (take (length i) strides) i +ℤ dot (drop (length i) strides) j
dot-cut strides [] j = sym (+ℤ_idl (dot strides j))
dot-cut [] (k ∷ i) j = refl
dot-cut (s ∷ strides) (k ∷ i) j =
    ap (λ z. s *ℤ pos k +ℤ z) (dot-cut strides i j) ∙ sym (+ℤ_assoc (s *ℤ pos k) (dot (take (length i) strides) i) (dot (drop (length i) strides) j))

-- numbers that are 0 add nothing
pub dot-origin : (strides : List ℤ) (axes : List ℕ) → dot strides (map (λ _. 0) axes) ≡ pos 0
dot-origin [] axes = refl
dot-origin (s ∷ strides) [] = refl
dot-origin (s ∷ strides) (n ∷ axes) = rw (*ℤ-zero s, dot-origin strides axes)

at-first : (offset : ℤ) (sum x y : ℤ) → sum ≡ x +ℤ y → x ≡ pos 0 → y ≡ pos 0 → offset ≡ offset +ℤ sum
at-first offset sum x y is none none' = omega (arith, ints, is, none, none')

-- ---- shapes

module _ (shape : List ℕ) (k : ℕ) (some : 0 < count shape) where
  whole : take k shape ++ drop k shape ≡ shape
  whole = take-append-drop k shape

  counts : count (take k shape) * count (drop k shape) ≡ count shape
  counts = sym (count-append (take k shape) (drop k shape)) ∙ ap count whole

  pub some-before : 0 < count (take k shape)
  some-before = (factors_pos (count (take k shape)) (count (drop k shape)) (omega (arith, counts, some))).0

  pub some-behind : 0 < count (drop k shape)
  some-behind = (factors_pos (count (take k shape)) (count (drop k shape)) (omega (arith, counts, some))).1

  pub few-before : count (take k shape) ≤ count shape
  few-before = omega (arith, counts, mul-le-mul_left (count (take k shape)) some-behind, mul-one (count (take k shape)))

  pub few-behind : count (drop k shape) ≤ count shape
  few-behind = omega (arith, counts, mul-le-mul_right (count (drop k shape)) some-before, one-mul (count (drop k shape)))

  pub shape-before : k ≤ length shape → length shape ≤ max_axes → All (λ n. n ≤ max_items) shape → count shape ≤ max_items → IsShape (take k shape)
  shape-before within few short small =
      record { axes = omega (arith, length-take-le k shape within); lengths = All-take (λ n. n ≤ max_items) k shape short; items = omega (arith, few-before) }

  pub IsIndex-whole : (i j : List ℕ) → IsIndex (take k shape) i → IsIndex (drop k shape) j → IsIndex shape (i ++ j)
  IsIndex-whole i j in-i in-j = subst (λ (s : List ℕ). IsIndex s (i ++ j)) whole (IsIndex-append (take k shape) (drop k shape) i j in-i in-j)

pub only-memory : {A : Type 0} (made : Result A Refusal) (shape : A) (e : Refusal) → made ≡ Ok shape → (e ≡ OutOfMemory) ⊎ (made ≡ Err e) → e ≡ OutOfMemory
only-memory made shape e is (inl memory) = memory
only-memory made shape e is (inr there) = absurd (false≢true (ap is_ok (sym there ∙ is)))

-- ---- layouts

module _ (rest : Layout) (k : ℕ) (within : k ≤ length rest.shape) (some : 0 < count rest.shape) where
  abbrev zeros-before : List ℕ
  zeros-before = zero_filled (take k rest.shape) []

  abbrev zeros-behind : List ℕ
  zeros-behind = zero_filled (drop k rest.shape) []

  in-before : IsIndex (take k rest.shape) zeros-before
  in-before = IsIndex-first (take k rest.shape) (some-before rest.shape k some)

  in-behind : IsIndex (drop k rest.shape) zeros-behind
  in-behind = IsIndex-first (drop k rest.shape) (some-behind rest.shape k some)

  size : (i : List ℕ) → IsIndex (take k rest.shape) i → length i ≡ k
  size i in-i = length-index (take k rest.shape) i in-i ∙ length-take-le k rest.shape within

  -- the sum over all axes is the sum over both parts
  both : (i j : List ℕ) → IsIndex (take k rest.shape) i → dot rest.strides (i ++ j) ≡ dot (take k rest.strides) i +ℤ dot (drop k rest.strides) j
  both i j in-i = dot-cut rest.strides i j ∙ ap (λ n. dot (take n rest.strides) i +ℤ dot (drop n rest.strides) j) (size i in-i)

  pub address-both : (i j : List ℕ) → IsIndex (take k rest.shape) i → address rest (i ++ j) +ℤ pos rest.offset ≡ address_at (take k rest.strides) rest.offset i +ℤ address_at (drop k rest.strides) rest.offset j
  address-both i j in-i = regroup (pos rest.offset) (dot rest.strides (i ++ j)) (dot (take k rest.strides) i) (dot (drop k rest.strides) j) (both i j in-i)
    where
      regroup : (b s x y : ℤ) → s ≡ x +ℤ y → (b +ℤ s) +ℤ b ≡ (b +ℤ x) +ℤ (b +ℤ y)
      regroup b s x y is = omega (arith, ints, is)

  -- the items along the first axes, and along the later axes, begin where all items do
  pub begins-before : BeginAt rest 0 rest.offset (take k rest.shape)
  begins-before = record {
    front = [];
    back = zeros-behind;
    size = refl;
    some = some-before rest.shape k some;
    stand = ap (λ n. take n rest.shape) (length-take-le k rest.shape within);
    leads = λ i in-i. IsIndex-whole rest.shape k some i zeros-behind in-i in-behind;
    first = at-first _ _ _ _ (dot-cut rest.strides (map (λ _. 0) (take k rest.shape)) zeros-behind) (dot-origin _ (take k rest.shape)) (dot-zeros _ (drop k rest.shape));
  }

  pub begins-behind : BeginAt rest k rest.offset (drop k rest.shape)
  begins-behind = record {
    front = zeros-before;
    back = [];
    size = size zeros-before in-before;
    some = some-behind rest.shape k some;
    stand = take_all (length (drop k rest.shape)) (drop k rest.shape) (omega arith);
    leads = λ j in-j. subst (λ l. IsIndex rest.shape (zeros-before ++ l)) (sym (append-nil j)) (IsIndex-whole rest.shape k some zeros-before j in-before in-j);
    first = at-first _ _ _ _ (dot-cut rest.strides zeros-before (map (λ _. 0) (drop k rest.shape) ++ [])) (dot-zeros _ (take k rest.shape)) (ap (dot _) (append-nil (map (λ _. 0) (drop k rest.shape))) ∙ dot-origin _ (drop k rest.shape));
  }

  pub strides-before : take (length (take k rest.shape)) (drop 0 rest.strides) ≡ take k rest.strides
  strides-before = ap (λ n. take n rest.strides) (length-take-le k rest.shape within)

  pub strides-behind : take (length (drop k rest.shape)) (drop k rest.strides) ≡ drop k rest.strides
  strides-behind = take_all _ (drop k rest.strides) (omega (arith, length-drop k rest.strides, length-drop k rest.shape, rest.one_stride_an_axis))
