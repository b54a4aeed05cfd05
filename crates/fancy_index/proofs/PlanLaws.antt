-- The offsets of a plan, one by one.
use Rattle.std.proofs.Common.{◌≡◌, ℕ, zero, suc, ◌+◌, ◌-◌, ◌*◌, ◌/◌, ◌%◌, ◌<◌, inl, inr, List, [], ◌∷◌, ◌++◌, length, get_or, All, refl, sym, ap, ◌∙◌, arith, add-mul, suc-mul, zero-mul, length-append, mul_assoc, mul-le-mul_right}
use Rattle.fancy_index.proofs.Words.{flat_map, length-map, get_or-map, get_or_append_left, get_or-append_right, All-get_or, div-add-mod', cases_lt, mod-lt, factors_pos, count, offsets, length-offsets, moved_offset, shifted, shifted_all, moved_all, offsets_from, IsMoved, IsStart, AreStarts}
use Rattle.fancy_index.specs.declared.plan_rows.PlanAxes.{PlanAxes}

-- ---- concatenated lists of the same length

pub length-even : {X : Type 0} (f : X → List ℕ) (m : ℕ) → ((x : X) → length (f x) ≡ m) → (xs : List X) → length (flat_map f xs) ≡ length xs * m
length-even f m even [] = sym (zero-mul m)
length-even f m even (x ∷ xs) = omega (arith, length-append (f x) (flat_map f xs), even x, length-even f m even xs, suc-mul (length xs) m)

-- the entry at `j` of the list at `k`
pub get_or-even : {X : Type 0} (f : X → List ℕ) (m : ℕ) → ((x : X) → length (f x) ≡ m) → (xs : List X) (k j : ℕ) (e : X) → k < length xs → j < m → get_or (flat_map f xs) (k * m + j) 0 ≡ get_or (f (get_or xs k e)) j 0
get_or-even f m even [] k j e low within = absurd (omega arith)
get_or-even f m even (x ∷ xs) zero j e low within =
    let first : zero * m + j ≡ j = omega (arith, zero-mul m) in
    ap (λ i. get_or (f x ++ flat_map f xs) i 0) first ∙ get_or_append_left (f x) (flat_map f xs) 0 j (omega (arith, even x))
get_or-even f m even (x ∷ xs) (suc k) j e low within =
    let at : suc k * m + j ≡ length (f x) + (k * m + j) = omega (arith, even x, suc-mul k m) in
    ap (λ i. get_or (f x ++ flat_map f xs) i 0) at ∙ get_or-append_right (f x) (flat_map f xs) (length (f x)) (length (f x) + (k * m + j)) 0 refl (omega arith)
    ∙ ap (λ i. get_or (flat_map f xs) i 0) (drops (length (f x)) (k * m + j)) ∙ get_or-even f m even xs k j e (omega arith) within
  where
    drops : (a b : ℕ) → a + b - a ≡ b
    drops a b = omega arith

-- ---- the offsets of a plan

length-shifted : (base : ℕ) (shifts inner : List ℕ) (place : ℕ) → length (shifted_all base shifts inner place) ≡ length shifts * length inner
length-shifted base shifts inner place = length-even (shifted base inner place) (length inner) (λ shift. length-map inner (moved_offset base (moved_offset base place shift))) shifts

pub length-moved_all : (base : ℕ) (outer shifts inner : List ℕ) → length (moved_all base outer shifts inner) ≡ length outer * (length shifts * length inner)
length-moved_all base outer shifts inner = length-even (shifted_all base shifts inner) (length shifts * length inner) (length-shifted base shifts inner) outer

-- if there is an item, there is a shift and an inner item
some_of : (base : ℕ) (outer shifts inner : List ℕ) (rank : ℕ) → rank < length (moved_all base outer shifts inner) → (0 < length shifts) × (0 < length inner)
some_of base outer shifts inner rank low =
    let both = factors_pos (length outer) (length shifts * length inner) (omega (arith, low, length-moved_all base outer shifts inner)) in
    factors_pos (length shifts) (length inner) both.1

-- the place of an item is one of the outer places
place_low : (base : ℕ) (outer shifts inner : List ℕ) (rank a s i : ℕ) → rank < length (moved_all base outer shifts inner) → rank ≡ a * (length shifts * length inner) + (s * length inner + i) → a < length outer
place_low base outer shifts inner rank a s i low is =
    elim (cases_lt a (length outer)) [
      | inl below ↦ below
      | inr above ↦ absurd (omega (arith, low, is, length-moved_all base outer shifts inner, mul-le-mul_right (length shifts * length inner) above))
    ]

-- a rank, computed from its place, shift and inner item
rank_is : (rank shifts inner : ℕ) → rank ≡ rank / inner / shifts * (shifts * inner) + (rank / inner % shifts * inner + rank % inner)
rank_is rank shifts inner =
    let row = rank / inner in
    let a = row / shifts in
    let s = row % shifts in
    let split : a * shifts + s ≡ row = div-add-mod' row shifts in
    let whole : row * inner + rank % inner ≡ rank = div-add-mod' rank inner in
    let sum : (a * shifts + s) * inner ≡ a * shifts * inner + s * inner = add-mul (a * shifts) s inner in
    let same : (a * shifts + s) * inner ≡ row * inner = ap (λ n. n * inner) split in
    omega (arith, whole, sum, same, mul_assoc a shifts inner)

get_or-moved_all : (base : ℕ) (outer shifts inner : List ℕ) (rank a s i : ℕ) → a < length outer → s < length shifts → i < length inner → rank ≡ a * (length shifts * length inner) + (s * length inner + i) →
    get_or (moved_all base outer shifts inner) rank 0 ≡ moved_offset base (moved_offset base (get_or outer a 0) (get_or shifts s 0)) (get_or inner i 0)
get_or-moved_all base outer shifts inner rank a s i low low' low'' is =
    let place = get_or outer a 0 in
    let shift = get_or shifts s 0 in
    ap (λ r. get_or (moved_all base outer shifts inner) r 0) is
    ∙ get_or-even (shifted_all base shifts inner) (length shifts * length inner) (length-shifted base shifts inner) outer a (s * length inner + i) 0 low (within s (length shifts) i (length inner) low' low'')
    ∙ get_or-even (shifted base inner place) (length inner) (λ x. length-map inner (moved_offset base (moved_offset base place x))) shifts s i 0 low' low''
    ∙ get_or-map (moved_offset base (moved_offset base place shift)) inner i 0 0 low''
  where
    within : (s n i m : ℕ) → s < n → i < m → s * m + i < n * m
    within s n i m below inside = omega (arith, mul-le-mul_right m below, suc-mul s m)

-- the start at that place and shift, and its inner items
start_at : (base : ℕ) (outer shifts inner : List ℕ) (a s : ℕ) → a < length outer → s < length shifts → All (AreStarts base inner shifts) outer → IsStart base inner (get_or outer a 0) (get_or shifts s 0)
start_at base outer shifts inner a s low low' starts =
    All-get_or (IsStart base inner (get_or outer a 0)) shifts s 0 low' (All-get_or (AreStarts base inner shifts) outer a 0 low starts)

item_at : (base : ℕ) (outer shifts inner : List ℕ) (a s i : ℕ) → a < length outer → s < length shifts → i < length inner → All (AreStarts base inner shifts) outer → IsMoved base (moved_offset base (get_or outer a 0) (get_or shifts s 0)) (get_or inner i 0)
item_at base outer shifts inner a s i low low' low'' starts =
    All-get_or (IsMoved base (moved_offset base (get_or outer a 0) (get_or shifts s 0))) inner i 0 low'' (start_at base outer shifts inner a s low low' starts).items

-- the item with a rank, if there are `n` shifts and `many` inner items
module _ (axes : PlanAxes) (rank n many : ℕ) (low : rank < length (offsets_from axes)) (n-is : n ≡ length axes.shifts.items) (many-is : many ≡ count axes.inner.shape) where
  abbrev base : ℕ
  base = axes.inner.offset

  abbrev a : ℕ
  a = rank / many / n

  abbrev s : ℕ
  s = rank / many % n

  abbrev i : ℕ
  i = rank % many

  inner-is : length (offsets axes.inner) ≡ many
  inner-is = length-offsets axes.inner ∙ sym many-is

  some : (0 < length axes.shifts.items) × (0 < length (offsets axes.inner))
  some = some_of base (offsets axes.outer) axes.shifts.items (offsets axes.inner) rank low

  pub some-shift : 0 < n
  some-shift = omega (arith, some.0, n-is)

  pub some-item : 0 < many
  some-item = omega (arith, some.1, inner-is)

  pub shift-low : s < length axes.shifts.items
  shift-low = omega (arith, mod-lt (rank / many) some-shift, n-is)

  item-low : i < length (offsets axes.inner)
  item-low = omega (arith, mod-lt rank some-item, inner-is)

  spread : rank ≡ a * (length axes.shifts.items * length (offsets axes.inner)) + (s * length (offsets axes.inner) + i)
  spread = rank_is rank n many ∙ (λ t. a * (n-is t * sym inner-is t) + (s * sym inner-is t + i))

  place-in : a < length (offsets axes.outer)
  place-in = place_low base (offsets axes.outer) axes.shifts.items (offsets axes.inner) rank a s i low spread

  pub place-low : a < count axes.outer.shape
  place-low = omega (arith, place-in, length-offsets axes.outer)

  pub start-moved : IsMoved base (get_or (offsets axes.outer) a 0) (get_or axes.shifts.items s 0)
  start-moved = (start_at base (offsets axes.outer) axes.shifts.items (offsets axes.inner) a s place-in shift-low axes.starts).start

  pub item-moved : IsMoved base (moved_offset base (get_or (offsets axes.outer) a 0) (get_or axes.shifts.items s 0)) (get_or (offsets axes.inner) i 0)
  item-moved = item_at base (offsets axes.outer) axes.shifts.items (offsets axes.inner) a s i place-in shift-low item-low axes.starts

  pub item-is : get_or (offsets_from axes) rank 0 ≡ moved_offset base (moved_offset base (get_or (offsets axes.outer) a 0) (get_or axes.shifts.items s 0)) (get_or (offsets axes.inner) i 0)
  item-is = get_or-moved_all base (offsets axes.outer) axes.shifts.items (offsets axes.inner) rank a s i place-in shift-low item-low spread
