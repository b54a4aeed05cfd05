-- The places of the items of a layout of an array.
use Rattle.std.proofs.Common.{◌≡◌, ◌+◌, ◌*◌, ◌<◌, ◌≤◌, ◌⊎◌, inl, inr, map, ℕ, zero, suc, ℤ, pos, negsuc, ◌+ℤ◌, ◌≤ℤ◌, List, [], ◌∷◌, ◌++◌, Bool, subst, arith}
use Rattle.name_store.proofs.Words.{AllByRecursion, flat_map, range_with_len, cases_lt, ints, mul_comm, mul-le-mul_left, Descr, item_size, Layout, indexes, IsIndex, address, natural, offsets, Fits, offsets_of, Array, descr_at, start_at, IsLaidOut}

-- a property of all indexes of a shape
both-parts : {X : Type 0} (P : X → Type 0) (xs ys : List X) → AllByRecursion P xs → AllByRecursion P ys → AllByRecursion P (xs ++ ys)
both-parts P [] ys all more = more
both-parts P (x ∷ xs) ys all more = (all.0, both-parts P xs ys all.1 more)

each-mapped : {X Y : Type 0} (P : Y → Type 0) (Q : X → Type 0) (f : X → Y) (xs : List X) → ((x : X) → Q x → P (f x)) → AllByRecursion Q xs → AllByRecursion P (map f xs)
each-mapped P Q f [] so all = tt
each-mapped P Q f (x ∷ xs) so all = (so x all.0, each-mapped P Q f xs so all.1)

are-indexes : (shape : List ℕ) → AllByRecursion (IsIndex shape) (indexes shape)
are-indexes [] = (tt, tt)
are-indexes (n ∷ shape) = rows (are-indexes shape) 0 n (omega arith)
  where
    rows : AllByRecursion (IsIndex shape) (indexes shape) → (a m : ℕ) → a + m ≤ n → AllByRecursion (IsIndex (n ∷ shape)) (flat_map (λ k. map (λ index. k ∷ index) (indexes shape)) (range_with_len a m))
    rows all a zero few = tt
    rows all a (suc m) few =
        both-parts (IsIndex (n ∷ shape)) (map (λ index. a ∷ index) (indexes shape)) (flat_map (λ k. map (λ index. k ∷ index) (indexes shape)) (range_with_len (a + 1) m))
        (each-mapped (IsIndex (n ∷ shape)) (IsIndex shape) (λ index. a ∷ index) (indexes shape) (λ index is. (omega (arith, few), is)) all)
        (rows all (a + 1) m (omega (arith, few)))

-- the items of a layout that fits lie within the bytes
pub offsets-within : (l : Layout) (len item : ℕ) → Fits l len item → AllByRecursion (λ offset. offset + item ≤ len) (offsets l)
unfolding offsets
offsets-within l len item fits = each-mapped (λ offset. offset + item ≤ len) (IsIndex l.shape) (λ index. natural (address l index)) (indexes l.shape) (λ index is. low (address l index) (fits.from_zero index is) (fits.within index is)) (are-indexes l.shape)
  where
    low : (z : ℤ) → pos 0 ≤ℤ z → (z +ℤ pos item) ≤ℤ pos len → natural z + item ≤ len
    low (pos n) above end = omega (arith, ints, end)
    low (negsuc n) above end = absurd (omega (arith, ints, above))

-- if parts lie within the bytes of n items, their places are below n
within-items : (item start width n : ℕ) (places : List ℕ) → 1 ≤ width → AllByRecursion (λ offset. offset + width ≤ n * item) (offsets_of item start places) → AllByRecursion (λ place. place < n) places
within-items item start width n [] some inside = tt
within-items item start width n (place ∷ places) some inside = (below (cases_lt place n), within-items item start width n places some inside.1)
  where
    below : (place < n) ⊎ (n ≤ place) → place < n
    below (inl less) = less
    below (inr more) = let most : item * n ≤ item * place = mul-le-mul_left item more in absurd (omega (arith, some, inside.0, most, mul_comm n item))

pub places-within : (descr : Descr) (n : ℕ) (array : Array) (layout : Layout) (writable : Bool) → IsLaidOut descr n array layout writable → 1 ≤ item_size (descr_at descr array.path) → AllByRecursion (λ place. place < n) array.places
places-within descr n array layout writable laid some =
    let width = item_size (descr_at descr array.path) in
    within-items (item_size descr) (start_at descr array.path) width n array.places some
    (subst (AllByRecursion (λ offset. offset + width ≤ n * item_size descr)) laid.places (offsets-within layout (n * item_size descr) width laid.fits))

-- a layout of an array stays one if all that it depends on is equal
pub laid-same : (d d' : Descr) (n n' : ℕ) (a a' : Array) (l l' : Layout) (w w' : Bool) → d ≡ d' → n ≡ n' → a ≡ a' → l ≡ l' → w ≡ w' → IsLaidOut d n a l w → IsLaidOut d' n' a' l' w'
laid-same d d' n n' a a' l l' w w' d-is n-is a-is l-is w-is laid =
    subst (λ (x : Bool). IsLaidOut d' n' a' l' x) w-is
    (subst (λ (x : Layout). IsLaidOut d' n' a' x w) l-is
    (subst (λ (x : Array). IsLaidOut d' n' x l w) a-is
    (subst (λ (x : ℕ). IsLaidOut d' x a l w) n-is
    (subst (λ (x : Descr). IsLaidOut x n a l w) d-is laid))))
