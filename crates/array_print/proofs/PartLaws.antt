-- Laws of the parts of an array.
use Rattle.std.proofs.Common.{◌≡◌, ℕ, ◌+◌, ◌*◌, ◌<◌, ◌≤◌, ℤ, pos, ◌+ℤ◌, ◌*ℤ◌, ◌≤ℤ◌, List, [], ◌∷◌, length, map, take, drop, get_or, refl, sym, ◌∙◌, ap, subst, arith, All, mul_comm, zero-mul, length-drop}
use Rattle.array_print.proofs.Words.{ints, length-map, length-take, get_or-map, get_or-take, get_or-drop, same_lists, drop_more, drop_all, +ℤ_assoc, +ℤ_idr, *ℤ-zero, Layout, count, indexes, zero_filled, dot-zeros, IsIndex-first, dot, natural, address_at, LieWithin, length-indexes, get_or-blocks, factors_pos, mul-step, offsets, max_bytes, fits-offsets, offsets_at, IsPart, LeadsOn, part_offsets}

-- ---- one axis, and those inside it

-- an address, from the offset that the first number leads to
inner-address : (s : ℤ) (strides : List ℤ) (start k next : ℕ) (index : List ℕ) → pos next ≡ pos start +ℤ s *ℤ pos k → address_at (s ∷ strides) start (k ∷ index) ≡ address_at strides next index
inner-address s strides start k next index is = sym (+ℤ_assoc (pos start) (s *ℤ pos k) (dot strides index)) ∙ ap (λ z. z +ℤ dot strides index) (sym is)

inner-lies : (n : ℕ) (shape : List ℕ) (s : ℤ) (strides : List ℤ) (start k next len item : ℕ) → k < n → pos next ≡ pos start +ℤ s *ℤ pos k → LieWithin (n ∷ shape) (s ∷ strides) start len item → LieWithin shape strides next len item
inner-lies n shape s strides start k next len item below is lie = record {
  from_zero = λ index in'. subst (λ z. pos 0 ≤ℤ z) (inner-address s strides start k next index is) (lie.from_zero (k ∷ index) (below, in'));
  within = λ index in'. subst (λ z. (z +ℤ pos item) ≤ℤ pos len) (inner-address s strides start k next index is) (lie.within (k ∷ index) (below, in'));
}

-- a step along the axis leads to an item within the limits
step-lies : (n : ℕ) (shape : List ℕ) (s : ℤ) (strides : List ℤ) (start k len item : ℕ) → k < n → 0 < count shape → LieWithin (n ∷ shape) (s ∷ strides) start len item → (pos 0 ≤ℤ (pos start +ℤ s *ℤ pos k)) × (((pos start +ℤ s *ℤ pos k) +ℤ pos item) ≤ℤ pos len)
step-lies n shape s strides start k len item below some lie =
    let zeros = zero_filled shape [] in
    let in' = IsIndex-first shape some in
    let here : address_at (s ∷ strides) start (k ∷ zeros) ≡ pos start +ℤ s *ℤ pos k = ap (λ z. pos start +ℤ (s *ℤ pos k +ℤ z)) (dot-zeros strides shape) ∙ ap (λ z. pos start +ℤ z) (+ℤ_idr (s *ℤ pos k)) in
    (subst (λ z. pos 0 ≤ℤ z) here (lie.from_zero (k ∷ zeros) (below, in')), subst (λ z. (z +ℤ pos item) ≤ℤ pos len) here (lie.within (k ∷ zeros) (below, in')))

length-offsets_at : (shape : List ℕ) (strides : List ℤ) (start : ℕ) → length (offsets_at shape strides start) ≡ count shape
length-offsets_at shape strides start = length-map (indexes shape) (λ index. natural (address_at strides start index)) ∙ length-indexes shape

-- the offsets of block `k`
inner-block : (n : ℕ) (shape : List ℕ) (s : ℤ) (strides : List ℤ) (start k next : ℕ) → k < n → pos next ≡ pos start +ℤ s *ℤ pos k → take (count shape) (drop (k * count shape) (offsets_at (n ∷ shape) (s ∷ strides) start)) ≡ offsets_at shape strides next
inner-block n shape s strides start k next below is =
    let c = count shape in
    let all = offsets_at (n ∷ shape) (s ∷ strides) start in
    let many : length all ≡ n * c = length-offsets_at (n ∷ shape) (s ∷ strides) start in
    let room : k * c + c ≤ n * c = omega (arith, mul-step c k n below, mul_comm c k, mul_comm c n) in
    let size : length (take c (drop (k * c) all)) ≡ c = omega (arith, length-take c (drop (k * c) all), length-drop (k * c) all) in
    let block : ℕ → List (List ℕ) = λ j. map (λ i. j ∷ i) (indexes shape) in
    let same : (j : ℕ) → length (block j) ≡ c = λ j. length-map (indexes shape) (λ i. j ∷ i) ∙ length-indexes shape in
    let zero_more : 0 + k ≡ k = omega arith in
    let read : List ℕ → ℕ = λ index. natural (address_at (s ∷ strides) start index) in
    same_lists (take c (drop (k * c) all)) (offsets_at shape strides next) (size ∙ sym (length-offsets_at shape strides next)) (λ j d low.
    let small : j < c = omega arith in
    let inside : j < length (indexes shape) = omega (arith, length-indexes shape) in
    let among : k * c + j < length (indexes (n ∷ shape)) = omega (arith, length-indexes (n ∷ shape)) in
    get_or-take c (drop (k * c) all) j d small
    ∙ get_or-drop (k * c) all j d
    ∙ get_or-map read (indexes (n ∷ shape)) (k * c + j) [] d among
    ∙ ap read (get_or-blocks block c same 0 n k j [] below small ∙ get_or-map (λ i. (0 + k) ∷ i) (indexes shape) j [] [] inside)
    ∙ ap (λ m. read (m ∷ get_or (indexes shape) j [])) zero_more
    ∙ ap natural (inner-address s strides start k next (get_or (indexes shape) j []) is)
    ∙ sym (get_or-map (λ index. natural (address_at strides next index)) (indexes shape) j [] d inside))

-- zero steps stay at the start
pub at-first : (s : ℤ) (start : ℕ) → pos start ≡ pos start +ℤ s *ℤ pos 0
at-first s start = sym (ap (λ z. pos start +ℤ z) (*ℤ-zero s) ∙ +ℤ_idr (pos start))

-- steps of stride 0 stay at the start
pub stays : (s : ℤ) (start k : ℕ) → s ≡ pos 0 → pos start ≡ pos start +ℤ s *ℤ pos k
stays s start k none = sym (ap (λ z. pos start +ℤ z *ℤ pos k) none ∙ ap (λ m. pos start +ℤ pos m) (zero-mul k) ∙ +ℤ_idr (pos start))

-- ---- the parts of a layout

outer : (l : Layout) (axis : ℕ) → axis < length l.shape → (drop axis l.shape ≡ get_or l.shape axis 0 ∷ drop (axis + 1) l.shape) × (drop axis l.strides ≡ get_or l.strides axis (pos 0) ∷ drop (axis + 1) l.strides)
outer l axis below = (drop_more l.shape axis 0 below, drop_more l.strides axis (pos 0) (omega (arith, l.one_stride_an_axis)))

-- a part, and the parts one axis further inside
module _ (l : Layout) (axis start len item : ℕ) (below : axis < length l.shape) (is_part : IsPart l axis start len item) where
  lie : (len' item' : ℕ) → LieWithin (drop axis l.shape) (drop axis l.strides) start len' item' → LieWithin ((get_or l.shape axis 0) ∷ (drop (axis + 1) l.shape)) ((get_or l.strides axis (pos 0)) ∷ drop (axis + 1) l.strides) start len' item'
  lie len' item' given = subst (λ strides. LieWithin ((get_or l.shape axis 0) ∷ (drop (axis + 1) l.shape)) strides start len' item') (outer l axis below).1 (subst (λ shape. LieWithin shape (drop axis l.strides) start len' item') (outer l axis below).0 given)

  pub part-some : (0 < (get_or l.shape axis 0)) × (0 < count (drop (axis + 1) l.shape))
  part-some = factors_pos (get_or l.shape axis 0) (count (drop (axis + 1) l.shape)) (subst (λ shape. 0 < count shape) (outer l axis below).0 is_part.some)

  part-step : (k : ℕ) → k < (get_or l.shape axis 0) → (pos 0 ≤ℤ (pos start +ℤ (get_or l.strides axis (pos 0)) *ℤ pos k)) × ((pos start +ℤ (get_or l.strides axis (pos 0)) *ℤ pos k) ≤ℤ pos max_bytes)
  part-step k low =
      let both = step-lies (get_or l.shape axis 0) (drop (axis + 1) l.shape) (get_or l.strides axis (pos 0)) (drop (axis + 1) l.strides) start k max_bytes 1 low part-some.1 (lie max_bytes 1 is_part.small) in
      (both.0, omega (arith, ints, both.1))

  part-start : start ≤ max_bytes
  part-start =
      let within : pos start ≤ℤ pos max_bytes = subst (λ z. z ≤ℤ pos max_bytes) (sym (at-first (get_or l.strides axis (pos 0)) start)) (part-step 0 part-some.0).1 in
      omega (arith, ints, within)

  pub part-leads : (k : ℕ) (strides : List ℤ) → k < (get_or l.shape axis 0) → strides ≡ l.strides → LeadsOn strides axis start k
  part-leads k strides low are = let step = part-step k low in rw are (record { start = part-start; low = step.0; high = step.1 })

  pub part-inner : (k next : ℕ) → k < (get_or l.shape axis 0) → pos next ≡ pos start +ℤ (get_or l.strides axis (pos 0)) *ℤ pos k → IsPart l (axis + 1) next len item
  part-inner k next low is = record {
    axes = omega arith;
    some = part-some.1;
    small = inner-lies (get_or l.shape axis 0) (drop (axis + 1) l.shape) (get_or l.strides axis (pos 0)) (drop (axis + 1) l.strides) start k next max_bytes 1 low is (lie max_bytes 1 is_part.small);
    inside = inner-lies (get_or l.shape axis 0) (drop (axis + 1) l.shape) (get_or l.strides axis (pos 0)) (drop (axis + 1) l.strides) start k next len item low is (lie len item is_part.inside);
  }

  pub part-block : (k next : ℕ) → k < (get_or l.shape axis 0) → pos next ≡ pos start +ℤ (get_or l.strides axis (pos 0)) *ℤ pos k → take (count (drop (axis + 1) l.shape)) (drop (k * count (drop (axis + 1) l.shape)) (part_offsets l axis start)) ≡ part_offsets l (axis + 1) next
  part-block k next low is =
      ap (λ shape. take (count (drop (axis + 1) l.shape)) (drop (k * count (drop (axis + 1) l.shape)) (offsets_at shape (drop axis l.strides) start))) (outer l axis below).0
      ∙ ap (λ strides. take (count (drop (axis + 1) l.shape)) (drop (k * count (drop (axis + 1) l.shape)) (offsets_at ((get_or l.shape axis 0) ∷ (drop (axis + 1) l.shape)) strides start))) (outer l axis below).1
      ∙ inner-block (get_or l.shape axis 0) (drop (axis + 1) l.shape) (get_or l.strides axis (pos 0)) (drop (axis + 1) l.strides) start k next low is

pub length-part : (l : Layout) (axis start : ℕ) → length (part_offsets l axis start) ≡ count (drop axis l.shape)
length-part l axis start = length-offsets_at (drop axis l.shape) (drop axis l.strides) start

-- a single item
pub part-item : (l : Layout) (axis start : ℕ) → length l.shape ≤ axis → part_offsets l axis start ≡ start ∷ []
part-item l axis start all =
    ap (λ shape. offsets_at shape (drop axis l.strides) start) (drop_all axis l.shape all)
    ∙ ap (λ z. natural z ∷ []) (ap (λ strides. pos start +ℤ dot strides []) (drop_all axis l.strides (omega (arith, l.one_stride_an_axis))) ∙ +ℤ_idr (pos start))

pub part-item-inside : (l : Layout) (axis start len item : ℕ) → length l.shape ≤ axis → IsPart l axis start len item → start + item ≤ len
part-item-inside l axis start len item all is_part =
    let no_axes = drop_all axis l.shape all in
    let no_strides = drop_all axis l.strides (omega (arith, l.one_stride_an_axis)) in
    let lie = subst (λ strides. LieWithin [] strides start len item) no_strides (subst (λ shape. LieWithin shape (drop axis l.strides) start len item) no_axes is_part.inside) in
    let ends : ((pos start +ℤ pos 0) +ℤ pos item) ≤ℤ pos len = lie.within [] tt in
    omega (arith, ints)

-- the whole array is a part
pub whole-part : (l : Layout) (len item : ℕ) → 0 < count l.shape → All (λ offset. offset + item ≤ len) (offsets l) → IsPart l 0 l.offset len item
whole-part l len item some inside = record {
  axes = omega arith;
  some = some;
  small = l.within_limit;
  inside = fits-offsets l len item inside;
}

pub whole-offsets : (l : Layout) → part_offsets l 0 l.offset ≡ offsets l
unfolding offsets
whole-offsets l = refl
