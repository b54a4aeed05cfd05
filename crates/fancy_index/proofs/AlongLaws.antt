-- Addresses along some axes, with the rest of the index fixed.
use Rattle.std.proofs.Common.{◌≡◌, ℕ, ◌+◌, ◌<◌, ◌≤◌, ◌≤ℤ◌, List, ◌++◌, map, length, get_or, take, drop, All, sym, ap, subst, ◌∙◌, arith, length-append, length-drop, length-take-le, ℤ, pos, ◌+ℤ◌}
use Rattle.fancy_index.proofs.Words.{ints, get_or-map, length-map, All-drop, Layout, max_axes, max_items, count, rank, IsIndex, dot, natural, address_at, address, offsets, pos-natural, get_or-offsets, IsShape, length-index, index_at, rank-lt, ShowsThrough, tuple, strides_along, offset_along, BeginAt}
use Rattle.fancy_index.proofs.CutLaws.{dot-cut, dot-origin, some-behind, few-behind, shape-before}
use Rattle.fancy_index.proofs.ShiftLaws.{tuple-is, tuple-in}

-- the sum over all axes, as a sum of three parts
cut : (strides : List ℤ) (front at back : List ℕ) (n m : ℕ) → length front ≡ n → length at ≡ m →
    dot strides (front ++ (at ++ back)) ≡ dot (take n strides) front +ℤ (dot (take m (drop n strides)) at +ℤ dot (drop m (drop n strides)) back)
cut strides front at back n m size same =
    dot-cut strides front (at ++ back)
    ∙ ap (λ k. dot (take k strides) front +ℤ dot (drop k strides) (at ++ back)) size
    ∙ ap (λ z. dot (take n strides) front +ℤ z)
    (dot-cut (drop n strides) at back ∙ ap (λ k. dot (take k (drop n strides)) at +ℤ dot (drop k (drop n strides)) back) same)

regroup : (o d0 dx f sx s0 b : ℤ) → dx ≡ f +ℤ (sx +ℤ b) → d0 ≡ f +ℤ (s0 +ℤ b) → s0 ≡ pos 0 → o +ℤ dx ≡ (o +ℤ d0) +ℤ sx
regroup o d0 dx f sx s0 b is is-zero none = omega (arith, ints, is, is-zero, none)

-- The numbers on some axes add to the address what they add along the strides of these axes.
pub along-adds : (layout : Layout) (axes front at back : List ℕ) (axis : ℕ) → length front ≡ axis → length at ≡ length axes →
    address layout (front ++ (at ++ back)) ≡ address layout (front ++ (map (λ _. 0) axes ++ back)) +ℤ dot (strides_along layout axis axes) at
along-adds layout axes front at back axis size same =
    regroup (pos layout.offset) _ _ _ _ _ _ (cut layout.strides front at back axis (length axes) size same) (cut layout.strides front (map (λ _. 0) axes) back axis (length axes) size (length-map axes (λ _. 0)))
    (dot-origin (strides_along layout axis axes) axes)

rank-of : (axes : List ℕ) (x : ℕ) → x < count axes → rank axes (tuple axes x) ≡ x
rank-of axes x low =
    let found = index_at axes x low in
    ap (rank axes) (sym (tuple-is axes found.0 x found.1 found.2)) ∙ found.2

module _ (layout : Layout) (axis start : ℕ) (axes : List ℕ) (b : BeginAt layout axis start axes) where
  first-in : IsIndex layout.shape (b.front ++ (tuple axes 0 ++ b.back))
  first-in = b.leads (tuple axes 0) (tuple-in axes 0 b.some)

  pub axes-within : axis + length axes ≤ length layout.strides
  axes-within =
      omega (arith, length-index layout.shape _ first-in, length-append b.front (tuple axes 0 ++ b.back), length-append (tuple axes 0) b.back, length-index axes (tuple axes 0) (tuple-in axes 0 b.some), b.size, layout.one_stride_an_axis)

  pub length-along : length (strides_along layout axis axes) ≡ length axes
  length-along = length-take-le (length axes) (drop axis layout.strides) (omega (arith, axes-within, length-drop axis layout.strides))

  -- along these axes, the layout has its items at all their indexes
  pub along-shows : ShowsThrough layout axes (strides_along layout axis axes) start (λ at. b.front ++ (at ++ b.back))
  along-shows = record {
    leads = b.leads;
    same = λ at in'. ap (λ z. z +ℤ dot (strides_along layout axis axes) at) b.first ∙ sym (along-adds layout axes b.front at b.back axis b.size (length-index axes at in'));
  }

  -- their lengths are a shape
  pub axes-made : length layout.shape ≤ max_axes → All (λ n. n ≤ max_items) layout.shape → count layout.shape ≤ max_items → IsShape axes
  axes-made few short small =
      let behind = drop axis layout.shape in
      let whole : 0 < count layout.shape = omega (arith, rank-lt layout.shape _ first-in) in
      subst IsShape b.stand
      (shape-before behind (length axes) (some-behind layout.shape axis whole) (omega (arith, axes-within, length-drop axis layout.shape, layout.one_stride_an_axis)) (omega (arith, few, length-drop axis layout.shape)) (All-drop (λ n. n ≤ max_items) axis layout.shape short) (omega (arith, small, few-behind layout.shape axis whole)))

  -- the offset of a rank along them is not negative
  pub pos-along : (x : ℕ) → x < count axes → pos (offset_along layout axis start axes x) ≡ pos start +ℤ dot (strides_along layout axis axes) (tuple axes x)
  pos-along x low =
      let in' = tuple-in axes x low in
      pos-natural _ (subst (λ (z : ℤ). pos 0 ≤ℤ z) (sym (along-shows.same (tuple axes x) in')) (layout.within_limit.from_zero _ (b.leads (tuple axes x) in')))

  -- a layout of these axes turns ranks into these offsets
  pub led-along : (l : Layout) (ranks : List ℕ) (k : ℕ) → l.shape ≡ axes → l.strides ≡ strides_along layout axis axes → l.offset ≡ start → k < length ranks → get_or ranks k 0 < count axes →
      get_or (map (λ rank. get_or (offsets l) rank 0) ranks) k 0 ≡ offset_along layout axis start axes (get_or ranks k 0)
  led-along l ranks k shape strides offset inside low =
      let x = get_or ranks k 0 in
      let in-l : IsIndex l.shape (tuple axes x) = subst (λ s. IsIndex s (tuple axes x)) (sym shape) (tuple-in axes x low) in
      let ranked : rank l.shape (tuple axes x) ≡ x = ap (λ s. rank s (tuple axes x)) shape ∙ rank-of axes x low in
      get_or-map (λ rank. get_or (offsets l) rank 0) ranks k 0 0 inside
      ∙ ap (λ j. get_or (offsets l) j 0) (sym ranked)
      ∙ get_or-offsets l (tuple axes x) 0 in-l
      ∙ (λ i. natural (address_at (strides i) (offset i) (tuple axes x)))
