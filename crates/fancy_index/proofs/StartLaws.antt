-- The sums over parts are the offsets of the first items.
use Rattle.std.proofs.Common.{◌≡◌, ℕ, ◌+◌, ◌<◌, ◌≤◌, ◌≤ℤ◌, true, List, [], ◌∷◌, ◌++◌, map, length, get_or, take, drop, All, refl, sym, ap, subst, ◌∙◌, arith, length-append, append_assoc, append-nil, ℤ, pos, ◌+ℤ◌}
use Rattle.fancy_index.proofs.Words.{take-append_seam, ints, flat_map-append, drop_more, take_more, take_all, drop_all, same_lists, get_or-map, length-map, take-append-drop, get_or_default, All-head, All-tail, All-take, All-drop, Layout, max_bytes, count, indexes, rank, IsIndex, dot, natural, address, offsets, length-index, length-indexes, index_at, rank-lt, IsIndex-append, pos-natural, first_of, can_stretch, broadcast_index, broadcast_index-itself, IsIndex-broadcast, AtAxis, AlongAxis, NewAxis, PointList, IndexPart, AxisPart, PointsPart, BetweenPart, moved_offset, IsMoved, tuple, ranks_of, led, AreParts, IsReady, HasPointAt, IsReadyAt, point_of, numbers_at, first_at, first_offset, LeadInto, stretched_ranks, point_number, start_of, starts, strides_along, part_offset, BeginAt, BeginsAt, CanGrow, HaveGrown, partly, AreSums}
use Rattle.fancy_index.proofs.AlongLaws.{along-adds, pos-along, led-along}
use Rattle.fancy_index.proofs.ShiftLaws.{rank-low, point-low, tuple-is, tuple-in, ready_at, all_ready_at}

-- ---- the numbers at a rank

pub rank-itself : (lengths : List ℕ) (r : ℕ) → r < count lengths → rank lengths (broadcast_index lengths (tuple lengths r)) ≡ r
rank-itself lengths r low =
    let found = index_at lengths r low in
    ap (rank lengths) (broadcast_index-itself lengths (tuple lengths r) (tuple-in lengths r low) ∙ sym (tuple-is lengths found.0 r found.1 found.2)) ∙ found.2

module _ (own numbers lengths : List ℕ) where
  -- if the points have the common shape themselves, the number at a rank is that of the point with this rank
  pub whole-number : (ranks : List ℕ) (k : ℕ) → own ≡ lengths → ranks ≡ numbers → k < count lengths → get_or ranks k 0 ≡ point_number lengths own numbers k
  whole-number ranks k is same low =
      ap (λ l. get_or l k 0) same ∙ ap (λ j. get_or numbers j 0) (sym (ap (λ (s : List ℕ). rank s (broadcast_index s (tuple lengths k))) is ∙ rank-itself lengths k low))

  module _ (places : List ℕ) (are : places ≡ stretched_ranks own lengths) where
    place-at : (k d : ℕ) → k < count lengths → get_or places k d ≡ rank own (broadcast_index own (tuple lengths k))
    place-at k d low =
        ap (λ l. get_or l k d) are ∙ get_or-map (λ index. rank own (broadcast_index own index)) (indexes lengths) k [] d (omega (arith, low, length-indexes lengths))

    pub length-places : length places ≡ count lengths
    length-places = ap length are ∙ length-map (indexes lengths) (λ index. rank own (broadcast_index own index)) ∙ length-indexes lengths

    pub stretched-number : (ranks : List ℕ) (k : ℕ) → ranks ≡ numbers → k < count lengths → get_or ranks (get_or places k 0) 0 ≡ point_number lengths own numbers k
    stretched-number ranks k same low = λ i. get_or (same i) (place-at k 0 low i) 0

    pub places-low : (ranks : List ℕ) → ranks ≡ numbers → length numbers ≡ count own → can_stretch own lengths ≡ true → All (λ place. place < length ranks) places
    places-low ranks same many fit = λ k d below.
        let low : k < count lengths = omega (arith, below, length-places) in
        let in' = IsIndex-broadcast own lengths (tuple lengths k) fit (tuple-in lengths k low) in
        omega (arith, rank-lt own _ in', many, ap length same, place-at k d low)

-- the points after their ranks are turned into offsets
pub led-number : (layout : Layout) (axis start : ℕ) (lengths : List ℕ) (p : PointList) (l : Layout) (axes old new : List ℕ) → BeginAt layout axis start p.axes.items → IsReady lengths (PointsPart p) → axes ≡ p.axes.items → old ≡ ranks_of p.ranks →
    l.shape ≡ axes → l.strides ≡ strides_along layout axis axes → l.offset ≡ start → new ≡ led (offsets l) old → (k : ℕ) → k < count lengths → get_or new (rank p.lengths.items (broadcast_index p.lengths.items (tuple lengths k))) 0 ≡ part_offset layout axis start lengths (PointsPart p) k
led-number layout axis start lengths p l axes old new begin ready same same' shape strides offset is k low =
    let at = tuple lengths k in
    let j = rank p.lengths.items (broadcast_index p.lengths.items at) in
    let has : HasPointAt at p = ready_at lengths at (tuple-in lengths k low) (PointsPart p) ready in
    ap (λ x. get_or x j 0) (is ∙ ap (led (offsets l)) same')
    ∙ led-along layout axis start p.axes.items begin l (ranks_of p.ranks) j (shape ∙ same) (strides ∙ ap (strides_along layout axis) same) offset (rank-low at p has) (point-low at p 0 has)

-- ---- points that are set to 0

lower : (shape point axes xs ys : List ℕ) → length point ≡ length axes → ((s : List ℕ) → IsIndex s xs → IsIndex s ys) → IsIndex shape (point ++ xs) → IsIndex shape (map (λ _. 0) axes ++ ys)
lower shape [] [] xs ys same f in' = f shape in'
lower shape [] (n ∷ axes) xs ys same f in' = absurd (omega (arith, same))
lower shape (k ∷ point) [] xs ys same f in' = absurd (omega (arith, same))
lower [] (k ∷ point) (n ∷ axes) xs ys same f in' = absurd in'
lower (m ∷ shape) (k ∷ point) (n ∷ axes) xs ys same f in' = (omega (arith, in'.0), lower shape point axes xs ys (omega (arith, same)) f in'.1)

module _ (at : List ℕ) where
  abbrev Ready : IndexPart → Type 0
  Ready = IsReadyAt at

  point-in : (p : PointList) → HasPointAt at p → IsIndex p.axes.items (point_of p at)
  point-in p has = tuple-in p.axes.items _ (point-low at p 0 has)

  pub point-length : (p : PointList) → HasPointAt at p → length (point_of p at) ≡ length p.axes.items
  point-length p has = length-index p.axes.items (point_of p at) (point-in p has)

  -- the count of numbers does not depend on the points
  pub first-length : (parts : List IndexPart) → All Ready parts → length (first_at parts at) ≡ length (starts parts)
  first-length [] ready = refl
  first-length (AxisPart pick ∷ parts) ready =
      length-append (first_of pick) (first_at parts at) ∙ ap (λ n. length (first_of pick) + n) (first-length parts (All-tail Ready (AxisPart pick) parts ready)) ∙ sym (length-append (first_of pick) (starts parts))
  first-length (PointsPart p ∷ parts) ready =
      let size = point-length p (All-head Ready (PointsPart p) parts ready) ∙ sym (length-map p.axes.items (λ _. 0)) in
      length-append (point_of p at) (first_at parts at) ∙ (λ i. size i + first-length parts (All-tail Ready (PointsPart p) parts ready) i) ∙ sym (length-append (map (λ _. 0) p.axes.items) (starts parts))
  first-length (BetweenPart ∷ parts) ready = first-length parts (All-tail Ready BetweenPart parts ready)

  -- an index stays within the shape if its points are set to 0
  starts-in : (shape : List ℕ) (parts : List IndexPart) → All Ready parts → IsIndex shape (first_at parts at) → IsIndex shape (starts parts)
  starts-in shape [] ready in' = in'
  starts-in shape (AxisPart NewAxis ∷ parts) ready in' = starts-in shape parts (All-tail Ready (AxisPart NewAxis) parts ready) in'
  starts-in [] (AxisPart (AtAxis number) ∷ parts) ready in' = absurd in'
  starts-in [] (AxisPart (AlongAxis run) ∷ parts) ready in' = absurd in'
  starts-in (n ∷ shape) (AxisPart (AtAxis number) ∷ parts) ready in' = (in'.0, starts-in shape parts (All-tail Ready (AxisPart (AtAxis number)) parts ready) in'.1)
  starts-in (n ∷ shape) (AxisPart (AlongAxis run) ∷ parts) ready in' = (in'.0, starts-in shape parts (All-tail Ready (AxisPart (AlongAxis run)) parts ready) in'.1)
  starts-in shape (BetweenPart ∷ parts) ready in' = starts-in shape parts (All-tail Ready BetweenPart parts ready) in'
  starts-in shape (PointsPart p ∷ parts) ready in' =
      lower shape (point_of p at) p.axes.items (first_at parts at) (starts parts) (point-length p (All-head Ready (PointsPart p) parts ready)) (λ s. starts-in s parts (All-tail Ready (PointsPart p) parts ready)) in'

  pub front-in : (shape front : List ℕ) (parts : List IndexPart) → All Ready parts → IsIndex shape (front ++ first_at parts at) → IsIndex shape (front ++ starts parts)
  front-in shape [] parts ready in' = starts-in shape parts ready in'
  front-in [] (k ∷ front) parts ready in' = absurd in'
  front-in (n ∷ shape) (k ∷ front) parts ready in' = (in'.0, front-in shape front parts ready in'.1)

-- ---- the axes of points

behind-zeros : (axes rest ys : List ℕ) → drop (length (map {B = ℕ} (λ _. 0) axes ++ ys)) (axes ++ rest) ≡ drop (length ys) rest
behind-zeros [] rest ys = refl
behind-zeros (n ∷ axes) rest ys = behind-zeros axes rest ys

-- they come after the axes of the earlier parts
axes-stand : (shape : List ℕ) (front : List IndexPart) (p : PointList) (back : List IndexPart) → AreParts shape (front ++ (PointsPart p ∷ back)) → (rest : List ℕ) × (drop (length (starts front)) shape ≡ p.axes.items ++ rest)
axes-stand shape [] p back are = (are.1, are.2)
axes-stand shape (BetweenPart ∷ front) p back are = axes-stand shape front p back are
axes-stand shape (PointsPart q ∷ front) p back are =
    let found = axes-stand are.1 front p back are.3 in
    (found.0, ap (drop (length (starts (PointsPart q ∷ front)))) are.2 ∙ behind-zeros q.axes.items are.1 (starts front) ∙ found.1)
axes-stand shape (AxisPart NewAxis ∷ front) p back are = axes-stand shape front p back are
axes-stand [] (AxisPart (AtAxis number) ∷ front) p back are = absurd are
axes-stand [] (AxisPart (AlongAxis run) ∷ front) p back are = absurd are
axes-stand (n ∷ shape) (AxisPart (AtAxis number) ∷ front) p back are = axes-stand shape front p back are.1
axes-stand (n ∷ shape) (AxisPart (AlongAxis run) ∷ front) p back are = axes-stand shape front p back are.1

-- replacing the numbers on these axes leaves the later numbers within theirs
behind-in : (axes rest at back : List ℕ) → length at ≡ length axes → IsIndex (axes ++ rest) (at ++ back) → IsIndex rest back
behind-in [] rest [] back same in' = in'
behind-in [] rest (k ∷ at) back same in' = absurd (omega (arith, same))
behind-in (n ∷ axes) rest [] back same in' = absurd (omega (arith, same))
behind-in (n ∷ axes) rest (k ∷ at) back same in' = behind-in axes rest at back (omega (arith, same)) in'.1

put-between : (shape front axes rest old at back : List ℕ) → drop (length front) shape ≡ axes ++ rest → length old ≡ length axes → IsIndex axes at → IsIndex shape (front ++ (old ++ back)) → IsIndex shape (front ++ (at ++ back))
put-between shape [] axes rest old at back is same in-axes in' =
    subst (λ (s : List ℕ). IsIndex s (at ++ back)) (sym is) (IsIndex-append axes rest at back in-axes (behind-in axes rest old back same (subst (λ (s : List ℕ). IsIndex s (old ++ back)) is in')))
put-between [] (k ∷ front) axes rest old at back is same in-axes in' = absurd in'
put-between (n ∷ shape) (k ∷ front) axes rest old at back is same in-axes in' = (in'.0, put-between shape front axes rest old at back is same in-axes in'.1)

-- ---- partial sums

further : (a d0 dx : ℤ) (s x : ℕ) → dx ≡ d0 +ℤ a → pos x ≡ pos s +ℤ a → dx +ℤ pos s ≡ d0 +ℤ pos x
further a d0 dx s x is there = omega (arith, ints, is, there)

can-move : (z : ℤ) (start s x : ℕ) → z +ℤ pos start ≡ pos s +ℤ pos x → pos 0 ≤ℤ z → (z +ℤ pos 1) ≤ℤ pos max_bytes → IsMoved start s x
can-move z start s x is low high = record { from = omega (arith, ints, is, low); below = omega (arith, ints, is, high) }

moves : (z : ℤ) (n start s x : ℕ) → z +ℤ pos start ≡ pos s +ℤ pos x → pos n ≡ z → moved_offset start s x ≡ n
moves z n start s x is there = omega (arith, ints, is, there)

module _ (layout : Layout) (parts : List IndexPart) (lengths : List ℕ) (ready : All (IsReady lengths) parts) (leads : LeadInto layout lengths parts) where
  ready-at : (r : ℕ) → r < count lengths → All (IsReadyAt (tuple lengths r)) parts
  ready-at r low = all_ready_at lengths (tuple lengths r) parts (tuple-in lengths r low) ready

  pub partly-in : (k r : ℕ) → r < count lengths → IsIndex layout.shape (partly parts k (tuple lengths r))
  partly-in k r low =
      let at = tuple lengths r in
      let split : first_at parts at ≡ first_at (take k parts) at ++ first_at (drop k parts) at = sym (ap (λ l. first_at l at) (take-append-drop k parts)) ∙ flat_map-append (numbers_at at) (take k parts) (drop k parts) in
      front-in at layout.shape (first_at (take k parts) at) (drop k parts) (All-drop (IsReadyAt at) k parts (ready-at r low)) (subst (IsIndex layout.shape) split (leads at (tuple-in lengths r low)))

  pub start-in : 0 < count lengths → IsIndex layout.shape (starts parts)
  start-in some = partly-in 0 0 some

  front-length : (k r : ℕ) → r < count lengths → length (first_at (take k parts) (tuple lengths r)) ≡ length (starts (take k parts))
  front-length k r low = first-length (tuple lengths r) (take k parts) (All-take (IsReadyAt (tuple lengths r)) k parts (ready-at r low))

  pub axis-low : (k : ℕ) → 0 < count lengths → length (starts (take k parts)) ≤ length layout.shape
  axis-low k some =
      omega (arith, length-index layout.shape _ (partly-in k 0 some), length-append (first_at (take k parts) (tuple lengths 0)) (starts (drop k parts)), front-length k 0 some)

  here : (k r : ℕ) (part : IndexPart) → k < length parts → get_or parts k part ≡ part → partly parts k (tuple lengths r) ≡ first_at (take k parts) (tuple lengths r) ++ (start_of part ++ starts (drop (k + 1) parts))
  here k r part low is = ap (λ l. first_at (take k parts) (tuple lengths r) ++ starts l) (drop_more parts k part low ∙ ap (λ x. x ∷ drop (k + 1) parts) is)

  next : (k r : ℕ) (part : IndexPart) → k < length parts → get_or parts k part ≡ part → partly parts (k + 1) (tuple lengths r) ≡ first_at (take k parts) (tuple lengths r) ++ (numbers_at (tuple lengths r) part ++ starts (drop (k + 1) parts))
  next k r part low is =
      let at = tuple lengths r in
      let back = starts (drop (k + 1) parts) in
      ap (λ l. first_at l at ++ back) (take_more parts k part low ∙ ap (λ x. take k parts ++ x ∷ []) is)
      ∙ ap (λ l. l ++ back) (flat_map-append (numbers_at at) (take k parts) (part ∷ []) ∙ ap (λ l. first_at (take k parts) at ++ l) (append-nil (numbers_at at part)))
      ∙ append_assoc (first_at (take k parts) at) (numbers_at at part) back

  -- the index of the start, split at one part
  split-start : (k : ℕ) (part : IndexPart) → k < length parts → get_or parts k part ≡ part → starts parts ≡ starts (take k parts) ++ (start_of part ++ starts (drop (k + 1) parts))
  split-start k part low is =
      ap starts (sym (take-append-drop k parts))
      ∙ flat_map-append start_of (take k parts) (drop k parts)
      ∙ ap (λ l. starts (take k parts) ++ starts l) (drop_more parts k part low ∙ ap (λ x. x ∷ drop (k + 1) parts) is)

  pub axis-after : (k axis : ℕ) (part : IndexPart) → k < length parts → get_or parts k part ≡ part → axis ≡ length (starts (take k parts)) → axis + length (start_of part) ≡ length (starts (take (k + 1) parts))
  axis-after k axis part low is axes =
      (λ i. axes i + length (start_of part))
      ∙ sym (ap (λ l. length (starts l)) (take_more parts k part low ∙ ap (λ x. take k parts ++ x ∷ []) is) ∙ ap length (flat_map-append start_of (take k parts) (part ∷ []) ∙ ap (λ l. starts (take k parts) ++ l) (append-nil (start_of part))) ∙ length-append (starts (take k parts)) (start_of part))

  module _ (start : ℕ) (start-is : pos start ≡ address layout (starts parts)) where
    pub begins : (k axis : ℕ) (part : IndexPart) → k < length parts → get_or parts k part ≡ part → axis ≡ length (starts (take k parts)) → AreParts layout.shape parts → 0 < count lengths → BeginsAt layout axis start part
    begins k axis (AxisPart pick) low is axes are some = tt
    begins k axis BetweenPart low is axes are some = tt
    begins k axis (PointsPart p) low is axes are some =
        let front = starts (take k parts) in
        let back = starts (drop (k + 1) parts) in
        let split = split-start k (PointsPart p) low is in
        let parted : parts ≡ take k parts ++ (PointsPart p ∷ drop (k + 1) parts) = sym (take-append-drop k parts) ∙ ap (λ l. take k parts ++ l) (drop_more parts k (PointsPart p) low ∙ ap (λ x. x ∷ drop (k + 1) parts) is) in
        let stand = axes-stand layout.shape (take k parts) p (drop (k + 1) parts) (subst (AreParts layout.shape) parted are) in
        let has : HasPointAt (tuple lengths 0) p = subst (IsReadyAt (tuple lengths 0)) is (ready-at 0 some k (PointsPart p) low) in
        record {
          front = front;
          back = back;
          size = sym axes;
          some = omega (arith, point-low (tuple lengths 0) p 0 has);
          stand = ap (λ n. take (length p.axes.items) (drop n layout.shape)) axes ∙ ap (take (length p.axes.items)) stand.1 ∙ take-append_seam p.axes.items stand.0;
          leads = λ at in-at. put-between layout.shape front p.axes.items stand.0 (map (λ _. 0) p.axes.items) at back stand.1 (length-map p.axes.items (λ _. 0)) in-at (subst (IsIndex layout.shape) split (start-in some));
          first = start-is ∙ ap (address layout) split;
        }

    -- a part adds the same distance to the start and to the partial sum
    leads-on : (k axis r : ℕ) (part : IndexPart) → k < length parts → get_or parts k part ≡ part → axis ≡ length (starts (take k parts)) → BeginsAt layout axis start part → r < count lengths →
        address layout (partly parts (k + 1) (tuple lengths r)) +ℤ pos start ≡ address layout (partly parts k (tuple lengths r)) +ℤ pos (part_offset layout axis start lengths part r)
    leads-on k axis r (AxisPart pick) low is axes begin below = ap (λ l. address layout l +ℤ pos start) (next k r (AxisPart pick) low is ∙ sym (here k r (AxisPart pick) low is))
    leads-on k axis r BetweenPart low is axes begin below = ap (λ l. address layout l +ℤ pos start) (next k r BetweenPart low is ∙ sym (here k r BetweenPart low is))
    leads-on k axis r (PointsPart p) low is axes begin below =
        let at = tuple lengths r in
        let front = first_at (take k parts) at in
        let back = starts (drop (k + 1) parts) in
        let has : HasPointAt at p = subst (IsReadyAt at) is (ready-at r below k (PointsPart p) low) in
        let adds = along-adds layout p.axes.items front (point_of p at) back axis (front-length k r below ∙ sym axes) (point-length at p has) in
        further _ _ _ start _ (ap (address layout) (next k r (PointsPart p) low is) ∙ adds ∙ ap (λ l. address layout l +ℤ dot (strides_along layout axis p.axes.items) (point_of p at)) (sym (here k r (PointsPart p) low is)))
        (pos-along layout axis start p.axes.items begin (point_number lengths p.lengths.items (ranks_of p.ranks) r) (point-low at p 0 has))

    module _ (k axis : ℕ) (part : IndexPart) (below : k < length parts) (is : get_or parts k part ≡ part) (begin : BeginsAt layout axis start part) (shifts : List ℕ) (sums : AreSums layout parts lengths start shifts k axis) where
      sum-is : (r : ℕ) → r < count lengths → address layout (partly parts (k + 1) (tuple lengths r)) +ℤ pos start ≡ pos (get_or shifts r start) +ℤ pos (part_offset layout axis start lengths part r)
      sum-is r low =
          leads-on k axis r part below is sums.axes begin low
          ∙ ap (λ z. z +ℤ pos (part_offset layout axis start lengths part r)) (sym (ap pos (sums.each r low) ∙ pos-natural _ (layout.within_limit.from_zero _ (partly-in k r low))))

      pub can-add : CanGrow start (count lengths) (part_offset layout axis start lengths part) shifts
      can-add = λ r low. can-move _ start _ _ (sum-is r low) (layout.within_limit.from_zero _ (partly-in (k + 1) r low)) (layout.within_limit.within _ (partly-in (k + 1) r low))

      pub added : (new : List ℕ) (axis' : ℕ) → axis' ≡ axis + length (start_of part) → HaveGrown start (count lengths) (part_offset layout axis start lengths part) shifts new → AreSums layout parts lengths start new (k + 1) axis'
      added new axis' after have = record {
        many = have.so_many;
        axes = after ∙ axis-after k axis part below is sums.axes;
        each = λ r low. have.each r low ∙ moves _ _ start _ _ (sum-is r low) (pos-natural _ (layout.within_limit.from_zero _ (partly-in (k + 1) r low)));
      }

    pub sums_all : (shifts new : List ℕ) (k axis : ℕ) → length parts ≤ k → AreSums layout parts lengths start shifts k axis → length new ≡ count lengths → ((r : ℕ) → r < count lengths → get_or new r start ≡ get_or shifts r start) →
        new ≡ map (first_offset layout parts) (indexes lengths)
    sums_all shifts new k axis all sums len same =
        same_lists new (map (first_offset layout parts) (indexes lengths)) (len ∙ sym (length-map (indexes lengths) (first_offset layout parts) ∙ length-indexes lengths)) (λ r d below.
        let low : r < count lengths = omega (arith, below, len) in
        let whole : partly parts k (tuple lengths r) ≡ first_at parts (tuple lengths r) = (λ i. first_at (take_all k parts all i) (tuple lengths r) ++ starts (drop_all k parts all i)) ∙ append-nil (first_at parts (tuple lengths r)) in
        get_or_default new r d start below ∙ same r low ∙ sums.each r low ∙ ap (λ l. natural (address layout l)) whole ∙ sym (get_or-map (first_offset layout parts) (indexes lengths) r [] d (omega (arith, low, length-indexes lengths))))
