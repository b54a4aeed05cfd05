-- Lists of lengths that are shapes: the middle of a shape with items, and the lengths that can be stretched to a shape.
use Rattle.std.proofs.Common.{◌≡◌, ℕ, zero, suc, ◌-◌, ◌*◌, ◌<◌, ◌≤◌, true, List, [], ◌∷◌, ◌++◌, length, get_or, take, drop, replicate, All, ap, subst, ◌∙◌, arith, length-append, mul-le-mul_right, one-mul}
use Rattle.fancy_index.proofs.Words.{mul-le-mul, take-append_seam, drop-append_seam, false≢true, and_parts, nat_tests, All-head, All-tail, All-cons, All-nil, All-take, All-drop, get_or-map-range_with_len, Layout, max_items, count, rank, offsets, multiples, IsShape, factors_pos, rank-lt, same_on_indexes, IsViewOf, stretches, all_stretch, can_stretch, broadcast_index, few-axes, stretched_ranks}
use Rattle.fancy_index.proofs.CutLaws.{some-before, few-before, few-behind}

-- ---- in the middle of a shape

pub middle-shape : (front points back : List ℕ) → IsShape (front ++ points ++ back) → 0 < count (front ++ points ++ back) → IsShape points
middle-shape front points back is some =
    let whole = front ++ points ++ back in
    let both = front ++ points in
    let seam : take (length both) whole ≡ both = take-append_seam both back in
    let cut : drop (length front) both ≡ points = drop-append_seam front points in
    let some' : 0 < count both = omega (arith, some-before whole (length both) some, ap count seam) in
    record {
      axes = omega (arith, is.axes, length-append both back, length-append front points);
      lengths = subst (All (λ n. n ≤ max_items)) cut (All-drop (λ n. n ≤ max_items) (length front) both (subst (All (λ n. n ≤ max_items)) seam (All-take (λ n. n ≤ max_items) (length both) whole is.lengths)));
      items = omega (arith, is.items, few-before whole (length both) some, ap count seam, few-behind both (length front) some', ap count cut);
    }

-- ---- lengths that can be stretched

length-low : (m n : ℕ) → stretches m n ≡ true → 0 < n → m ≤ n
length-low m n can some = grind (arith, nat_tests)

all-low : (shape target : List ℕ) → all_stretch shape target ≡ true → All (λ n. n ≤ max_items) target → 0 < count target → All (λ n. n ≤ max_items) shape × (count shape ≤ count target)
all-low [] [] all short some = (All-nil (λ n. n ≤ max_items), omega arith)
all-low [] (n ∷ target) all short some = absurd (false≢true all)
all-low (m ∷ shape) [] all short some = absurd (false≢true all)
all-low (m ∷ shape) (n ∷ target) all short some =
    let can = and_parts (stretches m n) (all_stretch shape target) all in
    let both = factors_pos n (count target) some in
    let low = length-low m n can.0 both.0 in
    let later = all-low shape target can.1 (All-tail (λ n. n ≤ max_items) n target short) both.1 in
    (All-cons (λ n. n ≤ max_items) m shape (omega (arith, low, All-head (λ n. n ≤ max_items) n target short)) later.0, mul-le-mul low later.1)

-- lengths with `more` new axes in front of them
behind-low : (more : ℕ) (shape target : List ℕ) → all_stretch (replicate more 1 ++ shape) target ≡ true → All (λ n. n ≤ max_items) target → 0 < count target → All (λ n. n ≤ max_items) shape × (count shape ≤ count target)
behind-low zero shape target all short some = all-low shape target all short some
behind-low (suc more) shape [] all short some = absurd (false≢true all)
behind-low (suc more) shape (n ∷ target) all short some =
    let both = factors_pos n (count target) some in
    let later = behind-low more shape target (and_parts (stretches 1 n) (all_stretch (replicate more 1 ++ shape) target) all).1 (All-tail (λ n. n ≤ max_items) n target short) both.1 in
    (later.0, omega (arith, later.1, mul-le-mul_right (count target) both.0, one-mul (count target)))

pub stretched-shape : (shape target : List ℕ) → can_stretch shape target ≡ true → IsShape target → 0 < count target → IsShape shape
stretched-shape shape target can is some =
    let low = behind-low (length target - length shape) shape target can is.lengths some in
    record { axes = omega (arith, few-axes shape target can, is.axes); lengths = low.0; items = omega (arith, low.1, is.items) }

-- ---- places of a stretched shape

pub places-given : (old new : Layout) (own lengths shape target : List ℕ) → old.shape ≡ own → own ≡ lengths → shape ≡ target → offsets old ≡ multiples 1 (count own) →
    IsViewOf old new (record { shape = shape; leads = broadcast_index old.shape }) → offsets new ≡ stretched_ranks lengths target
places-given old new own lengths shape target p q q' are view =
    view.places
    ∙ same_on_indexes shape _ _ (λ index in'.
    let b = broadcast_index old.shape index in
    let low : rank old.shape b < count own = omega (arith, rank-lt old.shape b (view.leads index in'), ap count p) in
    ap (λ os. get_or os (rank old.shape b) 0) are
    ∙ get_or-map-range_with_len (λ k. 1 * k) 0 (count own) (rank old.shape b) (rank old.shape b) 0 low (omega arith)
    ∙ one (rank old.shape b))
    ∙ λ i. stretched_ranks ((p ∙ q) i) (q' i)
  where
    one : (k : ℕ) → 1 * k ≡ k
    one k = omega arith
