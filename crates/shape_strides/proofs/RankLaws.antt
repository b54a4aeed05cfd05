-- Finding the index with a rank, number by number from the last axis to the first.
use Rattle.std.proofs.Common.{◌≡◌, ℕ, ◌+◌, ◌*◌, ◌/◌, ◌%◌, ◌<◌, ◌≤◌, List, [], ◌∷◌, length, get_or, set, take, drop, sym, ap, ◌∙◌, arith, add-mul, div-add-mod', mod-lt, mul_assoc}
use Rattle.shape_strides.proofs.Words.{drop_more, drop-set, take_more, length-set, div_below, count, rank, IsIndex, factors_pos, count-append}

-- The numbers of the axes from `axis` on are found, and `left` is the rank along the axes before it.
pub record IsFound (shape index : List ℕ) (at left axis : ℕ) : Type 0 where
  pub within : axis ≤ length shape
  pub size : length index ≡ length shape
  pub later : IsIndex (drop axis shape) (drop axis index)
  pub low : left < count (take axis shape)
  pub is : left * count (drop axis shape) + rank (drop axis shape) (drop axis index) ≡ at

count-front : (shape : List ℕ) (axis : ℕ) → axis < length shape → count (take (axis + 1) shape) ≡ count (take axis shape) * get_or shape axis 0
count-front shape axis below =
    ap count (take_more shape axis 0 below) ∙ count-append (take axis shape) (get_or shape axis 0 ∷ []) ∙ one
  where
    one : count (take axis shape) * (get_or shape axis 0 * 1) ≡ count (take axis shape) * get_or shape axis 0
    one = ap (λ n. count (take axis shape) * n) (omega arith)

-- The axis is not empty.
pub long_axis : (shape index : List ℕ) (at left axis : ℕ) → axis < length shape → IsFound shape index at left (axis + 1) → 0 < get_or shape axis 0
long_axis shape index at left axis below found =
    (factors_pos (count (take axis shape)) (get_or shape axis 0) (omega (arith, found.low, count-front shape axis below))).1

regroup : (q r n c k : ℕ) → q * n + r ≡ k → (t : ℕ) → q * (n * c) + (r * c + t) ≡ k * c + t
regroup q r n c k is t =
    let one : q * (n * c) ≡ (q * n) * c = sym (mul_assoc q n c) in
    let two : (q * n + r) * c ≡ (q * n) * c + r * c = add-mul (q * n) r c in
    let three : (q * n + r) * c ≡ k * c = ap (λ m. m * c) is in
    omega (arith, one, two, three)

pub found_more : (shape index : List ℕ) (at left axis : ℕ) → axis < length shape → IsFound shape index at left (axis + 1) →
    IsFound shape (set index axis (left % get_or shape axis 0)) at (left / get_or shape axis 0) axis
found_more shape index at left axis below found =
    let n = get_or shape axis 0 in
    let some = long_axis shape index at left axis below found in
    let inside : axis < length index = omega (arith, found.size) in
    let here : drop axis shape ≡ n ∷ drop (axis + 1) shape = drop_more shape axis 0 below in
    let there : drop axis (set index axis (left % n)) ≡ left % n ∷ drop (axis + 1) index = drop-set index axis (left % n) inside in
    record {
      within = omega arith;
      size = length-set index axis (left % n) ∙ found.size;
      later = rw (here, there) (mod-lt left some, found.later);
      low = div_below left n (count (take axis shape)) some (omega (arith, found.low, count-front shape axis below));
      is = rw (here, there) (regroup (left / n) (left % n) n (count (drop (axis + 1) shape)) left (div-add-mod' left n) (rank (drop (axis + 1) shape) (drop (axis + 1) index)) ∙ found.is);
    }
