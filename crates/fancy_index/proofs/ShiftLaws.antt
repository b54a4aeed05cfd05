-- The point at an index of the common shape.
use Rattle.std.proofs.Common.{◌≡◌, ℕ, ◌<◌, List, [], length, get_or, All, sym, ap, subst, ◌∙◌, arith}
use Rattle.fancy_index.proofs.Words.{count, rank, IsIndex, length-index, rank-lt, get_or-indexes, index_at, broadcast_index, IsIndex-broadcast, few-axes, PointList, IndexPart, AxisPart, PointsPart, BetweenPart, tuple, ranks_of, IsReady, HasPointAt, IsReadyAt}

-- ---- points

-- the rank of a point is one of the ranks
pub rank-low : (at : List ℕ) (p : PointList) → HasPointAt at p → rank p.lengths.items (broadcast_index p.lengths.items at) < length (ranks_of p.ranks)
rank-low at p has = omega (arith, rank-lt p.lengths.items (broadcast_index p.lengths.items at) has.within, has.list.many)

pub point-low : (at : List ℕ) (p : PointList) (d : ℕ) → HasPointAt at p → get_or (ranks_of p.ranks) (rank p.lengths.items (broadcast_index p.lengths.items at)) d < count p.axes.items
point-low at p d has = has.list.within (rank p.lengths.items (broadcast_index p.lengths.items at)) d (rank-low at p has)

pub tuple-is : (axes index : List ℕ) (r : ℕ) → IsIndex axes index → rank axes index ≡ r → index ≡ tuple axes r
tuple-is axes index r in' is = sym (get_or-indexes axes index [] in') ∙ ap (tuple axes) is

pub tuple-in : (axes : List ℕ) (r : ℕ) → r < count axes → IsIndex axes (tuple axes r)
tuple-in axes r low =
    let found = index_at axes r low in
    subst (IsIndex axes) (tuple-is axes found.0 r found.1 found.2) found.1

-- ---- parts

pub ready_at : (points at : List ℕ) → IsIndex points at → (part : IndexPart) → IsReady points part → IsReadyAt at part
ready_at points at in' (AxisPart pick) ready = tt
ready_at points at in' (PointsPart p) ready = record {
  list = ready.0;
  few = omega (arith, few-axes p.lengths.items points ready.1, length-index points at in');
  within = IsIndex-broadcast p.lengths.items points at ready.1 in';
  axes = ready.2;
}
ready_at points at in' BetweenPart ready = tt

pub all_ready_at : (points at : List ℕ) (parts : List IndexPart) → IsIndex points at → All (IsReady points) parts → All (IsReadyAt at) parts
all_ready_at points at parts in' ready = λ k d below. ready_at points at in' (get_or parts k d) (ready k d below)
