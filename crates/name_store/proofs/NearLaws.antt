-- Targets with their places in another order.
use Rattle.std.proofs.Common.{◌+◌, ◌≤◌, length, refl}
use Rattle.name_store.proofs.Words.{IsPermutation, All-permutation, Layout, LayoutPair, item_pairs, offsets_within, offsets, fits-offsets, pair_even, firsts-reordered, nested-reordered, filled-reordered, View, IsNear}

pub is-near : (l : Layout) (pair : LayoutPair) → IsPermutation (item_pairs l l) (item_pairs pair.target pair.source) → IsNear (View l) (View pair.target)
is-near l pair same =
    let moved : IsPermutation (offsets l) (offsets pair.target) = firsts-reordered (offsets l) (offsets l) (offsets pair.target) (offsets pair.source) refl (pair_even pair) same in
    record {
      moved = moved;
      may = λ len width may. (
        fits-offsets pair.target len width (All-permutation (λ o. o + width ≤ len) (offsets l) (offsets pair.target) moved (offsets_within l len width may.0)),
        nested-reordered width (offsets l) (offsets pair.target) moved may.1,
      );
      fills = λ item block may. filled-reordered (offsets l) (offsets pair.target) item block may.1 (offsets_within l (length block) (length item) may.0) moved;
    }
