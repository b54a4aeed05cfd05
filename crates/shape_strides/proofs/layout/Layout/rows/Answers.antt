use Rattle.std.proofs.Common.{◌≡◌, ◌<◌, ◌≤◌, ◌/◌, ℕ, ℤ, List, [], ◌∷◌, All, map, take, refl, sym, ap, subst, ◌∙◌, arith}
use Rattle.shape_strides.proofs.Words.{flat_map, Layout, StridedAxis, Run, LieWithin, count, max_bytes, max_items, run_along, run_offsets, runs, AreAxes}
use Rattle.shape_strides.proofs.AddressOrderLaws.{layout-offsets}
use Rattle.shape_strides.proofs.FortranLaws.{count-take-le}
use Rattle.shape_strides.proofs.LastRunLaws.{runs-last_of, outside-axes, starts-count}
use Rattle.shape_strides.proofs.PairLaws.{runs-some_each}
use Rattle.shape_strides.proofs.RunBounds.{runs-lie}
use Rattle.shape_strides.proofs.RunLaws.{runs-none, runs-offsets}
use Rattle.shape_strides.proofs.layout.Layout.rows.Goals as goal
use Rattle.shape_strides.proofs.layout.Layout.rows.Goals.{After-over, After-last_run-last, After-over-starts}
use Rattle.shape_strides.proofs.AdvanceLaws.{layout_of}

-- The items of each run begin within the limit of a buffer.
lie : (l : Layout) (rs : List Run) → rs ≡ runs l → All (λ run. LieWithin (run.count ∷ []) (run.step ∷ []) run.offset max_bytes 1) rs
lie l rs are = subst (All (λ (run : Run). LieWithin (run.count ∷ []) (run.step ∷ []) run.offset max_bytes 1)) (sym are) (runs-lie l max_bytes 1 l.within_limit)

some : (l : Layout) (rs : List Run) → rs ≡ runs l → count l.shape ≤ max_items → All (λ run. 1 ≤ run.count) rs
some l rs are few = subst (All (λ (run : Run). 1 ≤ run.count)) (sym are) (runs-some_each l few)

-- ---- without items

starts-none : (c : After-over) → c.over.result ≡ runs c.args.self.now
starts-none c = c.over.ensures c.args.self.now (sym c.as_slice-lengths.ensures.value) (sym c.as_slice-strides.ensures) refl

rows-none : (c : After-over) (along : StridedAxis) → map (run_along along) (flat_map run_offsets c.over.result) ≡ runs c.args.self.now
rows-none c along =
    let l = c.args.self.now in
    let none = runs-none l (omega (arith, c.items-items.ensures.value, c.if-items-eq0.true)) in
    ap (λ rs. map (run_along along) (flat_map run_offsets rs)) (starts-none c ∙ none) ∙ sym none

pub returns-then-items-eq0-clause-offsets : goal.returns-then-items-eq0-clause-offsets
returns-then-items-eq0-clause-offsets c = ap (flat_map run_offsets) (rows-none c _) ∙ runs-offsets c.args.self.now

pub returns-then-items-eq0-clause-lie : goal.returns-then-items-eq0-clause-lie
returns-then-items-eq0-clause-lie c = lie c.args.self.now _ (rows-none c _)

pub returns-then-items-eq0-clause-begin : goal.returns-then-items-eq0-clause-begin
returns-then-items-eq0-clause-begin c = lie c.args.self.now _ (starts-none c)

pub returns-then-items-eq0-clause-some : goal.returns-then-items-eq0-clause-some
returns-then-items-eq0-clause-some c = some c.args.self.now _ (starts-none c) (omega (arith, c.items-items.ensures.value, c.items-items.ensures.limit))

-- ---- the axes outside of the rows

axes-of : (l : Layout) (lengths : List ℕ) (strides : List ℤ) (k : ℕ) → lengths ≡ l.shape → strides ≡ l.strides → All (λ n. n ≤ max_items) l.shape → 0 < count l.shape → count l.shape ≤ max_items → AreAxes (take k lengths) (take k strides) l.offset
axes-of l lengths strides k is is' small some few =
    let all : AreAxes l.shape l.strides l.offset = record { one_stride_an_axis = l.one_stride_an_axis; small = small; within_limit = l.within_limit; zero_if_empty = l.zero_if_empty } in
    subst (λ ns. AreAxes (take k ns) (take k strides) l.offset) (sym is) (subst (λ zs. AreAxes (take k l.shape) (take k zs) l.offset) (sym is') (outside-axes l.shape l.strides l.offset k some few all))

pub over-starts-requires-clause-axes : goal.over-starts-requires-clause-axes
over-starts-requires-clause-axes c =
    axes-of c.args.self.now c.as_slice-lengths.result.now c.as_slice-strides.result.now c.last_run-last.result.outside c.as_slice-lengths.ensures.value c.as_slice-strides.ensures c.as_slice-lengths.ensures.lengths
    (omega (arith, c.items-items.ensures.value, c.if-items-eq0.false)) c.as_slice-lengths.ensures.items

counted : (c : After-last_run-last) → (0 < c.last_run-last.result.along.len) × (c.items-items.result / c.last_run-last.result.along.len ≡ count (take c.last_run-last.result.outside c.as_slice-lengths.result.now))
counted c =
    let last = c.last_run-last.result in
    starts-count c.as_slice-lengths.result.now c.as_slice-strides.result.now c.items-items.result last.outside last.along
    (c.items-items.ensures.value ∙ sym (ap count c.as_slice-lengths.ensures.value)) (omega (arith, c.if-items-eq0.false)) c.last_run-last.ensures

pub nonzero_div-items : goal.nonzero_div-items
nonzero_div-items c = (counted (goal.at.nonzero_div-items c).After-last_run-last).0

pub over-starts-requires-clause-items : goal.over-starts-requires-clause-items
over-starts-requires-clause-items c = (counted (goal.at.over-starts-requires-clause-items c).After-last_run-last).1

outside-axes_are : (c : After-over-starts) → AreAxes (take c.last_run-last.result.outside c.as_slice-lengths.result.now) (take c.last_run-last.result.outside c.as_slice-strides.result.now) c.args.self.now.offset
outside-axes_are c =
    axes-of c.args.self.now c.as_slice-lengths.result.now c.as_slice-strides.result.now c.last_run-last.result.outside c.as_slice-lengths.ensures.value c.as_slice-strides.ensures c.as_slice-lengths.ensures.lengths
    (omega (arith, c.items-items.ensures.value, c.if-items-eq0.false)) c.as_slice-lengths.ensures.items

outside : (c : After-over-starts) → Layout
outside c = layout_of (take c.last_run-last.result.outside c.as_slice-lengths.result.now) (take c.last_run-last.result.outside c.as_slice-strides.result.now) c.args.self.now.offset (outside-axes_are c)

starts : (c : After-over-starts) → c.over-starts.result ≡ runs (outside c)
unfolding outside
starts c = c.over-starts.ensures (outside c) refl refl refl

few : (c : After-over-starts) → count (outside c).shape ≤ max_items
unfolding outside
few c =
    let lengths = c.as_slice-lengths.result.now in
    let many : count lengths ≡ c.items-items.result = ap count c.as_slice-lengths.ensures.value ∙ sym c.items-items.ensures.value in
    omega (arith, count-take-le lengths c.last_run-last.result.outside (omega (arith, many, c.if-items-eq0.false)), many, c.items-items.ensures.limit)

rows : (c : After-over-starts) → map (run_along c.last_run-last.result.along) (flat_map run_offsets c.over-starts.result) ≡ runs c.args.self.now
unfolding outside
rows c =
    let last = c.last_run-last.result in
    let lengths = c.as_slice-lengths.result.now in let strides = c.as_slice-strides.result.now in let offset = c.args.self.now.offset in
    let many : count lengths ≡ c.items-items.result = ap count c.as_slice-lengths.ensures.value ∙ sym c.items-items.ensures.value in
    ap (map (run_along last.along)) (ap (flat_map run_offsets) (starts c) ∙ runs-offsets (outside c) ∙ layout-offsets (take last.outside lengths) (take last.outside strides) offset (outside-axes_are c))
    ∙ runs-last_of c.args.self.now lengths strides offset last.outside last.along (sym c.as_slice-lengths.ensures.value) (sym c.as_slice-strides.ensures) refl
    (omega (arith, many, c.if-items-eq0.false)) c.last_run-last.ensures

pub returns-clause-offsets : goal.returns-clause-offsets
returns-clause-offsets c = ap (flat_map run_offsets) (rows (goal.at.returns-clause-offsets c).After-over-starts) ∙ runs-offsets c.args.self.now

pub returns-clause-lie : goal.returns-clause-lie
returns-clause-lie c = lie c.args.self.now _ (rows (goal.at.returns-clause-lie c).After-over-starts)

pub returns-clause-begin : goal.returns-clause-begin
returns-clause-begin c = lie _ _ (starts (goal.at.returns-clause-begin c).After-over-starts)

pub returns-clause-some : goal.returns-clause-some
returns-clause-some c = let at = (goal.at.returns-clause-some c).After-over-starts in some _ _ (starts at) (few at)
