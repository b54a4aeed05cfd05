-- Pairs of runs: those of layouts that are single runs, and those that are copied pair by pair.
use Rattle.std.proofs.Common.{◌≡◌, ℕ, ◌+◌, ◌≤◌, List, ◌∷◌, All, length, sym, ap, subst, ◌∙◌}
use Rattle.overlap_copy.proofs.Words.{All-firsts, All-seconds, ArePaired, CanMove, IsPermutation, LayoutPair, Run, RunLies, RunPair, RunsLie, runs-within, pair_even, zip, run_offsets, length-run_offsets, Layout, count, offsets, offsets_within, length-offsets, BeginsWithin, run-within, assigned-append, assigned, firsts, seconds}

-- ---- as many items

pub same-count : (first second : Layout) → length (offsets second) ≡ length (offsets first) → count first.shape ≡ count second.shape
same-count first second even = sym (length-offsets first) ∙ sym even ∙ length-offsets second

pub move-paired : {dst src : Layout} {width : ℕ} {block : List ℕ} → CanMove dst src width block → ArePaired (offsets dst) (offsets src) width block block
move-paired {dst} {src} {width} {block} can =
    record { to_in = offsets_within dst (length block) width can.dst_fits; from_in = offsets_within src (length block) width can.src_fits; count = can.count }

-- the other way round
pub flipped-paired : {to from : List ℕ} {width : ℕ} {other block : List ℕ} → ArePaired to from width other block → ArePaired from to width block other
flipped-paired paired = record { to_in = paired.from_in; from_in = paired.to_in; count = sym paired.count }

-- in another order
pub paired-reordered : {to from : List ℕ} {width : ℕ} {other block : List ℕ} (pair : LayoutPair) → IsPermutation (zip to from) (zip (offsets pair.target) (offsets pair.source)) → ArePaired to from width other block
    → ArePaired (offsets pair.target) (offsets pair.source) width other block
paired-reordered {to} {from} {width} {other} {block} pair same paired =
    let even = pair_even pair in
    record {
      to_in = All-firsts (λ o. o + width ≤ length block) to from (offsets pair.target) (offsets pair.source) paired.count even same paired.to_in;
      from_in = All-seconds (λ o. o + width ≤ length other) to from (offsets pair.target) (offsets pair.source) paired.count even same paired.from_in;
      count = even;
    }

-- of two runs
pub runs-lie : {to from : List ℕ} {width : ℕ} {other block : List ℕ} (first second : Run) → run_offsets first ≡ to → run_offsets second ≡ from → BeginsWithin first → BeginsWithin second → ArePaired to from width other block → RunsLie first second width other block
runs-lie {to} {from} {width} {other} {block} first second is is' begins begins' paired = record {
  count = sym (length-run_offsets first) ∙ ap length is ∙ sym paired.count ∙ ap length (sym is') ∙ length-run_offsets second;
  to_in = run-within (length block) width first begins (subst (All (λ offset. offset + width ≤ length block)) (sym is) paired.to_in);
  from_in = run-within (length other) width second begins' (subst (All (λ offset. offset + width ≤ length other)) (sym is') paired.from_in);
}

-- of each pair of two layouts
pub pairs-lie : {to from : List ℕ} {width : ℕ} {other block : List ℕ} (pairs : List RunPair) → firsts pairs ≡ to → seconds pairs ≡ from → All (λ p. p.first.count ≡ p.second.count) pairs → All (λ p. BeginsWithin p.first) pairs → All (λ p. BeginsWithin p.second) pairs
    → ArePaired to from width other block → All (λ p. RunsLie p.first p.second width other block) pairs
pairs-lie {to} {from} {width} {other} {block} pairs is is' counts begin begin' paired =
    let to_in = runs-within (length block) width (λ p. p.first) pairs begin (subst (All (λ offset. offset + width ≤ length block)) (sym is) paired.to_in) in
    let from_in = runs-within (length other) width (λ p. p.second) pairs begin' (subst (All (λ offset. offset + width ≤ length other)) (sym is') paired.from_in) in
    λ k d below. record { count = counts k d below; to_in = to_in k d below; from_in = from_in k d below }

-- and they still do in blocks of the same lengths
pub lie-still : {to from : Run} {width : ℕ} {other block : List ℕ} (other' block' : List ℕ) → length other' ≡ length other → length block' ≡ length block → RunsLie to from width other block → RunsLie to from width other' block'
lie-still {to} {from} {width} other' block' same same' lie =
    record { count = lie.count; to_in = subst (λ n. RunLies n width to) (sym same') lie.to_in; from_in = subst (λ n. RunLies n width from) (sym same) lie.from_in }

-- ---- pair by pair

-- the next pair is copied
pub copied-pair : (left left' : List RunPair) (pair : RunPair) (width : ℕ) (other block block' whole : List ℕ) → left ≡ pair ∷ left' → pair.first.count ≡ pair.second.count →
    block' ≡ assigned (run_offsets pair.first) (run_offsets pair.second) width other block → assigned (firsts left) (seconds left) width other block ≡ whole → assigned (firsts left') (seconds left') width other block' ≡ whole
copied-pair left left' pair width other block block' whole walked even is so_far =
    ap (assigned (firsts left') (seconds left') width other) is
    ∙ sym (assigned-append (run_offsets pair.first) (run_offsets pair.second) (firsts left') (seconds left') width other block (length-run_offsets pair.first ∙ even ∙ sym (length-run_offsets pair.second)))
    ∙ (λ i. assigned (firsts (sym walked i)) (seconds (sym walked i)) width other block)
    ∙ so_far
