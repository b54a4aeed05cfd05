-- Going through the runs of a layout, and turning ranks into offsets one after the other.
use Rattle.std.proofs.Common.{◌≡◌, ℕ, ◌+◌, ◌-◌, ◌<◌, ◌≤◌, ◌≤ℤ◌, List, [], ◌∷◌, ◌++◌, map, length, get_or, take, drop, All, refl, sym, ap, subst, ◌∙◌, arith, append-nil, length-drop, length-take-le, pos, ◌+ℤ◌, ◌*ℤ◌}
use Rattle.fancy_index.proofs.Words.{flat_map, take_all, drop_all, length-map, get_or-append_right, get_or-drop, All-head, All-tail, count, offsets, length-offsets, max_bytes, run_offsets, BeginsWithin, RunAt, IsAtRun}
use Rattle.fancy_index.proofs.RunLaws.{first-low, steps-low, steps-high, lies-there}
use Rattle.fancy_index.proofs.SumLaws.{NextRun, next_run}

-- ---- a run of a layout

module _ (at : RunAt) (is : IsAtRun at) where
  here : NextRun (offsets at.layout.now) at.first at.run (flat_map run_offsets at.later)
  here = next_run (offsets at.layout.now) at.first at.run (at.run ∷ at.later) at.later is.low is.left refl

  -- the next run
  pub next-at : (at' : RunAt) → at'.layout.now ≡ at.layout.now → at'.first ≡ at.first + at.run.count → at.later ≡ at'.run ∷ at'.later → IsAtRun at'
  next-at at' layout first walked = record {
    low = omega (arith, here.within, first, ap (λ l. length (offsets l)) layout);
    left = ap (flat_map run_offsets) (sym walked) ∙ here.later ∙ (λ i. drop (sym first i) (offsets (sym layout i)));
    lie = subst (All BeginsWithin) walked (All-tail BeginsWithin at.run at.later is.lie);
  }

  -- if the rank is after the current run, there is a next run
  pub not-last : (rank : ℕ) → rank < count at.layout.now.shape → at.first ≤ rank → at.run.count ≤ rank - at.first → at.later ≡ [] → ⊥
  not-last rank low from behind none =
      let left : [] ≡ drop (at.first + at.run.count) (offsets at.layout.now) = sym (ap (flat_map run_offsets) none) ∙ here.later in
      omega (arith, ap length left, length-drop (at.first + at.run.count) (offsets at.layout.now), length-offsets at.layout.now, low, from, behind)

  module _ (rank : ℕ) (from : at.first ≤ rank) (below : rank < at.first + at.run.count) where
    lies-here : BeginsWithin at.run
    lies-here = All-head BeginsWithin at.run at.later is.lie

    pub start : at.run.offset ≤ max_bytes
    start = first-low at.run lies-here (rank - at.first) (omega (arith, from, below))

    pub low : pos 0 ≤ℤ (pos at.run.offset +ℤ at.run.step *ℤ pos (rank - at.first))
    low = steps-low at.run lies-here (rank - at.first) (omega (arith, from, below))

    pub high : (pos at.run.offset +ℤ at.run.step *ℤ pos (rank - at.first)) ≤ℤ pos max_bytes
    high = steps-high at.run lies-here (rank - at.first) (omega (arith, from, below))

    pub offset-is : (offset : ℕ) → pos offset ≡ pos at.run.offset +ℤ at.run.step *ℤ pos (rank - at.first) → offset ≡ get_or (offsets at.layout.now) rank 0
    offset-is offset there =
        lies-there at.run lies-here (rank - at.first) (omega (arith, from, below)) offset there ∙ here.entry rank from below

-- ---- ranks that are turned into offsets

-- the rank at position `i` is not changed yet
pub not_yet : (f : ℕ → ℕ) (old now : List ℕ) (i : ℕ) → i < length old → now ≡ map f (take i old) ++ drop i old → get_or now i 0 ≡ get_or old i 0
not_yet f old now i low is =
    let done : length (map f (take i old)) ≡ i = length-map (take i old) f ∙ length-take-le i old (omega (arith, low)) in
    let same : i + (i - i) ≡ i = omega arith in
    ap (λ l. get_or l i 0) is
    ∙ get_or-append_right (map f (take i old)) (drop i old) i i 0 done (omega arith)
    ∙ get_or-drop i old (i - i) 0
    ∙ ap (λ k. get_or old k 0) same

pub holds_yet : (P : ℕ → Type 0) (f : ℕ → ℕ) (old now : List ℕ) (i : ℕ) → All P old → i < length old → now ≡ map f (take i old) ++ drop i old → P (get_or now i 0)
holds_yet P f old now i all low is = subst P (sym (not_yet f old now i low is)) (all i 0 low)

pub all_changed : (f : ℕ → ℕ) (old now : List ℕ) (i : ℕ) → length old ≤ i → now ≡ map f (take i old) ++ drop i old → now ≡ map f old
all_changed f old now i all is = is ∙ (λ j. map f (take_all i old all j) ++ drop_all i old all j) ∙ append-nil (map f old)
