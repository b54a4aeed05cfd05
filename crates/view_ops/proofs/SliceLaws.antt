-- Laws of slices.
use Rattle.std.proofs.Common.{◌≡◌, ◌≢◌, ◌↔◌, ℕ, zero, suc, ◌+◌, ◌*◌, ◌<◌, ◌≤◌, true, false, ℤ, pos, negsuc, neg_ℤ, unsigned_abs, ◌+ℤ◌, ◌-ℤ◌, ◌*ℤ◌, ◌<ℤ◌, ◌≤ℤ◌, int_lt, List, ◌∷◌, map, Option, unwrap_or, Ok, Err, inl, inr, refl, sym, ap, ◌∙◌, arith}
use Rattle.view_ops.proofs.Words.{cases_Bool, Decides-int_eq, int_eq, ZeroStep, stepped, product_back, product_forth, counted_within, stepped_first, pos-natural, ints, clamps, by_lt_z, int_min, int_max, range_with_len, *ℤ-zero, natural, Progression, lowest, highest, start_of, stop_of, slice_indices, run_number, run_numbers, IsRunWithin}

pub clamp_low : (x low : ℤ) (n : ℕ) → low ≤ℤ int_min (int_max x low) (low +ℤ pos n)
clamp_low x low n = omega (arith, ints, clamps)

-- a slice with its bounds in range, the gap between them, and the number of steps in the gap
pub record IsSpan (n gap count : ℕ) (start stop step : ℤ) : Type 0 where
  pub some : step ≢ pos 0
  pub start_low : lowest step ≤ℤ start
  pub start_high : start ≤ℤ highest n step
  pub stop_low : lowest step ≤ℤ stop
  pub stop_high : stop ≤ℤ highest n step
  pub back : step <ℤ pos 0 → pos gap ≡ int_max (start -ℤ stop) (pos 0)
  pub forth : pos 0 ≤ℤ step → pos gap ≡ int_max (stop -ℤ start) (pos 0)
  pub steps : (k : ℕ) → (k < count) ↔ (k * unsigned_abs step < gap)

lowest_back : (step : ℤ) → step <ℤ pos 0 → lowest step ≡ negsuc 0
lowest_back step below = let test : int_lt step (pos 0) ≡ true = grind (arith, ints) in rw test

lowest_forth : (step : ℤ) → pos 0 ≤ℤ step → lowest step ≡ pos 0
lowest_forth step above = let test : int_lt step (pos 0) ≡ false = grind (arith, ints) in rw test

-- ---- the numbers are in range

back_range : (start stop low d : ℤ) (m gap n : ℕ) → low ≡ negsuc 0 → d ≡ neg_ℤ (pos m) → pos gap ≡ int_max (start -ℤ stop) (pos 0) → low ≤ℤ stop → start ≤ℤ (low +ℤ pos n) → m < gap → (pos 0 ≤ℤ (start +ℤ d)) × ((start +ℤ d) <ℤ pos n)
back_range start stop low d m gap n at is far first last near = (omega (arith, ints, clamps), omega (arith, ints, clamps))

forth_range : (start stop low d : ℤ) (m gap n : ℕ) → low ≡ pos 0 → d ≡ pos m → pos gap ≡ int_max (stop -ℤ start) (pos 0) → low ≤ℤ start → stop ≤ℤ (low +ℤ pos n) → m < gap → (pos 0 ≤ℤ (start +ℤ d)) × ((start +ℤ d) <ℤ pos n)
forth_range start stop low d m gap n at is far first last near = (omega (arith, ints, clamps), omega (arith, ints, clamps))

pub span_range : (n gap count : ℕ) (start stop step : ℤ) → IsSpan n gap count start stop step → (k : ℕ) → k < count → (pos 0 ≤ℤ (start +ℤ step *ℤ pos k)) × ((start +ℤ step *ℤ pos k) <ℤ pos n)
span_range n gap count start stop step s k low =
    let near = (s.steps k).0 low in
    by_lt_z step (pos 0)
    (λ below. back_range start stop (lowest step) (step *ℤ pos k) (k * unsigned_abs step) gap n (lowest_back step below) (product_back step k below) (s.back below) s.stop_low s.start_high near)
    (λ above. forth_range start stop (lowest step) (step *ℤ pos k) (k * unsigned_abs step) gap n (lowest_forth step above) (product_forth step k above) (s.forth above) s.start_low s.stop_high near)

back_gap : (start stop low : ℤ) (gap n : ℕ) → pos gap ≡ int_max (start -ℤ stop) (pos 0) → low ≤ℤ stop → start ≤ℤ (low +ℤ pos n) → gap ≤ n
back_gap start stop low gap n far first last = omega (arith, ints, clamps)

pub span_gap : (n gap count : ℕ) (start stop step : ℤ) → IsSpan n gap count start stop step → gap ≤ n
span_gap n gap count start stop step s =
    by_lt_z step (pos 0)
    (λ below. back_gap start stop (lowest step) gap n (s.back below) s.stop_low s.start_high)
    (λ above. back_gap stop start (lowest step) gap n (s.forth above) s.start_low s.stop_high)

pub span_count : (n gap count : ℕ) (start stop step : ℤ) → IsSpan n gap count start stop step → count ≤ n
span_count n gap count start stop step s = omega (arith, counted_within count gap step s.some s.steps, span_gap n gap count start stop step s)

-- ---- the lists

same_run : (start : ℤ) (run : Progression) (a n : ℕ) → (0 < n → pos run.first ≡ start) → map natural (map (λ k. start +ℤ run.step *ℤ pos k) (range_with_len a n)) ≡ map (run_number run) (range_with_len a n)
same_run start run a zero first = refl
same_run start run a (suc n) first =
    let is = first (omega arith) in
    λ i. natural (sym is i +ℤ run.step *ℤ pos a) ∷ same_run start run (a + 1) n (λ some. is) i

pub stepped-run : (n gap : ℕ) (start stop : ℤ) (run : Progression) → IsSpan n gap run.count start stop run.step → (0 < run.count → pos run.first ≡ start) → map natural (stepped n start stop run.step) ≡ run_numbers run
stepped-run n gap start stop run s first =
    ap (map natural) (stepped_first n run.count gap start stop run.step (record { back = s.back; forth = s.forth }) s.steps (span_count n gap run.count start stop run.step s)) ∙ same_run start run 0 run.count first

natural_below : (z : ℤ) (n : ℕ) → pos 0 ≤ℤ z → z <ℤ pos n → natural z < n
natural_below z n low high = let is = pos-natural z low in omega (arith, ints)

pub within-run : (n gap : ℕ) (start stop : ℤ) (run : Progression) → IsSpan n gap run.count start stop run.step → (0 < run.count → pos run.first ≡ start) → IsRunWithin run n
within-run n gap start stop run s first = record {
  moves = s.some;
  count_within = span_count n gap run.count start stop run.step s;
  from_zero = λ k low. rw (first (omega arith)) (span_range n gap run.count start stop run.step s k low).0;
  below = λ k low.
      let range = span_range n gap run.count start stop run.step s k low in
      rw (first (omega arith)) (natural_below (start +ℤ run.step *ℤ pos k) n range.0 range.1);
}

-- ---- a whole slice

not_equal : (a b : ℤ) → a ≢ b → int_eq a b ≡ false
not_equal a b other = elim (cases_Bool (int_eq a b)) [ inl same ↦ absurd (other ((Decides-int_eq a b).0 same)) | inr apart ↦ apart ]

pub slice_indices-zero : (n : ℕ) (start stop given : Option ℤ) (step : ℤ) → step ≡ unwrap_or given (pos 1) → step ≡ pos 0 → slice_indices n start stop given ≡ Err ZeroStep
unfolding slice_indices
slice_indices-zero n start stop given step is none =
    let test : int_eq (unwrap_or given (pos 1)) (pos 0) ≡ true = (Decides-int_eq (unwrap_or given (pos 1)) (pos 0)).1 (sym is ∙ none) in
    rw test

pub slice_indices-ok : (n : ℕ) (start stop given : Option ℤ) (step : ℤ) → step ≡ unwrap_or given (pos 1) → step ≢ pos 0 → slice_indices n start stop given ≡ Ok (map natural (stepped n (start_of n step start) (stop_of n step stop) step))
unfolding slice_indices
slice_indices-ok n start stop given step is some =
    let test : int_eq (unwrap_or given (pos 1)) (pos 0) ≡ false = not_equal (unwrap_or given (pos 1)) (pos 0) (λ same. some (is ∙ same)) in
    rw (is, test)

abs_of_max : (m start d : ℤ) → m ≡ int_max start (pos 0) → d ≡ pos 0 → pos 0 ≤ℤ (start +ℤ d) → pos (unsigned_abs m) ≡ start
abs_of_max (pos m) start d is none low = omega (arith, ints, clamps)
abs_of_max (negsuc m) start d is none low = absurd (omega (arith, ints, clamps))

-- If there are numbers, the first one is the start.
pub span_first : (n gap count : ℕ) (start stop step m : ℤ) → IsSpan n gap count start stop step → m ≡ int_max start (pos 0) → 0 < count → pos (unsigned_abs m) ≡ start
span_first n gap count start stop step m s is some =
    abs_of_max m start (step *ℤ pos 0) is (*ℤ-zero step) (span_range n gap count start stop step s 0 some).0

pub slice_indices-list : (n : ℕ) (start stop given : Option ℤ) (a b step : ℤ) (list : List ℕ) → step ≡ unwrap_or given (pos 1) → step ≢ pos 0 → a ≡ start_of n step start → b ≡ stop_of n step stop → map natural (stepped n a b step) ≡ list → slice_indices n start stop given ≡ Ok list
slice_indices-list n start stop given a b step list is some from to are =
    slice_indices-ok n start stop given step is some ∙ ap (λ x. Ok (map natural (stepped n x (stop_of n step stop) step))) (sym from) ∙ ap (λ x. Ok (map natural (stepped n a x step))) (sym to) ∙ ap Ok are
