-- Laws of runs in a block, forward and in reverse.
use Rattle.std.proofs.Common.{◌≡◌, ◌+◌, ◌-◌, ◌*◌, ◌<◌, ◌≤◌, ℕ, zero, suc, ℤ, pos, negsuc, ◌+ℤ◌, ◌*ℤ◌, ◌≤ℤ◌, List, [], ◌∷◌, length, refl, sym, ap, subst, ◌∙◌, arith, mul-le-mul_right, suc-mul, mul-add, neg_ℤ, nat_abs}
use Rattle.overlap_copy.proofs.Words.{*ℤ-zero, *ℤ-one, pos-*ℤ-negsuc, negsuc-*ℤ-pos, one, ints, position, place, EachWithin, copied_within, Run, max_bytes, IsIndex, IsNested, distance, run_offsets, length-run_offsets, place-at, AreAlike, IsAssigned, IsLine, AreSpaced, IsTurned, place_in}
use Rattle.overlap_copy.proofs.MoveLaws.{reordered, passed}

-- ---- the places of the items of a run

pub add-nothing : (at z y : ℤ) → z ≡ y → at +ℤ (z +ℤ pos 0) ≡ at +ℤ y
add-nothing at z y same = omega (arith, ints, same)

product : (t n j k : ℕ) → n ≡ j + k → t * n ≡ t * j + t * k
product t n j k is = ap (λ m. t * m) is ∙ mul-add t j k

turned_at : (at b n j k : ℕ) (s : ℤ) → n ≡ j + k → pos b ≡ pos at +ℤ s *ℤ pos n → pos b +ℤ pos k *ℤ neg_ℤ s ≡ pos at +ℤ pos j *ℤ s
turned_at at b n j k (pos zero) sum is = omega (arith, ints, is)
turned_at at b n j k (pos (suc t)) sum is = let all = product (suc t) n j k sum in let neg = pos-*ℤ-negsuc k t in omega (arith, ints, is, all, neg)
turned_at at b n j k (negsuc t) sum is = let all = product (suc t) n j k sum in let neg = pos-*ℤ-negsuc j t in let neg' = negsuc-*ℤ-pos t n in omega (arith, ints, is, all, neg, neg')

pub turned_position : (run back : Run) (k : ℕ) → IsTurned run back → k < run.count → position back.offset back.step k ≡ position run.offset run.step (run.count - 1 - k)
turned_position run back k t below =
    ap (λ s. pos back.offset +ℤ pos k *ℤ s) t.step ∙ turned_at run.offset back.offset (run.count - 1) (run.count - 1 - k) k run.step (omega (arith, below)) t.offset

pub turned_place : (run back : Run) (k : ℕ) → IsTurned run back → k < run.count → place_in back k ≡ place_in run (run.count - 1 - k)
turned_place run back k t below = ap nat_abs (turned_position run back k t below)

pub turned_within : (len item : ℕ) (run back : Run) → IsTurned run back → EachWithin len run.offset run.step item run.count → EachWithin len back.offset back.step item back.count
turned_within len item run back t within = record {
  each = λ k below.
      let is = turned_position run back k t (omega (arith, below, t.count)) in
      let there = within.each (run.count - 1 - k) (omega (arith, below, t.count)) in
      (subst (λ z. pos 0 ≤ℤ z) (sym is) there.0, subst (λ z. (z +ℤ pos item) ≤ℤ pos len) (sym is) there.1);
}

pub fewer_within : (len at : ℕ) (step : ℤ) (item m n : ℕ) → m ≤ n → EachWithin len at step item n → EachWithin len at step item m
fewer_within len at step item m n less within = record { each = λ k below. within.each k (omega (arith, below, less)) }

pub spaced : (len width : ℕ) (run : Run) → EachWithin len run.offset run.step width run.count → IsNested (run_offsets run) width → AreSpaced width run
spaced len width run within nested = record {
  apart = λ j k before below.
      let far = nested.apart j k before (omega (arith, below, length-run_offsets run)) in
      omega (arith, far, place-at len width run j within (omega (arith, before, below)), place-at len width run k within below);
}

back-spaced : (width : ℕ) (run back : Run) → IsTurned run back → AreSpaced width run → AreSpaced width back
back-spaced width run back t s = record {
  apart = λ j k before below.
      let n = run.count in
      let low : k < n = omega (arith, below, t.count) in
      let far = s.apart (n - 1 - k) (n - 1 - j) (omega (arith, before, low)) (omega (arith, before, low)) in
      omega (arith, far, turned_place run back j t (omega (arith, before, low)), turned_place run back k t low);
}

-- two runs with the same step, and both of them in reverse
module _ (width : ℕ) (old : List ℕ) (to from to' from' : Run) (a : AreAlike to from width old) (t : IsTurned to to') (t' : IsTurned from from') where
  pub back-alike : AreAlike to' from' width old
  back-alike = record {
    lie = record {
      count = t.count ∙ a.lie.count ∙ sym t'.count;
      to_in = turned_within (length old) width to to' t a.lie.to_in;
      from_in = turned_within (length old) width from from' t' a.lie.from_in;
    };
    two = omega (arith, a.two, t.count);
    step = t'.step ∙ ap neg_ℤ a.step ∙ sym t.step;
    spaced = back-spaced width to to' t a.spaced;
  }

  -- moving the reversed runs moves the same items
  pub back-moved : (new : List ℕ) → IsAssigned to'.count (place_in to') (place_in from') width old old new → IsAssigned to.count (place_in to) (place_in from) width old old new
  back-moved new moved =
      let n = to.count in
      reordered n (λ k. n - 1 - k) (place_in to) (place_in from) (place_in to') (place_in from') width old old new (λ k below. (omega (arith, below), omega (arith, below)))
      (λ k below.
      let j = n - 1 - k in
      let low : j < n = omega (arith, below) in
      let back : n - 1 - j ≡ k = omega (arith, below) in
      let back' : from.count - 1 - j ≡ k = omega (arith, below, a.lie.count) in
      (sym (turned_place to to' j t low ∙ ap (place_in to) back), sym (turned_place from from' j t' (omega (arith, low, a.lie.count)) ∙ ap (place_in from) back')))
      (subst (λ m. IsAssigned m (place_in to') (place_in from') width old old new) t.count moved)

-- ---- the direction in which moves are safe

later_by : (t j k : ℕ) → j < k → j * t + t ≤ k * t
later_by t j k before = let grown : suc j * t ≤ k * t = mul-le-mul_right t before in omega (arith, grown, suc-mul j t)

rises : (at t k : ℕ) → place at (pos t) k ≡ at + k * t
rises at t k = refl

-- an item of a run does not overlap the later items of the same run further on
meets-none : (width e d f : ℕ) (s : ℤ) → pos 0 ≤ℤ s → width ≤ distance (place e s 0) (place e s 1) → d ≤ f → (j k : ℕ) → j < k → width ≤ distance (place d s j) (place f s k)
meets-none width e d f (pos t) rising wide low j k before = let gap = later_by t j k before in omega (arith, wide, gap, low, rises e t 0, rises e t 1, rises d t j, rises f t k)
meets-none width e d f (negsuc t) rising wide low j k before = absurd (omega (arith, ints))

module _ (width : ℕ) (old : List ℕ) (to from : Run) (a : AreAlike to from width old) (rising : pos 0 ≤ℤ to.step) where
  wide : width ≤ distance (place_in to 0) (place_in to 1)
  wide = a.spaced.apart 0 1 (omega arith) a.two

  pub moved_forwards : to.offset ≤ from.offset → IsAssigned to.count (place_in to) (place_in from) width old old (copied_within to.offset to.step from.offset from.step width to.count old)
  moved_forwards low =
      passed to.offset to.step from.offset from.step width old to.count a.lie.to_in (subst (EachWithin (length old) from.offset from.step width) (sym a.lie.count) a.lie.from_in) (record {
        apart = a.spaced.apart;
        unread = λ j k before below. subst (λ s. width ≤ distance (place_in to j) (place from.offset s k)) (sym a.step) (meets-none width to.offset to.offset from.offset to.step rising wide low j k before);
      })

  pub moved_backwards : (to' from' : Run) → IsTurned to to' → IsTurned from from' → from.offset ≤ to.offset → IsAssigned to.count (place_in to) (place_in from) width old old (copied_within to'.offset to'.step from'.offset from'.step width to'.count old)
  moved_backwards to' from' t t' low =
      let n = to.count in
      let b = back-alike width old to from to' from' a t t' in
      back-moved width old to from to' from' a t t' (copied_within to'.offset to'.step from'.offset from'.step width to'.count old)
      (passed to'.offset to'.step from'.offset from'.step width old to'.count b.lie.to_in (subst (EachWithin (length old) from'.offset from'.step width) (sym b.lie.count) b.lie.from_in) (record {
        apart = b.spaced.apart;
        unread = λ j k before below.
            let inside : k < n = omega (arith, below, t.count) in
            let here = turned_place to to' j t (omega (arith, before, inside)) in
            let there = turned_place from from' k t' (omega (arith, inside, a.lie.count)) ∙ (λ i. place from.offset (a.step i) (sym a.lie.count i - 1 - k)) in
            let far = meets-none width to.offset from.offset to.offset to.step rising wide low (n - 1 - k) (n - 1 - j) (omega (arith, before, inside)) in
            omega (arith, here, there, far);
      }))

-- ---- a run within the limit of a buffer

start_le : (at len : ℕ) (s : ℤ) → s ≡ pos 0 → ((pos at +ℤ (s +ℤ pos 0)) +ℤ pos 1) ≤ℤ pos len → at ≤ len
start_le at len s none high = omega (arith, ints, none, high)

pub line_start : (run : Run) → IsLine max_bytes 1 run → run.offset ≤ max_bytes
line_start run line = start_le run.offset max_bytes (run.step *ℤ pos 0) (*ℤ-zero run.step) (line.lies.within (0 ∷ []) (omega (arith, line.two), tt))

end_within : (at len : ℕ) (s : ℤ) → pos 0 ≤ℤ (pos at +ℤ (s +ℤ pos 0)) → ((pos at +ℤ (s +ℤ pos 0)) +ℤ pos 1) ≤ℤ pos len → (pos 0 ≤ℤ (pos at +ℤ s)) × ((pos at +ℤ s) ≤ℤ pos len)
end_within at len s low high = (omega (arith, ints, low), omega (arith, ints, high))

pub line_end : (run : Run) → IsLine max_bytes 1 run → (pos 0 ≤ℤ (pos run.offset +ℤ run.step *ℤ pos (run.count - 1))) × ((pos run.offset +ℤ run.step *ℤ pos (run.count - 1)) ≤ℤ pos max_bytes)
line_end run line =
    let last : IsIndex (run.count ∷ []) ((run.count - 1) ∷ []) = (omega (arith, line.two), tt) in
    end_within run.offset max_bytes (run.step *ℤ pos (run.count - 1)) (line.lies.from_zero ((run.count - 1) ∷ []) last) (line.lies.within ((run.count - 1) ∷ []) last)

step_within : (at len : ℕ) (z s : ℤ) → z ≡ s → at ≤ len → pos 0 ≤ℤ (pos at +ℤ (z +ℤ pos 0)) → pos 0 ≤ℤ (s +ℤ pos len)
step_within at len z s is start low = omega (arith, ints, is, start, low)

pub line_step : (run : Run) → IsLine max_bytes 1 run → pos 0 ≤ℤ (run.step +ℤ pos max_bytes)
unfolding one
line_step run line = step_within run.offset max_bytes (run.step *ℤ pos 1) run.step (*ℤ-one run.step) (line_start run line) (line.lies.from_zero (1 ∷ []) (line.two, tt))
