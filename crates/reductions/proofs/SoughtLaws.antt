-- The place of the best number is looked up in the last block that has a better number.
use Rattle.std.proofs.Common.{◌≡◌, ◌+◌, ◌-◌, ◌<◌, ◌⊎◌, inl, inr, ℕ, ℤ, Bool, List, ◌++◌, length, min, refl, sym, ap, subst, ◌∙◌, arith, append_assoc, length-append}
use Rattle.reductions.proofs.Words.{fold, fold-append, Scalar, Side, place, run_offsets, first_place, numbers_at, numbers_of, IsPart, better, is_better, HasFound, HasSought, better_same, better_taken, better_passed}
use Rattle.reductions.proofs.LineLaws.{front, part_numbers, length-numbers}

-- the first `n` numbers of a side, and the numbers of the block that begins after them
abbrev firsts : Scalar → Side → ℕ → List ℤ
firsts scalar s n = numbers_at scalar s.bytes.now (run_offsets (front n s.run))

abbrev pub block_at : Scalar → Side → ℕ → List ℤ
block_at scalar s n = numbers_at scalar s.bytes.now (run_offsets (record { offset = place s.run.offset s.run.step n; count = min 512 (s.run.count - n); step = s.run.step }))

-- `best` is the best number after the first `done` numbers of a side. If it came in a block, `before` numbers of the
-- side come before that block. If the old state still holds, `before` is the number of all numbers of the side.
pub record AreSought (greatest : Bool) (scalar : Scalar) (s : Side) (seen : ℕ) (held : ℤ) (at done : ℕ) (best : ℤ) (before : ℕ) : Type 0 where
  pub within : (before ≡ s.run.count) ⊎ (before < done)
  pub best_is : (first : ℤ) (earlier : List ℤ) → seen ≡ length earlier → HasFound (better greatest) held at first earlier → best ≡ fold (better greatest) first (earlier ++ firsts scalar s done)
  pub held_on : before ≡ s.run.count → best ≡ held
  pub stays : before ≡ s.run.count → (first : ℤ) (earlier : List ℤ) → seen ≡ length earlier → HasFound (better greatest) held at first earlier → HasFound (better greatest) held at first (earlier ++ firsts scalar s done)
  pub found : before < s.run.count → (first : ℤ) (earlier : List ℤ) → seen ≡ length earlier → HasFound (better greatest) held at first earlier →
      HasFound (better greatest) best (seen + before + first_place best (block_at scalar s before)) first (earlier ++ firsts scalar s done)

module _ (greatest : Bool) (scalar : Scalar) (s t : Side) (seen : ℕ) (held : ℤ) (at done n : ℕ) (low : done < s.run.count) (part : IsPart done (min 512 (s.run.count - done)) s t) (is_n : n ≡ min 512 (s.run.count - done)) where
  abbrev pub block : List ℤ
  block = numbers_of scalar t

  -- one more block
  more : (earlier : List ℤ) → (earlier ++ firsts scalar s done) ++ block ≡ earlier ++ firsts scalar s (done + n)
  more earlier =
      append_assoc earlier (firsts scalar s done) block
      ∙ ap (λ all. earlier ++ all) (part_numbers scalar s t done (min 512 (s.run.count - done)) low part ∙ ap (λ m. firsts scalar s (done + m)) (sym is_n))

  is_block : block ≡ block_at scalar s done
  is_block = λ i. numbers_at scalar (part.0 i) (run_offsets (part.2 i))

  pub sought-next : (best best' : ℤ) (before before' : ℕ) → AreSought greatest scalar s seen held at done best before → HasSought greatest block best before done best' before' → AreSought greatest scalar s seen held at (done + n) best' before'
  sought-next best best' before before' so_far next = elim next [
    | inl same ↦
        let kept : best ≡ fold (better greatest) best block = better_same greatest best (fold (better greatest) best block) block refl same.0 in
        let after : AreSought greatest scalar s seen held at (done + n) best before = record {
          within = elim so_far.within [ inl all ↦ inl all | inr less ↦ inr (omega (arith, less)) ];
          best_is = λ first earlier long was.
              kept
              ∙ ap (λ b. fold (better greatest) b block) (so_far.best_is first earlier long was)
              ∙ sym (fold-append (better greatest) first (earlier ++ firsts scalar s done) block)
              ∙ ap (fold (better greatest) first) (more earlier);
          held_on = so_far.held_on;
          stays = λ all first earlier long was.
              let b = so_far.held_on all in
              subst (HasFound (better greatest) held at first) (more earlier)
              (better_passed greatest held (fold (better greatest) held block) at first (earlier ++ firsts scalar s done) block (so_far.stays all first earlier long was) refl
              (ap (λ z. is_better greatest (fold (better greatest) z block) z) (sym b) ∙ same.0));
          found = λ less first earlier long was.
              subst (HasFound (better greatest) best (seen + before + first_place best (block_at scalar s before)) first) (more earlier)
              (better_passed greatest best (fold (better greatest) best block) (seen + before + first_place best (block_at scalar s before)) first (earlier ++ firsts scalar s done) block (so_far.found less first earlier long was) refl same.0);
        } in
        subst (λ b. AreSought greatest scalar s seen held at (done + n) b before') (sym same.1) (subst (λ k. AreSought greatest scalar s seen held at (done + n) best k) (sym same.2) after)
    | inr came ↦
        let z = fold (better greatest) best block in
        let some : 0 < n = omega (arith, low, is_n) in
        let after : AreSought greatest scalar s seen held at (done + n) z done = record {
          within = inr (omega (arith, some));
          best_is = λ first earlier long was.
              ap (λ b. fold (better greatest) b block) (so_far.best_is first earlier long was)
              ∙ sym (fold-append (better greatest) first (earlier ++ firsts scalar s done) block)
              ∙ ap (fold (better greatest) first) (more earlier);
          held_on = λ all. absurd (omega (arith, all, low));
          stays = λ all. absurd (omega (arith, all, low));
          found = λ less first earlier long was.
              let long' : length (earlier ++ firsts scalar s done) ≡ seen + done = length-append earlier (firsts scalar s done) ∙ omega (arith, long, length-numbers scalar s.bytes.now (front done s.run)) in
              subst (HasFound (better greatest) z (seen + done + first_place z (block_at scalar s done)) first) (more earlier)
              (subst (λ p. HasFound (better greatest) z p first ((earlier ++ firsts scalar s done) ++ block)) (λ i. long' i + first_place z (is_block i))
              (better_taken greatest best z first (earlier ++ firsts scalar s done) block (so_far.best_is first earlier long was) refl came.0));
        } in
        subst (λ b. AreSought greatest scalar s seen held at (done + n) b before') (sym came.1) (subst (λ k. AreSought greatest scalar s seen held at (done + n) z k) (sym came.2) after)
  ]
