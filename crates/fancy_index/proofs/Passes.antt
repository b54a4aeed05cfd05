-- Passes over the offsets of a plan: each step keeps what the whole pass must do.
use Rattle.std.proofs.Common.{◌≡◌, ℕ, ◌+◌, ◌*◌, ◌<◌, ◌≤◌, List, [], ◌∷◌, ◌++◌, map, length, get_or, drop, All, sym, ap, subst, ◌∙◌, arith, add-mul, zero-mul, length-append, append_assoc, append-nil, pos}
use Rattle.fancy_index.proofs.Words.{flat_map, map-append, drop_more, flat_map-append, All-head, All-tail, put, item_at, Run, LieWithin, max_bytes, run_offsets, assigned, joined_at, All-back, All-front, assigned-append, put_each, CanAppend, CanScatter, HaveAppended, IsRunOf, moved_offset, shifted_all, moved_all, IsMoved, packed, length-packed, packed-append, put_each-append}

-- ---- the remaining runs

pub record RunsLeft (base start : ℕ) (left : List Run) : Type 0 where
  pub some : All (λ run. 1 ≤ run.count) left
  pub lie : All (λ run. LieWithin (run.count ∷ []) (run.step ∷ []) run.offset max_bytes 1) left
  pub moved : All (IsMoved base start) (flat_map run_offsets left)

-- what a step needs of the next run
pub record CanMoveRun (base start : ℕ) (run : Run) : Type 0 where
  pub some : 1 ≤ run.count
  pub lies : LieWithin (run.count ∷ []) (run.step ∷ []) run.offset max_bytes 1
  pub moved : All (IsMoved base start) (run_offsets run)

pub next_run : (base start : ℕ) (run : Run) (left : List Run) → RunsLeft base start (run ∷ left) → CanMoveRun base start run
next_run base start run left have = record {
  some = All-head (λ run. 1 ≤ run.count) run left have.some;
  lies = All-head (λ run. LieWithin (run.count ∷ []) (run.step ∷ []) run.offset max_bytes 1) run left have.lie;
  moved = All-front (IsMoved base start) (run_offsets run) (flat_map run_offsets left) have.moved;
}

pub later_runs : (base start : ℕ) (run : Run) (left : List Run) → RunsLeft base start (run ∷ left) → RunsLeft base start left
later_runs base start run left have = record {
  some = All-tail (λ run. 1 ≤ run.count) run left have.some;
  lie = All-tail (λ run. LieWithin (run.count ∷ []) (run.step ∷ []) run.offset max_bytes 1) run left have.lie;
  moved = All-back (IsMoved base start) (run_offsets run) (flat_map run_offsets left) have.moved;
}

-- the offsets of the runs, moved to the new start
abbrev pub moved_runs : ℕ → ℕ → List Run → List ℕ
moved_runs base start left = map (moved_offset base start) (flat_map run_offsets left)

-- ---- items that are scattered

pub record Scattering (left : List ℕ) (at width end : ℕ) (items block whole : List ℕ) : Type 0 where
  pub rest : assigned left (packed at width (length left)) width items block ≡ whole
  pub inside : All (λ offset. offset + width ≤ length block) left
  pub ends : at + length left * width ≡ end
  pub room : end ≤ length items

both : (xs ys : List ℕ) (width : ℕ) → length (xs ++ ys) * width ≡ length xs * width + length ys * width
both xs ys width = ap (λ n. n * width) (length-append xs ys) ∙ add-mul (length xs) (length ys) width

pub scatter_front : (left xs ys : List ℕ) (at width end : ℕ) (items block whole : List ℕ) → left ≡ xs ++ ys → Scattering left at width end items block whole → CanScatter xs at width items block
scatter_front left xs ys at width end items block whole split have = record {
  inside = All-front (λ offset. offset + width ≤ length block) xs ys (subst (All (λ offset. offset + width ≤ length block)) split have.inside);
  room = omega (arith, have.ends, have.room, ap (λ l. length l * width) split, both xs ys width);
}

pub scattered_front : (left xs ys : List ℕ) (at at' width end : ℕ) (items block block' whole : List ℕ) → left ≡ xs ++ ys → block' ≡ assigned xs (packed at width (length xs)) width items block → length block' ≡ length block → at' ≡ at + length xs * width →
    Scattering left at width end items block whole → Scattering ys at' width end items block' whole
scattered_front left xs ys at at' width end items block block' whole split written same next have = record {
  rest =
      ap (λ a. assigned ys (packed a width (length ys)) width items block') next
      ∙ ap (assigned ys (packed (at + length xs * width) width (length ys)) width items) written
      ∙ sym (assigned-append xs (packed at width (length xs)) ys (packed (at + length xs * width) width (length ys)) width items block (sym (length-packed at width (length xs))))
      ∙ ap (λ from. assigned (xs ++ ys) from width items block) (sym (packed-append at width (length xs) (length ys)))
      ∙ ap (λ n. assigned (xs ++ ys) (packed at width n) width items block) (sym (length-append xs ys))
      ∙ ap (λ l. assigned l (packed at width (length l)) width items block) (sym split)
      ∙ have.rest;
  inside = subst (λ n. All (λ offset. offset + width ≤ n) ys) (sym same) (All-back (λ offset. offset + width ≤ length block) xs ys (subst (All (λ offset. offset + width ≤ length block)) split have.inside));
  ends = omega (arith, have.ends, ap (λ l. length l * width) split, both xs ys width, next);
  room = have.room;
}

-- ---- items that are pushed

-- the items at all offsets but those that are left are pushed
pub record Pushing (all left : List ℕ) (width : ℕ) (block : List ℕ) (old now : List ℕ × ℕ) : Type 0 where
  pub rest : now.0 ++ joined_at left width block ≡ old.0 ++ joined_at all width block
  pub inside : All (λ offset. offset + width ≤ length block) left
  pub ends : length all * width + now.1 ≡ old.1 + length left * width
  pub fits : length all * width ≤ old.1

pub push_front : (all left xs ys : List ℕ) (width : ℕ) (block : List ℕ) (old now : List ℕ × ℕ) → left ≡ xs ++ ys → Pushing all left width block old now → CanAppend xs width block now
push_front all left xs ys width block old now split have = record {
  inside = All-front (λ offset. offset + width ≤ length block) xs ys (subst (All (λ offset. offset + width ≤ length block)) split have.inside);
  room = omega (arith, have.ends, have.fits, ap (λ l. length l * width) split, both xs ys width);
}

pub pushed_front : (all left xs ys : List ℕ) (width : ℕ) (block : List ℕ) (old now new : List ℕ × ℕ) → left ≡ xs ++ ys → HaveAppended xs width block now new →
    Pushing all left width block old now → Pushing all ys width block old new
pushed_front all left xs ys width block old now new split pushed have = record {
  rest =
      ap (λ l. l ++ joined_at ys width block) pushed.bytes
      ∙ append_assoc now.0 (joined_at xs width block) (joined_at ys width block)
      ∙ ap (λ l. now.0 ++ l) (sym (flat_map-append (λ offset. item_at offset width block) xs ys))
      ∙ ap (λ l. now.0 ++ joined_at l width block) (sym split)
      ∙ have.rest;
  inside = All-back (λ offset. offset + width ≤ length block) xs ys (subst (All (λ offset. offset + width ≤ length block)) split have.inside);
  ends = omega (arith, have.ends, pushed.left, ap (λ l. length l * width) split, both xs ys width);
  fits = have.fits;
}

-- all items are pushed
pub pushed_all : (all left : List ℕ) (width : ℕ) (block : List ℕ) (old now : List ℕ × ℕ) → left ≡ [] → Pushing all left width block old now → HaveAppended all width block old now
pushed_all all left width block old now none have = record {
  bytes = sym (append-nil now.0) ∙ ap (λ l. now.0 ++ joined_at l width block) (sym none) ∙ have.rest;
  left = omega (arith, have.ends, ap (λ l. length l * width) none, zero-mul width);
}

-- ---- items that are filled

pub record Filling (left item block whole : List ℕ) : Type 0 where
  pub rest : put_each left item block ≡ whole
  pub inside : All (λ offset. offset + length item ≤ length block) left

pub fill_front : (left xs ys item block whole : List ℕ) → left ≡ xs ++ ys → Filling left item block whole → All (λ offset. offset + length item ≤ length block) xs
fill_front left xs ys item block whole split have =
    All-front (λ offset. offset + length item ≤ length block) xs ys (subst (All (λ offset. offset + length item ≤ length block)) split have.inside)

pub filled_front : (left xs ys item block block' whole : List ℕ) → left ≡ xs ++ ys → block' ≡ put_each xs item block → length block' ≡ length block → Filling left item block whole → Filling ys item block' whole
filled_front left xs ys item block block' whole split written same have = record {
  rest = ap (put_each ys item) written ∙ sym (put_each-append xs ys item block) ∙ ap (λ l. put_each l item block) (sym split) ∙ have.rest;
  inside = subst (λ n. All (λ offset. offset + length item ≤ n) ys) (sym same) (All-back (λ offset. offset + length item ≤ length block) xs ys (subst (All (λ offset. offset + length item ≤ length block)) split have.inside));
}

-- ---- run after run

pub split-runs : (base start : ℕ) (run : Run) (left left' : List Run) → left ≡ run ∷ left' → moved_runs base start left ≡ map (moved_offset base start) (run_offsets run) ++ moved_runs base start left'
split-runs base start run left left' walked = ap (moved_runs base start) walked ∙ map-append (moved_offset base start) (run_offsets run) (flat_map run_offsets left')

pub scattered_run : (left xs ys : List ℕ) (at width end : ℕ) (to from : Run) (items block block' whole : List ℕ) → left ≡ xs ++ ys → IsRunOf xs to → from ≡ record { offset = at; count = to.count; step = pos width } →
    block' ≡ assigned (run_offsets to) (run_offsets from) width items block → length block' ≡ length block →
    Scattering left at width end items block whole → Scattering ys (at + to.count * width) width end items block' whole
scattered_run left xs ys at width end to from items block block' whole split is from_is written same have =
    scattered_front left xs ys at (at + to.count * width) width end items block block' whole split
    (written ∙ (λ i. assigned (is.same i) (run_offsets (from_is i)) width items block) ∙ ap (λ n. assigned xs (packed at width n) width items block) is.count)
    same (ap (λ n. at + n * width) is.count) have

pub pushed_run : (all left xs ys : List ℕ) (width : ℕ) (run : Run) (block : List ℕ) (old now new : List ℕ × ℕ) → left ≡ xs ++ ys → IsRunOf xs run → new.0 ≡ now.0 ++ joined_at (run_offsets run) width block → run.count * width + new.1 ≡ now.1 →
    Pushing all left width block old now → Pushing all ys width block old new
pushed_run all left xs ys width run block old now new split is pushed room have =
    pushed_front all left xs ys width block old now new split
    (record { bytes = pushed ∙ ap (λ l. now.0 ++ joined_at l width block) is.same; left = ap (λ n. n * width + new.1) (sym is.count) ∙ room }) have

-- ---- shift after shift, and place after place

pub split-shifts : (base : ℕ) (inner : List ℕ) (place : ℕ) (shifts : List ℕ) (k start : ℕ) → k < length shifts → start ≡ moved_offset base place (get_or shifts k 0) →
    shifted_all base (drop k shifts) inner place ≡ map (moved_offset base start) inner ++ shifted_all base (drop (k + 1) shifts) inner place
split-shifts base inner place shifts k start low is =
    ap (λ l. shifted_all base l inner place) (drop_more shifts k 0 low) ∙ ap (λ s. map (moved_offset base s) inner ++ shifted_all base (drop (k + 1) shifts) inner place) (sym is)

pub split-places : (base : ℕ) (inner shifts left left' row : List ℕ) (place : ℕ) → left ≡ place ∷ left' → row ≡ shifted_all base shifts inner place →
    moved_all base left shifts inner ≡ row ++ moved_all base left' shifts inner
split-places base inner shifts left left' row place walked is = ap (λ l. moved_all base l shifts inner) walked ∙ ap (λ r. r ++ moved_all base left' shifts inner) (sym is)

-- ---- items that are copied one by one, from the offsets of a layout

pub record Copying (to left : List ℕ) (rank width : ℕ) (other block whole : List ℕ) : Type 0 where
  pub rest : assigned (drop rank to) left width other block ≡ whole
  pub many : rank + length left ≡ length to
  pub inside : All (λ offset. offset + width ≤ length block) to
  pub from : All (λ offset. offset + width ≤ length other) left

pub copied_one : (to left left' : List ℕ) (rank width source at : ℕ) (other block block' whole : List ℕ) → left ≡ source ∷ left' → at ≡ get_or to rank 0 → block' ≡ put at (item_at source width other) block → length block' ≡ length block →
    Copying to left rank width other block whole → Copying to left' (rank + 1) width other block' whole
copied_one to left left' rank width source at other block block' whole steps is written same have =
    let low : rank < length to = omega (arith, have.many, ap length steps) in
    record {
      rest =
          ap (assigned (drop (rank + 1) to) left' width other) (written ∙ ap (λ a. put a (item_at source width other) block) is)
          ∙ ap (λ t. assigned t (source ∷ left') width other block) (sym (drop_more to rank 0 low))
          ∙ ap (λ l. assigned (drop rank to) l width other block) (sym steps)
          ∙ have.rest;
      many = omega (arith, have.many, ap length steps);
      inside = λ k d below. omega (arith, have.inside k d below, same);
      from = All-tail (λ offset. offset + width ≤ length other) source left' (subst (All (λ offset. offset + width ≤ length other)) steps have.from);
    }
