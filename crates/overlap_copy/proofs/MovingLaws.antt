-- Runs that are moved within one block, one after the other.
use Rattle.std.proofs.Common.{◌≡◌, ◌+◌, ◌≤◌, ℕ, suc, List, [], ◌∷◌, ◌++◌, length, get_or, All, refl, sym, ap, subst, ◌∙◌, arith, length-append, get_or-append-add}
use Rattle.overlap_copy.proofs.Words.{Each, get_or_append_left, All-from_recursion, item_at, EachWithin, copied_within, Run, IsNested, distance, run_offsets, length-run_offsets, place-at, run-ends, All-back, All-front, assigned-append, items_at, with_items, assigned, Assigns, IsAssigned, RunsLie, LiesApart, LieApart, place_in}
use Rattle.overlap_copy.proofs.CopyLaws.{kept}
use Rattle.overlap_copy.proofs.MoveLaws.{same_assigned, retold, assigned_is, passed}

-- ---- parts of lists

pub Each-front : (P : ℕ → Type 0) (xs ys : List ℕ) → Each P (xs ++ ys) → Each P xs
Each-front P [] ys each = tt
Each-front P (x ∷ xs) ys each = (each.0, Each-front P xs ys each.1)

pub Each-back : (P : ℕ → Type 0) (xs ys : List ℕ) → Each P (xs ++ ys) → Each P ys
Each-back P [] ys each = each
Each-back P (x ∷ xs) ys each = Each-back P xs ys each.1

pub Each-append : {X : Type 0} (P : X → Type 0) (xs ys : List X) → Each P xs → Each P ys → Each P (xs ++ ys)
Each-append P [] ys first later = later
Each-append P (x ∷ xs) ys first later = (first.0, Each-append P xs ys first.1 later)

pub nested-front : (xs ys : List ℕ) (width : ℕ) → IsNested (xs ++ ys) width → IsNested xs width
nested-front xs ys width nested = record {
  apart = λ j k before below.
      let far = nested.apart j k before (omega (arith, length-append xs ys)) in
      omega (arith, far, get_or_append_left xs ys 0 j (omega arith), get_or_append_left xs ys 0 k below);
}

pub nested-back : (xs ys : List ℕ) (width : ℕ) → IsNested (xs ++ ys) width → IsNested ys width
nested-back xs ys width nested = record {
  apart = λ j k before below.
      let far = nested.apart (length xs + j) (length xs + k) (omega arith) (omega (arith, length-append xs ys)) in
      omega (arith, far, get_or-append-add xs ys j 0, get_or-append-add xs ys k 0);
}

-- parts of targets and of sources that do not overlap
pub fewer-targets : (width : ℕ) (xs ys from : List ℕ) → LieApart width (xs ++ ys) from → LieApart width xs from × LieApart width ys from
fewer-targets width xs ys from apart = (Each-front (λ at. LiesApart width at from) xs ys apart, Each-back (λ at. LiesApart width at from) xs ys apart)

pub fewer-sources : (width : ℕ) (to us vs : List ℕ) → LieApart width to (us ++ vs) → LieApart width to us × LieApart width to vs
fewer-sources width [] us vs apart = (tt, tt)
fewer-sources width (at ∷ to) us vs apart =
    let rest = fewer-sources width to us vs apart.1 in
    let near = λ (offset : ℕ). width ≤ distance offset at in
    ((Each-front near us vs apart.0, rest.0), (Each-back near us vs apart.0, rest.1))

-- ---- the remaining moves, in a block where the items that are still to be read are unchanged

pub record IsMoving (to from : List ℕ) (width : ℕ) (old block whole : List ℕ) : Type 0 where
  pub rest : assigned to from width old block ≡ whole
  pub len : length block ≡ length old
  pub to_in : All (λ at. at + width ≤ length old) to
  pub from_in : All (λ offset. offset + width ≤ length old) from
  pub kept : Each (λ offset. item_at offset width block ≡ item_at offset width old) from

pub moving_begins : (to from : List ℕ) (width : ℕ) (old : List ℕ) → All (λ at. at + width ≤ length old) to → All (λ offset. offset + width ≤ length old) from → IsMoving to from width old old (assigned to from width old old)
moving_begins to from width old to_in from_in = record { rest = refl; len = refl; to_in = to_in; from_in = from_in; kept = same from }
  where
    same : (from : List ℕ) → Each (λ offset. item_at offset width old ≡ item_at offset width old) from
    same [] = tt
    same (offset ∷ from) = (refl, same from)

same_items : (from : List ℕ) (width : ℕ) (block old : List ℕ) → Each (λ offset. item_at offset width block ≡ item_at offset width old) from → items_at from width block ≡ items_at from width old
same_items [] width block old same = refl
same_items (offset ∷ from) width block old same = λ i. same.0 i ∷ same_items from width block old same.1 i

-- the first source overlaps none of the targets
apart_from : (width offset : ℕ) (to from : List ℕ) → LieApart width to (offset ∷ from) → Each (λ at. width ≤ distance offset at) to × LieApart width to from
apart_from width offset [] from apart = (tt, tt)
apart_from width offset (at ∷ to) from apart = let rest = apart_from width offset to from apart.1 in ((apart.0.0, rest.0), (apart.0.1, rest.1))

-- the items that are read later are unchanged
kept_later : (later to from : List ℕ) (width : ℕ) (old block : List ℕ) → length block ≡ length old → All (λ at. at + width ≤ length old) to → All (λ offset. offset + width ≤ length old) from → All (λ offset. offset + width ≤ length old) later → LieApart width to later → Each (λ offset. item_at offset width block ≡ item_at offset width old) later → Each (λ offset. item_at offset width (assigned to from width old block) ≡ item_at offset width old) later
kept_later [] to from width old block len to_in from_in in' apart same = tt
kept_later (offset ∷ later) to from width old block len to_in from_in in' apart same =
    let one = apart_from width offset to later apart in
    let block_in : All (λ at. at + width ≤ length block) to = subst (λ n. All (λ at. at + width ≤ n) to) (sym len) to_in in
    let here = subst (λ n. offset + width ≤ n) (sym len) (in' 0 0 (omega arith)) in (
      kept width old offset to from block here block_in from_in (All-from_recursion (λ at. width ≤ distance offset at) to one.0) ∙ same.0,
      kept_later later to from width old block len to_in from_in (λ k d below. in' (suc k) d (omega arith)) one.1 same.1,
    )

-- some of the items are moved
pub moving_on : (to to' from from' : List ℕ) (width : ℕ) (old block block' whole : List ℕ) → length to ≡ length from → LieApart width to from' → Assigns to from width block block block' → IsMoving (to ++ to') (from ++ from') width old block whole → IsMoving to' from' width old block' whole
moving_on to to' from from' width old block block' whole even apart moved m =
    let same = Each-front (λ offset. item_at offset width block ≡ item_at offset width old) from from' m.kept in
    let is : block' ≡ assigned to from width old block = moved.written ∙ ap (λ items. with_items to items block) (same_items from width block old same) in
    let in_front = λ (o : ℕ). o + width ≤ length old in
    record {
      rest = ap (assigned to' from' width old) is ∙ sym (assigned-append to from to' from' width old block even) ∙ m.rest;
      len = moved.len ∙ m.len;
      to_in = All-back in_front to to' m.to_in;
      from_in = All-back in_front from from' m.from_in;
      kept = subst (λ b. Each (λ offset. item_at offset width b ≡ item_at offset width old) from') (sym is)
          (kept_later from' to from width old block m.len (All-front in_front to to' m.to_in) (All-front in_front from from' m.from_in) (All-back in_front from from' m.from_in) apart
          (Each-back (λ offset. item_at offset width block ≡ item_at offset width old) from from' m.kept));
    }

-- ---- one run

-- moves by index are an assignment
pub assigned_from_moves : {to from : Run} {width : ℕ} {old new : List ℕ} → RunsLie to from width old old → IsNested (run_offsets to) width → IsAssigned to.count (place_in to) (place_in from) width old old new → Assigns (run_offsets to) (run_offsets from) width old old new
assigned_from_moves {to} {from} {width} {old} {new} lie nested a =
    let tos = run_offsets to in
    let froms = run_offsets from in
    let len = length old in
    let long = length-run_offsets to in
    let long' = length-run_offsets from in
    let by_place : IsAssigned (length tos) (λ k. get_or tos k 0) (λ k. get_or froms k 0) width old old new =
    retold (length tos) (λ k. get_or tos k 0) (λ k. get_or froms k 0) (place_in to) (place_in from) width old old new (λ k below. (place-at len width to k lie.to_in (omega (arith, below, long)), place-at len width from k lie.from_in (omega (arith, below, long, lie.count)))) (subst (λ m. IsAssigned m (place_in to) (place_in from) width old old new) (sym long) a) in
    record {
      written = same_assigned (length tos) (λ k. get_or tos k 0) (λ k. get_or froms k 0) width old old new (assigned tos froms width old old) by_place (assigned_is width old tos froms old (omega (arith, long, long', lie.count)) (run-ends len width to lie.to_in) (run-ends len width from lie.from_in) nested);
      len = a.len;
    }

-- the items of a run can be moved one after the other if they overlap none of those that are read
pub apart_passed : {to from : Run} {width : ℕ} {old : List ℕ} → RunsLie to from width old old → IsNested (run_offsets to) width → LieApart width (run_offsets to) (run_offsets from) → IsAssigned to.count (place_in to) (place_in from) width old old (copied_within to.offset to.step from.offset from.step width to.count old)
apart_passed {to} {from} {width} {old} lie nested apart =
    let len = length old in
    let tos = run_offsets to in
    let froms = run_offsets from in
    let long = length-run_offsets to in
    let long' = length-run_offsets from in
    passed to.offset to.step from.offset from.step width old to.count lie.to_in (subst (EachWithin len from.offset from.step width) (sym lie.count) lie.from_in) (record {
      apart = λ j k before below.
          let far = nested.apart j k before (omega (arith, below, long)) in
          omega (arith, far, place-at len width to j lie.to_in (omega (arith, before, below)), place-at len width to k lie.to_in below);
      unread = λ j k before below.
          let row = All-from_recursion (λ at. LiesApart width at froms) tos apart j 0 (omega (arith, before, below, long)) in
          let far = All-from_recursion (λ offset. width ≤ distance offset (get_or tos j 0)) froms row k 0 (omega (arith, below, lie.count, long')) in
          omega (arith, far, place-at len width to j lie.to_in (omega (arith, before, below)), place-at len width from k lie.from_in (omega (arith, below, lie.count)));
    })
