-- Laws of new arrays: their contents, items that are cast, and names that are bound to them.
use Rattle.std.specs.Prelude.{◌≡◌, ◌*◌, ◌<◌, ◌≤◌, ◌⊎◌, ℕ, nat_le, Bool, IsTrue, if◌then◌else◌, List, [], ◌∷◌, map, Result, Ok, Err, IfOk, IfErr}
use Rattle.std.proofs.Common.{true, false, refl, sym, ap, ◌∙◌, subst, inl, inr, arith}
use Rattle.std.proofs.Math.Nat.{mul-div_cancel_left}
use Rattle.std.proofs.lemmas.Bool.{le-leb}
use Rattle.std.proofs.lemmas.Simd.{map-map}
use Rattle.bench_engine.specs.Words.{range_with_len, Refusal, OutOfMemory, NoSuchCast, TooLarge, Gives, check, ◌>>=◌, Descr, item_size, item_from, items_in, LeafValue, C, count, max_bytes, offsets, Owned, offsets_in, places_of, can_cast, cast_item, State, Array, ArrayRef, Shows, descr_of, read, has_room_for, bound_to, AnswersBind, Fresh}
use Rattle.bench_engine.specs.Contents.{Contents, array_over, new_contents}
use Rattle.bench_engine.specs.Replies.{bound_text}
use Rattle.bench_engine.specs.Machine.{Choice, Outcome, accepted_with, bound_new, cast_items, creation_outcome}
use Rattle.bench_engine.specs.declared.replies.Origin.{Origin}
use Rattle.bench_engine.specs.declared.replies.Origin.TheVariants as origin
use Rattle.bench_engine.specs.inside.Contract.{CarriesOut, IsRefused}
use Rattle.bench_engine.specs.inside.OwnContents.{IsInCOrder, held}

-- ---- contents

-- a refusal that is passed on
pub passed : {X Y : Type 0} (x : Result X Refusal) (y : Result Y Refusal) (e : Refusal) → (x ≡ Err e → y ≡ Err e) → (e ≡ OutOfMemory) ⊎ (x ≡ Err e) → (e ≡ OutOfMemory) ⊎ (y ≡ Err e)
passed x y e on (inl lacks) = inl lacks
passed x y e on (inr is) = inr (on is)

pub divided : (item : ℕ) (places : List ℕ) → 0 < item → places_of item (map (λ k. item * k) places) ≡ places
divided item [] some = refl
divided item (place ∷ places) some = λ i. mul-div_cancel_left place some i ∷ divided item places some i

-- the contents of an owned array with this block
pub held-is : (o : Owned) (descr : Descr) (shape bytes : List ℕ) (items : List (List LeafValue)) → o.descr ≡ descr → o.layout.shape ≡ shape → o.block ≡ bytes → items ≡ items_in descr (count shape) bytes → IsInCOrder o → new_contents descr shape items ≡ held o
held-is o descr shape bytes items typed shaped filled is order = λ i. record {
  shape = sym shaped i;
  places = places i;
  buffer = record { descr = sym typed i; items = (is ∙ λ j. items_in (sym typed j) (count (sym shaped j)) (sym filled j)) i };
}
  where
    places : range_with_len 0 (count shape) ≡ places_of (item_size o.descr) (offsets o.layout)
    places = ap (λ s. range_with_len 0 (count s)) (sym shaped) ∙ sym (ap (places_of (item_size o.descr)) order ∙ divided (item_size o.descr) (range_with_len 0 (count o.layout.shape)) (omega (arith, o.fills_block.some)))

-- its items lie in C order
pub in-order : (o : Owned) (descr : Descr) (shape : List ℕ) → o.descr ≡ descr → o.layout.shape ≡ shape → offsets o.layout ≡ offsets_in C (item_size descr) shape → IsInCOrder o
in-order o descr shape typed shaped laid = laid ∙ λ i. offsets_in C (item_size (sym typed i)) (sym shaped i)

-- ---- casts

refused-cast : {X : Type 0} (can few : Bool) (items : List (List LeafValue)) (make : List (List LeafValue) → X) (e : Refusal) → e ≡ (if can then (if few then OutOfMemory else TooLarge) else NoSuchCast) →
    (e ≡ OutOfMemory) ⊎ ((check can NoSuchCast >>= (λ _. Ok items)) >>= (λ items. check few TooLarge >>= (λ _. Ok (make items))) ≡ Err e)
refused-cast true true items make e is = inl is
refused-cast true false items make e is = inr (ap Err (sym is))
refused-cast false few items make e is = inr (ap Err (sym is))

-- A call that casts the items of an array returns what is made of them, or the refusal.
pub cast-answers : {X : Type 0} (view : Owned → X) (make : List (List LeafValue) → X) (s : State) (a : Array) (r : ArrayRef) (descr : Descr) (result : Result Owned Refusal) → Shows s a r →
    IfOk result (λ o. make (map (λ offset. cast_item r.descr.now descr (item_from r.descr.now r.block.now offset)) (offsets r.layout.now)) ≡ view o) → IfOk result (λ _. can_cast r.descr.now descr ≡ true) → IfOk result (λ _. count r.layout.now.shape * item_size descr ≤ max_bytes) →
    IfErr result (λ e. e ≡ (if can_cast r.descr.now descr then (if nat_le (count r.layout.now.shape * item_size descr) max_bytes then OutOfMemory else TooLarge) else NoSuchCast)) →
    Gives view result (cast_items s a descr >>= (λ items. check (nat_le (count a.shape * item_size descr) max_bytes) TooLarge >>= (λ _. Ok (make items))))
unfolding cast_items
cast-answers view make s a r descr (Ok o) shows made can few refused =
    rw (ap (λ (d : Descr). can_cast d descr) shows.descr ∙ can, le-leb (count a.shape * item_size descr) max_bytes fits)
    (ap Ok (ap make ((λ i. map (cast_item (shows.descr i) descr) (shows.reads i)) ∙ map-map (cast_item r.descr.now descr) (item_from r.descr.now r.block.now) (offsets r.layout.now)) ∙ made))
  where
    fits : count a.shape * item_size descr ≤ max_bytes
    fits = subst (λ (l : List ℕ). count l * item_size descr ≤ max_bytes) shows.view.laid.shape few
cast-answers view make s a r descr (Err e) shows made can few refused =
    refused-cast (can_cast (descr_of s a) descr) (nat_le (count a.shape * item_size descr) max_bytes) (map (cast_item (descr_of s a) descr) (read s a)) make e
    (refused ∙ λ i. if can_cast (sym shows.descr i) descr then (if nat_le (count (shows.view.laid.shape i) * item_size descr) max_bytes then OutOfMemory else TooLarge) else NoSuchCast)

-- ---- names that are bound

pub creation-refused : (s : State) (name : List ℕ) (contents : Result Contents Refusal) (e : Refusal) → has_room_for s name ≡ true → (e ≡ OutOfMemory) ⊎ (contents ≡ Err e) →
    IsRefused true (λ choice. creation_outcome choice s name contents) e
unfolding creation_outcome
creation-refused s name contents e room (inl lacks) = inl (lacks, refl)
creation-refused s name contents e room (inr bad) = inr (λ choice. rw (room, bad) refl)

-- the name is bound to the owned array, or the call is refused as out of memory
pub fresh-answers : (s new : State) (name : List ℕ) (may : Bool) (outcome : Choice → Outcome) (o : Owned) (contents : Contents) (result : Result (Unit {0}) Refusal) (text told : List ℕ) → may ≡ true → has_room_for s name ≡ true → contents ≡ held o →
    ((choice : Choice) → outcome choice ≡ accepted_with (bound_to s name (array_over choice.fresh contents) contents.buffer) text) → told ≡ text → AnswersBind s name (Fresh o) result new → CarriesOut may outcome s new told result
fresh-answers s new name may outcome o contents (Ok done) text told can room holds is same (_, (number, unused, binds)) =
    (record { fresh = number }, unused.unused, is (record { fresh = number }) ∙ ap (λ (c : Contents). accepted_with (bound_to s name (array_over number c) c.buffer) text) holds ∙ λ i. accepted_with (sym binds i) (sym same i))
fresh-answers s new name may outcome o contents (Err e) text told can room holds is same (kept, inl full) =
    let no : true ≡ false = sym room ∙ full.0 in cc
fresh-answers s new name may outcome o contents (Err e) text told can room holds is same (kept, inr lacks) = (kept, inl (lacks.1, can))

-- the same for a new array
pub new-answers : (s new : State) (name : List ℕ) (origin : Origin) (o : Owned) (result : Result (Unit {0}) Refusal) (told : List ℕ) → has_room_for s name ≡ true →
    told ≡ bound_text name o.descr o.layout.shape origin → AnswersBind s name (Fresh o) result new → CarriesOut true (λ choice. bound_new choice s name origin (held o)) s new told result
new-answers s new name origin o result told room same binds =
    fresh-answers s new name true (λ choice. bound_new choice s name origin (held o)) o (held o) result (bound_text name o.descr o.layout.shape origin) told refl room refl (λ choice. refl) same binds

-- a call that carries out one command carries out every command with the same outcomes
pub same-answers : (s new : State) (may may' : Bool) (outcome outcome' : Choice → Outcome) (told : List ℕ) (result : Result (Unit {0}) Refusal) → may' ≡ may → ((choice : Choice) → outcome' choice ≡ outcome choice) → CarriesOut may outcome s new told result → CarriesOut may' outcome' s new told result
same-answers s new may may' outcome outcome' told (Ok done) can same h = (h.0, h.1, same h.0 ∙ h.2)
same-answers s new may may' outcome outcome' told (Err e) can same (kept, inl lacks) = (kept, inl (lacks.0, subst IsTrue (sym can) lacks.1))
same-answers s new may may' outcome outcome' told (Err e) can same (kept, inr bad) = (kept, inr (λ choice. same choice ∙ bad choice))

-- if the command makes this array, binding the name to it carries out the command
pub made-answers : (s new : State) (name : List ℕ) (contents : Result Contents Refusal) (o : Owned) (result : Result (Unit {0}) Refusal) (told : List ℕ) → has_room_for s name ≡ true → contents ≡ Ok (held o) →
    CarriesOut true (λ choice. bound_new choice s name origin.New (held o)) s new told result → CarriesOut true (λ choice. creation_outcome choice s name contents) s new told result
unfolding creation_outcome
made-answers s new name contents o result told room good h =
    same-answers s new true true (λ choice. bound_new choice s name origin.New (held o)) (λ choice. creation_outcome choice s name contents) told result refl (λ choice. rw (room, good) refl) h
