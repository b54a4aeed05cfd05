-- Views of arrays: places for offsets, and names that are bound to them.
use Rattle.std.proofs.Common.{◌≡◌, ◌⊎◌, ℕ, Bool, true, false, List, refl, sym, ap, ◌∙◌, subst, Result, Ok, Err, inl, inr, Bor, IsTrue}
use Rattle.bench_engine.proofs.Words.{Refusal, OutOfMemory, ◌>>=◌, Descr, Layout, IsViewOf, GivesView, KeepsNested, State, has_room_for, bound_to, bound_view, addresses, AnswersBind, IsViewIn, MayBind, Shows, Bound, ArrayRef, View, Array, Viewed, IsOf, descr_seen, shape_of_bound, origin_of_bound, IsSeen, array_over, CarriesOut, IsRefused, Meets, bound_text, Choice, Outcome, ViewOrCopy, a_view, a_copy, viewed, bound_seen, accepted_with}
use Rattle.name_store.specs.declared.bound.Bound.TheVariants as bound
use Rattle.bench_engine.specs.declared.replies.Origin.TheVariants as origin
use Rattle.bench_engine.specs.NewArrayLaws.{fresh-answers}
use Rattle.bench_engine.proofs.Assigns.{lies-whole, lies-viewed}
use Rattle.bench_engine.proofs.Steps.{spare}

-- The view lies in the array's buffer. It may be written only if the array may, and if its items do not overlap.
seen : (s : State) (base : Array) (r : ArrayRef) (view : View) (new : Layout) (writable : Bool) → Shows s base r → IsViewOf r.layout.now new view → (IsTrue writable → IsTrue base.writable × KeepsNested r.layout.now new) →
    IsViewIn s r.number r.path.now new writable (record (viewed base view) { writable = writable })
seen s base r view new writable shows is free = let lies = lies-viewed s base base r.layout.now new view (lies-whole s base r shows) is in record {
  number_is = shows.view.number_is;
  path_is = shows.view.path_is;
  there = shows.view.there;
  laid = record {
    part = shows.view.laid.part;
    shape = is.shape;
    places = lies.offsets_are ∙ ap (λ (a : Array). addresses s (record base { places = a.places })) (sym lies.part_is);
    writable_is = refl;
    fits = is.fits _ _ shows.view.laid.fits;
    nested = λ yes. (free yes).1 _ (shows.view.laid.nested (shows.view.laid.writable_is ∙ (free yes).0));
  };
}

-- what is viewed is the machine's view
pub viewed-part : (s : State) (base : Array) (r : ArrayRef) (writable : Bool) (there : Result View Refusal) (x : Viewed) (layout : Layout) → Shows s base r → x.bound ≡ bound.View r.number r.path.now layout writable → x.descr ≡ r.descr →
    GivesView r.layout.now (Ok layout) there → (IsTrue writable → IsTrue base.writable × KeepsNested r.layout.now layout) → Meets (IsSeen s) (Ok x) (there >>= (λ view. Ok (a_view (record (viewed base view) { writable = writable }))))
viewed-part s base r writable (Err e) x layout shows is descr given free = absurd given
viewed-part s base r writable (Ok view) x layout shows is descr given free =
    (subst (λ (b : Bound). IsOf s b (a_view (record (viewed base view) { writable = writable }))) (sym is) (seen s base r view layout writable shows given free), shows.descr ∙ ap (λ (d : Bor Descr). d.now) (sym descr))

-- the name is bound to the view, or the call is refused as out of memory
bound-answers : (s new : State) (name : List ℕ) (may : Bool) (outcome : Choice → Outcome) (number : ℕ) (path : List ℕ) (layout : Layout) (writable : Bool) (array : Array) (result : Result (Unit {0}) Refusal) (text told : List ℕ) → may ≡ true →
    has_room_for s name ≡ true → ((choice : Choice) → outcome choice ≡ accepted_with (bound_view s name array) text) → told ≡ text → IsViewIn s number path layout writable array →
    AnswersBind s name (bound.View number path layout writable) result new → CarriesOut may outcome s new told result
bound-answers s new name may outcome number path layout writable array (Ok done) text told can room is same in' (_, binds) =
    let any = spare s in
    (any.0, any.1, is any.0 ∙ λ i. accepted_with (sym (binds array in') i) (sym same i))
bound-answers s new name may outcome number path layout writable array (Err e) text told can room is same in' (kept, inl full) =
    let no : true ≡ false = sym room ∙ full.0 in cc
bound-answers s new name may outcome number path layout writable array (Err e) text told can room is same in' (kept, inr lacks) = (kept, inl (lacks.1, can))

-- what is seen may be bound
pub may-bind-seen : (s : State) (what : Bound) (there : ViewOrCopy) → IsOf s what there → MayBind s what
may-bind-seen s (bound.View number path layout writable) (a_view array) is = (array, is)
may-bind-seen s (bound.View number path layout writable) (a_copy contents) is = absurd is
may-bind-seen s (bound.Fresh o) there is = tt

-- the name is bound to what is seen, or the call is refused as out of memory
pub seen-answers : (s new : State) (name : List ℕ) (may : Bool) (outcome : Choice → Outcome) (what : Bound) (descr : Descr) (there : ViewOrCopy) (result : Result (Unit {0}) Refusal) (told : List ℕ) → may ≡ true → has_room_for s name ≡ true →
    ((choice : Choice) → outcome choice ≡ bound_seen choice s name there) → told ≡ bound_text name descr (shape_of_bound what) (origin_of_bound what) → IsOf s what there → descr_seen s there ≡ descr →
    AnswersBind s name what result new → CarriesOut may outcome s new told result
seen-answers s new name may outcome (bound.View number path layout writable) descr (a_view array) result told can room is same view typed binds =
    bound-answers s new name may outcome number path layout writable array result (bound_text name descr layout.shape origin.View) told can room
    (λ choice. is choice ∙ λ i. accepted_with (bound_view s name array) (bound_text name (typed i) (sym view.laid.shape i) origin.View)) same view binds
seen-answers s new name may outcome (bound.View number path layout writable) descr (a_copy contents) result told can room is same view typed binds = absurd view
seen-answers s new name may outcome (bound.Fresh o) descr (a_view array) result told can room is same holds typed binds = absurd holds
seen-answers s new name may outcome (bound.Fresh o) descr (a_copy contents) result told can room is same holds typed binds =
    fresh-answers s new name may outcome o contents result (bound_text name descr o.layout.shape origin.Copy) told can room holds
    (λ choice. is choice ∙ λ i. accepted_with (bound_to s name (array_over choice.fresh contents) contents.buffer) (bound_text name (typed i) (holds i).shape origin.Copy)) same binds

-- if a call returns a view, the definition gives one too
pub given-view : (old new : Layout) (there : Result View Refusal) → GivesView old (Ok new) there → (view : View) × (there ≡ Ok view) × IsViewOf old new view
given-view old new (Ok view) is = (view, refl, is)
given-view old new (Err e) is = absurd is

-- a refusal is out of memory, or the machine's
pub refused-or : {X : Type 0} (may : Bool) (outcome : Choice → Outcome) (e : Refusal) (there : Result X Refusal) → may ≡ true → (e ≡ OutOfMemory) ⊎ (there ≡ Err e) → (there ≡ Err e → (choice : Choice) → outcome choice ≡ Err e) → IsRefused may outcome e
refused-or may outcome e there can (inl lacks) bad = inl (lacks, can)
refused-or may outcome e there can (inr is) bad = inr (bad is)
