use Rattle.std.proofs.Common.{◌≡◌, ◌&&◌, ◌∷◌, is_some, ℕ, true, false, List, Option, Some, None, Ok, Err, refl, sym, inr}
use Rattle.bench_engine.proofs.Words.{list_all, UnknownName, Viewing, State, find_array, is_bound, has_room_for, Array, err_from_is_err_and, and_parts, Choice, ViewOrCopy, seen, names_in_viewing, view_outcome, bound_seen, IsSeen}
use Rattle.bench_engine.proofs.Views.{refused-or, may-bind-seen, seen-answers}
use Rattle.bench_engine.proofs.Answered.{met}
use Rattle.bench_engine.proofs.view.view.Goals.{In_ok-array}
use Rattle.bench_engine.proofs.view.view.Goals as goal

unknown : (choice : Choice) (s : State) (name source : List ℕ) (how : Viewing) (found : Option Array) → find_array s.names source ≡ found → (is_some found && list_all (is_bound s) (names_in_viewing how)) ≡ false → view_outcome choice s name source how ≡ Err UnknownName
unfolding view_outcome
unknown choice s name source how None is none = rw is refl
unknown choice s name source how (Some a) is none = rw (is, none) refl

done : (choice : Choice) (s : State) (name source : List ℕ) (how : Viewing) (a : Array) (found : ViewOrCopy) → list_all (is_bound s) (names_in_viewing how) ≡ true → find_array s.names source ≡ Some a → has_room_for s name ≡ true → seen how s a ≡ Ok found →
    view_outcome choice s name source how ≡ bound_seen choice s name found
unfolding view_outcome
done choice s name source how a found named is room good = rw (is, named, room, good) refl

-- all names are bound
all-bound : (c : In_ok-array) → list_all (is_bound c.args.bench.now.state) (c.args.source.now ∷ names_in_viewing c.args.how.now) ≡ true
all-bound c = rw c.index_in.ensures at c.in_ok-array.ensures.0

named : (c : In_ok-array) → list_all (is_bound c.args.bench.now.state) (names_in_viewing c.args.how.now) ≡ true
named c = (and_parts _ _ (all-bound c)).1

pub returns-in_err-array-clause-answers : goal.returns-in_err-array-clause-answers
returns-in_err-array-clause-answers c =
    let p = err_from_is_err_and c.from_residual.result c.from_residual.ensures.1 in
    let none = rw c.index_in.ensures at c.in_err-array.ensures.1 in
    rw (p.1, p.2, c.in_err-array.ensures.0) (refl, inr (λ choice. unknown choice _ _ _ _ _ refl none))

pub returns-then-not-has_room_for-clause-answers : goal.returns-then-not-has_room_for-clause-answers
unfolding view_outcome
returns-then-not-has_room_for-clause-answers c =
    let at = (goal.at.returns-then-not-has_room_for-clause-answers c).In_ok-array in
    let it = c.in_ok-array.ensures.1 in
    (refl, inr (λ choice. rw (it.1, named at, sym c.if-not-has_room_for.ensures) refl))

pub seen-requires-clause-shown : goal.seen-requires-clause-shown
seen-requires-clause-shown c = (c.in_ok-array.ensures.1.0, c.in_ok-array.ensures.1.2)

pub seen-requires-clause-bound : goal.seen-requires-clause-bound
seen-requires-clause-bound c = named (goal.at.seen-requires-clause-bound c).In_ok-array

pub returns-in_err-viewed-clause-answers : goal.returns-in_err-viewed-clause-answers
unfolding view_outcome
returns-in_err-viewed-clause-answers c =
    let at = (goal.at.returns-in_err-viewed-clause-answers c).In_ok-array in
    let p = err_from_is_err_and c.from_residual-in_err-viewed.result c.from_residual-in_err-viewed.ensures.1 in
    let it = c.in_ok-array.ensures.1 in
    rw (p.1, p.2) (refl, refused-or _ _ _ _ (all-bound at) (c.in_err-viewed.ensures it.0 it.2) (λ bad choice. rw (it.1, named at, sym c.if-not-has_room_for.ensures, bad) refl))

pub bind-requires : goal.bind-requires
bind-requires c =
    let s = c.args.bench.now.state in
    let it = c.in_ok-array.ensures.1 in
    let is = met (IsSeen s) c.in_ok-viewed.viewed (seen c.args.how.now s it.0) (c.in_ok-viewed.ensures it.0 it.2) in
    may-bind-seen s c.in_ok-viewed.viewed.bound is.0 is.2.0

pub returns-clause-answers : goal.returns-clause-answers
returns-clause-answers c =
    let at = (goal.at.returns-clause-answers c).In_ok-array in
    let s = c.args.bench.now.state in
    let it = c.in_ok-array.ensures.1 in
    let is = met (IsSeen s) c.in_ok-viewed.viewed (seen c.args.how.now s it.0) (c.in_ok-viewed.ensures it.0 it.2) in
    seen-answers s c.bind.new.self.state c.args.name.now _ _ c.in_ok-viewed.viewed.bound c.in_ok-viewed.viewed.descr.now is.0 c.bind.result c.set_bound_text.new.out (all-bound at) (sym c.if-not-has_room_for.ensures)
    (λ choice. done choice s c.args.name.now c.args.source.now c.args.how.now it.0 is.0 (named at) it.1 (sym c.if-not-has_room_for.ensures) is.1)
    (rw (c.shape_and_origin-origin.ensures.shape, c.shape_and_origin-origin.ensures.origin) at c.in_ok-set_bound_text.ensures) is.2.0 is.2.1 c.bind.ensures.answers
