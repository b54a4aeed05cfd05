-- Views of an array, and copies of its items, compared with those of the machine.
use Rattle.std.specs.Prelude.{◌≡◌, ℕ, List, Result}
use Rattle.bench_engine.specs.Words.{Descr, Refusal, Viewing, State, descr_of, Shows, IsViewIn, ArrayRef, Bound, Array}
use Rattle.name_store.specs.declared.bound.Bound.TheVariants as bound
use Rattle.bench_engine.specs.declared.view.Viewed.{Viewed}
use Rattle.bench_engine.specs.inside.OwnContents.{held}
use Rattle.bench_engine.specs.Machine.{ViewOrCopy, a_view, a_copy, seen}
use Rattle.bench_engine.specs.declared.replies.Origin.{Origin}
use Rattle.bench_engine.specs.declared.replies.Origin.TheVariants as origin
use Rattle.bench_engine.specs.inside.Meeting.{Meets}

-- the lookup shows an array of some state
abbrev pub IsShown : ArrayRef → Type 0
IsShown r = (s : State) × (array : Array) × Shows s array r

-- what is bound is the machine's view, or it has the contents of the machine's copy
abbrev pub IsOf : State → Bound → ViewOrCopy → Type 0
IsOf s (bound.View number path layout writable) (a_view array) = IsViewIn s number path layout writable array
IsOf s (bound.Fresh o) (a_copy contents) = contents ≡ held o
IsOf s bound there = ⊥

-- the element type of a view or a copy
abbrev pub descr_seen : State → ViewOrCopy → Descr
descr_seen s (a_view array) = descr_of s array
descr_seen s (a_copy contents) = contents.buffer.descr

-- what is viewed is the machine's view or copy, with its element type
abbrev pub IsSeen : State → Viewed → ViewOrCopy → Type 0
IsSeen s x there = IsOf s x.bound there × (descr_seen s there ≡ x.descr.now)

-- in each state that has the array, the result is the machine's view or copy of it
abbrev pub Sees : Viewing → ArrayRef → Result Viewed Refusal → Type 0
Sees how r result = (s : State) (array : Array) → Shows s array r → Meets (IsSeen s) result (seen how s array)

-- the same in one state
abbrev pub SeesIn : State → Viewing → ArrayRef → Result Viewed Refusal → Type 0
SeesIn s how r result = (array : Array) → Shows s array r → Meets (IsSeen s) result (seen how s array)

-- the shape of what is bound, and its origin in the reply
abbrev pub shape_of_bound : Bound → List ℕ
shape_of_bound (bound.View number path layout writable) = layout.shape
shape_of_bound (bound.Fresh o) = o.layout.shape

abbrev pub origin_of_bound : Bound → Origin
origin_of_bound (bound.View number path layout writable) = origin.View
origin_of_bound (bound.Fresh o) = origin.Copy
