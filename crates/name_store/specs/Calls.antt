-- What the calls of a bench return, and how they change it.
use Rattle.std.specs.Prelude.{◌≡◌, ◌<◌, ◌≤◌, ◌⊎◌, ◌&&◌, ◌-◌, ◌*◌, ℕ, Bool, true, false, List, [], ◌∷◌, ◌++◌, length, take, Result, Ok, Err, Some, None, All}
use Rattle.name_store.specs.Words.{get, keep_last, Refusal, OutOfMemory, TooManyNames, UnknownName, NothingToUndo, Owned, item_size, LeafValue, count, offsets, places_of, items_in}
use Rattle.name_store.specs.States.{State, Array, BenchValue, Buffer}
use Rattle.name_store.specs.Arrays.{has_kept, undone, is_bound, has_room_for, bound_to, bound_view, unbound, descr_of, written, find_array, share_cells}
use Rattle.name_store.specs.Targets.{target_offsets, LeadsTo, Supplies}
use Rattle.name_store.specs.declared.target.Source.{Source}
use Rattle.name_store.specs.declared.target.Target.{Target}
use Rattle.name_store.specs.declared.bound.Bound.{Bound}
use Rattle.name_store.specs.declared.bound.Bound.TheVariants.{Fresh, View}
use Rattle.name_store.specs.Views.{IsViewIn}

-- the buffer of an array that owns its block
abbrev pub own_buffer : Owned → Buffer
own_buffer o = record { descr = o.descr; items = items_in o.descr (count o.layout.shape) o.block }

-- an array that owns its block, as an array in buffer `number`
abbrev pub own_array : ℕ → Owned → Array
own_array number o =
    record { buffer = number; path = []; shape = o.layout.shape; places = places_of (item_size o.descr) (offsets o.layout); writable = true }

-- a buffer number that neither the state nor a kept state uses
pub record IsUnused (s : State) (number : ℕ) : Type 0 where
  pub unused : get s.buffers number ≡ None
  pub unkept : All (λ state. get state.1 number ≡ None) s.kept

-- the smallest buffer number that neither the state nor a kept state uses
pub record IsLeastUnused (s : State) (number : ℕ) : Type 0 where
  pub unused : IsUnused s number
  pub least : (m : ℕ) → m < number → IsUnused s m → ⊥

-- The state after a name is bound. A new buffer gets the smallest unused number.
abbrev pub Binds : State → List ℕ → Bound → State → Type 0
Binds old name (Fresh o) new =
    (number : ℕ) × IsLeastUnused old number × (new ≡ bound_to old name (own_array number o) (own_buffer o))
Binds old name (View number path layout writable) new =
    (array : Array) → IsViewIn old number path layout writable array → new ≡ bound_view old name array

-- The name is bound if there is room for it. Otherwise, or if memory runs out, the call is refused and nothing changes.
abbrev pub AnswersBind : State → List ℕ → Bound → Result (Unit {0}) Refusal → State → Type 0
AnswersBind old name bound (Ok _) new = (has_room_for old name ≡ true) × Binds old name bound new
AnswersBind old name bound (Err refusal) new =
    (new ≡ old) × (((has_room_for old name ≡ false) × (refusal ≡ TooManyNames)) ⊎ ((has_room_for old name ≡ true) × (refusal ≡ OutOfMemory)))

-- A bound name is unbound. If the name is not bound, or if memory runs out, the call is refused and nothing changes.
-- Memory is needed only to keep the earlier state, so it cannot run out if `depth` is 0.
abbrev pub AnswersUnbind : State → List ℕ → Result (Unit {0}) Refusal → State → Type 0
AnswersUnbind old name (Ok _) new = (is_bound old name ≡ true) × (new ≡ unbound old name)
AnswersUnbind old name (Err refusal) new =
    (new ≡ old) × (((is_bound old name ≡ false) × (refusal ≡ UnknownName)) ⊎ ((is_bound old name ≡ true) × (refusal ≡ OutOfMemory) × (1 ≤ old.depth)))

-- The last kept state is restored. If there is none, the call is refused and nothing changes.
abbrev pub AnswersUndo : State → Result (Unit {0}) Refusal → State → Type 0
AnswersUndo old (Ok _) new = (has_kept old ≡ true) × (new ≡ undone old)
AnswersUndo old (Err refusal) new = (has_kept old ≡ false) × (refusal ≡ NothingToUndo) × (new ≡ old)

-- The items are written to the target, and their number is returned. The call is refused only if memory runs out, and
-- then nothing changes.
abbrev pub AnswersWrite : State → List ℕ → Target → Source → Result ℕ Refusal → State → Type 0
AnswersWrite old name target source (Ok n) new =
    (n ≡ length (target_offsets target))
    × ((array : Array) (places : List ℕ) (items : List (List LeafValue)) → LeadsTo old name target array places → Supplies old (descr_of old array) n source items
    → new ≡ written old array places items)
AnswersWrite old name target source (Err refusal) new = (new ≡ old) × (refusal ≡ OutOfMemory)

-- A change appends to `patches` the number of old bytes that are kept to undo it. Only the last `depth` numbers remain.
-- If the call is refused, nothing changes.
abbrev pub Counts : {A : Type 0} → ℕ → BenchValue → Result A Refusal → BenchValue → Type 0
Counts bytes old (Ok _) new = new.patches ≡ keep_last old.state.depth (old.patches ++ bytes ∷ [])
Counts bytes old (Err _) new = new ≡ old

-- the same for a write: the old bytes are those of the target's items in the name's array
abbrev pub CountsWrite : BenchValue → List ℕ → Target → Result ℕ Refusal → BenchValue → Type 0
CountsWrite old name target result new =
    (array : Array) → find_array old.state.names name ≡ Some array → Counts (length (target_offsets target) * item_size (descr_of old.state array)) old result new

-- The last number is removed from `patches`. If the call is refused, nothing changes.
abbrev pub CountsUndo : BenchValue → Result (Unit {0}) Refusal → BenchValue → Type 0
CountsUndo old (Ok _) new = new.patches ≡ take (length old.patches - 1) old.patches
CountsUndo old (Err _) new = new ≡ old

-- The result is whether the arrays of two names share cells. The call is refused only if one of the names is not bound,
-- or if memory runs out.
abbrev pub AnswersShares : State → List ℕ → List ℕ → Result Bool Refusal → Type 0
AnswersShares s left right (Ok answer) =
    (a : Array) × (b : Array) × (find_array s.names left ≡ Some a) × (find_array s.names right ≡ Some b) × (answer ≡ share_cells s a b)
AnswersShares s left right (Err refusal) =
    (((is_bound s left && is_bound s right) ≡ false) × (refusal ≡ UnknownName)) ⊎ (((is_bound s left && is_bound s right) ≡ true) × (refusal ≡ OutOfMemory))
