-- Writings: new items for a part of an array, and the target that they are written to.
use Rattle.std.specs.Prelude.{◌≡◌, ◌≤◌, ℕ, List, ◌∷◌, ◌++◌, length, true, Option, Some, Result, Ok, Err}
use Rattle.bench_engine.specs.Words.{list_all, IsPermutation, Refusal, LeafValue, Layout, LayoutPair, count, item_pairs, IsViewOf, stretched, State, descr_of, written, LeadsTo, MayWrite, Supplies, target_offsets, Target, Shows, ArrayRef, Argument, IndexItem, Operation, find_array, is_bound, max_items, View, Array}
use Rattle.bench_engine.specs.declared.update.Writing.{Writing}
use Rattle.bench_engine.specs.IndexLists.{names_in_index}
use Rattle.bench_engine.specs.Machine.{accepted_with, names_in_argument, target_part, write_outcome, write_reply}
use Rattle.bench_engine.specs.inside.Assigns.{IsTarget}
use Rattle.bench_engine.specs.inside.Contract.{IsRefused}
use Rattle.bench_engine.specs.inside.Meeting.{Meets}

-- The writing has the same effect as writing these new items to the part, one for each of its places. The writing may
-- have its places and items in another order.
pub record Leaves (s : State) (name : List ℕ) (array part : Array) (w : Writing) (new : List (List LeafValue)) : Type 0 where
  pub places : List ℕ
  pub items : List (List LeafValue)
  pub leads : LeadsTo s name w.target array places
  pub may_write : MayWrite s array w.target
  pub supplies : Supplies s (descr_of s array) (length (target_offsets w.target)) w.source items
  pub counted : length (target_offsets w.target) ≡ count part.shape
  pub same : written s array places items ≡ written s array part.places new

-- the target leads to a part of a shown array of this state
abbrev pub IsTargetIn : State → ArrayRef → Target → Type 0
IsTargetIn s r target = (name : List ℕ) × (a : Array) × (part : Array) × Shows s a r × IsTarget s name a target part

-- the same for some state
abbrev pub IsTargetOf : ArrayRef → Target → Type 0
IsTargetOf r target = (s : State) × (name : List ℕ) × (a : Array) × (part : Array) × Shows s a r × IsTarget s name a target part

-- The result has the same effect as writing the new items to the part that the target leads to. A refusal is that of
-- the new items, or out of memory.
abbrev pub WritesIn : State → ArrayRef → Target → (Array → Result (List (List LeafValue)) Refusal) → Result Writing Refusal → Type 0
WritesIn s r target new result = (name : List ℕ) (a part : Array) → Shows s a r → IsTarget s name a target part → Meets (Leaves s name a part) result (new part)

-- the same in each state that has the array
abbrev pub Writes : ArrayRef → Target → (State → Array → Result (List (List LeafValue)) Refusal) → Result Writing Refusal → Type 0
Writes r target new result = (s : State) → WritesIn s r target (new s) result

-- The pair has the offsets of a view, and of items that are stretched to its shape, in some common order: each item of
-- the view is still paired with the same other item.
pub record GoTogether (view items : Layout) (pair : LayoutPair) : Type 0 where
  pub wide : Layout
  pub seen : View
  pub there : stretched items.shape view.shape ≡ Ok seen
  pub is_wide : IsViewOf items wide seen
  pub same : IsPermutation (item_pairs view wide) (item_pairs pair.target pair.source)

-- The names in an assignment are bound, the machine accepts it, and the writing has the same effect.
pub record IsReady (s : State) (name : List ℕ) (index : List (IndexItem (List ℕ))) (op : Option Operation) (value : Argument) (w : Writing) : Type 0 where
  pub bound : list_all (is_bound s) (name ∷ names_in_index index ++ names_in_argument value) ≡ true
  pub array : Array
  pub found : find_array s.names name ≡ Some array
  pub part : Array
  pub there : target_part s array index ≡ Ok part
  pub few : count part.shape ≤ max_items
  pub new : List (List LeafValue)
  pub outcome : write_outcome s name index op value ≡ accepted_with (written s array part.places new) (write_reply op (count part.shape))
  pub leaves : Leaves s name array part w new

-- the writing that an assignment gives, or its refusal
abbrev pub Prepares : State → List ℕ → List (IndexItem (List ℕ)) → Option Operation → Argument → Result Writing Refusal → Type 0
Prepares s name index op value (Ok w) = IsReady s name index op value w
Prepares s name index op value (Err refusal) = IsRefused (list_all (is_bound s) (name ∷ names_in_index index ++ names_in_argument value)) (λ choice. write_outcome s name index op value) refusal
