-- Buffers, arrays and the state of a bench.
use Rattle.std.specs.Prelude.{ℕ, Bool, List, []}
use Rattle.name_store.specs.Words.{nat_cmp, FinMap, empty, Descr, LeafValue}

-- an element type and items of it, each of which has one value for each leaf
pub record Buffer : Type 0 where
  pub descr : Descr
  pub items : List (List LeafValue)

-- A shape, and a place in a buffer for each of its indices in C order. The path has the numbers of the fields that lead
-- to the array's part of each item. It is empty for the whole item.
pub record Array : Type 0 where
  pub buffer : ℕ
  pub path : List ℕ
  pub shape : List ℕ
  pub places : List ℕ
  pub writable : Bool

-- Names in the order in which they were first bound, and the buffers that they use, by number. For undo, at most
-- `depth` earlier states are kept, the oldest first.
pub record State : Type 0 where
  pub names : List (List ℕ × Array)
  pub buffers : FinMap nat_cmp Buffer
  pub depth : ℕ
  pub kept : List (List (List ℕ × Array) × FinMap nat_cmp Buffer)

-- A bench as contracts see it: its state, and for each kept state, the number of bytes of old items that are kept to
-- restore it from the next state.
pub record BenchValue : Type 0 where
  pub state : State
  pub patches : List ℕ

abbrev pub start : ℕ → State
start depth = record { names = []; buffers = empty; depth = depth; kept = [] }
