-- What a bench with its files in memory answers, and what is done with its files.
use Rattle.std.specs.Prelude.{◌≡◌, ◌≢◌, ◌<◌, ◌≤◌, ◌^◌, ◌++◌, ℕ, Bool, List, [], length, drop, Option, Some, None, true, false}
use Rattle.std.specs.FinMap.{insert}
use Rattle.name_store.specs.States.{start}
use Rattle.npy_files.specs.Stores.{StoreState, empty_shelf}
use Rattle.npy_files.specs.contracts.mem_store.MemStoreNpyStore.TheImpl as mem_store
use Rattle.bench_engine.specs.Headline.{AnswersMeaning, meaning_of}
use Rattle.bench_engine.specs.Replies.{Reply, Tells}
use Rattle.bench_engine.specs.Steps.{World, world}
use Rattle.bench_c.specs.declared.open_bench.OpenBench.{OpenBench}
use Rattle.bench_c.specs.declared.status.Status.{Status}
use Rattle.bench_c.specs.declared.status.Status.TheVariants.{Done, Refused, Silent, NoMemory, TooLong, NoFile, NoRoom, Invalid}

-- the world of the machine: the state and the files of a bench
abbrev pub world_of : OpenBench → World
world_of bench = world bench.bench.state (mem_store.ghosts.shelf bench.files)

-- No name is bound, there are no files and no reply, up to `depth` earlier states are kept, and a file may have at most
-- 2^29 bytes.
pub record IsJustOpened (depth : ℕ) (bench : OpenBench) : Type 0 where
  pub names : bench.bench.state ≡ start depth
  pub files : mem_store.ghosts.shelf bench.files ≡ empty_shelf (2 ^ 29)
  pub reply : bench.reply ≡ []

-- the status of a line that was accepted, was refused, or asks for nothing
abbrev pub line_status : Option Bool → Status
line_status None = Silent
line_status (Some true) = Done
line_status (Some false) = Refused

-- The machine may answer the line like this, and the bench keeps the reply. The answer to a line that may lack memory
-- may be that there is none, with nothing changed.
pub record AnswersAsMachine (old : OpenBench) (line : List ℕ) (new : OpenBench) (status : Status) : Type 0 where
  pub accepted : Option Bool
  pub says : status ≡ line_status accepted
  pub replies : List Reply
  pub reply : Tells replies accepted new.reply
  pub step : AnswersMeaning (world_of old) (meaning_of line) (world_of new) replies

-- If the bytes fit, they are copied to the front of the caller's bytes, and otherwise nothing is copied. `len` is set
-- to their number in both cases.
pub record CopiesOut {A : Type 0} (bytes old new : List A) (len : ℕ) (status : Status) : Type 0 where
  pub number : len ≡ length bytes
  pub whole : length bytes ≤ length old → (status ≡ Done) × (new ≡ bytes ++ drop (length bytes) old)
  pub short : length old < length bytes → (status ≡ NoRoom) × (new ≡ old)

-- The same if there are such bytes. If there are none, nothing is copied, and `len` is set to 0.
abbrev pub CopiesOutIfAny : Option (List ℕ) → List ℕ → List ℕ → ℕ → Status → Type 0
CopiesOutIfAny (Some bytes) old new len status = CopiesOut bytes old new len status
CopiesOutIfAny None old new len status = (status ≡ NoFile) × (new ≡ old) × (len ≡ 0)

-- a store with one more file, or other bytes in one
abbrev pub with_file : StoreState → List ℕ → List ℕ → StoreState
with_file shelf name bytes = record shelf { files = insert shelf.files name bytes }

-- the store after a call to put a file there, for each status
abbrev pub PutsInStore : StoreState → List ℕ → List ℕ → StoreState → Status → Type 0
PutsInStore old name bytes new Done = (name ≢ []) × (new ≡ with_file old name bytes) × (length bytes ≤ old.limit)
PutsInStore old name bytes new TooLong = (new ≡ old) × (old.limit < length bytes)
PutsInStore old name bytes new NoMemory = new ≡ old
PutsInStore old name bytes new Invalid = (new ≡ old) × (name ≡ [])
PutsInStore old name bytes new status = ⊥

-- A file is put in the store, or is refused, and nothing else changes.
pub record PutsFile (old : OpenBench) (name bytes : List ℕ) (new : OpenBench) (status : Status) : Type 0 where
  pub bench : new.bench ≡ old.bench
  pub reply : new.reply ≡ old.reply
  pub files : PutsInStore (world_of old).shelf name bytes (world_of new).shelf status
