-- Steps of the machine: the outcome of each command, and its requests to the store of files.
use Rattle.std.specs.Prelude.{◌≡◌, ℕ, true, List, ◌++◌, length, codes, decimal, MatchBool, Option, Some, None, MatchResult, Result, Ok, Err}
use Rattle.bench_engine.specs.Words.{get, Refusal, TooManyNames, NoSuchFile, FileTooLong, OutOfMemory, ◌>>=◌, items_in, count, Value, Make, Compute, Load, Command, Bind, Set, Update, Delete, Ask, Save, Undo, State, has_room_for, bound_to, descr_of, addresses, read, Loaded, load, file_order, saved, StoreState, IsSameStore, FaultHasCause, IsRead, IsKept, IsWritten, StoreFault, Device, TooLong, Memory, StoreFailed}
use Rattle.script_lang.specs.declared.command.Value.TheVariants.{View}
use Rattle.bench_engine.specs.declared.replies.Origin.TheVariants as origin
use Rattle.bench_engine.specs.Contents.{Contents, places_in, array_over, contents_of}
use Rattle.bench_engine.specs.Replies.{Reply, refusal, bound_text}
use Rattle.bench_engine.specs.Machine.{Choice, IsAllowed, Outcome, accepted_with, after_outcome, array_of, creation_outcome, view_outcome, compute_outcome, write_outcome, delete_outcome, undo_outcome, question_outcome}

-- the world of the machine: the state of its names, and a store of files
pub record World : Type 0 where
  pub state : State
  pub shelf : StoreState

abbrev pub world : State → StoreState → World
world state shelf = record { state = state; shelf = shelf }

-- refused, with nothing changed
abbrev pub Refuses : World → World → Refusal → Reply → Type 0
Refuses old new refused reply = (new ≡ old) × (reply ≡ refusal refused)

-- the new state and the reply are those of the outcome, for a choice that the machine is free to make
abbrev pub Does : State → (Choice → Outcome) → State → Reply → Type 0
Does old outcome new reply = (choice : Choice) × IsAllowed old choice × (after_outcome old (outcome choice) ≡ (new, reply))

-- the same, and the store does not change
abbrev pub DoesAlone : World → (Choice → Outcome) → World → Reply → Type 0
DoesAlone old outcome new reply = (new.shelf ≡ old.shelf) × Does old.state outcome new.state reply

-- the refusal for a fault of the store
abbrev pub store_refusal : StoreFault → Refusal
store_refusal Device = StoreFailed
store_refusal TooLong = FileTooLong
store_refusal Memory = OutOfMemory

-- ---- X = load "f"

-- a store's answer to a request to read a file
abbrev pub Found : Type 0
Found = Result (Option (List ℕ)) StoreFault

-- A possible answer of the store: no file changes, a fault of its device has a cause, and an honest store returns the
-- file, or reports that it is missing or too long, unless there is a fault.
pub record MayFind (old new : StoreState) (file : List ℕ) (found : Found) : Type 0 where
  pub same : IsSameStore old new
  pub files : new.files ≡ old.files
  pub cause : FaultHasCause old new found
  pub read : old.honest ≡ true → IsRead (λ bytes. bytes) old.limit (get old.files file) found

-- the array in the file that was found, or the refusal
abbrev pub loaded : Found → Result Loaded Refusal
loaded (Ok (Some bytes)) = load bytes
loaded (Ok None) = Err NoSuchFile
loaded (Err fault) = Err (store_refusal fault)

-- the contents of the array in a file: its buffer has the items in the order of the file
abbrev pub loaded_contents : Loaded → Contents
loaded_contents l = record {
  shape = l.head.shape;
  places = places_in (file_order l.head.fortran) l.head.shape;
  buffer = record { descr = l.head.descr; items = items_in l.head.descr (count l.head.shape) l.items };
}

-- binds the name to the array: ok X DESCR SHAPE new rest N
abbrev pub bound_loaded : Choice → State → List ℕ → ℕ → Contents → Outcome
bound_loaded choice s name rest new =
    accepted_with (bound_to s name (array_over choice.fresh new) new.buffer) (bound_text name new.buffer.descr new.shape origin.New ++ (codes " rest " ++ decimal rest))

unfoldable pub load_outcome : Choice → State → List ℕ → Found → Outcome
load_outcome choice s name found = do
  new ← loaded found
  bound_loaded choice s name new.rest (loaded_contents new)

-- the store is asked for a file, and the name is bound to the array in its answer
abbrev pub AsksForFile : World → List ℕ → List ℕ → World → Reply → Type 0
AsksForFile old name file new reply = (found : Found) × MayFind old.shelf new.shelf file found × Does old.state (λ choice. load_outcome choice old.state name found) new.state reply

-- If there is no room for the name, the store is not asked.
abbrev pub LoadStep : World → List ℕ → List ℕ → World → Reply → Type 0
LoadStep old name file new reply = MatchBool (has_room_for old.state name) (AsksForFile old name file new reply) (Refuses old new TooManyNames reply)

-- ---- save X "f"

-- the bytes of the file for a name's array, or the refusal
unfoldable pub file_of_name : State → List ℕ → Result (List ℕ) Refusal
file_of_name s name = do
  array ← array_of s name
  saved (descr_of s array) array.shape (addresses s array) (read s array)

-- a store's answer to a request to write a file
abbrev pub Stored : Type 0
Stored = Result (Unit {0}) StoreFault

-- A possible answer of the store: a fault of its device has a cause, no other file changes, and no file at all changes
-- if this one is too long or memory runs out. An honest store is left as a write with this answer leaves it.
pub record MayStore (old new : StoreState) (file bytes : List ℕ) (stored : Stored) : Type 0 where
  pub same : IsSameStore old new
  pub cause : FaultHasCause old new stored
  pub kept : IsKept file stored old.files new.files
  pub written : old.honest ≡ true → IsWritten old file bytes stored new.files

-- ok save N, the number of bytes, or the refusal
abbrev pub save_reply : ℕ → Stored → Reply
save_reply n (Ok done) = record { text = codes "ok save " ++ decimal n; accepted = true }
save_reply n (Err fault) = refusal (store_refusal fault)

-- the store is asked to write a file, and its answer decides the reply
abbrev pub StoresFile : World → List ℕ → List ℕ → World → Reply → Type 0
StoresFile old file bytes new reply = (new.state ≡ old.state) × (stored : Stored) × MayStore old.shelf new.shelf file bytes stored × (reply ≡ save_reply (length bytes) stored)

-- If the command is refused without the store, the store is not asked.
abbrev pub SaveStep : World → List ℕ → List ℕ → World → Reply → Type 0
SaveStep old name file new reply = MatchResult (file_of_name old.state name) (λ bytes. StoresFile old file bytes new reply) (λ refused. Refuses old new refused reply)

-- ---- each command

-- X = ..
abbrev pub BindStep : World → List ℕ → Value → World → Reply → Type 0
BindStep old name (Make descr items) new reply = DoesAlone old (λ choice. creation_outcome choice old.state name (contents_of descr items)) new reply
BindStep old name (View source how) new reply = DoesAlone old (λ choice. view_outcome choice old.state name source how) new reply
BindStep old name (Compute computation) new reply = DoesAlone old (λ choice. compute_outcome choice old.state name computation) new reply
BindStep old name (Load file) new reply = LoadStep old name file new reply

-- the machine may go from the old world to the new one with this reply
abbrev pub Step : World → Command → World → Reply → Type 0
Step old (Bind name value) new reply = BindStep old name value new reply
Step old (Set name index argument) new reply = DoesAlone old (λ choice. write_outcome old.state name index None argument) new reply
Step old (Update name index op argument) new reply = DoesAlone old (λ choice. write_outcome old.state name index (Some op) argument) new reply
Step old (Delete name) new reply = DoesAlone old (λ choice. delete_outcome old.state name) new reply
Step old (Ask question) new reply = DoesAlone old (λ choice. question_outcome old.state question) new reply
Step old (Save name file) new reply = SaveStep old name file new reply
Step old Undo new reply = DoesAlone old (λ choice. undo_outcome old.state) new reply
