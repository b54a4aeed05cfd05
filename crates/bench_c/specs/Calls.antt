-- What the calls from C do to a handle, and which numbers they return.
use Rattle.std.specs.Prelude.{◌≡◌, ◌⊎◌, ◌<◌, ◌≤◌, ℕ, List, Option, Some, None}
use Rattle.std.specs.FinMap.{get}
use Rattle.npy_files.specs.Stores.{IsNextName}
use Rattle.bench_c.specs.declared.open_bench.OpenBench.{OpenBench}
use Rattle.bench_c.specs.declared.status.Status.{Status}
use Rattle.bench_c.specs.declared.status.Status.TheVariants.{Done, NoMemory, Invalid}
use Rattle.bench_c.specs.Statuses.{code_of}
use Rattle.bench_c.specs.Benches.{world_of, IsJustOpened, AnswersAsMachine, CopiesOut, CopiesOutIfAny, PutsFile}

-- the number is the code of a status for which this is true
abbrev pub StandsFor : (Status → Type 0) → ℕ → Type 0
StandsFor IsTrueOf code = (status : Status) × (code ≡ code_of status) × IsTrueOf status

-- The bench is open; or there is none, because the depth is invalid, or because memory ran out for one that is valid.
abbrev pub Opens : ℕ → Option OpenBench → ℕ → Type 0
Opens depth (Some bench) code = IsJustOpened depth bench × (code ≡ code_of Done)
Opens depth None code = ((64 < depth) × (code ≡ code_of Invalid)) ⊎ ((depth ≤ 64) × (code ≡ code_of NoMemory))

-- The bench behind an open handle answers a line, and the handle stays open.
abbrev pub AnswersBehind : Option OpenBench → List ℕ → Option OpenBench → ℕ → Type 0
AnswersBehind (Some old) line (Some new) code = StandsFor (AnswersAsMachine old line new) code
AnswersBehind old line new code = ⊥

-- The bench behind an open handle puts a file in its store.
abbrev pub PutsBehind : Option OpenBench → List ℕ → List ℕ → Option OpenBench → ℕ → Type 0
PutsBehind (Some old) name bytes (Some new) code = StandsFor (PutsFile old name bytes new) code
PutsBehind old name bytes new code = ⊥

-- The bench behind an open handle copies out its reply.
abbrev pub GivesReply : Option OpenBench → List ℕ → List ℕ → ℕ → ℕ → Type 0
GivesReply (Some bench) old new len code = StandsFor (CopiesOut bench.reply old new len) code
GivesReply None old new len code = ⊥

-- It copies out the bytes of the file with this name.
abbrev pub GivesFile : Option OpenBench → List ℕ → List ℕ → List ℕ → ℕ → ℕ → Type 0
GivesFile (Some bench) name old new len code = StandsFor (CopiesOutIfAny (get (world_of bench).shelf.files name) old new len) code
GivesFile None name old new len code = ⊥

-- It copies out the first of its files' names after this one.
abbrev pub GivesNextName : Option OpenBench → List ℕ → List ℕ → List ℕ → ℕ → ℕ → Type 0
GivesNextName (Some bench) after old new len code =
    (next : Option (List ℕ)) × IsNextName (world_of bench).shelf.files after next × StandsFor (CopiesOutIfAny next old new len) code
GivesNextName None after old new len code = ⊥
