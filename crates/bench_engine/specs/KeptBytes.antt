-- How many bytes of old items a command keeps for `undo`.
use Rattle.std.specs.Prelude.{◌≡◌, ℕ, ◌*◌, ◌-◌, List, [], ◌∷◌, ◌++◌, length, take, Some, Ok}
use Rattle.bench_engine.specs.Words.{BenchValue, keep_last, item_size, count, Array, IndexItem, find_array, descr_of, Command, Bind, Set, Update, Delete, Ask, Save, Undo}
use Rattle.bench_engine.specs.Machine.{target_part}

-- the earlier state is kept, and with it this many bytes. Only the last `depth` numbers remain.
abbrev pub KeepsBytes : ℕ → BenchValue → BenchValue → Type 0
KeepsBytes bytes old new = new.patches ≡ keep_last old.state.depth (old.patches ++ bytes ∷ [])

-- the same for a write to X[ix]: the bytes are those of the selected items, and not those of the whole array
abbrev pub KeepsItems : List ℕ → List (IndexItem (List ℕ)) → BenchValue → BenchValue → Type 0
KeepsItems name index old new =
    (array part : Array) → find_array old.state.names name ≡ Some array → target_part old.state array index ≡ Ok part → KeepsBytes (count part.shape * item_size (descr_of old.state array)) old new

-- What an accepted command keeps. Only `set` and `upd` keep old items. Questions and `save` keep no state, and `undo`
-- lets the last one go.
abbrev pub KeepsForUndo : Command → BenchValue → BenchValue → Type 0
KeepsForUndo (Bind name value) old new = KeepsBytes 0 old new
KeepsForUndo (Set name index argument) old new = KeepsItems name index old new
KeepsForUndo (Update name index op argument) old new = KeepsItems name index old new
KeepsForUndo (Delete name) old new = KeepsBytes 0 old new
KeepsForUndo (Ask question) old new = new.patches ≡ old.patches
KeepsForUndo (Save name file) old new = new.patches ≡ old.patches
KeepsForUndo Undo old new = new.patches ≡ take (length old.patches - 1) old.patches
