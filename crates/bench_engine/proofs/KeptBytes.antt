-- The bytes that commands keep for `undo`, from what the calls of the bench ensure.
use Rattle.std.proofs.Common.{◌≡◌, ℕ, ◌*◌, List, [], ◌∷◌, ◌++◌, length, Option, Some, Result, Ok, Err, OnOk, OnErr, unwrap_or, sym, ap, ◌∙◌}
use Rattle.bench_engine.proofs.Words.{BenchValue, Counts, CountsWrite, keep_last, Refusal, IndexItem, Array, Target, find_array, descr_of, item_size, count, target_offsets, target_part, KeepsBytes, KeepsItems}

-- what a call counts, if it is accepted, and if it is refused
pub counted-ok : (bytes : ℕ) (old new : BenchValue) (result : Result (Unit {0}) Refusal) → Counts bytes old result new → OnOk result (KeepsBytes bytes old new)
counted-ok bytes old new (Ok done) counts = counts
counted-ok bytes old new (Err e) counts = tt

pub counted-err : (bytes : ℕ) (old new : BenchValue) (result : Result (Unit {0}) Refusal) → Counts bytes old result new → OnErr result (new.patches ≡ old.patches)
counted-err bytes old new (Ok done) counts = tt
counted-err bytes old new (Err e) counts = ap (λ (v : BenchValue). v.patches) counts

abbrev part_or : Array → Result Array Refusal → Array
part_or other (Ok part) = part
part_or other (Err e) = other

-- a write to the target that leads to a part
pub counted-items : (old new : BenchValue) (name : List ℕ) (index : List (IndexItem (List ℕ))) (target : Target) (n : ℕ) (a part : Array) → find_array old.state.names name ≡ Some a → target_part old.state a index ≡ Ok part → length (target_offsets target) ≡ count part.shape →
    CountsWrite old name target (Ok n) new → KeepsItems name index old new
counted-items old new name index target n a part is at all counts = λ a' part' is' at'.
    let same : a ≡ a' = ap (λ (o : Option Array). unwrap_or o a) (sym is ∙ is') in
    let parts : part ≡ part' = ap (part_or part) (sym at ∙ ap (λ (x : Array). target_part old.state x index) same ∙ at') in
    counts a' is' ∙ ap (λ k. keep_last old.state.depth (old.patches ++ (k * item_size (descr_of old.state a')) ∷ [])) (all ∙ ap (λ (p : Array). count p.shape) parts)

-- what holds whatever the result is
pub always-ok : {P : Type 0} (result : Result (Unit {0}) Refusal) → P → OnOk result P
always-ok (Ok done) holds = holds
always-ok (Err e) holds = tt

pub always-err : {P : Type 0} (result : Result (Unit {0}) Refusal) → P → OnErr result P
always-err (Ok done) holds = tt
always-err (Err e) holds = holds
