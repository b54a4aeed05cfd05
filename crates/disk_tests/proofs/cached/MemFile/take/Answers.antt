use Rattle.std.proofs.Common.{◌≡◌, ◌+◌, ◌++◌, ℕ, List, inl, inr, length, min, take, drop, sym, ap, ◌∙◌, take-append-drop, drop-drop, rules, arith}
use Rattle.disk_tests.proofs.Words.{cases_lt, common_steps, drop_all, take_at}
use Rattle.disk_tests.proofs.cached.MemFile.take.Goals as goal

-- the next bytes of a file, as many as there is room for
next_bytes : (bytes piece copied : List ℕ) (at start count : ℕ) → start ≡ min at (length bytes) → copied ≡ take count (drop start bytes) → length copied ≡ count
    → drop at bytes ≡ take count (copied ++ drop count piece) ++ drop (start + count) bytes
next_bytes bytes piece copied at start count starts is long =
    let here : drop at bytes ≡ drop start bytes = elim (cases_lt at (length bytes)) [
      | inl within ↦ ap (λ n. drop n bytes) (let e : at ≡ start = omega (arith, starts, within) in e)
      | inr past ↦ drop_all at bytes past ∙ sym (drop_all start bytes (omega (arith, starts, past)))
    ] in
    here ∙ sym (take-append-drop count (drop start bytes)) ∙ ap (λ l. l ++ drop count (drop start bytes)) (sym is) ∙ ap (λ l. copied ++ l) (drop-drop count start bytes)
    ∙ ap (λ l. l ++ drop (start + count) bytes) (sym (take_at copied (drop count piece) count long))

pub returns-clause-taken : goal.returns-clause-taken
returns-clause-taken c =
    let bytes = c.args.self.now.bytes.items in
    let copied : c.copy_from_slice.new.self ≡ take c.min-count.result (drop c.min-at.result bytes) = grind (arith, common_steps) in
    let long : length c.copy_from_slice.new.self ≡ c.min-count.result = grind (arith, common_steps) in
    next_bytes bytes c.args.piece.now c.copy_from_slice.new.self c.args.self.now.at c.min-at.result c.min-count.result (search rules) copied long
