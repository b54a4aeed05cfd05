-- A slice without a start has its colon behind the blanks.
use Rattle.std.proofs.Common.{◌≡◌, ℤ, ℕ, List, [], Option, Some, None, unwrap_or, refl, ap, sym, ◌∙◌}
use Rattle.script_lang.proofs.Words.{Slice, option_map, unspaced, symbol_at, integer_at, optional_integer_at, step_at, slice_at, index_item_at}
use Rattle.script_lang.proofs.Spelling.{unspaced_twice, integer_unspaced}
use Rattle.script_lang.proofs.grammar.indexes.item.Goals as goal

start_of : (bytes rest : List ℕ) (start : Option ℤ) (o : Option (ℤ × List ℕ)) → integer_at bytes ≡ o → Some (start, rest) ≡ optional_integer_at (unspaced bytes) → (there : List ℕ) × (optional_integer_at bytes ≡ Some (start, there)) × (unspaced there ≡ unspaced rest)
unfolding optional_integer_at
start_of bytes rest start (Some found) is first = (rest, rw is (sym (rw (integer_unspaced bytes, is) at first)), refl)
start_of bytes rest start None is first =
    let same : Some (start, rest) ≡ Some (None, unspaced bytes) = rw (integer_unspaced bytes, is) at first in
    (bytes, rw is (ap (option_map (λ r. (r.0, bytes))) (sym same)), sym (ap (λ o. unspaced (unwrap_or {T = Option ℤ × List ℕ} o (None, [])).1) same ∙ unspaced_twice bytes))

slice_found : (bytes rest inside after last : List ℕ) (start stop step : Option ℤ) → Some (start, rest) ≡ optional_integer_at (unspaced bytes) → symbol_at 58 rest ≡ Some inside → Some (stop, after) ≡ optional_integer_at inside → Some (step, last) ≡ step_at after → index_item_at bytes ≡ Some (Slice start stop step, last)
unfolding index_item_at slice_at
slice_found bytes rest inside after last start stop step first colon second third =
    let begins = start_of bytes rest start (integer_at bytes) refl first in
    rw (begins.1, begins.2, colon, sym second, sym third) refl

pub returns-in-Some : goal.returns-in-Some
returns-in-Some c =
    slice_found c.args.bytes.now _ _ _ _ _ _ _ (rw c.unspaced-bytes.ensures at c.optional_integer-start.ensures) c.in-Some.ensures c.optional_integer-stop.ensures c.step-step.ensures
