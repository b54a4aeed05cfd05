-- The files after a change in memory.
use Rattle.std.specs.Prelude.{◌≡◌, ℕ, List, Option, Some, None}
use Rattle.std.proofs.Common.{cond, refl, sym, ap, ◌∙◌}
use Rattle.disk_tests.specs.Words.{bytes_eq, texts_ties, nat_list_cmp_total, get, get-insert, get-remove, false_from_ne_true, bytes_eq-Decides}
use Rattle.disk.specs.Files.{Files, SameBut}
use Rattle.disk_tests.specs.Changes.{bound}

pub get-bound : (name : List ℕ) (bytes : Option (List ℕ)) (files : Files) (other : List ℕ) → get (bound name bytes files) other ≡ cond (bytes_eq other name) bytes (get files other)
get-bound name (Some bytes) files other = get-insert nat_list_cmp_total files name bytes other ∙ ap (λ b. cond b (Some bytes) (get files other)) (sym (texts_ties other name))
get-bound name None files other = get-remove nat_list_cmp_total files name other ∙ ap (λ b. cond b None (get files other)) (sym (texts_ties other name))

-- the name that is bound has the new bytes, and every other name has what it had
pub bound_here : (name : List ℕ) (bytes : Option (List ℕ)) (files : Files) → get (bound name bytes files) name ≡ bytes
bound_here name bytes files = get-bound name bytes files name ∙ ap (λ b. cond b bytes (get files name)) ((bytes_eq-Decides name name).1 refl)

pub bound_else : (name : List ℕ) (bytes : Option (List ℕ)) (files : Files) → SameBut name files (bound name bytes files)
bound_else name bytes files other far =
    get-bound name bytes files other ∙ ap (λ b. cond b bytes (get files other)) (false_from_ne_true _ (λ same. far ((bytes_eq-Decides other name).0 same)))
