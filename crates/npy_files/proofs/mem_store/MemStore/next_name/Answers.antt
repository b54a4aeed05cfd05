use Rattle.std.proofs.Common.{◌<◌, sym, ap, ◌∙◌, subst, List, Some, None, length}
use Rattle.npy_files.proofs.Words.{slice_get-get_or, StoredFile, IsFirstOf}
use Rattle.npy_files.proofs.NextNames.{next, no_next}
use Rattle.npy_files.proofs.mem_store.MemStore.next_name.Goals as goal

pub returns-in_err-place : goal.returns-in_err-place
returns-in_err-place c =
    let files = c.args.self.now.files.items in
    let first : IsFirstOf files c.args.after.now (length files) None = subst (λ (all : List StoredFile). IsFirstOf all c.args.after.now (length all) None) c.as_slice.ensures.value c.in_err-place.ensures.first in
    rw c.from_residual.ensures (no_next files c.args.after.now first)

pub returns : goal.returns
returns c =
    let files = c.args.self.now.files.items in
    let place = c.in_ok-place.place in
    let first : IsFirstOf files c.args.after.now (length files) (Some place) = subst (λ (all : List StoredFile). IsFirstOf all c.args.after.now (length all) (Some place)) c.as_slice.ensures.value c.in_ok-place.ensures.first in
    let below : place < length files = subst (λ (all : List StoredFile). place < length all) c.as_slice.ensures.value c.in_ok-place.ensures.below in
    next files c.args.after.now place c.as_slice-2.result.now
    (c.index.result.now, slice_get-get_or files place c.index.result.now below ∙ ap Some (sym c.index.ensures), sym c.as_slice-2.ensures.value)
    first
