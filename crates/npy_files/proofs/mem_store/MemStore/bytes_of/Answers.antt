use Rattle.std.proofs.Common.{sym, ap, ◌∙◌, Some, position}
use Rattle.npy_files.proofs.Words.{is_called}
use Rattle.npy_files.proofs.StoreLaws.{absent, present}
use Rattle.npy_files.proofs.mem_store.MemStore.bytes_of.Goals as goal

pub returns-in_err-place : goal.returns-in_err-place
returns-in_err-place c =
    let name = c.args.name.now in
    rw c.from_residual.ensures (absent name c.args.self.now.files.items (ap (position (is_called name)) (sym c.as_slice.ensures.value) ∙ sym c.in_err-place.ensures.place))

pub returns : goal.returns
returns c =
    let name = c.args.name.now in
    present name c.args.self.now.files.items c.in_ok-place.place c.index.result.now (ap (position (is_called name)) (sym c.as_slice.ensures.value) ∙ sym c.in_ok-place.ensures.place)
    ∙ ap (λ f. Some f.bytes.items) (sym c.index.ensures) ∙ ap Some (sym c.as_slice-2.ensures.value)
