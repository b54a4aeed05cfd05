use Rattle.std.proofs.Common.{◌≡◌, arith, sym, ap, ◌∙◌, Some, position, List, ℕ}
use Rattle.npy_files.proofs.Words.{StoredFile, is_called}
use Rattle.npy_files.proofs.StoreLaws.{absent, present}
use Rattle.npy_files.proofs.mem_store.MemStoreNpyStore.read_parts.Goals as goal

at : (q : List ℕ) {files now : List StoredFile} → now ≡ files → position (is_called q) files ≡ position (is_called q) now
at q same = ap (position (is_called q)) (sym same)

pub returns-in_default-clause-found : goal.returns-in_default-clause-found
returns-in_default-clause-found c = λ _. absent c.args.name.now c.args.self.now.files.items (at c.args.name.now c.as_slice.ensures.value ∙ sym c.place_of.ensures.place ∙ c.in_default.is)

pub returns-then-bytes-self-clause-found : goal.returns-then-bytes-self-clause-found
returns-then-bytes-self-clause-found c = λ _. (
  c.index.result.now.bytes.items,
  present c.args.name.now c.args.self.now.files.items c.in-Some.place c.index.result.now (at c.args.name.now c.as_slice.ensures.value ∙ sym c.place_of.ensures.place ∙ c.in-Some.is) ∙ ap (λ f. Some f.bytes.items) (sym c.index.ensures),
  omega (arith, c.if-bytes-self.true),
)

pub returns-clause-found : goal.returns-clause-found
returns-clause-found c = λ _.
    let same = c.in_ok-copied.ensures ∙ c.as_slice-bytes.ensures.value in (
      present c.args.name.now c.args.self.now.files.items c.in-Some.place c.index.result.now (at c.args.name.now c.as_slice.ensures.value ∙ sym c.place_of.ensures.place ∙ c.in-Some.is) ∙ ap (λ f. Some f.bytes.items) (sym c.index.ensures) ∙ ap Some (sym same),
      rw same (omega (arith, c.if-bytes-self.false)),
    )
