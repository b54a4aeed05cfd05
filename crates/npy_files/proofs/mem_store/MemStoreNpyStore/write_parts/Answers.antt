use Rattle.std.proofs.Common.{◌++◌, List, ℕ, length-append, arith, sym, ap, ◌∙◌, position}
use Rattle.npy_files.proofs.Words.{insert, StoredFile, files_of, is_called}
use Rattle.npy_files.proofs.StoreLaws.{overwritten, added}
use Rattle.npy_files.proofs.UserFiles.{insert-kept}
use Rattle.npy_files.proofs.mem_store.MemStoreNpyStore.write_parts.Goals as goal

pub returns-in-Some-clause-written : goal.returns-in-Some-clause-written
returns-in-Some-clause-written c = λ _.
    let whole = c.in_ok-extend_from_slice.ensures.items ∙ ap (λ (l : List ℕ). l ++ c.args.items.now) c.in_ok-bytes.ensures.items in
    let within = c.is_longer.ensures.within c.if-is_longer.false in
    let files = c.args.self.now.files.items in (
      overwritten c.args.name.now files c.in-Some.place c.index_mut.result.now (record { name = c.index_mut.result.now.name; bytes = c.extend_from_slice.new.self }) (ap (position (is_called c.args.name.now)) (sym c.as_slice.ensures.value) ∙ sym c.place_of.ensures.place ∙ c.in-Some.is) (ap (λ f. f.name) c.index_mut.ensures.value)
          ∙ ap (insert (files_of files) c.args.name.now) whole,
      omega (arith, within, length-append c.args.front.now c.args.items.now),
    )

pub returns-clause-written : goal.returns-clause-written
returns-clause-written c = λ _.
    let whole = c.in_ok-extend_from_slice.ensures.items ∙ ap (λ (l : List ℕ). l ++ c.args.items.now) c.in_ok-bytes.ensures.items in
    let within = c.is_longer.ensures.within c.if-is_longer.false in
    let files = c.args.self.now.files.items in
    let new : StoredFile = record { name = c.in_ok-name.name; bytes = c.extend_from_slice.new.self } in
    let called = c.in_ok-name.ensures.items in
    let none = ap (λ q. position (is_called q) files) called ∙ ap (position (is_called c.args.name.now)) (sym c.as_slice.ensures.value) ∙ sym c.place_of.ensures.place ∙ c.in_default.is in (
      ap files_of c.in_ok-push.ensures.items ∙ added files new none ∙ ap (λ q. insert (files_of files) q new.bytes.items) called ∙ ap (insert (files_of files) c.args.name.now) whole,
      omega (arith, within, length-append c.args.front.now c.args.items.now),
    )

-- only the file with this name has changed
pub returns-in-Some-clause-kept : goal.returns-in-Some-clause-kept
returns-in-Some-clause-kept c =
    let files = c.args.self.now.files.items in
    insert-kept (files_of files) c.args.name.now _ _
    (overwritten c.args.name.now files c.in-Some.place c.index_mut.result.now (record { name = c.index_mut.result.now.name; bytes = c.extend_from_slice.new.self }) (ap (position (is_called c.args.name.now)) (sym c.as_slice.ensures.value) ∙ sym c.place_of.ensures.place ∙ c.in-Some.is) (ap (λ f. f.name) c.index_mut.ensures.value))

pub returns-clause-kept : goal.returns-clause-kept
returns-clause-kept c =
    let files = c.args.self.now.files.items in
    let new : StoredFile = record { name = c.in_ok-name.name; bytes = c.extend_from_slice.new.self } in
    let called = c.in_ok-name.ensures.items in
    let none = ap (λ q. position (is_called q) files) called ∙ ap (position (is_called c.args.name.now)) (sym c.as_slice.ensures.value) ∙ sym c.place_of.ensures.place ∙ c.in_default.is in
    insert-kept (files_of files) c.args.name.now _ _
    (ap files_of c.in_ok-push.ensures.items ∙ added files new none ∙ ap (λ q. insert (files_of files) q new.bytes.items) called)
