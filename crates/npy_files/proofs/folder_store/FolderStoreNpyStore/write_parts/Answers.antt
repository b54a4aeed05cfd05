use Rattle.std.proofs.Common.{◌++◌, ◌∙◌, IsTrue, rules, arith, length-append}
use Rattle.npy_files.proofs.Words.{folder_shelf, is_user_name}
use Rattle.npy_files.proofs.UserFiles.{user_writes, told_written, told_kept, counted}
use Rattle.npy_files.proofs.UserNames.{is_put, nothing_leaves, put_leaves}
use Rattle.npy_files.proofs.folder_store.FolderStoreNpyStore.write_parts.Goals as goal

pub returns-then-is_longer-clause-crash : goal.returns-then-is_longer-clause-crash
returns-then-is_longer-clause-crash g c = λ honest. nothing_leaves c.args.name.now (c.args.front.now ++ c.args.items.now) _

pub returns-then-not-is_user_name-clause-crash : goal.returns-then-not-is_user_name-clause-crash
returns-then-not-is_user_name-clause-crash g c = λ honest. rw c.counted.ensures.disk (nothing_leaves c.args.name.now (c.args.front.now ++ c.args.items.now) _)

pub returns-in_err-hidden-clause-crash : goal.returns-in_err-hidden-clause-crash
returns-in_err-hidden-clause-crash g c = λ honest. nothing_leaves c.args.name.now (c.args.front.now ++ c.args.items.now) _

pub returns-clause-written : goal.returns-clause-written
returns-clause-written g c = λ honest.
    let user : IsTrue (is_user_name c.args.name.now) = search rules in
    let bytes = c.args.front.now ++ c.args.items.now in
    let put = is_put c.as_slice.result.now c.args.name.now bytes c.put-written.result _ _ (c.as_slice.ensures.value ∙ c.in_ok-hidden.ensures) user (c.put-written.ensures.others honest) (c.put-written.ensures.replaced honest) (c.put-written.ensures.memory honest) in
    told_written g.D.Disk.honest (g.D.Disk.state c.args.self.now.disk).files (g.D.Disk.state c.counted-2.new.self.disk).files c.args.self.now.faults c.args.self.now.limit c.args.name.now bytes c.counted-2.result honest
    (rw (c.counted-2.ensures.answer, c.counted-2.ensures.disk) (user_writes c.args.name.now bytes _ _ c.args.self.now.faults c.args.self.now.limit g.D.Disk.honest _ user c.put-written.ensures.long (omega (arith, length-append c.args.front.now c.args.items.now)) put))

pub returns-clause-kept : goal.returns-clause-kept
returns-clause-kept g c =
    let user : IsTrue (is_user_name c.args.name.now) = search rules in
    let bytes = c.args.front.now ++ c.args.items.now in
    let put = λ (honest : IsTrue g.D.Disk.honest). is_put c.as_slice.result.now c.args.name.now bytes c.put-written.result _ _ (c.as_slice.ensures.value ∙ c.in_ok-hidden.ensures) user (c.put-written.ensures.others honest) (c.put-written.ensures.replaced honest) (c.put-written.ensures.memory honest) in
    told_kept g.D.Disk.honest (g.D.Disk.state c.args.self.now.disk).files (g.D.Disk.state c.counted-2.new.self.disk).files c.args.self.now.faults c.args.self.now.limit c.args.name.now bytes c.counted-2.result
    (λ honest. rw (c.counted-2.ensures.answer, c.counted-2.ensures.disk) (user_writes c.args.name.now bytes _ _ c.args.self.now.faults c.args.self.now.limit g.D.Disk.honest _ user c.put-written.ensures.long (omega (arith, length-append c.args.front.now c.args.items.now)) (put honest)))

pub returns-clause-crash : goal.returns-clause-crash
returns-clause-crash g c = λ honest.
    rw c.counted-2.ensures.disk (put_leaves c.as_slice.result.now c.args.name.now (c.args.front.now ++ c.args.items.now) _ _ (c.as_slice.ensures.value ∙ c.in_ok-hidden.ensures) (c.put-written.ensures.crash honest))

pub returns-then-not-is_user_name-clause-cause : goal.returns-then-not-is_user_name-clause-cause
returns-then-not-is_user_name-clause-cause g c = counted (folder_shelf (g.D.Disk.state c.args.self.now.disk).files c.args.self.now.faults c.args.self.now.limit g.D.Disk.honest) (folder_shelf (g.D.Disk.state c.counted.new.self.disk).files c.counted.new.self.faults c.counted.new.self.limit g.D.Disk.honest) c.counted.result c.counted.ensures.few c.counted.ensures.cause

pub returns-clause-cause : goal.returns-clause-cause
returns-clause-cause g c = counted (folder_shelf (g.D.Disk.state c.args.self.now.disk).files c.args.self.now.faults c.args.self.now.limit g.D.Disk.honest) (folder_shelf (g.D.Disk.state c.counted-2.new.self.disk).files c.counted-2.new.self.faults c.counted-2.new.self.limit g.D.Disk.honest) c.counted-2.result c.counted-2.ensures.few c.counted-2.ensures.cause
