use Rattle.std.proofs.Common.{◌≡◌, ◌++◌, IsTrue, false, Ok, None, rules}
use Rattle.npy_files.proofs.Words.{FileParts, folder_shelf, stays, is_user_name}
use Rattle.npy_files.proofs.UserFiles.{user_reads, no_user_file, told_read, told_same, counted}
use Rattle.npy_files.proofs.folder_store.FolderStoreNpyStore.read_parts.Goals as goal

pub returns-then-not-is_user_name-clause-found : goal.returns-then-not-is_user_name-clause-found
returns-then-not-is_user_name-clause-found g c = λ honest.
    let no : is_user_name c.args.name.now ≡ false = search rules in
    told_read (λ (parts : FileParts). parts.front.items ++ parts.block) g.D.Disk.honest (g.D.Disk.state c.args.self.now.disk).files c.args.name.now c.args.self.now.limit (Ok None) honest (no_user_file _ c.args.name.now no)

pub returns-then-not-is_user_name-clause-crash : goal.returns-then-not-is_user_name-clause-crash
returns-then-not-is_user_name-clause-crash g c = λ honest. stays _

pub returns-clause-found : goal.returns-clause-found
returns-clause-found g c = λ honest.
    let user : IsTrue (is_user_name c.args.name.now) = search rules in
    told_read (λ (parts : FileParts). parts.front.items ++ parts.block) g.D.Disk.honest (g.D.Disk.state c.args.self.now.disk).files c.args.name.now c.args.self.now.limit c.counted.result honest
    (user_reads (λ (parts : FileParts). parts.front.items ++ parts.block) (g.D.Disk.state c.args.self.now.disk).files c.args.name.now c.args.self.now.limit c.counted.result user (rw c.counted.ensures.answer (c.read_file-found.ensures.found honest)))

pub returns-clause-files : goal.returns-clause-files
returns-clause-files g c = told_same g.D.Disk.honest (g.D.Disk.state c.args.self.now.disk).files (g.D.Disk.state c.counted.new.self.disk).files (λ honest. rw c.counted.ensures.disk (c.read_file-found.ensures.same honest).files)

pub returns-clause-cause : goal.returns-clause-cause
returns-clause-cause g c = counted (folder_shelf (g.D.Disk.state c.args.self.now.disk).files c.args.self.now.faults c.args.self.now.limit g.D.Disk.honest) (folder_shelf (g.D.Disk.state c.counted.new.self.disk).files c.counted.new.self.faults c.counted.new.self.limit g.D.Disk.honest) c.counted.result c.counted.ensures.few c.counted.ensures.cause
