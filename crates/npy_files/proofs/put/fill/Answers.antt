use Rattle.std.proofs.Common.{◌≡◌, ◌++◌, List, ℕ, Some, ap, ◌∙◌, subst, append_assoc}
use Rattle.npy_files.proofs.Words.{get, Files, Appends, changes_again, then_stays, always_ok}
use Rattle.npy_files.proofs.put.fill.Goals as goal

pub returns-in_err-append-2-clause-others : goal.returns-in_err-append-2-clause-others
returns-in_err-append-2-clause-others g c = λ honest.
    changes_again (c.append.ensures.others honest) (c.append.ensures.opened honest).called (c.append-2.ensures.others honest)

pub returns-clause-filled : goal.returns-clause-filled
returns-clause-filled g c = λ honest.
    let name = g.D.Disk.name_of c.args.file.now in
    let second = subst (λ n. Appends c.args.items.now (get (g.D.Disk.state c.append.new.self).files n) (get (g.D.Disk.state c.append-2.new.self).files n)) (c.append.ensures.opened honest).called (c.in_ok-append-2.ensures.appended honest) in
    let joined = λ (before : List ℕ) (is : get (g.D.Disk.state c.args.disk.now).files name ≡ Some before).
    ap (λ (files : Files). get files name) (c.sync.ensures.same honest).files ∙ second (before ++ c.args.front.now) (c.in_ok-append.ensures.appended honest before is) ∙ ap Some (append_assoc before c.args.front.now c.args.items.now) in
    always_ok c.sync.result joined

pub returns-clause-others : goal.returns-clause-others
returns-clause-others g c = λ honest.
    then_stays (changes_again (c.append.ensures.others honest) (c.append.ensures.opened honest).called (c.append-2.ensures.others honest)) (c.sync.ensures.same honest)
