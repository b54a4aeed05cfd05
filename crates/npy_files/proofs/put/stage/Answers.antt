use Rattle.std.proofs.Common.{◌++◌, [], refl, subst}
use Rattle.npy_files.proofs.Words.{get, Appends, changes_again}
use Rattle.npy_files.proofs.put.stage.Goals as goal

pub returns-in-Ok-clause-staged : goal.returns-in-Ok-clause-staged
returns-in-Ok-clause-staged g c = λ honest.
    let bytes = c.args.front.now ++ c.args.items.now in
    let old = (g.D.Disk.state c.create.new.self).files in
    let new = (g.D.Disk.state c.fill.new.disk).files in
    subst (λ name. Appends bytes (get old name) (get new name)) (c.in_ok-file.ensures.opened honest).called (c.in-Ok.ensures.filled honest) [] (c.in_ok-file.ensures.created honest)

pub returns-in-Ok-clause-others : goal.returns-in-Ok-clause-others
returns-in-Ok-clause-others g c = λ honest.
    changes_again (c.create.ensures.others honest) (c.in_ok-file.ensures.opened honest).called (c.fill.ensures.others honest)

pub returns-in-Err-clause-others : goal.returns-in-Err-clause-others
returns-in-Err-clause-others g c = λ honest.
    changes_again (changes_again (c.create.ensures.others honest) (c.in_ok-file.ensures.opened honest).called (c.fill.ensures.others honest)) refl (c.remove.ensures.others honest)
