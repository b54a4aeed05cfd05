use Rattle.std.proofs.Common.{◌≡◌, ◌≢◌, ◌++◌, Some, List, ℕ, Option, subst}
use Rattle.npy_files.proofs.Words.{History, Leaves, Replaces, SameBut, only_but, only_same, replaces_again}
use Rattle.npy_files.proofs.put.put.Goals as goal

-- a file is made under the hidden name, and then takes the place of another
placed : (hidden name : List ℕ) (bytes moved : Option (List ℕ)) {a b c : History} → name ≢ hidden → moved ≡ bytes → Leaves (SameBut hidden) a b → Leaves (Replaces hidden name moved) b c → Leaves (Replaces hidden name bytes) a c
placed hidden name bytes moved {a} {b} {c} apart is staged renamed =
    replaces_again hidden name bytes (only_but hidden name bytes apart staged) (subst (λ (there : Option (List ℕ)). Leaves (Replaces hidden name there) b c) is renamed)

pub returns-in_err-_file-clause-crash : goal.returns-in_err-_file-clause-crash
returns-in_err-_file-clause-crash g c = λ honest.
    only_but c.args.hidden.now c.args.name.now (Some (c.args.front.now ++ c.args.items.now)) c.requires (c.stage.ensures.others honest).crash

pub returns-in-Err-clause-crash : goal.returns-in-Err-clause-crash
returns-in-Err-clause-crash g c = λ honest.
    let bytes = Some (c.args.front.now ++ c.args.items.now) in
    replaces_again c.args.hidden.now c.args.name.now bytes
    (placed c.args.hidden.now c.args.name.now bytes _ c.requires (c.in_ok-_file.ensures.staged honest) (c.stage.ensures.others honest).crash ((c.rename.ensures.others honest).whole (c.in_ok-_file.ensures.synced honest)))
    (only_but c.args.hidden.now c.args.name.now bytes c.requires (c.remove.ensures.others honest).crash)

pub returns-in_err-sync_names-clause-crash : goal.returns-in_err-sync_names-clause-crash
returns-in_err-sync_names-clause-crash g c = λ honest.
    let bytes = Some (c.args.front.now ++ c.args.items.now) in
    replaces_again c.args.hidden.now c.args.name.now bytes
    (placed c.args.hidden.now c.args.name.now bytes _ c.requires (c.in_ok-_file.ensures.staged honest) (c.stage.ensures.others honest).crash ((c.rename.ensures.others honest).whole (c.in_ok-_file.ensures.synced honest)))
    (only_same c.args.hidden.now c.args.name.now bytes (c.sync_names.ensures.same honest).crash)

pub returns-clause-crash : goal.returns-clause-crash
returns-clause-crash g c = λ honest.
    let bytes = Some (c.args.front.now ++ c.args.items.now) in
    replaces_again c.args.hidden.now c.args.name.now bytes
    (placed c.args.hidden.now c.args.name.now bytes _ c.requires (c.in_ok-_file.ensures.staged honest) (c.stage.ensures.others honest).crash ((c.rename.ensures.others honest).whole (c.in_ok-_file.ensures.synced honest)))
    (only_same c.args.hidden.now c.args.name.now bytes (c.sync_names.ensures.same honest).crash)
