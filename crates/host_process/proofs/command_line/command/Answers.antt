use Rattle.std.proofs.Common.{rules, ap₂, codes, ◌≡◌, ◌∙◌}
use Rattle.std.proofs.lemmas.Result.{IfOk-weaker}
use Rattle.clap.specs.Words.{app_of, new_app, with_rule}
use Rattle.host_process.specs.CommandLine.{command_line}
use Rattle.host_process.specs.inside.Depths.{TakesDepth}
use Rattle.host_process.proofs.Depths.{takes_depth}
use Rattle.host_process.proofs.command_line.command.Goals as goal

pub returns-clause-takes : goal.returns-clause-takes
returns-clause-takes c = IfOk-weaker c.arg-3.result _ TakesDepth
    (λ all added. takes_depth c.after_help.result _ _ all _ _ _ (search rules) (search rules) (search rules) c.in_ok-arg.ensures c.in_ok-arg-2.ensures added
    c.folder_argument.ensures.named c.depth_argument.ensures.depth c.script_argument.ensures.named)
    c.arg-3.ensures

pub returns-clause-line : goal.returns-clause-line
returns-clause-line c =
    let start_is : app_of c.after_help.result ≡ new_app (codes "bench") = search rules in
    let dir_is = c.in_ok-arg.ensures.shape c.folder_argument.ensures.named.local ∙ ap₂ with_rule start_is c.folder_argument.ensures.rule in
    let undo_is = c.in_ok-arg-2.ensures.shape c.depth_argument.ensures.depth.named.local ∙ ap₂ with_rule dir_is c.depth_argument.ensures.rule in
    IfOk-weaker c.arg-3.result _ (λ all. app_of all ≡ command_line)
    (λ all added. added.shape c.script_argument.ensures.named.local ∙ ap₂ with_rule undo_is c.script_argument.ensures.rule)
    c.arg-3.ensures
