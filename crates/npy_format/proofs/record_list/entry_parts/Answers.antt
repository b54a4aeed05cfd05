use Rattle.npy_format.specs.Tokens.{tokens}
use Rattle.npy_format.proofs.PlaceLaws.{front_of}
use Rattle.npy_format.proofs.StandLaws.{no_tuple, parts_nameless, parts_alone, parts_untyped, parts_many, parts_two}
use Rattle.npy_format.proofs.record_list.entry_parts.Goals as goal

pub returns-in_err-inside : goal.returns-in_err-inside
returns-in_err-inside c = λ v s. rw c.from_residual.ensures (no_tuple c.in_err-inside.ensures (front_of (tokens c.args.entry.now) v s)).0

pub returns-in_err-name : goal.returns-in_err-name
returns-in_err-name c = λ v s. rw c.from_residual-in_err-name.ensures (parts_nameless (tokens c.args.entry.now) v s (tokens c.in_ok-inside.inside.now) c.in_ok-inside.ensures c.in_err-name.ensures)

pub returns-in_err-kind : goal.returns-in_err-kind
returns-in_err-kind c = λ v s. rw c.from_residual-in_err-kind.ensures (parts_alone (tokens c.args.entry.now) v s (tokens c.in_ok-inside.inside.now) c.in_ok-inside.ensures (c.in_ok-name.name.now, tokens c.in_ok-name.behind.now) c.in_ok-name.ensures c.in_err-kind.ensures)

pub returns-in_default : goal.returns-in_default
returns-in_default c = λ v s. parts_untyped (tokens c.args.entry.now) v s (tokens c.in_ok-inside.inside.now) c.in_ok-inside.ensures (c.in_ok-name.name.now, tokens c.in_ok-name.behind.now) c.in_ok-name.ensures (tokens c.in_ok-kind.kind.now) c.in_ok-kind.ensures c.in_default.field-0 c.in_default.ensures

pub returns-in_err-symbol : goal.returns-in_err-symbol
returns-in_err-symbol c = λ v s. rw c.from_residual-in_err-symbol.ensures (parts_many (tokens c.args.entry.now) v s (tokens c.in_ok-inside.inside.now) c.in_ok-inside.ensures (c.in_ok-name.name.now, tokens c.in_ok-name.behind.now) c.in_ok-name.ensures (tokens c.in_ok-kind.kind.now) c.in_ok-kind.ensures (tokens c.in-Ok.rest.now) c.in-Ok.ensures c.in_err-symbol.ensures)

pub returns : goal.returns
returns c = λ v s. parts_two (tokens c.args.entry.now) v s (tokens c.in_ok-inside.inside.now) c.in_ok-inside.ensures (c.in_ok-name.name.now, tokens c.in_ok-name.behind.now) c.in_ok-name.ensures (tokens c.in_ok-kind.kind.now) c.in_ok-kind.ensures (tokens c.in-Ok.rest.now) c.in-Ok.ensures (tokens c.in_ok-symbol.field-0.now) c.in_ok-symbol.ensures
