use Rattle.std.proofs.Common.{◌∙◌, ⊎_elim, inl, inr, ap, sym, Ok}
use Rattle.npy_format.proofs.Words.{err_from_is_err_and, RecordDescr, ◌>>=◌, tokens, descr_in}
use Rattle.npy_format.proofs.PlaceLaws.{front_of}
use Rattle.npy_format.proofs.StandLaws.{string_stands, list_stands, no_type}
use Rattle.npy_format.proofs.RecordListLaws.{gives_value, list_descr}
use Rattle.npy_format.proofs.record_list.descr.Goals as goal

pub returns-in-Some : goal.returns-in-Some
returns-in-Some c = λ v s. gives_value _ _ (ap descr_in (string_stands (c.in-Some.kind.now, tokens c.in-Some.field-0-1.now) c.in-Some.ensures (front_of (tokens c.args.text.now) v s)) ∙ sym c.scalar.ensures.value)

pub returns-in_default-symbol : goal.returns-in_default-symbol
returns-in_default-symbol c = λ v s. inr (no_type c.in_default.ensures c.in_default-symbol.ensures (front_of (tokens c.args.text.now) v s)).1

pub returns-in_err-whole : goal.returns-in_err-whole
returns-in_err-whole c = λ v s.
    let row = list_stands (tokens c.in-Some-symbol.entries.now) c.in-Some-symbol.ensures (front_of (tokens c.args.text.now) v s) in
    let p = err_from_is_err_and c.from_residual.result c.from_residual.ensures.1 in
    rw (p.1, p.2) (⊎_elim inl (λ e. inr (list_descr v row.0 row.1 ∙ ap (λ r. r >>= λ whole. Ok (RecordDescr whole)) e)) (c.in_err-whole.ensures.gives row.0 row.2))

pub returns : goal.returns
returns c = λ v s.
    let row = list_stands (tokens c.in-Some-symbol.entries.now) c.in-Some-symbol.ensures (front_of (tokens c.args.text.now) v s) in
    list_descr v row.0 row.1 ∙ ap (λ r. r >>= λ whole. Ok (RecordDescr whole)) (c.in_ok-whole.ensures.gives row.0 row.2)
