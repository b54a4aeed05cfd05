use Rattle.std.proofs.Common.{◌≡◌, ◌+◌, ◌*◌, List, length}
use Rattle.npy_format.proofs.Words.{Literal, tokens, HasValues}
use Rattle.npy_format.proofs.RecordListLaws.{FieldsLeft}
use Rattle.npy_format.proofs.record_list.+record.Given as goal

-- a record is allowed one level less than the record around it
abbrev pub decreases-record : goal.decreases-record
decreases-record l = 4 * l.levels

abbrev pub decreases-field_type : goal.decreases-field_type
decreases-field_type l = 4 * l.levels + 1

abbrev pub decreases-add_field : goal.decreases-add_field
decreases-add_field l = 4 * l.builder.now.levels + 2

abbrev pub decreases-add_entry : goal.decreases-add_entry
decreases-add_entry l = 4 * l.builder.now.levels + 3

-- the entries so far are read
abbrev pub invariant-record-loop-rest : goal.invariant-record-loop-rest
invariant-record-loop-rest l = record {
  read : (values : List Literal) → HasValues 93 (tokens l.entries) values → FieldsLeft l.levels l.leaves values l.builder (tokens l.rest);
  levels : l.builder.levels + 1 ≡ l.levels;
}

abbrev pub decreases-record-loop-rest : goal.decreases-record-loop-rest
decreases-record-loop-rest l = length (tokens l.rest)
