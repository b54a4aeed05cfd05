-- The state that a table represents.
use Rattle.name_store.specs.States.{State}
use Rattle.name_store.specs.View.{present}
use Rattle.name_store.specs.declared.table.Table.{Table}

-- the names and buffers of a table, without kept states
abbrev pub table_state : Table → State
table_state table = present table.names.entries table.slots.cells.items
