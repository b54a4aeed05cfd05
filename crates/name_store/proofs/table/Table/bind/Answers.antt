use Rattle.std.proofs.Common.{refl}
use Rattle.name_store.proofs.Words.{IfOk-at_ok}
use Rattle.name_store.proofs.BindLaws.{rebinds, inserted-holds}
use Rattle.name_store.proofs.table.Table.bind.Goals as goal

pub invariant_of-self : goal.invariant_of-self
invariant_of-self c =
    let h = rw c.in_ok-entry.ensures.names at c.lodge.new.self.holds in
    let entries = rw c.in_ok-entry.ensures.names at c.insert.ensures.entries in
    let old = rw c.in_ok-entry.ensures.names at c.insert.ensures.old in
    let len = rw c.in_ok-entry.ensures.names at c.insert.ensures.len in
    record {
      holds = inserted-holds c.insert.result c.args.self.now.names.entries c.insert.new.self.entries c.args.self.now.slots.cells.items c.lodge.new.self.slots.cells.items c.args.self.now.holds h _ c.args.key c.in_ok-entry.entry (c.insert.ensures.succeeds (rw c.in_ok-entry.ensures.names c.requires.spare)) entries (λ _. refl) old len
          c.requires.room c.args.bound c.in_ok-entry.ensures.lodges;
    }

pub returns-clause-done : goal.returns-clause-done
returns-clause-done c =
    let h = rw c.in_ok-entry.ensures.names at c.lodge.new.self.holds in
    let entries = rw c.in_ok-entry.ensures.names at (IfOk-at_ok _ c.unwrap.ensures c.insert.ensures.entries) in
    let old = rw c.in_ok-entry.ensures.names at (IfOk-at_ok _ c.unwrap.ensures c.insert.ensures.old) in
    let len = rw c.in_ok-entry.ensures.names at (IfOk-at_ok _ c.unwrap.ensures c.insert.ensures.len) in
    rebinds c.args.self.now.names.entries c.insert.new.self.entries c.args.self.now.slots.cells.items c.lodge.new.self.slots.cells.items c.args.self.now.holds h _ c.args.key c.in_ok-entry.entry c.unwrap.result entries (λ _. refl) old len c.requires.room c.args.bound c.in_ok-entry.ensures.lodges
