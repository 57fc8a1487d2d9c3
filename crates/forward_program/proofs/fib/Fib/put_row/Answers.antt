use Rattle.std.proofs.Common.{◌≡◌, OnOk, subst, sym}
use Rattle.vtep_schema.specs.declared.Table.{Table}
use Rattle.vtep_rows.specs.Row.{put_all}
use Rattle.forward_program.specs.Shown.{row_entries}
use Rattle.forward_program.proofs.fib.Fib.put_row.Goals as goal

pub returns-in-PhysicalPort-clause-ok : goal.returns-in-PhysicalPort-clause-ok
returns-in-PhysicalPort-clause-ok g c =
    subst (λ (t : Table). OnOk c.put_port.result (c.put_port.new.self.entries ≡ put_all c.args.self.now.entries (row_entries c.args.own t (c.args.id, c.args.row.now)))) (sym c.in-PhysicalPort.is) (c.put_port.ensures.ok c.args.own)

pub returns-in-LogicalSwitch-clause-ok : goal.returns-in-LogicalSwitch-clause-ok
returns-in-LogicalSwitch-clause-ok g c =
    subst (λ (t : Table). OnOk c.put_switch.result (c.put_switch.new.self.entries ≡ put_all c.args.self.now.entries (row_entries c.args.own t (c.args.id, c.args.row.now)))) (sym c.in-LogicalSwitch.is) (c.put_switch.ensures.ok c.args.own)

pub returns-in-UcastMacsRemote-clause-ok : goal.returns-in-UcastMacsRemote-clause-ok
returns-in-UcastMacsRemote-clause-ok g c =
    subst (λ (t : Table). OnOk c.put_remote.result (c.put_remote.new.self.entries ≡ put_all c.args.self.now.entries (row_entries c.args.own t (c.args.id, c.args.row.now)))) (sym c.in-UcastMacsRemote.is) (c.put_remote.ensures.ok c.args.own)

pub returns-in-McastMacsRemote-clause-ok : goal.returns-in-McastMacsRemote-clause-ok
returns-in-McastMacsRemote-clause-ok g c =
    subst (λ (t : Table). OnOk c.put_group.result (c.put_group.new.self.entries ≡ put_all c.args.self.now.entries (row_entries c.args.own t (c.args.id, c.args.row.now)))) (sym c.in-McastMacsRemote.is) (c.put_group.ensures.ok c.args.own)

pub returns-in-PhysicalLocatorSet-clause-ok : goal.returns-in-PhysicalLocatorSet-clause-ok
returns-in-PhysicalLocatorSet-clause-ok g c =
    subst (λ (t : Table). OnOk c.put_set.result (c.put_set.new.self.entries ≡ put_all c.args.self.now.entries (row_entries c.args.own t (c.args.id, c.args.row.now)))) (sym c.in-PhysicalLocatorSet.is) (c.put_set.ensures.ok c.args.own)
