use Rattle.std.proofs.Common.{sym, ap, ◌∙◌}
use Rattle.forward_program.specs.Shown.{row_entries}
use Rattle.forward_program.specs.Follows.{places}
use Rattle.forward_program.proofs.ClearRows.{alone}
use Rattle.forward_program.proofs.follow.spots_of.Goals as goal

pub returns-in-LogicalSwitch : goal.returns-in-LogicalSwitch
returns-in-LogicalSwitch c =
    c.switch_spots.ensures c.args.own ∙ ap (λ t. places (row_entries c.args.own t (c.args.id, c.args.row.now))) (sym c.in-LogicalSwitch.is)

pub returns-in-UcastMacsRemote : goal.returns-in-UcastMacsRemote
returns-in-UcastMacsRemote c =
    alone c.remote_spot.result ∙ c.remote_spot.ensures c.args.own c.args.id ∙ ap (λ t. places (row_entries c.args.own t (c.args.id, c.args.row.now))) (sym c.in-UcastMacsRemote.is)

pub returns-in-McastMacsRemote : goal.returns-in-McastMacsRemote
returns-in-McastMacsRemote c =
    alone c.group_spot.result ∙ c.group_spot.ensures c.args.own c.args.id ∙ ap (λ t. places (row_entries c.args.own t (c.args.id, c.args.row.now))) (sym c.in-McastMacsRemote.is)
