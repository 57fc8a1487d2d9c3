use Rattle.std.proofs.Common.{◌==◌, not, ◌&&◌, sym, ap, ◌∙◌}
use Rattle.std.specs.List.{list_any}
use Rattle.vtep_schema.specs.Tables.{same_table}
use Rattle.vtep_rows.specs.Marks.{agree_at}
use Rattle.vtep_rows.proofs.TwinLaws.{twin_is, no_twin}
use Rattle.vtep_rows.proofs.indexed.Indexed.shares_key.Goals as goal

pub returns-in-Some : goal.returns-in-Some
returns-in-Some c =
    c.has_marked_twin.ensures
    ∙ twin_is c.self.inside.indexes c.self.inside.store c.args.table c.args.place c.args.id c.args.row.now c.in-Some.stamp c.self.invariant (sym c.in-Some.ensures)
    ∙ ap (λ m. list_any (λ e. same_table e.0.0 c.args.table && (not (e.0.1 == c.args.id) && agree_at c.args.table c.args.place c.args.row.now e.1)) m.list) c.self.view_is

pub returns-in-None : goal.returns-in-None
returns-in-None c =
    no_twin c.self.inside.indexes c.self.inside.store c.args.table c.args.place c.args.id c.args.row.now (sym c.in-None.ensures)
    ∙ ap (λ m. list_any (λ e. same_table e.0.0 c.args.table && (not (e.0.1 == c.args.id) && agree_at c.args.table c.args.place c.args.row.now e.1)) m.list) c.self.view_is
