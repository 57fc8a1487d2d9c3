use Rattle.std.proofs.Common.{sym, ap, ◌∙◌}
use Rattle.std.specs.List.{list_any}
use Rattle.vtep_rows.specs.Rows.{names, rows_of}
use Rattle.vtep_rows.proofs.IndexLaws.{of_rows}
use Rattle.vtep_rows.proofs.rows.Rows.names.Goals as goal

pub returns : goal.returns
returns c =
    c.names.ensures ∙ sym (of_rows (record { made = c.self.inside.made; counter = c.self.inside.counter; rows = c.self.inside.rows }) c.args.table (λ row. names row.1 (c.args.of, c.args.id)))
    ∙ ap (λ r. list_any (λ row. names row.1 (c.args.of, c.args.id)) (rows_of c.args.table r)) c.self.view_is
