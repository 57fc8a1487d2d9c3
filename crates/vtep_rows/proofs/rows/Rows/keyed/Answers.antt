use Rattle.std.proofs.Common.{map, sym, ap, ◌∙◌}
use Rattle.std.specs.List.{filter}
use Rattle.vtep_rows.specs.Row.{first}
use Rattle.vtep_rows.specs.Rows.{rows_of}
use Rattle.vtep_rows.specs.Keyed.{holds, first_key}
use Rattle.vtep_rows.proofs.KeyedLaws.{first_of_rows}
use Rattle.vtep_rows.proofs.rows.Rows.keyed.Goals as goal

pub returns : goal.returns
returns c =
    c.keyed.ensures
    ∙ ap first (sym (first_of_rows (record { made = c.self.inside.made; counter = c.self.inside.counter; rows = c.self.inside.rows }) c.args.table (λ row. holds (first_key c.args.table) c.args.key.now row.1)))
    ∙ ap (λ r. first (map (λ row. row.0) (filter (λ row. holds (first_key c.args.table) c.args.key.now row.1) (rows_of c.args.table r)))) c.self.view_is
