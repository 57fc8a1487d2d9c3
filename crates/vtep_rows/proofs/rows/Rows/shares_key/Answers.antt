use Rattle.std.proofs.Common.{ℕ, Bool, ◌==◌, not, ◌&&◌, sym, ap, ◌∙◌}
use Rattle.std.specs.List.{list_any}
use Rattle.vtep_rows.specs.Row.{Contents}
use Rattle.vtep_rows.specs.Rows.{rows_of}
use Rattle.vtep_rows.specs.Marks.{agree_at}
use Rattle.vtep_rows.proofs.IndexLaws.{of_rows}
use Rattle.vtep_rows.proofs.rows.Rows.shares_key.Goals as goal

pub returns : goal.returns
returns c =
    let p : ℕ × Contents → Bool = λ other. not (other.0 == c.args.id) && agree_at c.args.table c.args.place c.args.row.now other.1 in
    c.shares_key.ensures ∙ sym (of_rows (record { made = c.self.inside.made; counter = c.self.inside.counter; rows = c.self.inside.rows }) c.args.table p)
    ∙ ap (λ r. list_any p (rows_of c.args.table r)) c.self.view_is
