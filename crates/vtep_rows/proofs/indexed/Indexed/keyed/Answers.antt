use Rattle.std.proofs.Common.{◌&&◌, map, ap, ◌∙◌}
use Rattle.std.specs.List.{filter}
use Rattle.vtep_base.specs.Maps as maps
use Rattle.vtep_schema.specs.Tables.{same_table}
use Rattle.vtep_rows.specs.Row.{first}
use Rattle.vtep_rows.specs.Marks.{is_at_place}
use Rattle.vtep_rows.specs.Keyed.{holds, first_key, holds_there}
use Rattle.vtep_rows.proofs.KeyedLaws.{first_is}
use Rattle.vtep_rows.proofs.indexed.Indexed.keyed.Goals as goal

pub returns : goal.returns
returns c =
    c.first_marked.ensures
    ∙ ap (λ s. first (map (λ e. e.0.4) (filter (λ e. holds_there c.args.table c.args.key.now (maps.get c.self.inside.store (c.args.table, e.0.4))) (filter (λ e. is_at_place (c.args.table, 0, s.number, s.id) e.0) c.self.inside.indexes.marks.list)))) c.of.ensures
    ∙ first_is c.self.inside.indexes c.self.inside.store c.args.table c.args.key.now c.self.invariant
    ∙ ap (λ m. first (map (λ e. e.0.1) (filter (λ e. same_table e.0.0 c.args.table && holds (first_key c.args.table) c.args.key.now e.1) m.list))) c.self.view_is
