use Rattle.std.proofs.Common.{◌+◌, ◌∷◌, drop, sym, ap, ◌∙◌}
use Rattle.std.proofs.lemmas.List.{at_drop_more}
use Rattle.std.specs.List.{flat_map}
use Rattle.vtep_schema.specs.Tables.{column_rule}
use Rattle.vtep_rows.specs.Row.{references_in}
use Rattle.vtep_rows.specs.Names.{lowered_all}
use Rattle.vtep_rows.proofs.NameCounts.{lowered_both}
use Rattle.vtep_rows.proofs.names.Names.lower_fields.Goals as goal

pub values-preserved : goal.values-preserved
values-preserved c =
    ap (λ m. lowered_all m c.args.of (flat_map (λ e. references_in (column_rule e.0) e.1) (drop (c.values.column-index + 1) c.args.fields.now)))
    (c.lower_value.ensures ∙ ap (λ r. lowered_all c.values.self c.args.of (references_in r c.values-item.result.1)) c.column_rule.ensures)
    ∙ sym (lowered_both c.values.self c.args.of (references_in (column_rule c.values-item.result.0) c.values-item.result.1) (flat_map (λ e. references_in (column_rule e.0) e.1) (drop (c.values.column-index + 1) c.args.fields.now)))
    ∙ ap (λ e. lowered_all c.values.self c.args.of (flat_map (λ f. references_in (column_rule f.0) f.1) (e ∷ drop (c.values.column-index + 1) c.args.fields.now))) c.values-item.is
    ∙ sym (at_drop_more (λ es. lowered_all c.values.self c.args.of (flat_map (λ e. references_in (column_rule e.0) e.1) es)) c.args.fields.now c.values.column-index c.values-item.result c.values-test.true)
    ∙ c.values.invariant
