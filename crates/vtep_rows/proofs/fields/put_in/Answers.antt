use Rattle.std.proofs.Common.{◌<◌, ◌≤◌, Ok, Err, insert, sym, ap, subst, ◌∙◌}
use Rattle.vtep_schema.specs.Orders.{column_exact}
use Rattle.vtep_rows.proofs.FieldLists.{placed_as}
use Rattle.vtep_rows.proofs.fields.put_in.Goals as goal

pub replace-requires : goal.replace-requires
replace-requires c =
    subst (λ n. c.in-Ok.at < n) (sym c.args.values.now.ok.0)
    (placed_as column_exact c.args.column c.args.datum c.args.values.now.items c.as_slice.result.now c.place_in.result (Ok c.in-Ok.at)
    c.place_in.ensures c.as_slice.ensures.value c.in-Ok.is).0

pub insert-requires : goal.insert-requires
insert-requires c =
    subst (λ n. c.in-Err.at ≤ n) (sym c.args.values.now.ok.0 ∙ sym c.reserve_exact.ensures.len)
    (placed_as column_exact c.args.column c.args.datum c.args.values.now.items c.as_slice.result.now c.place_in.result (Err c.in-Err.at)
    c.place_in.ensures c.as_slice.ensures.value c.in-Err.is).0

pub returns-in-Ok-clause-ok : goal.returns-in-Ok-clause-ok
returns-in-Ok-clause-ok c =
    c.replace.ensures
    ∙ (placed_as column_exact c.args.column c.args.datum c.args.values.now.items c.as_slice.result.now c.place_in.result (Ok c.in-Ok.at)
    c.place_in.ensures c.as_slice.ensures.value c.in-Ok.is).1

pub returns-in_ok-insert-in-Err-clause-ok : goal.returns-in_ok-insert-in-Err-clause-ok
returns-in_ok-insert-in-Err-clause-ok c =
    c.in_ok-insert-in-Err.ensures.items
    ∙ ap (λ es. insert es c.in-Err.at (c.args.column, c.args.datum)) c.reserve_exact.ensures.items
    ∙ (placed_as column_exact c.args.column c.args.datum c.args.values.now.items c.as_slice.result.now c.place_in.result (Err c.in-Err.at)
    c.place_in.ensures c.as_slice.ensures.value c.in-Err.is).1
