use Rattle.std.proofs.Common.{◌+◌, sym, ap, ◌∙◌}
use Rattle.vtep_rows.specs.Rows.{row_at, row_id}
use Rattle.vtep_rows.specs.Database.{remembered}
use Rattle.vtep_rows.proofs.Restored.{room_only, forgotten}
use Rattle.vtep_rows.proofs.images.Images.insert_row.Goals as goal

pub returns-in-Ok-clause-images : goal.returns-in-Ok-clause-images
returns-in-Ok-clause-images c =
    let next = c.id-id.ensures ∙ ap (λ n. row_id c.args.rows.now.made (n + 1)) c.counter.ensures.value in
    room_only c.args.self.now c.make_room.new.self c.args.rows.now (c.args.table, c.id-id.result) (sym c.has.ensures ∙ c.if-has.false) c.in_ok-make_room.ensures.ok
    (ap (λ i. row_at c.args.rows.now (c.args.table, i)) (next ∙ sym c.in-Ok.ensures.id) ∙ c.in-Ok.ensures.fresh c.args.table)
    ∙ ap (λ i. remembered c.args.self.now c.args.rows.now (c.args.table, i)) next

pub returns-in-Err-clause-images_err : goal.returns-in-Err-clause-images_err
returns-in-Err-clause-images_err c = forgotten c.args.self.now c.make_room.new.self c.forget.new.self (c.args.table, c.id-id.result) (sym c.has.ensures ∙ c.if-has.false) c.in_ok-make_room.ensures.ok c.forget.ensures
