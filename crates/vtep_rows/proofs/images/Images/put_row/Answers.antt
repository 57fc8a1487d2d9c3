use Rattle.std.proofs.Common.{sym, ◌∙◌}
use Rattle.vtep_rows.proofs.Restored.{room_there, filled, forgotten}
use Rattle.vtep_rows.proofs.images.Images.put_row.Goals as goal

pub fill-requires : goal.fill-requires
fill-requires c = room_there c.args.self.now c.make_room.new.self (c.args.table, c.args.id) c.in_ok-make_room.ensures.ok

pub returns-in-Ok-clause-images : goal.returns-in-Ok-clause-images
returns-in-Ok-clause-images c =
    filled c.args.self.now c.make_room.new.self c.fill.new.self c.args.rows.now (c.args.table, c.args.id) c.in-Ok.old
    (sym c.has.ensures ∙ c.if-has.false) c.in_ok-make_room.ensures.ok c.fill.ensures c.in-Ok.ensures.before

pub returns-in-Err-clause-images_err : goal.returns-in-Err-clause-images_err
returns-in-Err-clause-images_err c = forgotten c.args.self.now c.make_room.new.self c.forget.new.self (c.args.table, c.args.id) (sym c.has.ensures ∙ c.if-has.false) c.in_ok-make_room.ensures.ok c.forget.ensures
