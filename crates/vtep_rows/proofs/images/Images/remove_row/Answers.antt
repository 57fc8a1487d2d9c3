use Rattle.std.proofs.Common.{sym, ◌∙◌}
use Rattle.vtep_rows.proofs.Restored.{room_there, filled}
use Rattle.vtep_rows.proofs.images.Images.remove_row.Goals as goal

pub fill-requires : goal.fill-requires
fill-requires c = room_there c.args.self.now c.make_room.new.self (c.args.table, c.args.id) c.in_ok-make_room.ensures.ok

pub returns-clause-images : goal.returns-clause-images
returns-clause-images c =
    filled c.args.self.now c.make_room.new.self c.fill.new.self c.args.rows.now (c.args.table, c.args.id) c.remove-old.result
    (sym c.has.ensures ∙ c.if-has.false) c.in_ok-make_room.ensures.ok c.fill.ensures c.remove-old.ensures.before
