use Rattle.std.proofs.Common.{◌≤◌, arith}
use Rattle.forward_program.proofs.Bounds.{key_within}
use Rattle.forward_program.proofs.readings.tunnel_key.Goals as goal

pub overflow_cast-number : goal.overflow_cast-number
overflow_cast-number c =
    let small : c.in-Some.number ≤ 16777215 = key_within c.args.row.now _ _ _ c.table.ensures.row c.atoms.ensures c.first_number.ensures c.in-Some.is in
    omega arith

pub new-requires : goal.new-requires
new-requires c =
    let small : c.in-Some.number ≤ 16777215 = key_within c.args.row.now _ _ _ c.table.ensures.row c.atoms.ensures c.first_number.ensures c.in-Some.is in
    omega arith
