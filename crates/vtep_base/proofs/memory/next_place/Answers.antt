use Rattle.std.proofs.Common.{◌∙◌, ◌≤◌, length, arith}
use Rattle.vtep_base.proofs.Pieces.{left_next, taken_next}
use Rattle.vtep_base.proofs.memory.next_place.Goals as goal

pub spent-preserved : goal.spent-preserved
spent-preserved c =
    let spent : length c.index-pieces-place.result ≤ c.spent.offset = omega arith in
    let here = rw c.index-pieces-place.is at spent in
    record {
      left = left_next c.index-pieces-place.result c.args.pieces.now c.spent.place c.spent.offset here ∙ c.spent.invariant.left;
      taken = taken_next c.index-pieces-place.result c.args.pieces.now c.spent.place c.spent.offset here ∙ c.spent.invariant.taken;
    }
