use Rattle.std.proofs.Common.{◌<◌, ◌%◌, arith}
use Rattle.vtep_base.proofs.PairRoom.{digit_fits, in_room}
use Rattle.vtep_base.proofs.addresses.PairsFront.step.Goals as goal

pub overflow_mul-result : goal.overflow_mul-result
overflow_mul-result c = omega (arith, c.self.invariant.below, in_room c.self.inside.left)

pub overflow_add-result : goal.overflow_add-result
overflow_add-result c = omega (arith, c.self.invariant.below, in_room c.self.inside.left, c.from.ensures, c.in_ok-digit.ensures.within)

pub invariant_of-result-2 : goal.invariant_of-result-2
invariant_of-result-2 c =
    let digit : 0 < c.self.inside.left % 3 = omega (arith, c.if-self-eq0-2.false) in
    let small : c.from.result < 16 = omega (arith, c.from.ensures, c.in_ok-digit.ensures.within) in
    record {
      within = omega (arith, c.self.invariant.within);
      below = digit_fits c.self.inside.left c.self.inside.number c.from.result c.self.invariant.within digit c.self.invariant.below small;
    }
