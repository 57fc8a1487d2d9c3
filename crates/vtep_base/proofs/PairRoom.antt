-- The digits of an address that is read have room in 48 bits.
use Rattle.std.proofs.Common.{◌≡◌, ℕ, ◌+◌, ◌-◌, ◌*◌, ◌%◌, ◌^◌, ◌<◌, ◌≤◌, arith}
use Rattle.std.proofs.Math.Nat.{pow-le-pow_right}
use Rattle.std.proofs.lemmas.Grind.{pow_more}
use Rattle.vtep_base.specs.PairCells.{digits_left}

pub digit_fits : (left number d : ℕ) → left ≤ 17 → 0 < left % 3 → number < 16 ^ (12 - digits_left left) → d < 16 → 16 * number + d < 16 ^ (12 - digits_left (left - 1))
digit_fits left number d within at below small =
    let one_more : 12 - digits_left (left - 1) ≡ 12 - digits_left left + 1 = omega arith in
    rw (one_more, pow_more) (omega (arith, below, small))

pub in_room : (left : ℕ) → 16 ^ (12 - digits_left left) ≤ 2 ^ 48
in_room left =
    let fewer : 12 - digits_left left ≤ 12 = omega arith in
    pow-le-pow_right (omega arith) fewer
