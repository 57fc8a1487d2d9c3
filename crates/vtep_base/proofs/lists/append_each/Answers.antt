use Rattle.std.proofs.Math.Seq.{take-append_seam}
use Rattle.vtep_base.proofs.Kept.{always_on_err}
use Rattle.vtep_base.proofs.lists.append_each.Goals as goal

pub returns-in_err-extend_from_slice-clause-err : goal.returns-in_err-extend_from_slice-clause-err
returns-in_err-extend_from_slice-clause-err c =
    always_on_err c.from_residual.result (rw (c.in_err-extend_from_slice.ensures.items, c.pieces.invariant) (take-append_seam c.args.bytes.now.items _))
