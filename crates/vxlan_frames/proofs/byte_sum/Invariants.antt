use Rattle.std.proofs.Common.{◌≡◌, ◌*◌, ◌≤◌, take}
use Rattle.std.specs.Prelude.{sum}
use Rattle.vxlan_frames.proofs.byte_sum.Given as goal

abbrev pub invariant-bytes : goal.invariant-bytes
invariant-bytes l = (l.sum ≡ sum (take l.byte-index l.bytes)) × (l.sum ≤ 255 * l.byte-index)
