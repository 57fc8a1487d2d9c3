use Rattle.std.proofs.Common.{◌≡◌, ◌*◌, drop, fold}
use Rattle.vxlan_frames.specs.Packets.{ones_add, ones_sum, words}
use Rattle.vxlan_frames.proofs.ones_sum.Given as goal

abbrev pub invariant-words : goal.invariant-words
invariant-words l = fold ones_add l.sum (words (drop (2 * l.index) l.bytes)) ≡ ones_sum l.bytes
