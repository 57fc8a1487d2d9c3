-- What opens the definitions of the libraries by which a script's output computes: `unfolding texts`.
use Rattle.std.specs.Prelude.{ℕ}
use Rattle.std.specs.Fmt.{digits}
use Rattle.hex.specs.Hex.{encode_with, decode_pairs}
use Rattle.vxlan_frames.specs.Packets.{canon, packet_of}

unfoldable pub texts : ℕ
unfolding digits encode_with decode_pairs canon packet_of
texts = 0
