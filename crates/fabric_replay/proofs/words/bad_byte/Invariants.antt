use Rattle.std.proofs.Common.{◌≡◌, ◌+◌, drop}
use Rattle.fabric_world.specs.Text.{bad_from, bad_byte}
use Rattle.fabric_replay.proofs.words.bad_byte.Given as goal

abbrev pub invariant-bytes : goal.invariant-bytes
invariant-bytes l = bad_byte l.line ≡ bad_from (l.at + 1) (drop l.at l.line)
