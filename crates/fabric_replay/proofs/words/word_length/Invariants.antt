use Rattle.std.proofs.Common.{◌≡◌, ◌+◌, drop}
use Rattle.fabric_replay.specs.Seen.{word_length}
use Rattle.fabric_replay.proofs.words.word_length.Given as goal

abbrev pub invariant-bytes : goal.invariant-bytes
invariant-bytes l = word_length l.text ≡ l.at + word_length (drop l.at l.text)
