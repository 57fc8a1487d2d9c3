use Rattle.std.proofs.Common.{◌≡◌, drop, map, None}
use Rattle.fabric_world.specs.Acls.{no_fields}
use Rattle.fabric_world.specs.Lines.{matching_from}
use Rattle.fabric_replay.specs.Seen.{seen}
use Rattle.fabric_replay.proofs.fields.matching.Given as goal

abbrev pub invariant-words : goal.invariant-words
invariant-words l = matching_from l.matching (map seen (drop l.word-index l.words)) ≡ matching_from (no_fields, None) (map seen l.words)
