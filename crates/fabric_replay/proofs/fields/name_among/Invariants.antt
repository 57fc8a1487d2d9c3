use Rattle.std.proofs.Common.{◌≡◌, drop}
use Rattle.fabric_world.specs.Fields.{name_among}
use Rattle.fabric_replay.proofs.fields.name_among.Given as goal

abbrev pub invariant-names : goal.invariant-names
invariant-names l = name_among l.word l.names ≡ name_among l.word (drop l.name-index l.names)
