use Rattle.std.proofs.Common.{◌≡◌, drop}
use Rattle.fabric_world.specs.Lines.{kind_among}
use Rattle.fabric_replay.proofs.lines.kind_among.Given as goal

abbrev pub invariant-kinds : goal.invariant-kinds
invariant-kinds l = kind_among l.word l.kinds ≡ kind_among l.word (drop l.kind-index l.kinds)
