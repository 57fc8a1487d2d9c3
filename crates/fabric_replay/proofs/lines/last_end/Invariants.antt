use Rattle.std.proofs.Common.{◌≡◌, drop, map}
use Rattle.fabric_world.specs.Lines.{last_end, end_behind}
use Rattle.fabric_replay.specs.Seen.{seen, AllFit}
use Rattle.fabric_replay.proofs.lines.last_end.Given as goal

abbrev pub invariant-words : goal.invariant-words
invariant-words l = record {
  end : end_behind l.end (map seen (drop l.word-index l.words)) ≡ last_end (map seen l.words);
  fit : AllFit (drop l.word-index l.words);
}
