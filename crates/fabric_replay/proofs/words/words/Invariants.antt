use Rattle.std.proofs.Common.{◌≡◌, ◌+◌, ◌++◌, map, length}
use Rattle.fabric_world.specs.Text.{words, words_from}
use Rattle.fabric_replay.specs.Seen.{seen, AllFit}
use Rattle.fabric_replay.proofs.words.words.Given as goal

abbrev pub invariant-rest : goal.invariant-rest
invariant-rest l = record {
  found : map seen l.found.items ++ words_from l.column l.rest ≡ words l.line;
  fit : AllFit l.found.items;
  columns : l.column + length l.rest ≡ length l.line + 1;
}

abbrev pub decreases-rest : goal.decreases-rest
decreases-rest l = length l.rest
