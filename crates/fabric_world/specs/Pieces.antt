-- A script that is taken piece by piece.
use Rattle.std.specs.Prelude.{◌≡◌, List, [], ◌∷◌}
use Rattle.vtep_base.specs.Reading.{Bytes}
use Rattle.vtep_base.specs.Memory.{joined}
use Rattle.fabric_world.specs.Text.{cut}
use Rattle.fabric_world.specs.Script.{Stage, Played, silent, behind, play, played}

-- what the whole lines so far wrote, where the script stands, and what stands behind the last line feed
pub record Fed : Type 0 where
  pub lines : Played
  pub rest : Bytes

abbrev pub fresh : Stage → Fed
fresh first = record { lines = silent first; rest = [] }

abbrev pub feed : Fed → Bytes → Fed
feed f piece = record { lines = behind f.lines.text (play f.lines.stage (cut f.rest piece).0); rest = (cut f.rest piece).1 }

abbrev pub feed_all : Fed → List Bytes → Fed
feed_all f [] = f
feed_all f (piece ∷ pieces) = feed_all (feed f piece) pieces

abbrev pub whole : Stage → Bytes → Fed
whole first text = record { lines = played first text; rest = (cut [] text).1 }

-- pieces are played as their text is, wherever it is cut
abbrev pub CutsDoNotMatter : Type 0
CutsDoNotMatter = (first : Stage) (pieces : List Bytes) → feed_all (fresh first) pieces ≡ whole first (joined pieces)
