use Rattle.fabric_replay.proofs.LinesOfPieces.{ends_line}
use Rattle.fabric_replay.proofs.script.line_feed.Goals as goal

pub returns : goal.returns
returns c = ends_line c.args.text.now c.memchr.result c.memchr.ensures
