use Rattle.std.proofs.Common.{subst}
use Rattle.fabric_replay.specs.Seen.{DoesHaveSession}
use Rattle.fabric_replay.proofs.SessionsOfLines.{read_session}
use Rattle.fabric_replay.proofs.script.go.Goals as goal

pub perform-requires-clause-session : goal.perform-requires-clause-session
perform-requires-clause-session c = subst DoesHaveSession c.in-Ok-Do.field-0-is (read_session c.args.line.now c.in-Ok-Do.field-0 c.in-Ok-Do.ensures)
