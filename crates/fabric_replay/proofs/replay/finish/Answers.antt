use Rattle.std.proofs.Common.{[], sym, ◌∙◌}
use Rattle.fabric_world.specs.Script.{Played, Ended}
use Rattle.fabric_replay.proofs.Ends.{ended_wrote, same_played}
use Rattle.fabric_replay.proofs.replay.finish.Goals as goal

pub unreachable-requires : goal.unreachable-requires
unreachable-requires g c =
    c.in-Ok.ensures.over (rw (sym c.in-Ok.ensures.stage_so) (rw c.stage.ensures at c.in-None.ensures.ends.going))

pub returns : goal.returns
returns g c =
    let p : Played = g.R.Reader.meaning c.args.reader.now Ended [] in
    ended_wrote p _ Ended _ _ c.in-Some.status
    (same_played p c.end.new.out c.clear.new.self _ c.in-Ok.ensures.text c.clear.ensures (c.stage.ensures ∙ c.in-Ok.ensures.stage_so))
    c.in-Ok.ensures.over
    c.in-Some.ensures.ends
