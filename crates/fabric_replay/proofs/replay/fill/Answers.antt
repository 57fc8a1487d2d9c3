use Rattle.std.proofs.Common.{[], sym, refl, ◌∙◌}
use Rattle.fabric_world.specs.Script.{Played, Full}
use Rattle.fabric_replay.proofs.Ends.{ended_wrote, same_played}
use Rattle.fabric_replay.proofs.replay.fill.Goals as goal

pub unreachable-requires : goal.unreachable-requires
unreachable-requires g c =
    c.fill.ensures.over (rw (sym c.fill.ensures.stage_so) (rw c.stage.ensures at c.in-None.ensures.ends.going))

pub returns : goal.returns
returns g c =
    let p : Played = g.R.Reader.meaning c.args.reader.now Full [] in
    ended_wrote p _ Full _ _ c.in-Some.status
    (same_played p c.clear.new.self [] _ (c.clear.ensures ∙ c.fill.ensures.text) refl (c.stage.ensures ∙ c.fill.ensures.stage_so))
    c.fill.ensures.over
    c.in-Some.ensures.ends
