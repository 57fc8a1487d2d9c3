use Rattle.fabric_replay.specs.Stages.{stage_of}
use Rattle.fabric_replay.proofs.Ends.{first_unread, first_number, ran_form}
use Rattle.fabric_replay.proofs.replay.run_lines.Goals as goal

pub run_text-requires : goal.run_text-requires
run_text-requires g c = record {
  unread = first_unread c.args.form (stage_of c.new-script.result.stage) c.new-script.result.front.items c.new-script.ensures.stage;
  number = first_number c.args.form (stage_of c.new-script.result.stage) c.new-script.ensures.stage;
}

pub returns : goal.returns
returns g c = ran_form c.args.form (stage_of c.new-script.result.stage) c.new-script.result.front.items _ _ _ _ c.run_text.result c.new-script.ensures.stage c.new-script.ensures.front c.run_text.ensures
