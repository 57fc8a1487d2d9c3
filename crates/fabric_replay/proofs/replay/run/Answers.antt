use Rattle.std.proofs.Common.{map, sym, ap, ◌∙◌}
use Rattle.std.specs.String.{string_bytes}
use Rattle.fabric_world.specs.Script.{form_of}
use Rattle.fabric_world.proofs.DeliveryLaw.{settled_delivers}
use Rattle.fabric_world.proofs.LineRanges.{read_lines_are_lines}
use Rattle.fabric_replay.proofs.Completes.{completes_asked}
use Rattle.fabric_replay.proofs.Ends.{ends_usage}
use Rattle.fabric_replay.proofs.replay.run.Goals as goal

pub returns-in-Some-clause-complete : goal.returns-in-Some-clause-complete
returns-in-Some-clause-complete g c form =
    completes_asked (form_of (map string_bytes c.args.words.now.items)) c.in-Some.form form _ _ _ _ c.run_lines.result
    (ap (λ w. form_of (map string_bytes w)) (sym c.as_slice.ensures.value) ∙ sym c.form_of.ensures ∙ c.in-Some.is) c.run_lines.ensures

pub returns-in-None-clause-ran : goal.returns-in-None-clause-ran
returns-in-None-clause-ran g c = ends_usage (form_of (map string_bytes c.args.words.now.items)) _ _ _ c.usage.result (ap (λ w. form_of (map string_bytes w)) (sym c.as_slice.ensures.value) ∙ sym c.form_of.ensures ∙ c.in-None.is) c.usage.ensures

pub returns-in-Some-clause-delivers : goal.returns-in-Some-clause-delivers
returns-in-Some-clause-delivers g c = settled_delivers

pub returns-in-None-clause-delivers : goal.returns-in-None-clause-delivers
returns-in-None-clause-delivers g c = settled_delivers

pub returns-in-Some-clause-lines : goal.returns-in-Some-clause-lines
returns-in-Some-clause-lines g c = read_lines_are_lines

pub returns-in-None-clause-lines : goal.returns-in-None-clause-lines
returns-in-None-clause-lines g c = read_lines_are_lines
