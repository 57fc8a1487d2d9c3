use Rattle.std.proofs.Common.{rules, not, ap, ◌∙◌}
use Rattle.std.proofs.lemmas.Fn.{filter_same}
use Rattle.vtep_base.specs.Reading.{same_bytes}
use Rattle.vtep_gateway.specs.Monitors.{others}
use Rattle.vtep_gateway.proofs.open_monitors.others.Goals as goal

pub returns : goal.returns
returns c =
    c.from_vec.ensures ∙ filter_same _ (λ w. not (same_bytes w.name c.args.name.now)) _ (λ x b f' k. search rules) _ _ c.retain.ensures.filtered
    ∙ ap (λ ws. others ws c.args.name.now) c.into_vec-monitors.ensures
