use Rattle.std.proofs.Common.{◌≡◌, None, sym, ap, ◌∙◌, arith}
use Rattle.std.specs.Prelude.{option_and_then}
use Rattle.serde_json.specs.View.{items_view}
use Rattle.vtep_gateway.specs.Monitors.{one_in}
use Rattle.vtep_gateway.proofs.Monitored.{below_one, above_one}
use Rattle.vtep_gateway.proofs.monitoring.one_of.Goals as goal
use Rattle.vtep_gateway.proofs.monitoring.one_of.Goals.{in_default-via-then-as_slice-lt1, in_default-via-else-as_slice-lt1+else-this-lt2}

pub returns-in_default : goal.returns-in_default
returns-in_default c =
    let none : one_in (items_view c.as_slice.result.now) ≡ None =
    elim c.in_default.branch [
      | in_default-via-then-as_slice-lt1 w ↦ below_one c.as_slice.result.now (grind arith)
      | in_default-via-else-as_slice-lt1+else-this-lt2 w ↦ above_one c.as_slice.result.now (grind arith)
    ] in
    sym none ∙ ap (λ vs. one_in (items_view vs)) c.as_slice.ensures.value ∙ ap (option_and_then one_in) c.in_ok-as_array.ensures
