use Rattle.std.proofs.Common.{◌≡◌, None, sym, ap, ◌∙◌, arith}
use Rattle.std.specs.Prelude.{option_and_then}
use Rattle.serde_json.specs.View.{items_view}
use Rattle.vtep_gateway.specs.Monitors.{asks_in}
use Rattle.vtep_gateway.proofs.Monitored.{below_three, above_three}
use Rattle.vtep_gateway.proofs.monitoring.asks.Goals as goal
use Rattle.vtep_gateway.proofs.monitoring.asks.Goals.{in_default-via-then-as_slice-lt3, in_default-via-else-as_slice-lt3+else-this-lt4}

pub returns-in_default : goal.returns-in_default
returns-in_default c =
    let none : asks_in (items_view c.as_slice.result.now) ≡ None =
    elim c.in_default.branch [
      | in_default-via-then-as_slice-lt3 w ↦ below_three c.as_slice.result.now (grind arith)
      | in_default-via-else-as_slice-lt3+else-this-lt4 w ↦ above_three c.as_slice.result.now (grind arith)
    ] in
    sym none ∙ ap (λ vs. asks_in (items_view vs)) c.as_slice.ensures.value ∙ ap (option_and_then asks_in) c.in_ok-as_array.ensures
