use Rattle.std.proofs.Common.{◌≡◌, ◌++◌, take}
use Rattle.std.specs.List.{flat_map}
use Rattle.vtep_rows.specs.Rows.{Rows}
use Rattle.vtep_rows.specs.Changes.{changes}
use Rattle.vtep_gateway.specs.Monitors.{told}
use Rattle.vtep_gateway.proofs.open_monitors.tell_each.Given as goal

abbrev pub invariant-monitors : goal.invariant-monitors
invariant-monitors l = (old : Rows) → (new : Rows) → l.change ≡ changes old new → l.sends ≡ l.initial.sends ++ flat_map (told old new l.session) (take l.monitor-index l.monitors)
