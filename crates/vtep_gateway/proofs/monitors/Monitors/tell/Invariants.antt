use Rattle.std.proofs.Common.{◌≡◌, ◌++◌}
use Rattle.std.specs.List.{flat_map}
use Rattle.vtep_rows.specs.Rows.{Rows}
use Rattle.vtep_rows.specs.Changes.{changes}
use Rattle.vtep_gateway.specs.Monitors.{told, told_all}
use Rattle.vtep_gateway.proofs.monitors.Monitors.tell.Given as goal

abbrev pub invariant-sessions : goal.invariant-sessions
invariant-sessions l =
    (old : Rows) → (new : Rows) → l.change ≡ changes old new
    → l.sends ++ flat_map (λ e. flat_map (told old new e.0) e.1) l.session-iterator ≡ l.initial.sends ++ told_all old new l.self
