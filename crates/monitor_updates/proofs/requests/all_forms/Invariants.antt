use Rattle.std.proofs.Common.{◌≡◌, drop}
use Rattle.serde_json.specs.View.{items_view}
use Rattle.monitor_updates.specs.Forms.{all_forms}
use Rattle.monitor_updates.proofs.requests.all_forms.Given as goal

abbrev pub invariant-values : goal.invariant-values
invariant-values l = all_forms (items_view (drop l.value-index l.values)) ≡ all_forms (items_view l.values)
