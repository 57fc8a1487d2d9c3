use Rattle.std.proofs.Common.{◌≡◌, drop}
use Rattle.serde_json.specs.View.{items_view}
use Rattle.monitor_updates.specs.Forms.{all_texts}
use Rattle.monitor_updates.proofs.requests.all_texts.Given as goal

abbrev pub invariant-values : goal.invariant-values
invariant-values l = all_texts (items_view (drop l.value-index l.values)) ≡ all_texts (items_view l.values)
