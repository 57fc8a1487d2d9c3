-- How definitions see the forms of the code.
use Rattle.std.specs.Prelude.{option_map}
use Rattle.serde_json.specs.View.{items_view}
use Rattle.monitor_updates.specs.declared.requests.Form as code
use Rattle.monitor_updates.specs.Forms.{Form}

abbrev pub seen : code.Form → Form
seen f = record { names = option_map (λ s. items_view s.now) f.names; initial = f.initial; insert = f.insert; delete = f.delete; modify = f.modify }
