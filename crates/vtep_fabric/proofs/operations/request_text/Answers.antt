use Rattle.std.proofs.Common.{◌≡◌, ◌++◌, ◌∷◌, Bool, false, map, refl, ap, ◌∙◌}
use Rattle.std.specs.Prelude.{◌||◌, codes}
use Rattle.serde_json.specs.Data.{Data, string, number, unsigned}
use Rattle.serde_json.specs.View.{view}
use Rattle.serde_json.specs.Written.{has_float}
use Rattle.json_notation.specs.Json.{list}
use Rattle.rpc_framing.specs.Said.{Request, said}
use Rattle.rpc_framing.specs.Written.{message_json, message_text}
use Rattle.vtep_fabric.proofs.operations.request_text.Goals as goal

alone : (b : Bool) → b ≡ false → b || false ≡ false
alone b e = rw e refl

pub returns : goal.returns
returns c =
    let d : Data = list (string (codes "hardware_vtep") ∷ map view c.args.operations.items) in
    let says : said c.in_ok-message.message ≡ Request (codes "transact") d (number (unsigned 2)) =
    c.in_ok-message.ensures ∙ ap (λ p. Request (codes "transact") p (number (unsigned 2))) c.in_ok-params.ensures in
    let plain : has_float (message_json (said c.in_ok-message.message)) ≡ false = ap (λ m. has_float (message_json m)) says ∙ alone (has_float d) c.requires in
    c.in_ok-print.ensures.ok plain ∙ (λ i. c.new-text.ensures i ++ message_text (says i))
