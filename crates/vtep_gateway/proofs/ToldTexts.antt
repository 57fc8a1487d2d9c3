-- What monitors are told, as it is sent.
use Rattle.std.proofs.Common.{◌≡◌, ℕ, List, [], ◌∷◌, ◌++◌, Some, None, unwrap_or, refl, sym, ap, ◌∙◌, append_assoc}
use Rattle.std.specs.Prelude.{codes}
use Rattle.serde_json.specs.Data.{Data, null}
use Rattle.serde_json.specs.Written.{compact_text}
use Rattle.json_notation.specs.Computes.{texts}
use Rattle.json_notation.specs.Json.{list}
use Rattle.rpc_framing.specs.Said.{Notification}
use Rattle.rpc_framing.specs.Written.{message_text}
use Rattle.vtep_base.specs.Reading.{Bytes}
use Rattle.vtep_rows.specs.Rows.{Key}
use Rattle.monitor_updates.specs.Noted.{Update}
use Rattle.monitor_updates.specs.Updates.{updates_json, params_json}
use Rattle.vtep_gateway.specs.Sessions.{outgoing}
use Rattle.vtep_gateway.specs.Monitors.{update_text, told_of}

-- an update is a notification
pub update_is : (id u : Data) → update_text (compact_text id) u ≡ message_text (Notification (codes "update") (list (id ∷ u ∷ [])))
unfolding texts
update_is id u =
    sym (ap (λ t. codes "{\"id\":null,\"method\":\"update\",\"params\":[" ++ t)
    (append_assoc (compact_text id) (44 ∷ (compact_text u ++ 93 ∷ [])) (125 ∷ []) ∙ ap (λ t. compact_text id ++ 44 ∷ t) (append_assoc (compact_text u) (93 ∷ []) (125 ∷ []))))

-- where there is nothing to tell
pub told_nothing : (s : ℕ) (name : Bytes) (id : Data) (us : List (Key × Update)) → params_json id us ≡ None → told_of s name us ≡ []
told_nothing s name id [] e = refl
told_nothing s name id (u ∷ us) e = absurd (cc)

-- where there is
pub told_one : (s : ℕ) (name : Bytes) (id params : Data) (us : List (Key × Update)) → name ≡ compact_text id → params_json id us ≡ Some params → told_of s name us ≡ outgoing s (Notification (codes "update") params) ∷ []
told_one s name id params [] named e = absurd (cc)
told_one s name id params (u ∷ us) named e =
    ap (λ t. record { session = s; bytes = update_text t (updates_json (u ∷ us)) } ∷ []) named
    ∙ ap (λ t. record { session = s; bytes = t } ∷ []) (update_is id (updates_json (u ∷ us)))
    ∙ ap (λ o. outgoing s (Notification (codes "update") (unwrap_or o null)) ∷ []) e
