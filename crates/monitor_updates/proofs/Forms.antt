-- The forms of a table's requests.
use Rattle.std.proofs.Common.{◌≡◌, ◌≤◌, cond, List, [], ◌∷◌, length, Err, refl, arith}
use Rattle.serde_json.specs.View.{items_view}
use Rattle.serde_json.specs.declared.value.Value.{Value}
use Rattle.vtep_base.specs.declared.words.Word.TheVariants.{NotSupported, SyntaxError}
use Rattle.monitor_updates.specs.Forms.{all_forms}
use Rattle.monitor_updates.specs.Requests.{form_among}

-- several are refused
pub of_several : (vs : List Value) → 2 ≤ length vs → form_among (items_view vs) ≡ cond (all_forms (items_view vs)) (Err NotSupported) (Err SyntaxError)
of_several [] h = absurd (omega arith)
of_several (v ∷ []) h = absurd (omega arith)
of_several (v ∷ w ∷ vs) h = refl
