-- Requests for monitors: their parameters, and what they make of a tunnel end point.
use Rattle.std.proofs.Common.{◌≡◌, ℕ, ◌<◌, List, [], ◌∷◌, length, None, Ok, refl, sym, ap, ◌∙◌, arith}
use Rattle.serde_json.specs.Data.{Data}
use Rattle.serde_json.specs.View.{items_view}
use Rattle.serde_json.specs.declared.value.Value.{Value}
use Rattle.vtep_base.specs.Reading.{Bytes}
use Rattle.vtep_base.specs.Maps as maps
use Rattle.vtep_gateway.specs.Monitors.{OpenMonitor, Monitors, monitors_of, with_monitor, asks_in, one_in, others, left_by}
use Rattle.vtep_gateway.specs.Vtep.{Vtep, with_monitors}
use Rattle.vtep_gateway.specs.Methods.{monitor_for, monitor_by, monitor_in, cancel_by, cancel_in}

pub below_three : (vs : List Value) → length vs < 3 → asks_in (items_view vs) ≡ None
below_three [] h = refl
below_three (u ∷ []) h = refl
below_three (u ∷ v ∷ []) h = refl
below_three (u ∷ v ∷ w ∷ vs) h = absurd (omega arith)

pub above_three : (vs : List Value) → 3 < length vs → asks_in (items_view vs) ≡ None
above_three [] h = absurd (omega arith)
above_three (u ∷ []) h = absurd (omega arith)
above_three (u ∷ v ∷ []) h = absurd (omega arith)
above_three (u ∷ v ∷ w ∷ []) h = absurd (omega arith)
above_three (u ∷ v ∷ w ∷ x ∷ vs) h = refl

pub below_one : (vs : List Value) → length vs < 1 → one_in (items_view vs) ≡ None
below_one [] h = refl
below_one (v ∷ vs) h = absurd (omega arith)

pub above_one : (vs : List Value) → 1 < length vs → one_in (items_view vs) ≡ None
above_one [] h = absurd (omega arith)
above_one (v ∷ []) h = absurd (omega arith)
above_one (v ∷ w ∷ vs) h = refl

-- a monitor was found and added
pub opened : (v : Vtep) (s : ℕ) (params : Data) (ws : List OpenMonitor) (w : OpenMonitor) (m : Monitors) → ws ≡ monitors_of v.monitors s → monitor_for ws params ≡ Ok w → m ≡ with_monitor v.monitors s w
    → with_monitors v m ≡ (monitor_in v s params).vtep
opened v s params ws w m these found is = ap (with_monitors v) is ∙ sym (ap (λ r. (monitor_by v s r).vtep) (ap (λ ws. monitor_for ws params) (sym these) ∙ found))

-- a monitor was found and taken away
pub closed : (v : Vtep) (s : ℕ) (params : Data) (ws : List OpenMonitor) (name : Bytes) (m : Monitors) → ws ≡ monitors_of v.monitors s → left_by ws params ≡ Ok (others ws name)
    → m ≡ maps.insert v.monitors s (others (monitors_of v.monitors s) name) → with_monitors v m ≡ (cancel_in v s params).vtep
closed v s params ws name m these found is =
    ap (with_monitors v) is ∙ sym (ap (λ r. (cancel_by v s r).vtep) (ap (λ ws. left_by ws params) (sym these) ∙ found ∙ ap (λ ws. Ok (others ws name)) these))
