-- The tunnel end point of a gateway.
use Rattle.std.specs.Prelude.{ℕ, List, refl}
use Rattle.std.specs.Coded.{Coded, code_by, coded×, coded_ℕ, coded_list}
use Rattle.vtep_base.specs.Reading.{Bytes}
use Rattle.vtep_rows.specs.Rows.{Rows}
use Rattle.vtep_rows.specs.Codes.{rows_code}
use Rattle.mac_learning.specs.declared.Learnt.{Learnt}
use Rattle.mac_learning.specs.contracts.Learnt as learnt
use Rattle.vtep_gateway.specs.Monitors.{Monitors, monitors_code}

-- its rows, what it has learnt in the order of learning, and the seconds that its clock has gone
pub record Vtep : Type 0 where
  pub name : Bytes
  pub rows : Rows
  pub learned : List Learnt
  pub clock : ℕ
  pub monitors : Monitors

abbrev pub vtep_code : Coded Vtep
vtep_code =
    code_by (Bytes × (Rows × (List Learnt × (ℕ × Monitors)))) (coded× (coded_list coded_ℕ) (coded× rows_code (coded× (coded_list (learnt.the_row).coded) (coded× coded_ℕ monitors_code))))
    (λ v. (v.name, (v.rows, (v.learned, (v.clock, v.monitors))))) (λ p. record { name = p.0; rows = p.1.0; learned = p.1.1.0; clock = p.1.1.1.0; monitors = p.1.1.1.1 }) (λ _. refl)

abbrev pub with_monitors : Vtep → Monitors → Vtep
with_monitors v m = record v { monitors = m }
