-- A change that does not move the gateway's own address.
use Rattle.std.proofs.Common.{◌≡◌, ◌≤◌, inl, inr, ℕ, suc, Bool, true, false, not, ◌||◌, List, [], ◌∷◌, length, Option, Some, refl, sym, ap, ◌∙◌, arith}
use Rattle.std.specs.List.{list_any, filter_map, cons_option}
use Rattle.std.specs.Option.{unwrap_or}
use Rattle.vtep_schema.specs.declared.Table.TheVariants.{PhysicalSwitch}
use Rattle.vtep_schema.specs.declared.Column.TheVariants.{SwitchTunnelIps}
use Rattle.vtep_rows.specs.declared.differences.RowChange.{RowChange}
use Rattle.vtep_rows.specs.Row.{Contents, first}
use Rattle.vtep_rows.specs.Rows.{Rows, rows_of, row_at}
use Rattle.vtep_rows.specs.Sound.{Sound}
use Rattle.vtep_rows.specs.Changes.{changes}
use Rattle.vtep_rows.proofs.Entries.{same_some}
use Rattle.forward_program.specs.Readings.{ip_at, own_address, own_ip}
use Rattle.forward_program.specs.Built.{IsIn}
use Rattle.forward_program.specs.Follows.{tunnel_ip, moves_own}
use Rattle.forward_program.specs.Same.{same_number}
use Rattle.forward_program.proofs.SameLaws.{number_same}
use Rattle.forward_program.proofs.InLists.{in_picked}
use Rattle.forward_program.proofs.RowsIn.{in_rows, rows_in}
use Rattle.forward_program.proofs.Unique.{some_of}
use Rattle.forward_program.proofs.InChange.{one_at, same_or_changed}

not_moved : (b : Bool) → not b ≡ false → b ≡ true
not_moved true e = refl
not_moved false e = sym e

first_in : {A : Type 0} (x : A) (xs : List A) → first xs ≡ Some x → IsIn x xs
first_in x [] e = cc
first_in x (y ∷ xs) e = inl (sym (same_some y x e))

none_in : {A : Type 0} (p : A → Bool) (x : A) (xs : List A) → list_any p xs ≡ false → IsIn x xs → p x ≡ false
none_in p x [] h is = absurd is
none_in p x (y ∷ xs) h (inl e) = ap p e ∙ front (p y) (list_any p xs) h
  where
    front : (a b : Bool) → (a || b) ≡ false → a ≡ false
    front false b e = refl
    front true b e = e
none_in p x (y ∷ xs) h (inr later) = none_in p x xs (behind (p y) (list_any p xs) h) later
  where
    behind : (a b : Bool) → (a || b) ≡ false → b ≡ false
    behind false b e = e
    behind true b e = cc

two : (k : ℕ) → suc (suc k) ≤ 1 → ⊥
two k h = omega arith

only : {A : Type 0} (x : A) (xs : List A) → length xs ≤ 1 → IsIn x xs → xs ≡ x ∷ []
only x [] few h = absurd h
only x (y ∷ []) few (inl e) = ap (λ z. z ∷ []) (sym e)
only x (y ∷ []) few (inr h) = absurd h
only x (y ∷ z ∷ xs) few h = absurd (two (length xs) few)

module _ (before now : Rows) (sound : Sound before) (change : List RowChange) (is : change ≡ changes before now) (keeps : list_any moves_own change ≡ false) (ip : ℕ) (known : own_address now ≡ Some ip) where
  abbrev read : ℕ × Contents → Option ℕ
  read e = ip_at e.1 SwitchTunnelIps

  address_was : (id : ℕ) → tunnel_ip (row_at now (PhysicalSwitch, id)) ≡ Some ip → tunnel_ip (row_at before (PhysicalSwitch, id)) ≡ Some ip
  address_was id e = elim (same_or_changed before now (PhysicalSwitch, id)) [
    | inl same ↦ ap tunnel_ip same ∙ e
    | inr there ↦
        let keeps_it : moves_own (one_at before now (PhysicalSwitch, id)) ≡ false = none_in moves_own (one_at before now (PhysicalSwitch, id)) (changes before now) (ap (list_any moves_own) (sym is) ∙ keeps) there in
        number_same (tunnel_ip (row_at before (PhysicalSwitch, id))) (tunnel_ip (row_at now (PhysicalSwitch, id))) (not_moved (same_number (tunnel_ip (row_at before (PhysicalSwitch, id))) (tunnel_ip (row_at now (PhysicalSwitch, id)))) keeps_it) ∙ e
  ]

  own_was : own_address before ≡ Some ip
  own_was =
      let e = in_picked read ip (rows_of PhysicalSwitch now) (first_in ip (filter_map read (rows_of PhysicalSwitch now)) known) in
      let was = some_of (λ (row : Contents). ip_at row SwitchTunnelIps) (row_at before (PhysicalSwitch, e.0.0)) ip (address_was e.0.0 (ap tunnel_ip (in_rows now PhysicalSwitch e.0 e.1) ∙ e.2)) in
      let alone : rows_of PhysicalSwitch before ≡ (e.0.0, was.0) ∷ [] = only (e.0.0, was.0) (rows_of PhysicalSwitch before) (sound.few PhysicalSwitch) (rows_in before PhysicalSwitch e.0.0 was.0 was.1) in
      ap (λ (xs : List (ℕ × Contents)). first (filter_map read xs)) alone ∙ ap (λ o. first (cons_option o [])) was.2

  pub own_ip_was : own_ip before ≡ ip
  own_ip_was = ap (λ o. unwrap_or o 0) own_was

  pub own_ip_is : own_ip now ≡ ip
  own_ip_is = ap (λ o. unwrap_or o 0) known
