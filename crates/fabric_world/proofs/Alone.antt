-- The logical network of a fabric of one gateway.
use Rattle.std.proofs.Common.{◌≡◌, inl, inr, ℕ, List, [], ◌∷◌, map, sym, ap, subst}
use Rattle.std.specs.List.{flat_map}
use Rattle.vtep_base.specs.Reading.{Bytes}
use Rattle.vtep_base.specs.declared.bindings.Binding.{Binding}
use Rattle.vtep_rows.specs.Rows.{Rows}
use Rattle.acl_rules.specs.declared.entry.Entry.{Entry}
use Rattle.mac_learning.specs.declared.Learnt.{Learnt}
use Rattle.forward_program.specs.Built as built
use Rattle.forward_program.specs.Built.{IsIn, acl_rows, bindings}
use Rattle.forward_program.proofs.InLists.{in_front, in_either, in_map, map_in, in_flat, flat_in}
use Rattle.vtep_gateway.specs.Gateway.{Gateway}
use Rattle.fabric_world.specs.World.{World}
use Rattle.fabric_world.specs.Logical.{logical_of, switch_of, place, member, members, learnt_at, owner, owners, entries_of, listed, lists}

abbrev pub Owner : Type 0
Owner = Bytes × ℕ × Binding

module _ (w : World) (g : Bytes) (gateway : Gateway) (only : w.gateways.list ≡ (g, gateway) ∷ []) where
  abbrev r : Rows
  r = gateway.vtep.rows

  abbrev l : List Learnt
  l = gateway.vtep.learned

  pub member_in : (d : built.Binding) → IsIn d (bindings r) → IsIn (switch_of r d.switch, place g d) (logical_of w).bindings
  member_in d d_in =
      subst (λ es. IsIn (switch_of r d.switch, place g d) (flat_map members es)) (sym only)
      (in_front (switch_of r d.switch, place g d) (map (member g r) (bindings r)) [] (map_in (member g r) d (bindings r) d_in))

  pub in_member : (t : Bytes) (b : Binding) → IsIn (t, b) (logical_of w).bindings → (d : built.Binding) × IsIn d (bindings r) × (t ≡ switch_of r d.switch) × (b ≡ place g d)
  in_member t b is = elim (in_either (t, b) (map (member g r) (bindings r)) [] (subst (λ es. IsIn (t, b) (flat_map members es)) only is)) [
    | inl h ↦ (let d = in_map (member g r) (t, b) (bindings r) h in (d.0, d.1, ap (λ (x : Bytes × Binding). x.0) d.2, ap (λ (x : Bytes × Binding). x.1) d.2))
    | inr h ↦ absurd h
  ]

  pub owner_in : (e : Learnt) → IsIn e l → IsIn (switch_of r e.switch, e.mac, learnt_at g e) (logical_of w).owners
  owner_in e e_in =
      subst (λ es. IsIn (switch_of r e.switch, e.mac, learnt_at g e) (flat_map owners es)) (sym only)
      (in_front (switch_of r e.switch, e.mac, learnt_at g e) (map (owner g r) l) [] (map_in (owner g r) e l e_in))

  pub in_owner : (t : Bytes) (mac : ℕ) (b : Binding) → IsIn (t, mac, b) (logical_of w).owners → (e : Learnt) × IsIn e l × (t ≡ switch_of r e.switch) × (mac ≡ e.mac) × (b ≡ learnt_at g e)
  in_owner t mac b is = elim (in_either (t, mac, b) (map (owner g r) l) [] (subst (λ es. IsIn (t, mac, b) (flat_map owners es)) only is)) [
    | inl h ↦ (let e = in_map (owner g r) (t, mac, b) l h in (e.0, e.1, ap (λ (x : Owner). x.0) e.2, ap (λ (x : Owner). x.1) e.2, ap (λ (x : Owner). x.2) e.2))
    | inr h ↦ absurd h
  ]

  abbrev all_lists : List (Binding × List Entry)
  all_lists = flat_map (listed g r) (bindings r)

  pub list_in : (d : built.Binding) → IsIn d (bindings r) → (acl : ℕ) → IsIn acl (acl_rows d.lists) → IsIn (place g d, entries_of r acl) (logical_of w).lists
  list_in d d_in acl is =
      subst (λ es. IsIn (place g d, entries_of r acl) (flat_map lists es)) (sym only)
      (in_front (place g d, entries_of r acl) all_lists []
      (flat_in (listed g r) (place g d, entries_of r acl) d (bindings r) d_in (map_in (λ a. (place g d, entries_of r a)) acl (acl_rows d.lists) is)))

  pub in_list : (b : Binding) (es : List Entry) → IsIn (b, es) (logical_of w).lists → (d : built.Binding) × IsIn d (bindings r) × (acl : ℕ) × IsIn acl (acl_rows d.lists) × (b ≡ place g d) × (es ≡ entries_of r acl)
  in_list b es is = elim (in_either (b, es) all_lists [] (subst (λ xs. IsIn (b, es) (flat_map lists xs)) only is)) [
    | inl h ↦
        let d = in_flat (listed g r) (b, es) (bindings r) h in
        let a = in_map (λ acl. (place g d.0, entries_of r acl)) (b, es) (acl_rows d.0.lists) d.2 in
        (d.0, d.1, a.0, a.1, ap (λ (x : Binding × List Entry). x.0) a.2, ap (λ (x : Binding × List Entry). x.1) a.2)
    | inr h ↦ absurd h
  ]
