-- The forwarding state that follows a change is that of the rows and the learnt list after it.
use Rattle.std.proofs.Common.{◌≡◌, ◌⊎◌, inl, inr, ℕ, true, false, List, ◌++◌, map, Result, Ok, Err, OnOk, Option, Some, None, refl, sym, ap, ◌∙◌, subst}
use Rattle.std.specs.List.{flat_map, list_all}
use Rattle.vtep_base.specs.Maps as maps
use Rattle.vtep_rows.specs.declared.differences.RowChange.{RowChange}
use Rattle.vtep_schema.specs.declared.Table.{Table}
use Rattle.vtep_rows.specs.Row.{Contents, put_all}
use Rattle.vtep_rows.specs.Rows.{Rows, IsRows}
use Rattle.vtep_rows.specs.Sound.{Sound}
use Rattle.vtep_rows.specs.Changes.{changes}
use Rattle.mac_learning.specs.declared.Learnt.{Learnt}
use Rattle.mac_learning.specs.Learning.{IsOnce}
use Rattle.forward_program.specs.declared.spots.Spot.{Spot}
use Rattle.forward_program.specs.declared.spots.Spot.TheVariants as spot
use Rattle.forward_program.specs.declared.held.Held.{Held}
use Rattle.forward_program.specs.Readings.{own_ip}
use Rattle.forward_program.specs.Built.{IsIn}
use Rattle.forward_program.specs.Spots.{Entries}
use Rattle.forward_program.specs.Hosts.{host, learnt_port}
use Rattle.forward_program.specs.Shown.{Entry, row_entries, rows_shown, with_acls, shown}
use Rattle.forward_program.specs.Follows.{entries_if, entries_before, entries_after, acl_tail, acls_followed, was_row, places, IsCleared, learnt_address, AreMoved, remote_addresses, asked}
use Rattle.forward_program.proofs.InLists.{in_front, in_back, in_map, in_flat}
use Rattle.forward_program.proofs.Homes.{Has, at_home}
use Rattle.forward_program.proofs.HostLaws.{with_plain}
use Rattle.forward_program.proofs.AclPlaces.{is_acl, not_acl}
use Rattle.forward_program.proofs.AclsFollowed.{others_stay, acl_right}
use Rattle.forward_program.proofs.Unique.{at_given}
use Rattle.forward_program.proofs.Followed.{at_place}
use Rattle.forward_program.proofs.Asked.{IsRemote, touched_asked, all_right}

module _ (before now : Rows) (sound_before : Sound before) (rows : IsRows now) (sound : Sound now) (own : ℕ) (own_before : own_ip before ≡ own) (own_now : own_ip now ≡ own)
    (change : List RowChange) (is : change ≡ changes before now) (fit : list_all (λ c. was_row c.old) change ≡ true)
    (known learned moved : List Learnt) (once_known : IsOnce known) (once : IsOnce learned) (are_moved : AreMoved known learned moved) where
  abbrev addresses : List (ℕ × ℕ)
  addresses = flat_map remote_addresses change ++ map learnt_address moved

  -- ---- the rows of ACLs have places of their own

  not_its_place : (t : Table) (e : ℕ × Contents) (x : Entry) (i : ℕ) → IsIn x (row_entries own t e) → spot.Acl i ≡ x.0 → ⊥
  not_its_place t e x i h same = subst (λ (k : Spot). Has k e) (sym same) (at_home own t e x h).1

  not_if : (t : Table) (id : ℕ) (o : Option Contents) (x : Entry) (i : ℕ) → IsIn x (entries_if own t id o) → spot.Acl i ≡ x.0 → ⊥
  not_if t id None x i h same = h
  not_if t id (Some row) x i h same = not_its_place t (id, row) x i h same

  not_before : (i : ℕ) → IsIn (spot.Acl i) (places (entries_before own change)) → ⊥
  not_before i h =
      let x = in_map (λ (e : Entry). e.0) (spot.Acl i) (entries_before own change) h in
      let c = in_flat (λ (z : RowChange). entries_if own z.table z.id z.old) x.0 change x.1 in
      not_if c.0.table c.0.id c.0.old x.0 i c.2 x.2

  not_after : (i : ℕ) → IsIn (spot.Acl i) (places (entries_after own change)) → ⊥
  not_after i h =
      let x = in_map (λ (e : Entry). e.0) (spot.Acl i) (entries_after own change) h in
      let c = in_flat (λ (z : RowChange). entries_if own z.table z.id z.new) x.0 change x.1 in
      not_if c.0.table c.0.id c.0.new x.0 i c.2 x.2

  -- ---- the rows with those of ACLs

  abbrev shown_before : Entries
  shown_before = with_acls before (rows_shown before)

  abbrev shown_now : Entries
  shown_now = with_acls now (rows_shown now)

  -- a place of a row that differs, or of an ACL
  abbrev Touched : Spot → Type 0
  Touched (spot.Acl i) = Unit {0}
  Touched k = IsIn k (places (entries_before own change)) ⊎ IsIn k (places (entries_after own change))

  module _ (m n p a : Entries) (was : m ≡ shown before known) (cleared : IsCleared m n (places (entries_before own change)) (places (entries_after own change))) (put : p ≡ put_all n (entries_after own change))
      (acls : a ≡ acls_followed now (acl_tail change) p) where
    abbrev IsRight : Type 0 → Spot → Type 0
    IsRight T k = (T × (maps.get a k ≡ maps.get shown_now k)) ⊎ ((maps.get a k ≡ maps.get m k) × (maps.get shown_before k ≡ maps.get shown_now k))

    other_right : (k : Spot) → is_acl k ≡ false → IsRight (IsIn k (places (entries_before own change)) ⊎ IsIn k (places (entries_after own change))) k
    other_right k other = elim (at_place before now sound_before rows sound own own_before own_now change is fit m n p cleared put k) [
      | inl (t, e) ↦ inl (t, stays ∙ e ∙ sym (not_acl now (rows_shown now) k other))
      | inr (g, s, e, same) ↦ inr (stays ∙ e, not_acl before (rows_shown before) k other ∙ same ∙ sym (not_acl now (rows_shown now) k other))
    ]
      where
        stays : maps.get a k ≡ maps.get p k
        stays = ap (λ (q : Entries). maps.get q k) acls ∙ others_stay before now change is p k other

    acl_was : (i : ℕ) → maps.get p (spot.Acl i) ≡ maps.get shown_before (spot.Acl i)
    acl_was i = elim (at_place before now sound_before rows sound own own_before own_now change is fit m n p cleared put (spot.Acl i)) [
      | inl (inl g, e) ↦ absurd (not_before i g)
      | inl (inr s, e) ↦ absurd (not_after i s)
      | inr (g, s, e, same) ↦ e ∙ ap (λ (q : Entries). maps.get q (spot.Acl i)) was ∙ with_plain known once_known shown_before (spot.Acl i) refl
    ]

    right : (k : Spot) → IsRight (Touched k) k
    right (spot.Acl i) = inl (tt, ap (λ (q : Entries). maps.get q (spot.Acl i)) acls ∙ acl_right before now change is p i (acl_was i))
    right (spot.Port x v) = other_right (spot.Port x v) refl
    right (spot.Switch s x) = other_right (spot.Switch s x) refl
    right (spot.Vni x) = other_right (spot.Vni x) refl
    right (spot.Set x) = other_right (spot.Set x) refl
    right (spot.Locator x) = other_right (spot.Locator x) refl

  remote : (s a : ℕ) → IsRemote (maps.get shown_now (host s a))
  remote s a = subst IsRemote (sym (not_acl now (rows_shown now) (host s a) refl)) (by (maps.get (rows_shown now) (host s a)) refl)
    where
      by : (o : Option Held) → maps.get (rows_shown now) (host s a) ≡ o → IsRemote o
      by None e = inl refl
      by (Some h) e = let x = at_given now rows sound (host s a) h e in inr (x.3.locator, ap Some x.7)

  or_moved : (s a : ℕ) → IsIn (s, a) addresses ⊎ (learnt_port known s a ≡ learnt_port learned s a)
  or_moved s a = elim (are_moved s a) [ inl h ↦ inl (in_back (s, a) (flat_map remote_addresses change) (map learnt_address moved) h) | inr same ↦ inr same ]

  led : (m n p a q : Entries) → m ≡ shown before known → IsCleared m n (places (entries_before own change)) (places (entries_after own change)) → p ≡ put_all n (entries_after own change) → a ≡ acls_followed now (acl_tail change) p
      → q ≡ asked learned addresses a → q ≡ shown now learned
  led m n p a q was cleared put acls ask =
      all_right known learned once_known once addresses shown_before shown_now m a q Touched was ask (right m n p a was cleared put acls) remote
      (λ s b t. in_front (s, b) (flat_map remote_addresses change) (map learnt_address moved) (touched_asked own change s b t)) or_moved

  pub ok_led : {T E : Type 0} (r : Result T E) (m n p a q : Entries) → m ≡ shown before known → IsCleared m n (places (entries_before own change)) (places (entries_after own change)) → p ≡ put_all n (entries_after own change)
      → a ≡ acls_followed now (acl_tail change) p → OnOk r (q ≡ asked learned addresses a) → OnOk r (q ≡ shown now learned)
  ok_led (Ok x) m n p a q was cleared put acls ask = led m n p a q was cleared put acls ask
  ok_led (Err e) m n p a q was cleared put acls ask = tt
