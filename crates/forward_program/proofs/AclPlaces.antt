-- What the rows of ACLs put: the places of ACLs, and no other.
use Rattle.std.proofs.Common.{◌≡◌, ℕ, Bool, true, false, Option, Some, None, refl, sym, ap, ◌∙◌}
use Rattle.vtep_base.specs.Maps as maps
use Rattle.vtep_schema.specs.declared.Table.TheVariants.{Acl}
use Rattle.vtep_rows.specs.Row.{Contents}
use Rattle.vtep_rows.specs.Rows.{Rows, rows_of, row_at}
use Rattle.vtep_rows.proofs.Entries.{same_some}
use Rattle.forward_program.specs.declared.spots.Spot.{Spot}
use Rattle.forward_program.specs.declared.spots.Spot.TheVariants as spot
use Rattle.forward_program.specs.declared.held.Held.{Held}
use Rattle.forward_program.specs.declared.held.Held.TheVariants as held
use Rattle.forward_program.specs.Acls.{entries_at}
use Rattle.forward_program.specs.Built.{IsIn}
use Rattle.forward_program.specs.Spots.{Entries, spot_total}
use Rattle.forward_program.specs.Shown.{Entry, all_entries, acl_entry, acl_entries, with_acls, rows_shown}
use Rattle.forward_program.specs.Follows.{places}
use Rattle.forward_program.proofs.InLists.{in_map, map_in}
use Rattle.forward_program.proofs.RowsIn.{in_rows, rows_in}
use Rattle.forward_program.proofs.MapLists.{from_entries, put_out, put_in}
use Rattle.forward_program.proofs.SpotOrder.{spot_exact}
use Rattle.forward_program.proofs.Given.{listed_given}

abbrev pub is_acl : Spot → Bool
is_acl (spot.Acl i) = true
is_acl _ = false

pub acl_same : (i j : ℕ) → spot.Acl i ≡ spot.Acl j → i ≡ j
acl_same i j e = cc

module _ (r : Rows) where
  -- the rows have nothing there
  pub none_there : (i : ℕ) → maps.get (rows_shown r) (spot.Acl i) ≡ None
  none_there i = by (maps.get (rows_shown r) (spot.Acl i)) refl
    where
      by : (o : Option Held) → maps.get (rows_shown r) (spot.Acl i) ≡ o → o ≡ None
      by None e = refl
      by (Some h) e = absurd (listed_given r (spot.Acl i) h (from_entries spot_total spot_exact (all_entries r) (spot.Acl i) h e))

  -- the row of a place
  acl_row : (k : Spot) → IsIn k (places (acl_entries r)) → (e : ℕ × Contents) × IsIn e (rows_of Acl r) × (k ≡ spot.Acl e.0)
  acl_row k h =
      let x = in_map (λ (y : Entry). y.0) k (acl_entries r) h in
      let e = in_map (acl_entry r) x.0 (rows_of Acl r) x.1 in
      (e.0, e.1, x.2 ∙ ap (λ (y : Entry). y.0) e.2)

  pub not_acl : (m : Entries) (k : Spot) → is_acl k ≡ false → maps.get (with_acls r m) k ≡ maps.get m k
  not_acl m k other = put_out spot_total spot_exact (acl_entries r) m k (λ h. let e = acl_row k h in let clash : false ≡ true = sym other ∙ ap is_acl e.2 in cc)

  pub acl_there : (m : Entries) (i : ℕ) (row : Contents) → row_at r (Acl, i) ≡ Some row → maps.get (with_acls r m) (spot.Acl i) ≡ Some (held.Rules (entries_at r row))
  acl_there m i row at =
      let x = put_in spot_total spot_exact (acl_entries r) m (spot.Acl i)
      (map_in (λ (y : Entry). y.0) (acl_entry r (i, row)) (acl_entries r) (map_in (acl_entry r) (i, row) (rows_of Acl r) (rows_in r Acl i row at))) in
      let e = in_map (acl_entry r) (spot.Acl i, x.0) (rows_of Acl r) x.1 in
      let id : i ≡ e.0.0 = acl_same i e.0.0 (ap (λ (y : Entry). y.0) e.2) in
      let same : e.0.1 ≡ row = same_some e.0.1 row (sym (in_rows r Acl e.0 e.1) ∙ ap (λ j. row_at r (Acl, j)) (sym id) ∙ at) in
      x.2 ∙ ap (λ (y : Entry). Some y.1) e.2 ∙ ap (λ c. Some (held.Rules (entries_at r c))) same

  pub acl_absent : (m : Entries) (i : ℕ) → row_at r (Acl, i) ≡ None → maps.get (with_acls r m) (spot.Acl i) ≡ maps.get m (spot.Acl i)
  acl_absent m i none = put_out spot_total spot_exact (acl_entries r) m (spot.Acl i) (λ h.
      let e = acl_row (spot.Acl i) h in
      let clash : None ≡ Some e.0.1 = sym none ∙ ap (λ j. row_at r (Acl, j)) (acl_same i e.0.0 e.2) ∙ in_rows r Acl e.0 e.1 in
      cc)

  -- what stands at the place of an ACL is that of its row
  pub at_acl : (i : ℕ) (h : Held) → maps.get (with_acls r (rows_shown r)) (spot.Acl i) ≡ Some h → (row : Contents) × (row_at r (Acl, i) ≡ Some row) × (h ≡ held.Rules (entries_at r row))
  at_acl i h is = by (row_at r (Acl, i)) refl
    where
      by : (o : Option Contents) → row_at r (Acl, i) ≡ o → (row : Contents) × (row_at r (Acl, i) ≡ Some row) × (h ≡ held.Rules (entries_at r row))
      by None e = let clash : None ≡ Some h = sym (acl_absent (rows_shown r) i e ∙ none_there i) ∙ is in cc
      by (Some row) e = (row, e, same_some h (held.Rules (entries_at r row)) (sym is ∙ acl_there (rows_shown r) i row e))
