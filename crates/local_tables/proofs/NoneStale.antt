-- Where no row is changed and each address that was learnt still is, no Local row goes and no bound switch lacks one.
use Rattle.std.proofs.Common.{◌≡◌, ℕ, Bool, true, false, not, cond, List, [], is_some, Option, Some, None, refl, sym, ap, ◌∙◌}
use Rattle.std.specs.Option.{option_map, unwrap_or}
use Rattle.vtep_base.specs.Maps as maps
use Rattle.vtep_schema.specs.declared.Table.{Table}
use Rattle.vtep_schema.specs.declared.Table.TheVariants.{Global, UcastMacsLocal, McastMacsLocal}
use Rattle.vtep_rows.specs.Row.{Contents}
use Rattle.vtep_rows.specs.Rows.{Rows, Key, row_at}
use Rattle.vtep_rows.specs.Orders.{key_total, key_exact}
use Rattle.mac_learning.specs.declared.Learnt.{Learnt}
use Rattle.forward_program.specs.Built.{IsIn}
use Rattle.forward_program.specs.Follows.{learnt_address}
use Rattle.local_tables.specs.LocalRows.{address_key, flood_key, has_key, row_with}
use Rattle.local_tables.specs.Followed.{bound_switches, is_stale, stale_at, without_stale, missing_floods}
use Rattle.local_tables.specs.Local.{IsChanged}
use Rattle.local_tables.proofs.Members.{in_any, none_passes}
use Rattle.local_tables.proofs.RemovingLaws.{at_picked}
use Rattle.local_tables.proofs.Texts.{address_itself, flood_itself}
use Rattle.local_tables.proofs.LocalLaws.{address_was, flood_was}
use Rattle.local_tables.proofs.FloodsLaws.{number_in, has_number}
use Rattle.local_tables.proofs.Stale.{bound_is}

-- an entry of the same address
abbrev pub Covered : List Learnt → Learnt → Type 0
Covered all e = (d : Learnt) × IsIn d all × (learnt_address d ≡ learnt_address e)

module _ (own : ℕ) (r : Rows) (l : List Learnt) (is : IsChanged own r r l) (all : List Learnt) (covers : (e : Learnt) → IsIn e l → Covered all e) where
  none_stale : (t : Table) (i : ℕ) (row : Contents) → row_at r (t, i) ≡ Some row → is_stale r all t row ≡ false
  none_stale UcastMacsLocal i row there =
      let was = address_was own r r l is i row there in
      let cover = covers was.entry was.learnt in
      ap not (in_any (λ e. has_key UcastMacsLocal (address_key (learnt_address e)) row) all cover.0 cover.1
      ((λ j. has_key UcastMacsLocal (address_key (cover.2 j)) (was.row_is j)) ∙ address_itself (learnt_address was.entry) was.locator))
  none_stale McastMacsLocal i row there =
      let was = flood_was own r r l is i row there in
      ap not (in_any (λ s. has_key McastMacsLocal (flood_key s) row) (bound_switches r) was.switch (number_in (bound_switches r) was.switch (bound_is r was.switch ∙ was.bound))
      (ap (has_key McastMacsLocal (flood_key was.switch)) was.row_is ∙ flood_itself was.switch was.set))
  none_stale Global i row there = refl
  none_stale t i row there = refl

  same_at : (k : Key) → row_at (without_stale r all) k ≡ row_at r k
  same_at k = at_picked (λ k. not (stale_at r all k)) r k ∙ by (row_at r k) refl
    where
      by : (o : Option Contents) → row_at r k ≡ o → cond (not (stale_at r all k)) (row_at r k) None ≡ row_at r k
      by (Some row) there = ap (λ b. cond (not b) (row_at r k) None) (ap (λ o. unwrap_or (option_map (is_stale r all k.0) o) false) there ∙ none_stale k.0 k.1 row there)
      by None none = at (not (stale_at r all k)) ∙ sym none
        where
          at : (b : Bool) → cond b (row_at r k) None ≡ None
          at true = none
          at false = refl

  pub none_goes : without_stale r all ≡ r
  none_goes = λ i. record { made = r.made; counter = r.counter; rows = maps.same_map key_total key_exact (without_stale r all).rows r.rows same_at i }

  pub none_gained : missing_floods r ≡ []
  none_gained = none_passes (λ s. not (is_some (row_with McastMacsLocal (flood_key s) r))) (bound_switches r) (λ s h.
      ap not (is.local.each_flood s (sym (bound_is r s) ∙ has_number (bound_switches r) s h)))
