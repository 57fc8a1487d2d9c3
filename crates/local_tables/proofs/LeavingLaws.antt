-- The entries that the code finds are those that go.
use Rattle.std.proofs.Common.{◌≡◌, inl, inr, ℕ, Bool, true, false, not, ◌&&◌, ◌||◌, List, [], ◌∷◌, ◌++◌, is_some, Option, Some, None, refl, sym, ap, ◌∙◌, true≢false}
use Rattle.std.specs.Prelude.{if◌then◌else◌}
use Rattle.std.specs.List.{list_any}
use Rattle.std.specs.Option.{option_and_then}
use Rattle.std.specs.Cmp.{first_so, second_so}
use Rattle.vtep_base.specs.Maps as maps
use Rattle.vtep_schema.specs.declared.Table.TheVariants.{PhysicalPort, UcastMacsRemote}
use Rattle.vtep_rows.specs.Row.{Contents}
use Rattle.vtep_rows.specs.Rows.{Rows, row_at, rows_of}
use Rattle.vtep_rows.proofs.Entries.{both, same_some}
use Rattle.vtep_rows.proofs.TwinLaws.{one_answer}
use Rattle.mac_learning.specs.declared.Learnt.{Learnt}
use Rattle.mac_learning.specs.Learning.{is_of, same_address, found, IsOnce}
use Rattle.mac_learning.proofs.KeptLemmas.{of_address}
use Rattle.forward_program.specs.declared.readings.Remote.{Remote}
use Rattle.forward_program.specs.Readings.{remote_of}
use Rattle.forward_program.specs.Built.{IsIn}
use Rattle.forward_program.proofs.InLists.{in_either, in_picked, picked_in}
use Rattle.forward_program.proofs.RowsIn.{in_rows, rows_in}
use Rattle.forward_program.proofs.HostLaws.{found_entry, found_address, entry_found}
use Rattle.local_tables.specs.Followed.{is_bound_there, is_remote_of, is_claimed, stays, staying}
use Rattle.local_tables.specs.Following.{differing, unbound, unbound_by, entry_of, claimed_at, claimed, leaving, without_all}
use Rattle.local_tables.specs.Local.{IsChanged}
use Rattle.local_tables.proofs.Members.{any_in, in_any, all_in, filter_same, in_filter, filter_in}
use Rattle.local_tables.proofs.Same.{same_bound_there}
use Rattle.local_tables.proofs.Differing.{same_or_differing, none_differs}
use Rattle.local_tables.proofs.LocalLaws.{same_self}

any_both : {A : Type 0} (p : A → Bool) (xs ys : List A) → list_any p (xs ++ ys) ≡ (list_any p xs || list_any p ys)
any_both p [] ys = refl
any_both p (x ∷ xs) ys = ap (λ b. p x || b) (any_both p xs ys) ∙ joined (p x) (list_any p xs) (list_any p ys)
  where
    joined : (a b c : Bool) → (a || (b || c)) ≡ ((a || b) || c)
    joined true b c = refl
    joined false b c = refl

-- an entry of an address that is learnt once is the one that is found
pub once_is : (l : List Learnt) → IsOnce l → (d e : Learnt) → IsIn d l → IsIn e l → same_address d e ≡ true → d ≡ e
once_is l once d e at there same =
    let parts = of_address d.switch d.mac e same in
    same_some d e (sym (entry_found l once d at) ∙ (λ i. found (parts.0 i) (parts.1 i) l) ∙ entry_found l once e there)

module _ (own : ℕ) (old r : Rows) (l : List Learnt) (is : IsChanged own old r l) where
  -- ---- bindings

  was_bound : (e : Learnt) → IsIn e l → is_bound_there old e ≡ true
  was_bound e h = all_in (is_bound_there old) l e is.local.bound h

  unbound_found : (e : Learnt) → IsIn e l → list_any (same_address e) (unbound r l) ≡ not (is_bound_there r e)
  unbound_found e h = one_answer (list_any (same_address e) (unbound r l)) (not (is_bound_there r e)) so found_so
    where
      so : list_any (same_address e) (unbound r l) ≡ true → not (is_bound_there r e) ≡ true
      so g =
          let d = any_in (same_address e) (unbound r l) g in
          let picked = in_filter (λ e. not (is_bound_there r e)) l d.0 d.1 in
          ap (λ x. not (is_bound_there r x)) (once_is l is.local.once e d.0 h picked.0 d.2) ∙ picked.1

      found_so : not (is_bound_there r e) ≡ true → list_any (same_address e) (unbound r l) ≡ true
      found_so g = in_any (same_address e) (unbound r l) e (filter_in (λ e. not (is_bound_there r e)) l e h g) (same_self e)

  unbound_is : (e : Learnt) → IsIn e l → list_any (same_address e) (unbound_by (differing PhysicalPort old r) r l) ≡ not (is_bound_there r e)
  unbound_is e h = by (differing PhysicalPort old r) refl
    where
      by : (ids : List ℕ) → differing PhysicalPort old r ≡ ids → list_any (same_address e) (unbound_by ids r l) ≡ not (is_bound_there r e)
      by [] none = sym (ap not (sym (same_bound_there old r (none_differs old r PhysicalPort none) e) ∙ was_bound e h))
      by (id ∷ ids) some = unbound_found e h

  -- ---- remote rows

  there_or : {X : Type 0} (b : Bool) (x : Option X) (z : X) → (if b then None else x) ≡ Some z → (b ≡ false) × (x ≡ Some z)
  there_or true x z e = cc
  there_or false x z e = (refl, e)

  entry_is : (a : Option Remote) (e : Learnt) → IsIn e l → is_remote_of e a ≡ true → (d : Learnt) × (entry_of l a ≡ Some d) × (same_address e d ≡ true)
  entry_is None e h g = absurd (true≢false (sym g))
  entry_is (Some a) e h g =
      let parts = of_address a.switch a.mac e g in
      (e, (λ i. found (parts.0 i) (parts.1 i) l) ∙ entry_found l is.local.once e h, same_self e)

  remote_is : (a : Option Remote) (d e : Learnt) → entry_of l a ≡ Some d → same_address e d ≡ true → is_remote_of e a ≡ true
  remote_is None d e found same = cc
  remote_is (Some a) d e found same =
      let parts = of_address e.switch e.mac d same in
      let at = found_address a.switch a.mac l d found in
      same_is_of a e (sym at.0 ∙ sym parts.0) (sym at.1 ∙ sym parts.1)
    where
      same_is_of : (a : Remote) (e : Learnt) → a.switch ≡ e.switch → a.mac ≡ e.mac → is_of a.switch a.mac e ≡ true
      same_is_of a e s m = (λ i. is_of (s i) (m i) e) ∙ same_self e

  abbrev claims : Learnt → ℕ × Contents → Bool
  claims e row = not (maps.has old.rows (UcastMacsRemote, row.0)) && is_remote_of e (remote_of row.1)

  claimed_is : (e : Learnt) → IsIn e l → list_any (same_address e) (claimed old r l) ≡ is_claimed old r e
  claimed_is e h = one_answer (list_any (same_address e) (claimed old r l)) (is_claimed old r e) so found_so
    where
      of_row : (id : ℕ) (o : Option Contents) → row_at r (UcastMacsRemote, id) ≡ o → maps.has old.rows (UcastMacsRemote, id) ≡ false → (d : Learnt) → entry_of l (option_and_then remote_of o) ≡ Some d → same_address e d ≡ true
          → is_claimed old r e ≡ true
      of_row id None none new d at same = cc
      of_row id (Some row) there new d at same =
          in_any (claims e) (rows_of UcastMacsRemote r) (id, row) (rows_in r UcastMacsRemote id row there) (both _ _ (ap not new) (remote_is (remote_of row) d e at same))

      so : list_any (same_address e) (claimed old r l) ≡ true → is_claimed old r e ≡ true
      so g =
          let d = any_in (same_address e) (claimed old r l) g in
          let from = in_picked (claimed_at old r l) d.0 (differing UcastMacsRemote old r) d.1 in
          let parts = there_or (maps.has old.rows (UcastMacsRemote, from.0)) (entry_of l (option_and_then remote_of (row_at r (UcastMacsRemote, from.0)))) d.0 from.2 in
          of_row from.0 (row_at r (UcastMacsRemote, from.0)) refl parts.0 d.0 parts.1 d.2

      came : (id : ℕ) (row : Contents) → row_at r (UcastMacsRemote, id) ≡ Some row → maps.has old.rows (UcastMacsRemote, id) ≡ false → IsIn id (differing UcastMacsRemote old r)
      came id row there new = elim (same_or_differing old r UcastMacsRemote id) [
        | inl same ↦ absurd (true≢false (sym (ap is_some (same ∙ there)) ∙ new))
        | inr changed ↦ changed
      ]

      not_true : (b : Bool) → not b ≡ true → b ≡ false
      not_true true g = sym g
      not_true false g = refl

      found_so : is_claimed old r e ≡ true → list_any (same_address e) (claimed old r l) ≡ true
      found_so g =
          let row = any_in (claims e) (rows_of UcastMacsRemote r) g in
          let there = in_rows r UcastMacsRemote row.0 row.1 in
          let new = not_true (maps.has old.rows (UcastMacsRemote, row.0.0)) (first_so _ (is_remote_of e (remote_of row.0.1)) row.2) in
          let d = entry_is (remote_of row.0.1) e h (second_so (not (maps.has old.rows (UcastMacsRemote, row.0.0))) _ row.2) in
          in_any (same_address e) (claimed old r l) d.0
          (picked_in (claimed_at old r l) d.0 row.0.0 (differing UcastMacsRemote old r) (came row.0.0 row.0.1 there new)
          ((λ i. if new i then None else entry_of l (option_and_then remote_of (there i))) ∙ d.1))
          d.2

  -- ---- both

  pub leaves : (e : Learnt) → IsIn e l → list_any (same_address e) (leaving old r l) ≡ not (stays old r e)
  leaves e h =
      any_both (same_address e) (unbound_by (differing PhysicalPort old r) r l) (claimed old r l)
      ∙ (λ i. unbound_is e h i || claimed_is e h i) ∙ turned (is_bound_there r e) (is_claimed old r e)
    where
      turned : (a b : Bool) → (not a || b) ≡ not (a && not b)
      turned true true = refl
      turned true false = refl
      turned false b = refl

  pub staying_is : without_all (leaving old r l) l ≡ staying old r l
  staying_is = filter_same (λ e. not (list_any (same_address e) (leaving old r l))) (stays old r) l (λ e h. ap not (leaves e h) ∙ twice (stays old r e))
    where
      twice : (b : Bool) → not (not b) ≡ b
      twice true = refl
      twice false = refl

  -- what goes was learnt
  pub leaving_in : (e : Learnt) → IsIn e (leaving old r l) → IsIn e l
  leaving_in e h = elim (in_either e (unbound_by (differing PhysicalPort old r) r l) (claimed old r l) h) [
    | inl g ↦ from_unbound (differing PhysicalPort old r) g
    | inr g ↦ from_claimed g
  ]
    where
      from_unbound : (ids : List ℕ) → IsIn e (unbound_by ids r l) → IsIn e l
      from_unbound [] g = absurd g
      from_unbound (id ∷ ids) g = (in_filter (λ e. not (is_bound_there r e)) l e g).0

      listed : (a : Option Remote) → entry_of l a ≡ Some e → IsIn e l
      listed None at = cc
      listed (Some a) at = found_entry a.switch a.mac l e at

      from_claimed : IsIn e (claimed old r l) → IsIn e l
      from_claimed g =
          let from = in_picked (claimed_at old r l) e (differing UcastMacsRemote old r) g in
          let parts = there_or (maps.has old.rows (UcastMacsRemote, from.0)) (entry_of l (option_and_then remote_of (row_at r (UcastMacsRemote, from.0)))) e from.2 in
          listed (option_and_then remote_of (row_at r (UcastMacsRemote, from.0))) parts.1
