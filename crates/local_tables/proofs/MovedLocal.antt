-- An address that moves to another binding of its switch changes no row.
use Rattle.std.proofs.Common.{◌≡◌, ◌⊎◌, inl, inr, ℕ, Bool, true, false, not, cond, ◌&&◌, ◌||◌, List, [], ◌∷◌, map, is_some, Some, refl, sym, ap, ◌∙◌, subst}
use Rattle.std.specs.Prelude.{◌==◌}
use Rattle.std.specs.List.{list_any}
use Rattle.vtep_rows.specs.Rows.{Rows, collected}
use Rattle.vtep_rows.specs.Row.{Contents}
use Rattle.vtep_schema.specs.declared.Table.TheVariants.{UcastMacsLocal}
use Rattle.mac_learning.specs.declared.Learnt.{Learnt}
use Rattle.mac_learning.specs.Learning.{same_address, is_once, found, put}
use Rattle.mac_learning.proofs.KeptLemmas.{of_address}
use Rattle.forward_program.specs.Built.{IsIn}
use Rattle.forward_program.specs.Follows.{Address, learnt_address}
use Rattle.forward_program.proofs.HostLaws.{found_entry, found_address}
use Rattle.forward_program.proofs.InLists.{in_map, map_in}
use Rattle.local_tables.specs.LocalRows.{address_key, row_with, is_individual, address_row}
use Rattle.local_tables.specs.Followed.{is_bound_there, own_locator, without_stale, missing_addresses, by_address, completed_by, completed, followed}
use Rattle.local_tables.specs.Local.{IsAddressRow, IsLocal, IsChanged}
use Rattle.local_tables.proofs.Members.{all_in, in_all, none_passes}
use Rattle.local_tables.proofs.Keyed.{has_first}
use Rattle.local_tables.proofs.LocalLaws.{address_was, address_has}
use Rattle.local_tables.proofs.Missing.{by_address_in}
use Rattle.local_tables.proofs.Unchanged.{all_stay}
use Rattle.local_tables.proofs.NoneStale.{Covered, none_goes, none_gained}

abbrev addresses : List Learnt → List Address
addresses l = map learnt_address l

-- ---- the list

same_addresses : (new : Learnt) (l : List Learnt) (e : Learnt) → found new.switch new.mac l ≡ Some e → addresses (put new l) ≡ addresses l
same_addresses new [] e h = cc
same_addresses new (x ∷ l) e h = by (same_address new x) refl h (same_addresses new l e)
  where
    by : (b : Bool) → same_address new x ≡ b → cond b (Some x) (found new.switch new.mac l) ≡ Some e → (found new.switch new.mac l ≡ Some e → addresses (put new l) ≡ addresses l) → addresses (cond b (new ∷ l) (x ∷ put new l)) ≡ addresses (x ∷ l)
    by true t g rest = let parts = of_address new.switch new.mac x t in (λ i. (parts.0 i, parts.1 i) ∷ addresses l)
    by false t g rest = ap (λ rest. learnt_address x ∷ rest) (rest g)

abbrev is_at : Address → Address → Bool
is_at a b = (a.0 == b.0) && (a.1 == b.1)

abbrev once_at : List Address → Bool
once_at [] = true
once_at (a ∷ rest) = not (list_any (is_at a) rest) && once_at rest

any_at : (e : Learnt) (l : List Learnt) → list_any (same_address e) l ≡ list_any (is_at (learnt_address e)) (addresses l)
any_at e [] = refl
any_at e (x ∷ l) = ap (λ b. same_address e x || b) (any_at e l)

once_by : (l : List Learnt) → is_once l ≡ once_at (addresses l)
once_by [] = refl
once_by (e ∷ l) = λ i. not (any_at e l i) && once_by l i

put_in : (new : Learnt) (l : List Learnt) (d : Learnt) → IsIn d (put new l) → (d ≡ new) ⊎ IsIn d l
put_in new [] d (inl same) = inl same
put_in new [] d (inr never) = absurd never
put_in new (x ∷ l) d h = by (same_address new x) h (put_in new l d)
  where
    by : (b : Bool) → IsIn d (cond b (new ∷ l) (x ∷ put new l)) → (IsIn d (put new l) → (d ≡ new) ⊎ IsIn d l) → (d ≡ new) ⊎ IsIn d (x ∷ l)
    by true (inl same) rest = inl same
    by true (inr later) rest = inr (inr later)
    by false (inl same) rest = inr (inl same)
    by false (inr later) rest = elim (rest later) [ inl same ↦ inl same | inr before ↦ inr (inr before) ]

-- ---- the rows

module _ (own : ℕ) (r : Rows) (l : List Learnt) (new e : Learnt) (is : IsChanged own r r l) (known : found new.switch new.mac l ≡ Some e) (bound : is_bound_there r new ≡ true) where
  abbrev moved : List Learnt
  moved = put new l

  covers : (d : Learnt) → IsIn d l → Covered moved d
  covers d h =
      let there = in_map learnt_address (learnt_address d) moved (subst (IsIn (learnt_address d)) (sym (same_addresses new l e known)) (map_in learnt_address d l h)) in
      (there.0, there.1, sym there.2)

  its_address : learnt_address new ≡ learnt_address e
  its_address = let parts = found_address new.switch new.mac l e known in λ i. (sym parts.0 i, sym parts.1 i)

  bound_all : (d : Learnt) → IsIn d moved → is_bound_there r d ≡ true
  bound_all d h = elim (put_in new l d h) [
    | inl same ↦ ap (is_bound_there r) same ∙ bound
    | inr before ↦ all_in (is_bound_there r) l d is.local.bound before
  ]

  has_row : (d : Learnt) → IsIn d moved → is_some (row_with UcastMacsLocal (address_key (learnt_address d)) r) ≡ true
  has_row d h = elim (put_in new l d h) [
    | inl same ↦
        (let here = address_has own r r l is e (found_entry new.switch new.mac l e known) in
        ap (λ a. is_some (row_with UcastMacsLocal (address_key a) r)) (ap learnt_address same ∙ its_address) ∙ has_first r UcastMacsLocal (address_key (learnt_address e)) here.0 here.1)
    | inr before ↦ (let here = address_has own r r l is d before in has_first r UcastMacsLocal (address_key (learnt_address d)) here.0 here.1)
  ]

  single : (d : Learnt) → IsIn d moved → is_individual d.mac ≡ true
  single d h = elim (put_in new l d h) [
    | inl same ↦ ap (λ (a : Address). is_individual a.1) (ap learnt_address same ∙ its_address) ∙ all_in (λ e. is_individual e.mac) l e is.local.individual (found_entry new.switch new.mac l e known)
    | inr before ↦ all_in (λ e. is_individual e.mac) l d is.local.individual before
  ]

  none_missing : missing_addresses r moved ≡ []
  none_missing = none_passes (λ a. not (is_some (row_with UcastMacsLocal (address_key a) r))) (by_address moved) (λ a h.
      let from = by_address_in moved a h in
      ap not (ap (λ x. is_some (row_with UcastMacsLocal (address_key x) r)) from.2 ∙ has_row from.0 from.1))

  pub moved_rows : (followed own r r moved).rows ≡ r
  moved_rows =
      ap (λ k. collected (completed own (without_stale r k) k)) (all_stay r moved bound_all) ∙ ap (λ x. collected (completed own x moved)) (none_goes own r l is moved covers)
      ∙ ap collected (λ i. completed_by own (own_locator own r) (none_gained own r l is moved covers i) (none_missing i) r) ∙ is.referenced

  pub moved_list : (followed own r r moved).learned ≡ moved
  moved_list = all_stay r moved bound_all

  address_after : (row : Contents) → IsAddressRow own r l row → IsAddressRow own r moved row
  address_after row was =
      let cover = covers was.entry was.learnt in
      record { entry = cover.0; learnt = cover.1; locator = was.locator; at_own = was.at_own; row_is = was.row_is ∙ ap (λ a. address_row a was.locator) (sym cover.2) }

  pub moved_local : IsLocal own r moved
  moved_local = record {
    once = once_by moved ∙ ap once_at (same_addresses new l e known) ∙ sym (once_by l) ∙ is.local.once;
    individual = in_all (λ e. is_individual e.mac) moved single;
    bound = in_all (is_bound_there r) moved bound_all;
    address_rows = λ i row there. address_after row (address_was own r r l is i row there);
    each_address = in_all (λ e. is_some (row_with UcastMacsLocal (address_key (learnt_address e)) r)) moved has_row;
    flood_rows = is.local.flood_rows;
    each_flood = is.local.each_flood;
  }
