-- What the code adds for an address that is learnt is what a commit adds.
use Rattle.std.proofs.Common.{◌≡◌, inl, inr, ℕ, ◌<◌, Bool, true, false, not, cond, T, List, [], ◌∷◌, ◌++◌, map, Option, Some, None, is_some, refl, sym, ap, ◌∙◌, true≢false, arith}
use Rattle.std.specs.List.{filter}
use Rattle.std.specs.Ordering.{eq_by_cmp}
use Rattle.std.specs.Cmp.{IsTotalOrder, Equal-is, eq_by_cmp_equiv}
use Rattle.std.specs.declared.cmp.Ordering.{Ordering}
use Rattle.std.specs.FinMap.{find, is_sorted, IsAntisymmetric}
use Rattle.std.specs.FinMap.Entries.{below_all}
use Rattle.vtep_base.specs.Maps as maps
use Rattle.vtep_schema.specs.declared.Table.TheVariants.{UcastMacsLocal}
use Rattle.vtep_rows.specs.Rows.{Rows, inserted, collected, last_number}
use Rattle.vtep_rows.proofs.Entries.{t_first, t_second, none_below}
use Rattle.mac_learning.specs.declared.Learnt.{Learnt}
use Rattle.mac_learning.specs.Learning.{found}
use Rattle.forward_program.specs.Built.{IsIn}
use Rattle.forward_program.specs.Follows.{Address, learnt_address}
use Rattle.forward_program.proofs.HostLaws.{entry_found}
use Rattle.forward_program.proofs.InLists.{in_front, in_back, in_either, map_in}
use Rattle.forward_program.proofs.MapLists.{get_in}
use Rattle.local_tables.specs.LocalRows.{address_key, has_key, row_with, address_cmp, address_row}
use Rattle.local_tables.specs.Followed.{is_bound_there, without_stale, own_locator, located, locator_of, by_address, missing_addresses, completed_by, completed, followed}
use Rattle.local_tables.specs.Local.{IsLearning}
use Rattle.local_tables.proofs.Members.{all_in, none_passes}
use Rattle.local_tables.proofs.Keyed.{first_has, has_first}
use Rattle.local_tables.proofs.Texts.{address_same}
use Rattle.local_tables.proofs.LocalLaws.{address_was, flood_was, address_has, flood_has, is_single}
use Rattle.local_tables.proofs.Missing.{address_total, address_exact, by_address_in}
use Rattle.local_tables.proofs.Unchanged.{all_stay}
use Rattle.local_tables.proofs.NoneStale.{Covered, none_goes, none_gained}
use Rattle.local_tables.proofs.Bound.{bound_switch}

-- ---- the only key that passes

module _ {K X : Type 0} {R : K → K → Ordering} (o : IsTotalOrder R) where
  pub key_found : (k : K) (es : List (K × X)) → IsIn k (map (λ (e : K × X). e.0) es) → is_some (find R k es) ≡ true
  key_found k [] h = absurd h
  key_found k (e ∷ es) (inl same) = ap (λ b. is_some (cond b (Some e.1) (find R k es))) (ap (eq_by_cmp R k) (sym same) ∙ (eq_by_cmp_equiv o).refl k)
  key_found k (e ∷ es) (inr later) = by (eq_by_cmp R k e.0) (key_found k es later)
    where
      by : (b : Bool) → is_some (find R k es) ≡ true → is_some (cond b (Some e.1) (find R k es)) ≡ true
      by true h = refl
      by false h = h

module _ {K X : Type 0} {R : K → K → Ordering} (o : IsTotalOrder R) (exact : IsAntisymmetric R) (p : K → Bool) (a : K) where
  abbrev keys : List (K × X) → List K
  keys es = map (λ (e : K × X). e.0) es

  pub only_key : (es : List (K × X)) → T (is_sorted R es) → IsIn a (keys es) → p a ≡ true → ((k : K) → IsIn k (keys es) → p k ≡ true → k ≡ a) → filter p (keys es) ≡ a ∷ []
  only_key [] sorted here on alone = absurd here
  only_key (e ∷ es) sorted here on alone =
      by (p e.0) refl here (λ later. only_key es (t_second (below_all R e.0 es) (is_sorted R es) sorted) later on (λ k h. alone k (inr h)))
    where
      rest_none : e.0 ≡ a → filter p (keys es) ≡ []
      rest_none head = none_passes p (keys es) (λ k h. off k h (p k) refl)
        where
          off : (k : K) → IsIn k (keys es) → (b : Bool) → p k ≡ b → p k ≡ false
          off k h true q =
              let same : k ≡ e.0 = alone k (inr h) q ∙ sym head in
              let none = none_below o k e.0 es ((Equal-is (R k e.0)).0 (ap (λ x. eq_by_cmp R x e.0) same ∙ (eq_by_cmp_equiv o).refl e.0)) (t_first (below_all R e.0 es) (is_sorted R es) sorted) in
              absurd (true≢false (sym (key_found o k es h) ∙ ap is_some none))
          off k h false q = q

      by : (b : Bool) → p e.0 ≡ b → IsIn a (e.0 ∷ keys es) → (IsIn a (keys es) → filter p (keys es) ≡ a ∷ []) → cond (p e.0) (e.0 ∷ filter p (keys es)) (filter p (keys es)) ≡ a ∷ []
      by true q h rest =
          let head : e.0 ≡ a = alone e.0 (inl refl) q in
          ap (λ b. cond b (e.0 ∷ filter p (keys es)) (filter p (keys es))) q ∙ (λ i. head i ∷ rest_none head i)
      by false q (inl same) rest = absurd (true≢false (sym on ∙ ap p same ∙ q))
      by false q (inr later) rest = ap (λ b. cond b (e.0 ∷ filter p (keys es)) (filter p (keys es))) q ∙ rest later

-- ---- the address of an entry is in the ordered list

pub address_in : (e : Learnt) (es : List Learnt) → IsIn e es → IsIn (learnt_address e) (by_address es)
address_in e es h = by (maps.get (maps.map_by address_cmp (map (λ d. (learnt_address d, d)) es)) (learnt_address e)) refl (key_found address_total (learnt_address e) (map (λ d. (learnt_address d, d)) es) (keys_in es h))
  where
    keys_in : (ds : List Learnt) → IsIn e ds → IsIn (learnt_address e) (map (λ (x : Address × Learnt). x.0) (map (λ d. (learnt_address d, d)) ds))
    keys_in [] g = absurd g
    keys_in (d ∷ ds) (inl same) = inl (ap learnt_address same)
    keys_in (d ∷ ds) (inr later) = inr (keys_in ds later)

    by : (o : Option Learnt) → maps.get (maps.map_by address_cmp (map (λ d. (learnt_address d, d)) es)) (learnt_address e) ≡ o → is_some (find address_cmp (learnt_address e) (map (λ d. (learnt_address d, d)) es)) ≡ true → IsIn (learnt_address e) (by_address es)
    by None none g = absurd (true≢false (sym g ∙ ap is_some (sym (maps.get-of_list address_total (map (λ d. (learnt_address d, d)) es) (learnt_address e)) ∙ none)))
    by (Some d) there g = map_in (λ (x : Address × Learnt). x.0) (learnt_address e, d) (maps.map_by address_cmp (map (λ d. (learnt_address d, d)) es)).list (get_in address_exact (maps.map_by address_cmp (map (λ d. (learnt_address d, d)) es)) (learnt_address e) d there)

module _ (own : ℕ) (r : Rows) (l : List Learnt) (new : Learnt) (is : IsLearning own r l new) where
  abbrev all : List Learnt
  all = l ++ new ∷ []

  pub all_bound : (e : Learnt) → IsIn e all → is_bound_there r e ≡ true
  all_bound e h = elim (in_either e l (new ∷ []) h) [
    | inl old ↦ all_in (is_bound_there r) l e is.unchanged.local.bound old
    | inr (inl same) ↦ ap (is_bound_there r) same ∙ is.bound
    | inr (inr never) ↦ absurd never
  ]

  covers : (e : Learnt) → IsIn e l → Covered all e
  covers e h = (e, in_front e l (new ∷ []) h, refl)

  -- ---- one row comes

  abbrev lacks : Address → Bool
  lacks a = not (is_some (row_with UcastMacsLocal (address_key a) r))

  new_lacks : lacks (learnt_address new) ≡ true
  new_lacks = by (row_with UcastMacsLocal (address_key (learnt_address new)) r) refl
    where
      by : (o : Option ℕ) → row_with UcastMacsLocal (address_key (learnt_address new)) r ≡ o → not (is_some o) ≡ true
      by None none = refl
      by (Some i) there =
          let here = first_has r UcastMacsLocal (address_key (learnt_address new)) i there in
          let was = address_was own r r l is.unchanged i here.row here.there in
          let same = address_same (learnt_address new) (learnt_address was.entry) was.locator is.individual (is_single own r r l is.unchanged was.entry was.learnt) (sym (ap (has_key UcastMacsLocal (address_key (learnt_address new))) was.row_is) ∙ here.held) in
          let clash : None ≡ Some was.entry = sym is.unknown ∙ (λ j. found (sym same.0 j) (sym same.1 j) l) ∙ entry_found l is.unchanged.local.once was.entry was.learnt in
          cc

  old_has : (e : Learnt) → IsIn e l → lacks (learnt_address e) ≡ false
  old_has e h = let here = address_has own r r l is.unchanged e h in ap not (has_first r UcastMacsLocal (address_key (learnt_address e)) here.0 here.1)

  new_listed : IsIn (learnt_address new) (by_address all)
  new_listed = address_in new all (in_back new l (new ∷ []) (inl refl))

  one_gained : missing_addresses r all ≡ learnt_address new ∷ []
  one_gained =
      only_key address_total address_exact lacks (learnt_address new) (maps.map_by address_cmp (map (λ e. (learnt_address e, e)) all)).list (maps.map_by address_cmp (map (λ e. (learnt_address e, e)) all)).sorted new_listed new_lacks
      (λ a h on. let from = by_address_in all a h in elim (in_either from.0 l (new ∷ []) from.1) [
        | inl old ↦ absurd (true≢false (sym on ∙ ap lacks from.2 ∙ old_has from.0 old))
        | inr (inl same) ↦ from.2 ∙ ap learnt_address same
        | inr (inr never) ↦ absurd never
      ])

  abbrev here : ℕ
  here = locator_of (own_locator own r) r

  -- where the own locator is
  pub at_own : (o : Option ℕ) → own_locator own r ≡ o → completed_by own o [] (learnt_address new ∷ []) r ≡ inserted (located own o r) (address_row (learnt_address new) (locator_of o r))
  at_own None none = refl
  at_own (Some locator) there = refl

  pub learning_is : collected (inserted (located own (own_locator own r) r) (address_row (learnt_address new) here)) ≡ (followed own r r all).rows
  learning_is =
      ap collected (sym (at_own (own_locator own r) refl) ∙ (λ i. completed_by own (own_locator own r) (sym (none_gained own r l is.unchanged all covers) i) (sym one_gained i) r) ∙ ap (λ x. completed own x all) (sym (none_goes own r l is.unchanged all covers)))
      ∙ ap (λ k. collected (completed own (without_stale r k) k)) (sym (all_stay r all all_bound))

  -- and it is there, since the switch is bound
  pub locator_there : is_some (own_locator own r) ≡ true
  locator_there =
      let bound = bound_switch r is.unchanged.sound new is.bound in
      let row = flood_has own r r l is.unchanged new.switch bound in
      let was = flood_was own r r l is.unchanged row.0 row.1.row row.1.there in
      ap is_some was.at_own

  -- so that none is inserted, and the one number that is taken is the row's
  pub is_located : (o : Option ℕ) → own_locator own r ≡ o → located own o r ≡ r
  is_located None none = absurd (true≢false (sym locator_there ∙ ap is_some none))
  is_located (Some locator) there = refl

  pub no_locator_spent : last_number < (located own (own_locator own r) r).counter → ⊥
  no_locator_spent past = let same : (located own (own_locator own r) r).counter ≡ r.counter = ap (λ (x : Rows). x.counter) (is_located (own_locator own r) refl) in let most = is.unchanged.after.count in omega (arith, past, same, most)
