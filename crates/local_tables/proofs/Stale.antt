-- The rows that the code takes away are those that are stale.
use Rattle.std.proofs.Common.{◌≡◌, ℕ, Bool, true, false, not, cond, ◌&&◌, ◌||◌, List, [], ◌∷◌, map, Option, Some, None, refl, sym, ap, ◌∙◌}
use Rattle.std.specs.Prelude.{◌==◌}
use Rattle.std.specs.List.{filter, list_any}
use Rattle.std.specs.Option.{option_map, unwrap_or}
use Rattle.vtep_base.specs.Maps as maps
use Rattle.vtep_schema.specs.declared.Table.{Table}
use Rattle.vtep_schema.specs.declared.Table.TheVariants.{Global, LogicalSwitch, UcastMacsLocal, McastMacsLocal}
use Rattle.vtep_schema.specs.Tables.{same_table}
use Rattle.vtep_rows.specs.Row.{Contents}
use Rattle.vtep_rows.specs.Rows.{Rows, Key, row_at, ids_of}
use Rattle.vtep_rows.specs.Orders.{key_total, key_exact}
use Rattle.vtep_rows.specs.Keyed.{holds_there}
use Rattle.vtep_rows.proofs.TwinLaws.{one_answer}
use Rattle.mac_learning.specs.declared.Learnt.{Learnt}
use Rattle.mac_learning.specs.Learning.{same_address}
use Rattle.mac_learning.proofs.KeptLemmas.{of_address}
use Rattle.forward_program.specs.Built.{IsIn}
use Rattle.forward_program.specs.Follows.{learnt_address}
use Rattle.forward_program.proofs.Ascending.{in_picked, has_row}
use Rattle.local_tables.specs.LocalRows.{address_key, flood_key, has_key, address_row, flood_row}
use Rattle.local_tables.specs.Followed.{is_named_by_port, bound_switches, is_stale, stale_at, without_stale}
use Rattle.local_tables.specs.Following.{has_id, is_bound, without_rows, address_keys, flood_keys}
use Rattle.local_tables.specs.Local.{IsAddressRow, IsFloodRow, IsChanged}
use Rattle.local_tables.proofs.Members.{any_in, in_any, any_same, in_filter, filter_in}
use Rattle.local_tables.proofs.Keyed.{IsKeyed, keyed_part}
use Rattle.local_tables.proofs.RemovingLaws.{nobody, at_picked, has_one_at, rows_gone, others_stay, all_left, same_counter, same_made}
use Rattle.local_tables.proofs.Texts.{address_itself, address_same, flood_itself, flood_same}
use Rattle.local_tables.proofs.LocalLaws.{number_itself, number_same, same_is, same_self, address_was, flood_was, addresses_keyed, floods_keyed, is_single}
use Rattle.local_tables.proofs.LeavingLaws.{once_is}

pub any_map : {A B : Type 0} (p : B → Bool) (f : A → B) (xs : List A) → list_any p (map f xs) ≡ list_any (λ x. p (f x)) xs
any_map p f [] = refl
any_map p f (x ∷ xs) = ap (λ b. p (f x) || b) (any_map p f xs)

pub not_not : (b : Bool) → not (not b) ≡ b
not_not true = refl
not_not false = refl

-- the entries that are kept, those that go, and the switches that are no longer bound
pub record Parted (old r : Rows) (l : List Learnt) (keeps : Learnt → Bool) (gone : List Learnt) (unbound_ones : List ℕ) : Type 0 where
  pub was_learnt : (e : Learnt) → IsIn e gone → IsIn e l
  pub leaves : (e : Learnt) → IsIn e l → list_any (same_address e) gone ≡ not (keeps e)
  pub unbinds : (s : ℕ) → is_bound old s ≡ true → has_id unbound_ones s ≡ not (is_bound r s)

pub bound_is : (r : Rows) (s : ℕ) → has_id (bound_switches r) s ≡ is_bound r s
bound_is r s = in_picked (is_named_by_port r) (ids_of LogicalSwitch r) s ∙ ap (λ b. b && is_named_by_port r s) (has_row LogicalSwitch r s)

module _ (own : ℕ) (old r : Rows) (l : List Learnt) (is : IsChanged own old r l) (keeps : Learnt → Bool) (gone : List Learnt) (unbound_ones : List ℕ) (parted : Parted old r l keeps gone unbound_ones) where
  abbrev kept : List Learnt
  kept = filter keeps l

  abbrev fewer : Rows
  fewer = without_rows UcastMacsLocal r (address_keys gone)

  abbrev fewest : Rows
  fewest = without_rows McastMacsLocal fewer (flood_keys unbound_ones)

  -- ---- the rows of learnt addresses

  module _ (row : Contents) (was : IsAddressRow own old l row) where
    abbrev pub entry : Learnt
    entry = was.entry

    abbrev pub holds_of : Learnt → Bool
    holds_of e = has_key UcastMacsLocal (address_key (learnt_address e)) row

    one_holds : (e : Learnt) → IsIn e l → holds_of e ≡ same_address entry e
    one_holds e h = one_answer (holds_of e) (same_address entry e) so found_so
      where
        so : holds_of e ≡ true → same_address entry e ≡ true
        so g =
            let parts = address_same (learnt_address e) (learnt_address entry) was.locator (is_single own old r l is e h) (is_single own old r l is entry was.learnt) (sym (ap (has_key UcastMacsLocal (address_key (learnt_address e))) was.row_is) ∙ g) in
            same_is entry e parts.0 parts.1

        found_so : same_address entry e ≡ true → holds_of e ≡ true
        found_so g =
            let parts = of_address entry.switch entry.mac e g in
            ap (has_key UcastMacsLocal (address_key (learnt_address e))) (was.row_is ∙ (λ i. address_row (parts.0 i, parts.1 i) was.locator)) ∙ address_itself (learnt_address e) was.locator

    gone_holds : list_any holds_of gone ≡ not (keeps entry)
    gone_holds = any_same holds_of (same_address entry) gone (λ e h. one_holds e (parted.was_learnt e h)) ∙ parted.leaves entry was.learnt

    pub kept_holds : list_any holds_of kept ≡ keeps entry
    kept_holds =
        any_same holds_of (same_address entry) kept (λ e h. one_holds e (in_filter keeps l e h).0)
        ∙ one_answer (list_any (same_address entry) kept) (keeps entry)
        (λ g.
        let e = any_in (same_address entry) kept g in
        let picked = in_filter keeps l e.0 e.1 in
        ap keeps (once_is l is.local.once entry e.0 was.learnt picked.0 e.2) ∙ picked.1)
        (λ g. in_any (same_address entry) kept entry (filter_in keeps l entry was.learnt g) (same_self entry))

    pub address_stale : is_stale r kept UcastMacsLocal row ≡ list_any (λ key. has_key UcastMacsLocal key row) (address_keys gone)
    address_stale = ap not kept_holds ∙ sym gone_holds ∙ sym (any_map (λ key. has_key UcastMacsLocal key row) (λ e. address_key (learnt_address e)) gone)

  -- ---- the rows of bound switches

  module _ (row : Contents) (was : IsFloodRow own old row) where
    abbrev pub floods_of : ℕ → Bool
    floods_of s = has_key McastMacsLocal (flood_key s) row

    one_floods : (s : ℕ) → floods_of s ≡ (was.switch == s)
    one_floods s = one_answer (floods_of s) (was.switch == s) so found_so
      where
        so : floods_of s ≡ true → (was.switch == s) ≡ true
        so g = ap (λ u. u == s) (flood_same s was.switch was.set (sym (ap (has_key McastMacsLocal (flood_key s)) was.row_is) ∙ g)) ∙ number_itself s

        found_so : (was.switch == s) ≡ true → floods_of s ≡ true
        found_so g = ap (has_key McastMacsLocal (flood_key s)) (was.row_is ∙ ap (λ u. flood_row u was.set) (number_same was.switch s g)) ∙ flood_itself s was.set

    pub floods_in : (ss : List ℕ) → list_any floods_of ss ≡ has_id ss was.switch
    floods_in ss = any_same floods_of (λ s. was.switch == s) ss (λ s h. one_floods s)

    pub flood_stale : is_stale r kept McastMacsLocal row ≡ list_any (λ key. has_key McastMacsLocal key row) (flood_keys unbound_ones)
    flood_stale =
        ap not (floods_in (bound_switches r) ∙ bound_is r was.switch) ∙ sym (parted.unbinds was.switch was.bound) ∙ sym (floods_in unbound_ones)
        ∙ sym (any_map (λ key. has_key McastMacsLocal key row) flood_key unbound_ones)

  -- ---- both

  flood_keyed : IsKeyed fewer McastMacsLocal
  flood_keyed = keyed_part r fewer McastMacsLocal (λ i row there. all_left UcastMacsLocal r (address_keys gone) (addresses_keyed own old r l is) (McastMacsLocal, i) row there) (floods_keyed own old r l is)

  turned : (b : Bool) (x : Option Contents) → cond b None x ≡ cond (not b) x None
  turned true x = refl
  turned false x = refl

  abbrev left : Key → Option Contents
  left k = cond (not (stale_at r kept k)) (row_at r k) None

  none_left : (k : Key) → row_at r k ≡ None → None ≡ left k
  none_left k none = sym (ap (cond (not (stale_at r kept k)) (row_at r k)) refl ∙ by (not (stale_at r kept k)))
    where
      by : (b : Bool) → cond b (row_at r k) None ≡ None
      by true = none
      by false = refl

  some_left : (k : Key) (row : Contents) → row_at r k ≡ Some row → (b : Bool) → is_stale r kept k.0 row ≡ b → cond b None (row_at r k) ≡ left k
  some_left k row there b e = turned b (row_at r k) ∙ ap (λ c. cond (not c) (row_at r k) None) (sym e ∙ sym (ap (λ o. unwrap_or (option_map (is_stale r kept k.0) o) false) there))

  at_fewest : (k : Key) → row_at fewest k ≡ cond (has_one_at McastMacsLocal fewer (flood_keys unbound_ones) k) None (row_at fewer k)
  at_fewest k = rows_gone McastMacsLocal fewer (flood_keys unbound_ones) flood_keyed k

  at_fewer : (k : Key) → row_at fewer k ≡ cond (has_one_at UcastMacsLocal r (address_keys gone) k) None (row_at r k)
  at_fewer k = rows_gone UcastMacsLocal r (address_keys gone) (addresses_keyed own old r l is) k

  at_address : (i : ℕ) (o : Option Contents) → row_at r (UcastMacsLocal, i) ≡ o → row_at fewest (UcastMacsLocal, i) ≡ left (UcastMacsLocal, i)
  at_address i None none = at_fewest (UcastMacsLocal, i) ∙ at_fewer (UcastMacsLocal, i) ∙ ap (cond (has_one_at UcastMacsLocal r (address_keys gone) (UcastMacsLocal, i)) None) none ∙ by (has_one_at UcastMacsLocal r (address_keys gone) (UcastMacsLocal, i)) ∙ none_left (UcastMacsLocal, i) none
    where
      by : (b : Bool) → cond b None nobody ≡ nobody
      by true = refl
      by false = refl
  at_address i (Some row) there =
      at_fewest (UcastMacsLocal, i) ∙ at_fewer (UcastMacsLocal, i)
      ∙ some_left (UcastMacsLocal, i) row there (list_any (λ key. holds_there UcastMacsLocal key (row_at r (UcastMacsLocal, i))) (address_keys gone))
      (address_stale row (address_was own old r l is i row there) ∙ sym (ap (λ o. list_any (λ key. holds_there UcastMacsLocal key o) (address_keys gone)) there))

  flood_same_row : (i : ℕ) → row_at fewer (McastMacsLocal, i) ≡ row_at r (McastMacsLocal, i)
  flood_same_row i = others_stay UcastMacsLocal r (address_keys gone) (addresses_keyed own old r l is) (McastMacsLocal, i) refl

  at_flood : (i : ℕ) (o : Option Contents) → row_at r (McastMacsLocal, i) ≡ o → row_at fewest (McastMacsLocal, i) ≡ left (McastMacsLocal, i)
  at_flood i None none = at_fewest (McastMacsLocal, i) ∙ ap (cond (has_one_at McastMacsLocal fewer (flood_keys unbound_ones) (McastMacsLocal, i)) None) (flood_same_row i ∙ none) ∙ by (has_one_at McastMacsLocal fewer (flood_keys unbound_ones) (McastMacsLocal, i)) ∙ none_left (McastMacsLocal, i) none
    where
      by : (b : Bool) → cond b None nobody ≡ nobody
      by true = refl
      by false = refl
  at_flood i (Some row) there =
      at_fewest (McastMacsLocal, i) ∙ ap (λ o. cond (list_any (λ key. holds_there McastMacsLocal key o) (flood_keys unbound_ones)) None o) (flood_same_row i)
      ∙ some_left (McastMacsLocal, i) row there (list_any (λ key. holds_there McastMacsLocal key (row_at r (McastMacsLocal, i))) (flood_keys unbound_ones))
      (flood_stale row (flood_was own old r l is i row there) ∙ sym (ap (λ o. list_any (λ key. holds_there McastMacsLocal key o) (flood_keys unbound_ones)) there))

  at_other : (t : Table) (i : ℕ) → same_table t UcastMacsLocal ≡ false → same_table t McastMacsLocal ≡ false → ((row : Contents) → is_stale r kept t row ≡ false) → row_at fewest (t, i) ≡ left (t, i)
  at_other t i no_address no_flood never =
      others_stay McastMacsLocal fewer (flood_keys unbound_ones) flood_keyed (t, i) no_flood ∙ others_stay UcastMacsLocal r (address_keys gone) (addresses_keyed own old r l is) (t, i) no_address ∙ by (row_at r (t, i)) refl
    where
      by : (o : Option Contents) → row_at r (t, i) ≡ o → row_at r (t, i) ≡ left (t, i)
      by None none = none ∙ none_left (t, i) none
      by (Some row) there = some_left (t, i) row there false (never row)

  at_table : (t : Table) (i : ℕ) → row_at fewest (t, i) ≡ left (t, i)
  at_table UcastMacsLocal i = at_address i (row_at r (UcastMacsLocal, i)) refl
  at_table McastMacsLocal i = at_flood i (row_at r (McastMacsLocal, i)) refl
  at_table Global i = at_other Global i refl refl (λ row. refl)
  at_table t i = at_other t i refl refl (λ row. refl)

  pub fewest_is : fewest ≡ without_stale r kept
  fewest_is = λ i. record {
    made = (same_made McastMacsLocal fewer (flood_keys unbound_ones) ∙ same_made UcastMacsLocal r (address_keys gone)) i;
    counter = (same_counter McastMacsLocal fewer (flood_keys unbound_ones) ∙ same_counter UcastMacsLocal r (address_keys gone)) i;
    rows = maps.same_map key_total key_exact fewest.rows (without_stale r kept).rows (λ k. at_table k.0 k.1 ∙ sym (at_picked (λ k. not (stale_at r kept k)) r k)) i;
  }
