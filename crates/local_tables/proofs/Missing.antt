-- The switches for which the code inserts rows are those without one, and no learnt address is without one.
use Rattle.std.proofs.Common.{◌≡◌, ℕ, Bool, true, false, not, cond, ◌&&◌, List, [], map, is_some, Option, Some, None, refl, sym, ap, ◌∙◌, true≢false}
use Rattle.std.specs.List.{filter}
use Rattle.std.specs.Option.{option_map, unwrap_or}
use Rattle.std.specs.Ordering.{nat_cmp}
use Rattle.std.specs.Cmp.{IsTotalOrder, nat_cmp_total}
use Rattle.std.specs.FinMap.{IsAntisymmetric}
use Rattle.std.proofs.lemmas.Cmp.{on_total, then_total}
use Rattle.std.proofs.lemmas.Map.Lookups.{exact_pairs, exact_unsigned}
use Rattle.vtep_base.specs.Maps as maps
use Rattle.vtep_schema.specs.declared.Table.{Table}
use Rattle.vtep_schema.specs.declared.Table.TheVariants.{PhysicalPort, LogicalSwitch, UcastMacsLocal, McastMacsLocal}
use Rattle.vtep_rows.specs.Row.{Contents}
use Rattle.vtep_rows.specs.Rows.{Rows, Key, row_at, ids_of}
use Rattle.vtep_rows.proofs.TwinLaws.{one_answer}
use Rattle.mac_learning.specs.declared.Learnt.{Learnt}
use Rattle.forward_program.specs.Built.{IsIn}
use Rattle.forward_program.specs.Follows.{Address, learnt_address}
use Rattle.forward_program.proofs.InLists.{in_map}
use Rattle.forward_program.proofs.MapLists.{in_get, found_in}
use Rattle.forward_program.proofs.Ascending.{Ascending, same_ids, some_picked, in_picked, ids_ascend}
use Rattle.local_tables.specs.LocalRows.{address_key, flood_key, has_key, row_with, address_cmp}
use Rattle.local_tables.specs.Followed.{is_named_by_port, bound_switches, is_stale, stale_at, without_stale, missing_floods, by_address, missing_addresses}
use Rattle.local_tables.specs.Following.{has_id, is_bound, has_flood}
use Rattle.local_tables.specs.Local.{IsChanged}
use Rattle.local_tables.proofs.Members.{in_any, none_passes, in_filter}
use Rattle.local_tables.proofs.Keyed.{first_has, has_first}
use Rattle.local_tables.proofs.RemovingLaws.{at_picked}
use Rattle.local_tables.proofs.Same.{SameTable, same_bound}
use Rattle.local_tables.proofs.LocalLaws.{address_has}
use Rattle.local_tables.proofs.FloodsLaws.{number_in}
use Rattle.local_tables.proofs.Stale.{bound_is}

pub address_total : IsTotalOrder address_cmp
address_total = then_total (on_total (λ a. a.0) nat_cmp_total) (on_total (λ a. a.1) nat_cmp_total)

pub address_exact : IsAntisymmetric address_cmp
address_exact = exact_pairs nat_cmp nat_cmp exact_unsigned exact_unsigned

-- an address of the ordered list is that of an entry
pub by_address_in : (l : List Learnt) (a : Address) → IsIn a (by_address l) → (e : Learnt) × IsIn e l × (a ≡ learnt_address e)
by_address_in l a h =
    let pair = in_map (λ (x : Address × Learnt). x.0) a (maps.map_by address_cmp (map (λ e. (learnt_address e, e)) l)).list h in
    let found = in_get address_total (maps.map_by address_cmp (map (λ e. (learnt_address e, e)) l)) pair.0.0 pair.0.1 pair.1 in
    let listed = found_in address_exact pair.0.0 pair.0.1 (map (λ e. (learnt_address e, e)) l) (sym (maps.get-of_list address_total (map (λ e. (learnt_address e, e)) l) pair.0.0) ∙ found) in
    let from = in_map (λ (e : Learnt). (learnt_address e, e)) pair.0 l listed in
    (from.0, from.1, pair.2 ∙ ap (λ (x : Address × Learnt). x.0) from.2)

module _ (own : ℕ) (old r : Rows) (l : List Learnt) (is : IsChanged own old r l) (keeps : Learnt → Bool) where
  abbrev kept : List Learnt
  kept = filter keeps l

  abbrev fewest : Rows
  fewest = without_stale r kept

  pub still_there : (k : Key) (row : Contents) → row_at r k ≡ Some row → is_stale r kept k.0 row ≡ false → row_at fewest k ≡ Some row
  still_there k row there fresh =
      at_picked (λ k. not (stale_at r kept k)) r k
      ∙ ap (λ b. cond (not b) (row_at r k) None) (ap (λ o. unwrap_or (option_map (is_stale r kept k.0) o) false) there ∙ fresh) ∙ there

  pub was_there : (k : Key) (row : Contents) → row_at fewest k ≡ Some row → row_at r k ≡ Some row
  was_there k row there = by (not (stale_at r kept k)) (sym (at_picked (λ k. not (stale_at r kept k)) r k) ∙ there)
    where
      by : (b : Bool) → cond b (row_at r k) None ≡ Some row → row_at r k ≡ Some row
      by true h = h
      by false h = cc

  pub not_stale : (k : Key) (row : Contents) → row_at fewest k ≡ Some row → is_stale r kept k.0 row ≡ false
  not_stale k row there = by (is_stale r kept k.0 row) refl
    where
      by : (b : Bool) → is_stale r kept k.0 row ≡ b → is_stale r kept k.0 row ≡ false
      by false e = e
      by true e =
          let gone : row_at fewest k ≡ None =
          at_picked (λ k. not (stale_at r kept k)) r k ∙ ap (λ b. cond (not b) (row_at r k) None) (ap (λ o. unwrap_or (option_map (is_stale r kept k.0) o) false) (was_there k row there) ∙ e) in
          let clash : ◌≡◌ {A = Option Contents} None (Some row) = sym gone ∙ there in
          cc

  pub never_stale : (t : Table) → ((row : Contents) → is_stale r kept t row ≡ false) → SameTable t fewest r
  never_stale t fresh i = by (row_at r (t, i)) refl
    where
      by : (o : Option Contents) → row_at r (t, i) ≡ o → row_at fewest (t, i) ≡ row_at r (t, i)
      by (Some row) there = still_there (t, i) row there (fresh row) ∙ sym there
      by None none = at_picked (λ k. not (stale_at r kept k)) r (t, i) ∙ at (not (stale_at r kept (t, i))) ∙ sym none
        where
          at : (b : Bool) → cond b (row_at r (t, i)) None ≡ None
          at true = none
          at false = refl

  pub bound_same : (s : ℕ) → is_bound fewest s ≡ is_bound r s
  bound_same s = same_bound fewest r (never_stale PhysicalPort (λ row. refl)) (never_stale LogicalSwitch (λ row. refl)) s

  -- ---- bound switches

  flood_stays : (s : ℕ) → is_bound r s ≡ true → has_flood fewest s ≡ has_flood r s
  flood_stays s bound = one_answer (has_flood fewest s) (has_flood r s) (λ h. so (row_with McastMacsLocal (flood_key s) fewest) refl h) (λ h. found_so (row_with McastMacsLocal (flood_key s) r) refl h)
    where
      so : (o : Option ℕ) → row_with McastMacsLocal (flood_key s) fewest ≡ o → is_some o ≡ true → has_flood r s ≡ true
      so None e h = absurd (true≢false (sym h))
      so (Some i) e h = let here = first_has fewest McastMacsLocal (flood_key s) i e in has_first r McastMacsLocal (flood_key s) i (record { row = here.row; there = was_there (McastMacsLocal, i) here.row here.there; held = here.held })

      found_so : (o : Option ℕ) → row_with McastMacsLocal (flood_key s) r ≡ o → is_some o ≡ true → has_flood fewest s ≡ true
      found_so None e h = absurd (true≢false (sym h))
      found_so (Some i) e h =
          let here = first_has r McastMacsLocal (flood_key s) i e in
          has_first fewest McastMacsLocal (flood_key s) i (record {
            row = here.row;
            there = still_there (McastMacsLocal, i) here.row here.there (ap not (in_any (λ s. has_key McastMacsLocal (flood_key s) here.row) (bound_switches r) s (number_in (bound_switches r) s (bound_is r s ∙ bound)) here.held));
            held = here.held;
          })

  missing_one : (s : ℕ) → has_id (missing_floods fewest) s ≡ (is_bound r s && not (has_flood r s))
  missing_one s =
      in_picked (λ s. not (is_some (row_with McastMacsLocal (flood_key s) fewest))) (bound_switches fewest) s
      ∙ ap (λ b. b && not (has_flood fewest s)) (bound_is fewest s ∙ bound_same s) ∙ by (is_bound r s) refl
    where
      by : (b : Bool) → is_bound r s ≡ b → (is_bound r s && not (has_flood fewest s)) ≡ (is_bound r s && not (has_flood r s))
      by false e = ap (λ b. b && not (has_flood fewest s)) e ∙ sym (ap (λ b. b && not (has_flood r s)) e)
      by true e = ap (λ c. is_bound r s && not c) (flood_stays s e)

  -- the switches that are bound and have no row, by identifier
  pub missing_is : (ids : List ℕ) → Ascending ids → ((i : ℕ) → has_id ids i ≡ (is_bound r i && not (has_flood r i))) → ids ≡ missing_floods fewest
  missing_is ids up same =
      same_ids ids (missing_floods fewest) up
      (some_picked (λ s. not (is_some (row_with McastMacsLocal (flood_key s) fewest))) (bound_switches fewest) (some_picked (is_named_by_port fewest) (ids_of LogicalSwitch fewest) (ids_ascend LogicalSwitch fewest)))
      (λ i. same i ∙ sym (missing_one i))

  -- ---- learnt addresses

  pub none_missing : missing_addresses fewest kept ≡ []
  none_missing = none_passes (λ a. not (is_some (row_with UcastMacsLocal (address_key a) fewest))) (by_address kept) (λ a h.
      let from = by_address_in kept a h in
      let learnt = in_filter keeps l from.0 from.1 in
      let here = address_has own old r l is from.0 learnt.0 in
      ap not (ap (λ x. is_some (row_with UcastMacsLocal (address_key x) fewest)) from.2
      ∙ has_first fewest UcastMacsLocal (address_key (learnt_address from.0)) here.0 (record {
        row = here.1.row;
        there = still_there (UcastMacsLocal, here.0) here.1.row here.1.there (ap not (in_any (λ e. has_key UcastMacsLocal (address_key (learnt_address e)) here.1.row) kept from.0 from.1 here.1.held));
        held = here.1.held;
      })))
