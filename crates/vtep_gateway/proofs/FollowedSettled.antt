-- A commit that is accepted leaves settled rows: what it adds and takes away is no port and no row of Physical_Switch.
use Rattle.std.proofs.Common.{◌≡◌, inl, inr, ℕ, ◌+◌, ◌<◌, ◌≤◌, ◌^◌, Bool, true, false, cond, not, List, [], ◌∷◌, is_some, Option, Some, None, Ok, refl, sym, ap, subst, ◌∙◌, true≢false, arith}
use Rattle.std.specs.Prelude.{if◌then◌else◌, length}
use Rattle.std.specs.List.{list_all, filter_map, cons_option}
use Rattle.std.specs.Option.{option_and_then, option_map, unwrap_or}
use Rattle.serde_json.specs.Data.{Data}
use Rattle.vtep_base.specs.Reading.{Bytes}
use Rattle.vtep_base.specs.Maps as maps
use Rattle.vtep_base.proofs.NumberLaws.{ipv4_printed_is_read}
use Rattle.vtep_schema.specs.declared.Table.{Table}
use Rattle.vtep_schema.specs.declared.Table.TheVariants.{PhysicalPort, PhysicalSwitch, UcastMacsLocal, McastMacsLocal, PhysicalLocatorSet, PhysicalLocator}
use Rattle.vtep_schema.specs.declared.Column.TheVariants.{SwitchTunnelIps}
use Rattle.vtep_schema.specs.Tables.{same_table}
use Rattle.vtep_rows.specs.Row.{Contents, first}
use Rattle.vtep_rows.specs.Rows.{Key, Rows, IsRows, row_at, row_id, ids_of, next_id, inserted, collected, last_number}
use Rattle.vtep_rows.specs.Sound.{Sound}
use Rattle.vtep_rows.proofs.Kept.{still_inserted}
use Rattle.vtep_rows.proofs.Collected.{still_collected}
use Rattle.mac_learning.specs.declared.Learnt.{Learnt}
use Rattle.forward_program.specs.Built.{IsIn}
use Rattle.forward_program.specs.Follows.{Address}
use Rattle.forward_program.specs.Readings.{own_ip, ip_at}
use Rattle.forward_program.proofs.RowsThere.{found_by_id}
use Rattle.local_tables.specs.LocalRows.{address_key, row_with, is_individual, locator_row, set_row, address_row, flood_row}
use Rattle.local_tables.specs.Followed.{Committed, stays, staying, is_stale, stale_at, without_stale, own_locator, missing_floods, by_address, missing_addresses, with_flood, with_floods, with_addresses, with_local, located, locator_of, are_none, completed_by, completed, followed, commit}
use Rattle.local_tables.proofs.Members.{all_in, in_filter}
use Rattle.local_tables.proofs.RemovingLaws.{at_picked}
use Rattle.local_tables.proofs.Same.{SameTable, same_ids_of}
use Rattle.local_tables.proofs.RowsMade.{locator_is_row, address_is_row}
use Rattle.local_tables.proofs.Versioned.{floods_number}
use Rattle.local_tables.proofs.Missing.{by_address_in}
use Rattle.local_tables.proofs.Inserted.{floods_rows}
use Rattle.local_tables.proofs.Grown.{still_picked}
use Rattle.local_tables.proofs.Accepted.{accepted}
use Rattle.transact_profile.specs.Meaning.{means}
use Rattle.transact_profile.specs.Transaction.{ops_in}
use Rattle.vtep_gateway.specs.Ports.{port_refusal, switch_id, with_port, without_port}
use Rattle.vtep_gateway.specs.Settled.{switch_with, IsSettled, IsLeft, LeavesRest}
use Rattle.forward_program.proofs.Ascending.{same_ids, has_row, ids_ascend}
use Rattle.vtep_gateway.proofs.Collecting.{port_key, switch_key, still_there, twice_collected, switches_stay, ports_stay}
use Rattle.vtep_gateway.proofs.Lasting.{operations_leave}
use Rattle.vtep_gateway.proofs.PortJoins as joins
use Rattle.vtep_gateway.proofs.PortLeaves as leaves
use Rattle.vtep_gateway.proofs.Changing.{left_table, no_switch_written, put_apart}

-- ---- tables of which a commit adds no row and takes none away

pub record IsApart (t : Table) : Type 0 where
  pub addresses : same_table t UcastMacsLocal ≡ false
  pub floods : same_table t McastMacsLocal ≡ false
  pub locators : same_table t PhysicalLocator ≡ false
  pub sets : same_table t PhysicalLocatorSet ≡ false
  pub lasts : (r : Rows) (kept : List Learnt) (row : Contents) → is_stale r kept t row ≡ false

module _ (t : Table) (is : IsApart t) where
  insert_apart : (r : Rows) (row : Contents) → same_table t row.table ≡ false → SameTable t (inserted r row) r
  insert_apart r row other i = put_apart r.rows t row.table i (next_id r) row other

  floods_apart : (locator : ℕ) (r : Rows) (ss : List ℕ) → SameTable t (with_floods locator r ss) r
  floods_apart locator r [] i = refl
  floods_apart locator r (s ∷ ss) i =
      floods_apart locator (with_flood locator r s) ss i ∙ insert_apart (inserted r (set_row locator)) (flood_row s (next_id r)) is.floods i ∙ insert_apart r (set_row locator) is.sets i

  addresses_apart : (locator : ℕ) (r : Rows) (addresses : List Address) → SameTable t (with_addresses locator r addresses) r
  addresses_apart locator r [] i = refl
  addresses_apart locator r (a ∷ rest) i = addresses_apart locator (inserted r (address_row a locator)) rest i ∙ insert_apart r (address_row a locator) is.addresses i

  located_apart : (own : ℕ) (o : Option ℕ) (r : Rows) → SameTable t (located own o r) r
  located_apart own None r i = insert_apart r (locator_row own) is.locators i
  located_apart own (Some locator) r i = refl

  completed_apart : (own : ℕ) (o : Option ℕ) (floods : List ℕ) (addresses : List Address) (r : Rows) → SameTable t (completed_by own o floods addresses r) r
  completed_apart own o floods addresses r i = by (are_none floods addresses)
    where
      by : (b : Bool) → row_at (if b then r else with_local (locator_of o r) floods addresses (located own o r)) (t, i) ≡ row_at r (t, i)
      by true = refl
      by false =
          addresses_apart (locator_of o r) (with_floods (locator_of o r) (located own o r) floods) addresses i ∙ floods_apart (locator_of o r) (located own o r) floods i ∙ located_apart own o r i

  stale_apart : (r : Rows) (kept : List Learnt) → SameTable t (without_stale r kept) r
  stale_apart r kept i = at_picked (λ k. not (stale_at r kept k)) r (t, i) ∙ by (row_at r (t, i))
    where
      by : (o : Option Contents) → cond (not (unwrap_or (option_map (is_stale r kept t) o) false)) o None ≡ o
      by None = refl
      by (Some row) = ap (λ b. cond (not b) (Some row) None) (is.lasts r kept row)

  pub follow_apart : (own : ℕ) (r : Rows) (kept : List Learnt) → SameTable t (completed own (without_stale r kept) kept) r
  follow_apart own r kept i =
      let w : Rows = without_stale r kept in
      completed_apart own (own_locator own w) (missing_floods w) (missing_addresses w kept) w i ∙ stale_apart r kept i

switch_apart : IsApart PhysicalSwitch
switch_apart = record { addresses = refl; floods = refl; locators = refl; sets = refl; lasts = λ r kept row. refl }

port_apart : IsApart PhysicalPort
port_apart = record { addresses = refl; floods = refl; locators = refl; sets = refl; lasts = λ r kept row. refl }

-- ---- the address that stands in every identifier

floods_made : (locator : ℕ) (r : Rows) (ss : List ℕ) → (with_floods locator r ss).made ≡ r.made
floods_made locator r [] = refl
floods_made locator r (s ∷ ss) = floods_made locator (with_flood locator r s) ss

addresses_made : (locator : ℕ) (r : Rows) (addresses : List Address) → (with_addresses locator r addresses).made ≡ r.made
addresses_made locator r [] = refl
addresses_made locator r (a ∷ rest) = addresses_made locator (inserted r (address_row a locator)) rest

located_made : (own : ℕ) (o : Option ℕ) (r : Rows) → (located own o r).made ≡ r.made
located_made own None r = refl
located_made own (Some locator) r = refl

completed_made : (own : ℕ) (o : Option ℕ) (floods : List ℕ) (addresses : List Address) (r : Rows) → (completed_by own o floods addresses r).made ≡ r.made
completed_made own o floods addresses r = by (are_none floods addresses)
  where
    by : (b : Bool) → (if b then r else with_local (locator_of o r) floods addresses (located own o r)).made ≡ r.made
    by true = refl
    by false =
        addresses_made (locator_of o r) (with_floods (locator_of o r) (located own o r) floods) addresses ∙ floods_made (locator_of o r) (located own o r) floods ∙ located_made own o r

-- ---- what comes are rows

addresses_number : (locator : ℕ) (r : Rows) (addresses : List Address) → r.counter ≤ (with_addresses locator r addresses).counter
addresses_number locator r [] = omega arith
addresses_number locator r (a ∷ rest) =
    let more : r.counter + 1 ≤ (with_addresses locator (inserted r (address_row a locator)) rest).counter = addresses_number locator (inserted r (address_row a locator)) rest in
    omega (arith, more)

addresses_rows : (locator : ℕ) (r : Rows) (addresses : List Address) → ((a : Address) → IsIn a addresses → is_individual a.1 ≡ true) → IsRows r → (with_addresses locator r addresses).counter ≤ last_number → IsRows (with_addresses locator r addresses)
addresses_rows locator r [] single rows fits = rows
addresses_rows locator r (a ∷ rest) single rows fits =
    let more : r.counter + 1 ≤ (with_addresses locator (inserted r (address_row a locator)) rest).counter = addresses_number locator (inserted r (address_row a locator)) rest in
    let room : r.counter < last_number = omega (arith, more, fits) in
    addresses_rows locator (inserted r (address_row a locator)) rest (λ x h. single x (inr h)) (still_inserted r (address_row a locator) rows room (address_is_row a locator (single a (inl refl)))) fits

located_rows : (own : ℕ) (o : Option ℕ) (r : Rows) → own < 2 ^ 32 → IsRows r → (located own o r).counter ≤ last_number → IsRows (located own o r)
located_rows own None r small rows fits = still_inserted r (locator_row own) rows (omega (arith, fits)) (locator_is_row own small)
located_rows own (Some locator) r small rows fits = rows

completed_rows : (own : ℕ) (o : Option ℕ) (floods : List ℕ) (addresses : List Address) (r : Rows) → own < 2 ^ 32 → ((a : Address) → IsIn a addresses → is_individual a.1 ≡ true) → IsRows r
    → (completed_by own o floods addresses r).counter ≤ last_number → IsRows (completed_by own o floods addresses r)
completed_rows own o floods addresses r small single rows = by (are_none floods addresses)
  where
    by : (b : Bool) → (if b then r else with_local (locator_of o r) floods addresses (located own o r)).counter ≤ last_number → IsRows (if b then r else with_local (locator_of o r) floods addresses (located own o r))
    by true fits = rows
    by false fits =
        let at : ℕ = locator_of o r in
        let last : (with_floods at (located own o r) floods).counter ≤ (with_addresses at (with_floods at (located own o r) floods) addresses).counter = addresses_number at (with_floods at (located own o r) floods) addresses in
        let middle : (located own o r).counter ≤ (with_floods at (located own o r) floods).counter = floods_number at (located own o r) floods in
        addresses_rows at (with_floods at (located own o r) floods) addresses single
        (floods_rows at (located own o r) floods (located_rows own o r small rows (omega (arith, last, middle, fits))) (omega (arith, last, fits))) fits

missing_single : (old r w : Rows) (l : List Learnt) → list_all (λ e. is_individual e.mac) l ≡ true → (a : Address) → IsIn a (missing_addresses w (staying old r l)) → is_individual a.1 ≡ true
missing_single old r w l individual a h =
    let listed = in_filter (λ a. not (is_some (row_with UcastMacsLocal (address_key a) w))) (by_address (staying old r l)) a h in
    let from = by_address_in (staying old r l) a listed.0 in
    ap (λ (x : Address). is_individual x.1) from.2 ∙ all_in (λ e. is_individual e.mac) l from.0 individual (in_filter (stays old r) l from.0 from.1).0

-- ---- the row of the switch

-- one row of Physical_Switch, of this address, of which the rows of Physical_Port are the ports
pub record IsSwitched (own : ℕ) (r : Rows) : Type 0 where
  pub rows : IsRows r
  pub only : ids_of PhysicalSwitch r ≡ switch_id r ∷ []
  pub name : Bytes
  pub switch : row_at r (PhysicalSwitch, switch_id r) ≡ Some (switch_with name own (ids_of PhysicalPort r))

abbrev address_in : Rows → ℕ → Option ℕ
address_in r id = option_and_then (λ row. ip_at row SwitchTunnelIps) (row_at r (PhysicalSwitch, id))

pub own_at : (r : Rows) (name : Bytes) (ip : ℕ) (ports : List ℕ) → ip < 2 ^ 32 → ids_of PhysicalSwitch r ≡ switch_id r ∷ [] → row_at r (PhysicalSwitch, switch_id r) ≡ Some (switch_with name ip ports) → own_ip r ≡ ip
own_at r name ip ports fits only there =
    ap (λ o. unwrap_or o 0)
    (ap first (sym (found_by_id r PhysicalSwitch (λ e. ip_at e.1 SwitchTunnelIps)))
    ∙ ap (λ ids. first (filter_map (address_in r) ids)) only
    ∙ ap (λ o. first (cons_option (option_and_then (λ row. ip_at row SwitchTunnelIps) o) [])) there
    ∙ ap (λ o. first (cons_option o [])) (ipv4_printed_is_read ip fits))

pub own_ip_is : (r : Rows) (settled : IsSettled r) → own_ip r ≡ settled.ip
own_ip_is r settled = own_at r settled.name settled.ip (ids_of PhysicalPort r) settled.fits settled.only settled.switch

pub own_small : (r : Rows) (settled : IsSettled r) → own_ip r < 2 ^ 32
own_small r settled = subst (λ n. n < 2 ^ 32) (sym (own_ip_is r settled)) settled.fits

same_switched : (own : ℕ) (r m : Rows) → IsSwitched own r → IsRows m → m.made ≡ r.made → SameTable PhysicalSwitch m r → SameTable PhysicalPort m r → IsSwitched own m
same_switched own r m is rows made switches ports =
    let same_id : switch_id m ≡ switch_id r = ap (λ n. row_id n 2) made in record {
      rows = rows;
      only = same_ids_of PhysicalSwitch m r switches ∙ is.only ∙ ap (λ id. id ∷ []) (sym same_id);
      name = is.name;
      switch = ap (λ id. row_at m (PhysicalSwitch, id)) same_id ∙ switches (switch_id r) ∙ is.switch ∙ ap (λ ids. Some (switch_with is.name own ids)) (sym (same_ids_of PhysicalPort m r ports));
    }

switched_settled : (own : ℕ) (r : Rows) → own < 2 ^ 32 → IsSwitched own r → Sound r → collected r ≡ r → IsSettled r
switched_settled own r small is sound clean = record { rows = is.rows; sound = sound; referenced = clean; only = is.only; name = is.name; ip = own; fits = small; switch = is.switch }

-- ---- what a collection leaves

same_where : (m : Rows) (k : Key) → maps.has (collected m).rows k ≡ maps.has m.rows k → row_at (collected m) k ≡ row_at m k
same_where m k same = by (row_at m k) refl (row_at (collected m) k) refl
  where
    by : (o : Option Contents) → row_at m k ≡ o → (p : Option Contents) → row_at (collected m) k ≡ p → row_at (collected m) k ≡ row_at m k
    by o e (Some row) f = still_there m k (ap is_some f)
    by None e None f = f ∙ sym e
    by (Some row) e None f = absurd (true≢false (sym (ap is_some e) ∙ sym same ∙ ap is_some f))

module _ (own : ℕ) (m : Rows) (is : IsSwitched own m) where
  collected_switches : SameTable PhysicalSwitch (collected m) m
  collected_switches i = same_where m (PhysicalSwitch, i) (switches_stay m i)

  collected_ports : SameTable PhysicalPort (collected m) m
  collected_ports i =
      same_where m (port_key i) (sym (ports_stay m (switch_id m) is.name own (ids_of PhysicalPort m) is.switch (has_row PhysicalPort m) i) ∙ has_row PhysicalPort m i)

  collected_switched : IsSwitched own (collected m)
  collected_switched = same_switched own m (collected m) is (still_collected m is.rows) refl collected_switches collected_ports

-- ---- the commit

-- settled rows of the same address, with the same ports
pub record IsFollowed (own : ℕ) (r : Rows) (c : Committed) : Type 0 where
  pub settled : IsSettled c.rows
  pub ports : SameTable PhysicalPort c.rows r
  pub address : own_ip c.rows ≡ own

module _ (own : ℕ) (old r : Rows) (l : List Learnt) (small : own < 2 ^ 32) (individual : list_all (λ e. is_individual e.mac) l ≡ true) (is : IsSwitched own r) where
  abbrev kept : List Learnt
  kept = staying old r l

  abbrev fewest : Rows
  fewest = without_stale r kept

  abbrev after : Rows
  after = completed own fewest kept

  module _ (fits : after.counter ≤ last_number) (sound : Sound (collected after)) where
    after_switched : IsSwitched own after
    after_switched =
        same_switched own r after is
        (completed_rows own (own_locator own fewest) (missing_floods fewest) (missing_addresses fewest kept) fewest small (missing_single old r fewest l individual) (still_picked (λ k. not (stale_at r kept k)) r is.rows) fits)
        (completed_made own (own_locator own fewest) (missing_floods fewest) (missing_addresses fewest kept) fewest) (follow_apart PhysicalSwitch switch_apart own r kept) (follow_apart PhysicalPort port_apart own r kept)

    last_switched : IsSwitched own (collected after)
    last_switched = collected_switched own after after_switched

    followed_is : IsFollowed own r (followed own old r l)
    followed_is = record {
      settled = switched_settled own (collected after) small last_switched sound (twice_collected after after_switched.rows);
      ports = λ i. collected_ports own after after_switched i ∙ follow_apart PhysicalPort port_apart own r kept i;
      address = own_at (collected after) last_switched.name own (ids_of PhysicalPort (collected after)) small last_switched.only last_switched.switch;
    }

  pub commit_followed : (c : Committed) → commit own old r l ≡ Ok c → IsFollowed own r c
  commit_followed c told =
      let a = accepted own old r l c told in
      subst (IsFollowed own r) a.0 (followed_is (subst (λ (x : Committed). x.rows.counter ≤ last_number) (sym a.0) a.1.few) (subst (λ (x : Committed). Sound x.rows) (sym a.0) a.1.sound))

-- ---- the changes

pub good_switched : (r : Rows) (settled : IsSettled r) → IsSwitched (own_ip r) r
good_switched r settled = record {
  rows = settled.rows;
  only = settled.only;
  name = settled.name;
  switch = settled.switch ∙ ap (λ ip. Some (switch_with settled.name ip (ids_of PhysicalPort r))) (sym (own_ip_is r settled));
}

left_has : (a b : Option Contents) → IsLeft a b → is_some b ≡ is_some a
left_has None None h = refl
left_has None (Some b) h = absurd h
left_has (Some a) None h = absurd h
left_has (Some a) (Some b) h = refl

-- the identifiers of a table whose rows are there in both
same_there : (t : Table) (a b : Rows) → ((i : ℕ) → maps.has a.rows (t, i) ≡ maps.has b.rows (t, i)) → ids_of t a ≡ ids_of t b
same_there t a b same = same_ids (ids_of t a) (ids_of t b) (ids_ascend t a) (ids_ascend t b) (λ i. has_row t a i ∙ same i ∙ sym (has_row t b i))

left_switched : (own : ℕ) (r m : Rows) → IsSwitched own r → LeavesRest r m → IsSwitched own m
left_switched own r m is h =
    let same_id : switch_id m ≡ switch_id r = ap (λ n. row_id n 2) h.made in
    let switches : SameTable PhysicalSwitch m r = left_table PhysicalSwitch no_switch_written refl r m is.rows h in
    let ports : ids_of PhysicalPort m ≡ ids_of PhysicalPort r = same_there PhysicalPort m r (λ i. left_has (row_at r (port_key i)) (row_at m (port_key i)) (h.rest PhysicalPort i refl)) in record {
      rows = h.rows;
      only = same_ids_of PhysicalSwitch m r switches ∙ is.only ∙ ap (λ id. id ∷ []) (sym same_id);
      name = is.name;
      switch = ap (λ id. row_at m (PhysicalSwitch, id)) same_id ∙ switches (switch_id r) ∙ is.switch ∙ ap (λ ids. Some (switch_with is.name own ids)) (sym ports);
    }

pub operations_switched : (params : Data) (r : Rows) → IsSettled r → IsSwitched (own_ip r) (means (ops_in params) r).rows
operations_switched params r settled = left_switched (own_ip r) r (means (ops_in params) r).rows (good_switched r settled) (operations_leave params r settled.rows)

pub joins_switched : (r : Rows) (name : Bytes) → IsSettled r → length name ≤ 64 → port_refusal r name ≡ None → IsSwitched (own_ip r) (with_port r name)
joins_switched r name settled short free =
    let after : IsSettled (with_port r name) = joins.join_settled r name settled short free in
    let same : own_ip (with_port r name) ≡ own_ip r = at_same after ∙ sym (own_ip_is r settled) in
    subst (λ own. IsSwitched own (with_port r name)) same (good_switched (with_port r name) after)
  where
    at_same : IsSettled (with_port r name) → own_ip (with_port r name) ≡ settled.ip
    at_same after =
        own_at (with_port r name) settled.name settled.ip _ settled.fits after.only
        (ap (λ s. row_at s (switch_key r)) (joins.port_joined r name settled short free) ∙ joins.at_switch r name settled short free)

pub leaves_switched : (r : Rows) (id : ℕ) → IsSettled r → IsSwitched (own_ip r) (without_port r id)
leaves_switched r id settled =
    subst (IsSwitched (own_ip r)) (sym (leaves.port_left r id settled)) (subst (λ own. IsSwitched own (leaves.changed r id settled)) (sym (own_ip_is r settled)) (record {
      rows = leaves.rows_changed r id settled;
      only = same_there PhysicalSwitch (leaves.changed r id settled) r (leaves.switches r id settled) ∙ settled.only;
      name = settled.name;
      switch =
          leaves.at_switch r id settled
          ∙ ap (λ ids. Some (switch_with settled.name settled.ip ids))
          (same_ids (leaves.left r id settled) (ids_of PhysicalPort (leaves.changed r id settled)) (leaves.up r id settled) (ids_ascend PhysicalPort (leaves.changed r id settled)) (λ i. leaves.own r id settled i ∙ sym (has_row PhysicalPort (leaves.changed r id settled) i)));
    }))
