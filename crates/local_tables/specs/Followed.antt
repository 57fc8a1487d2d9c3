-- What a commit adds to a change of the rows: which learnt addresses stay, and how the Local tables follow them and the bound switches.
use Rattle.std.specs.Prelude.{ℕ, Bool, true, false, not, ◌&&◌, nat_lt, if◌then◌else◌, List, [], ◌∷◌, map, filter, Option, Some, None, option_and_then, is_some, unwrap_or, option_map, Result, Ok, Err}
use Rattle.std.specs.List.{list_any}
use Rattle.vtep_base.specs.Reading.{Bytes}
use Rattle.vtep_base.specs.Maps as maps
use Rattle.ovsdb_values.specs.declared.atoms.Atom.TheVariants.{Text}
use Rattle.vtep_schema.specs.declared.Table.{Table}
use Rattle.vtep_schema.specs.declared.Table.TheVariants.{PhysicalPort, LogicalSwitch, UcastMacsLocal, UcastMacsRemote, McastMacsLocal, PhysicalLocator}
use Rattle.vtep_schema.specs.declared.Column.TheVariants.{PortVlanBindings}
use Rattle.vtep_rows.specs.declared.soundness.Rule.{Rule}
use Rattle.vtep_rows.specs.declared.soundness.Rule.TheVariants.{Limit}
use Rattle.vtep_rows.specs.Row.{Contents}
use Rattle.vtep_rows.specs.Rows.{Rows, Key, row_at, rows_of, ids_of, next_id, inserted, names, collected, last_number}
use Rattle.vtep_rows.specs.Sound.{broken}
use Rattle.mac_learning.specs.declared.Learnt.{Learnt}
use Rattle.mac_learning.specs.Learning.{is_of}
use Rattle.forward_program.specs.declared.readings.Remote.{Remote}
use Rattle.forward_program.specs.Readings.{id_at_key, remote_of}
use Rattle.forward_program.specs.Same.{same_number}
use Rattle.forward_program.specs.Follows.{Address, learnt_address}
use Rattle.local_tables.specs.LocalRows.{address_key, flood_key, locator_key, has_key, row_with, address_cmp, locator_row, set_row, address_row, flood_row}

-- ---- bindings

-- the switch that the vlan_bindings of a port name at a VLAN
abbrev pub switch_at : Rows → Bytes → ℕ → Option ℕ
switch_at r port vlan = option_and_then (λ id. option_and_then (λ row. id_at_key row PortVlanBindings vlan) (row_at r (PhysicalPort, id))) (row_with PhysicalPort (Text port ∷ []) r)

-- the entry's port and VLAN name its switch
abbrev pub is_bound_there : Rows → Learnt → Bool
is_bound_there r e = same_number (switch_at r e.port e.vlan) (Some e.switch)

-- the vlan_bindings of some port name the switch: no other column of a port names switches
abbrev pub is_named_by_port : Rows → ℕ → Bool
is_named_by_port r s = list_any (λ row. names row.1 (LogicalSwitch, s)) (rows_of PhysicalPort r)

-- the switches that are there and bound, by identifier
abbrev pub bound_switches : Rows → List ℕ
bound_switches r = filter (is_named_by_port r) (ids_of LogicalSwitch r)

-- ---- which learnt addresses stay

abbrev pub is_remote_of : Learnt → Option Remote → Bool
is_remote_of e None = false
is_remote_of e (Some a) = is_of a.switch a.mac e

-- a remote row of the address was inserted
abbrev pub is_claimed : Rows → Rows → Learnt → Bool
is_claimed old r e = list_any (λ row. not (maps.has old.rows (UcastMacsRemote, row.0)) && is_remote_of e (remote_of row.1)) (rows_of UcastMacsRemote r)

abbrev pub stays : Rows → Rows → Learnt → Bool
stays old r e = is_bound_there r e && not (is_claimed old r e)

abbrev pub staying : Rows → Rows → List Learnt → List Learnt
staying old r l = filter (stays old r) l

-- ---- the Local rows that go

abbrev pub is_stale : Rows → List Learnt → Table → Contents → Bool
is_stale r kept UcastMacsLocal row = not (list_any (λ e. has_key UcastMacsLocal (address_key (learnt_address e)) row) kept)
is_stale r kept McastMacsLocal row = not (list_any (λ s. has_key McastMacsLocal (flood_key s) row) (bound_switches r))
is_stale r kept t row = false

abbrev pub stale_at : Rows → List Learnt → Key → Bool
stale_at r kept k = unwrap_or (option_map (is_stale r kept k.0) (row_at r k)) false

-- the rows that a test picks
abbrev pub picked : (Key → Bool) → Rows → Rows
picked p r = record { made = r.made; counter = r.counter; rows = maps.keep p r.rows }

abbrev pub without_stale : Rows → List Learnt → Rows
without_stale r kept = picked (λ k. not (stale_at r kept k)) r

-- ---- the Local rows that come

-- the locator of the gateway's own address, the least of several
abbrev pub own_locator : ℕ → Rows → Option ℕ
own_locator own r = row_with PhysicalLocator (locator_key own) r

-- the bound switches without a row, by identifier
abbrev pub missing_floods : Rows → List ℕ
missing_floods r = filter (λ s. not (is_some (row_with McastMacsLocal (flood_key s) r))) (bound_switches r)

-- by switch and address
abbrev pub by_address : List Learnt → List Address
by_address l = maps.keys (maps.map_by address_cmp (map (λ e. (learnt_address e, e)) l))

-- the learnt addresses without a row
abbrev pub missing_addresses : Rows → List Learnt → List Address
missing_addresses r l = filter (λ a. not (is_some (row_with UcastMacsLocal (address_key a) r))) (by_address l)

-- a set of the own locator, and the row that names it
abbrev pub with_flood : ℕ → Rows → ℕ → Rows
with_flood locator r s = inserted (inserted r (set_row locator)) (flood_row s (next_id r))

abbrev pub with_floods : ℕ → Rows → List ℕ → Rows
with_floods locator r [] = r
with_floods locator r (s ∷ ss) = with_floods locator (with_flood locator r s) ss

abbrev pub with_addresses : ℕ → Rows → List Address → Rows
with_addresses locator r [] = r
with_addresses locator r (a ∷ rest) = with_addresses locator (inserted r (address_row a locator)) rest

abbrev pub with_local : ℕ → List ℕ → List Address → Rows → Rows
with_local locator floods addresses r = with_addresses locator (with_floods locator r floods) addresses

-- the own locator is inserted where it is not there
abbrev pub located : ℕ → Option ℕ → Rows → Rows
located own None r = inserted r (locator_row own)
located own (Some locator) r = r

abbrev pub locator_of : Option ℕ → Rows → ℕ
locator_of None r = next_id r
locator_of (Some locator) r = locator

abbrev pub are_none : List ℕ → List Address → Bool
are_none [] [] = true
are_none _ _ = false

-- with these rows, where there are any
abbrev pub completed_by : ℕ → Option ℕ → List ℕ → List Address → Rows → Rows
completed_by own o floods addresses r = if are_none floods addresses then r else with_local (locator_of o r) floods addresses (located own o r)

abbrev pub completed : ℕ → Rows → List Learnt → Rows
completed own r kept = completed_by own (own_locator own r) (missing_floods r) (missing_addresses r kept) r

-- ---- the commit

pub record Committed : Type 0 where
  pub rows : Rows
  pub learned : List Learnt

-- the rows before the change and after it, and the learnt list, for a gateway of this address
abbrev pub followed : ℕ → Rows → Rows → List Learnt → Committed
followed own old r l = let kept : List Learnt = staying old r l in record { rows = collected (completed own (without_stale r kept) kept); learned = kept }

-- a number past the last one was given
abbrev pub is_spent : Rows → Bool
is_spent r = nat_lt last_number r.counter

abbrev pub judged : Committed → Option Rule → Result Committed Rule
judged c None = Ok c
judged c (Some rule) = Err rule

-- what is kept, or the rule that the rows break: that no number is left counts as the limit of a table
abbrev pub commit : ℕ → Rows → Rows → List Learnt → Result Committed Rule
commit own old r l = let c : Committed = followed own old r l in judged c (if is_spent c.rows then Some Limit else broken c.rows)
