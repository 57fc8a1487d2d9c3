-- How the forwarding state follows a change of rows and of the learnt list: the places of what was in the rows are emptied, then
-- what is in them is put, then the ACLs that the change touches, and last the learnt list is asked for each address that it may concern.
use Rattle.std.specs.Prelude.{◌≡◌, ◌⊎◌, ℕ, Bool, true, not, ◌&&◌, List, [], ◌∷◌, ◌++◌, ◌||◌, ◌==◌, map, filter_map, flat_map, Option, Some, None, is_none, option_map, option_and_then, if◌then◌else◌}
use Rattle.std.specs.List.{list_any}
use Rattle.std.specs.Option.{option_to_list}
use Rattle.vtep_base.specs.Maps as maps
use Rattle.vtep_schema.specs.declared.Table.{Table}
use Rattle.vtep_schema.specs.declared.Table.TheVariants.{PhysicalSwitch, UcastMacsRemote, Acl, AclEntry}
use Rattle.vtep_schema.specs.declared.Column.TheVariants.{SwitchTunnelIps, AclEntries}
use Rattle.vtep_schema.specs.Tables.{same_table}
use Rattle.vtep_rows.specs.declared.differences.RowChange.{RowChange}
use Rattle.vtep_rows.specs.Row.{Contents, is_row, ids_at, put_all}
use Rattle.vtep_rows.specs.Rows.{Rows, rows_of}
use Rattle.mac_learning.specs.declared.Learnt.{Learnt}
use Rattle.forward_program.specs.declared.spots.Spot.{Spot}
use Rattle.forward_program.specs.declared.spots.Spot.TheVariants as spot
use Rattle.forward_program.specs.Readings.{ip_at, remote_of}
use Rattle.forward_program.specs.Same.{same_number}
use Rattle.forward_program.specs.Built.{IsIn, bindings_of}
use Rattle.forward_program.specs.Spots.{Entries}
use Rattle.forward_program.specs.Joins.{Port}
use Rattle.forward_program.specs.Hosts.{host, learnt_port, with_places}
use Rattle.forward_program.specs.Shown.{Entry, binding_entries, row_entries, acl_entry}

-- ---- the rows of a change

-- what a row of a table has, where it is there
abbrev pub entries_if : ℕ → Table → ℕ → Option Contents → List Entry
entries_if own t id None = []
entries_if own t id (Some row) = row_entries own t (id, row)

abbrev pub entries_before : ℕ → List RowChange → List Entry
entries_before own change = flat_map (λ c. entries_if own c.table c.id c.old) change

abbrev pub entries_after : ℕ → List RowChange → List Entry
entries_after own change = flat_map (λ c. entries_if own c.table c.id c.new) change

-- nothing was there, or what is a row
abbrev pub was_row : Option Contents → Bool
was_row None = true
was_row (Some row) = is_row row

-- ---- the places that are emptied

abbrev pub places : List Entry → List Spot
places es = map (λ e. e.0) es

-- the places of one or of two entries, or of none
abbrev pub both_of : Option Spot × Option Spot → List Spot
both_of p = option_to_list p.0 ++ option_to_list p.1

-- the places of the bindings of a port, where it is there
abbrev pub port_places : Option Contents → List Spot
port_places None = []
port_places (Some row) = places (flat_map binding_entries (bindings_of row))

-- a port has these two places
abbrev pub IsBound : Option Contents → Spot → Spot → Type 0
IsBound row k l = IsIn k (port_places row) × IsIn l (port_places row)

-- of the places outside `staying` those of `gone` are empty, and the others are as they were
abbrev pub IsCleared : Entries → Entries → List Spot → List Spot → Type 0
IsCleared m n gone staying = (k : Spot) → (IsIn k staying → ⊥) → (IsIn k gone × (maps.get n k ≡ None)) ⊎ ((IsIn k gone → ⊥) × (maps.get n k ≡ maps.get m k))

-- ---- the ACLs

abbrev pub is_of_acl : RowChange → Bool
is_of_acl c = same_table c.table Acl || same_table c.table AclEntry

-- the change from its first row of an ACL or of an entry on
abbrev pub acl_tail : List RowChange → List RowChange
acl_tail [] = []
acl_tail (c ∷ cs) = if is_of_acl c then c ∷ cs else acl_tail cs

-- the place of an ACL that is no longer there
abbrev pub gone_acl : RowChange → Option Spot
gone_acl c = if same_table c.table Acl && is_none c.new then Some (spot.Acl c.id) else None

abbrev pub without : Entries → List Spot → Entries
without m [] = m
without m (k ∷ ks) = without (maps.remove m k) ks

-- the change has this row
abbrev pub has_row : List RowChange → Table → ℕ → Bool
has_row change t id = list_any (λ c. same_table c.table t && (c.id == id)) change

-- it has a row of ACL, or the row of one of its entries
abbrev pub is_touched : List RowChange → ℕ × Contents → Bool
is_touched change e = has_row change Acl e.0 || list_any (has_row change AclEntry) (ids_at e.1 AclEntries)

abbrev pub touched_entry : Rows → List RowChange → ℕ × Contents → List Entry
touched_entry r change e = if is_touched change e then acl_entry r e ∷ [] else []

-- what the ACLs hold that a change touches
abbrev pub touched_entries : Rows → List RowChange → List Entry
touched_entries r change = flat_map (touched_entry r change) (rows_of Acl r)

-- what is no longer there goes, and what is touched is put anew
abbrev pub acls_followed : Rows → List RowChange → Entries → Entries
acls_followed r change m = put_all (without m (filter_map gone_acl change)) (touched_entries r change)

-- ---- addresses that may be learnt or not learnt from now on

-- an address of a switch
abbrev pub Address : Type 0
Address = ℕ × ℕ

abbrev pub learnt_address : Learnt → Address
learnt_address e = (e.switch, e.mac)

-- each address that came, went or moved is in the list
abbrev pub AreMoved : List Learnt → List Learnt → List Learnt → Type 0
AreMoved before now moved = (switch mac : ℕ) → IsIn (switch, mac) (map learnt_address moved) ⊎ (learnt_port before switch mac ≡ learnt_port now switch mac)

abbrev pub remote_address : Option Contents → List Address
remote_address row = option_to_list (option_map (λ a. (a.switch, a.mac)) (option_and_then remote_of row))

-- the addresses of a remote row that differs
abbrev pub remote_addresses : RowChange → List Address
remote_addresses c = if same_table c.table UcastMacsRemote then remote_address c.old ++ remote_address c.new else []

abbrev pub place_now : List Learnt → Address → Spot × Option Port
place_now l a = (host a.0 a.1, learnt_port l a.0 a.1)

-- the learnt list is asked for these addresses
abbrev pub asked : List Learnt → List Address → Entries → Entries
asked l addresses m = with_places m (map (place_now l) addresses)

-- ---- the gateway's own address

abbrev pub tunnel_ip : Option Contents → Option ℕ
tunnel_ip row = option_and_then (λ r. ip_at r SwitchTunnelIps) row

-- the row is one of Physical_Switch, and its address is another one
abbrev pub moves_own : RowChange → Bool
moves_own c = same_table c.table PhysicalSwitch && not (same_number (tunnel_ip c.old) (tunnel_ip c.new))
