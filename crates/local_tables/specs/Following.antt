-- What a commit has to look at: rows that differ, and what stood in them.
use Rattle.std.specs.Prelude.{ℕ, ◌==◌, Bool, not, ◌&&◌, if◌then◌else◌, List, [], ◌∷◌, ◌++◌, map, filter, filter_map, flat_map, Option, Some, None, option_and_then, is_some}
use Rattle.std.specs.List.{list_any}
use Rattle.vtep_base.specs.Maps as maps
use Rattle.ovsdb_values.specs.declared.atoms.Atom.{Atom}
use Rattle.vtep_schema.specs.declared.Table.{Table}
use Rattle.vtep_schema.specs.declared.Table.TheVariants.{PhysicalPort, LogicalSwitch, UcastMacsRemote, McastMacsLocal}
use Rattle.vtep_schema.specs.Tables.{same_table}
use Rattle.vtep_rows.specs.Row.{Contents, references}
use Rattle.vtep_rows.specs.Rows.{Rows, row_at, removed}
use Rattle.vtep_rows.specs.Changes.{changes}
use Rattle.mac_learning.specs.declared.Learnt.{Learnt}
use Rattle.mac_learning.specs.Learning.{same_address, found}
use Rattle.forward_program.specs.declared.readings.Remote.{Remote}
use Rattle.forward_program.specs.Readings.{remote_of}
use Rattle.forward_program.specs.Follows.{learnt_address}
use Rattle.local_tables.specs.LocalRows.{address_key, flood_key, row_with}
use Rattle.local_tables.specs.Followed.{is_bound_there, is_named_by_port}

abbrev pub has_id : List ℕ → ℕ → Bool
has_id ids i = list_any (λ x. i == x) ids

-- the rows of a table that differ
abbrev pub differing : Table → Rows → Rows → List ℕ
differing t old r = map (λ c. c.id) (filter (λ c. same_table c.table t) (changes old r))

-- ---- the learnt addresses that go

abbrev pub unbound : Rows → List Learnt → List Learnt
unbound r l = filter (λ e. not (is_bound_there r e)) l

-- they are looked for where a port differs alone
abbrev pub unbound_by : List ℕ → Rows → List Learnt → List Learnt
unbound_by [] r l = []
unbound_by (id ∷ ids) r l = unbound r l

abbrev pub entry_of : List Learnt → Option Remote → Option Learnt
entry_of l None = None
entry_of l (Some a) = found a.switch a.mac l

-- the entry of the address of a remote row that was inserted
abbrev pub claimed_at : Rows → Rows → List Learnt → ℕ → Option Learnt
claimed_at old r l id = if maps.has old.rows (UcastMacsRemote, id) then None else entry_of l (option_and_then remote_of (row_at r (UcastMacsRemote, id)))

abbrev pub claimed : Rows → Rows → List Learnt → List Learnt
claimed old r l = filter_map (claimed_at old r l) (differing UcastMacsRemote old r)

abbrev pub leaving : Rows → Rows → List Learnt → List Learnt
leaving old r l = unbound_by (differing PhysicalPort old r) r l ++ claimed old r l

-- the list without the addresses of these entries
abbrev pub without_all : List Learnt → List Learnt → List Learnt
without_all gone l = filter (λ e. not (list_any (same_address e) gone)) l

-- ---- the switches that may be bound or not from now on

abbrev pub switch_in : Table × ℕ → Option ℕ
switch_in k = if same_table k.0 LogicalSwitch then Some k.1 else None

-- those that a port binds, where it is there
abbrev pub switches_of : Option Contents → List ℕ
switches_of None = []
switches_of (Some row) = filter_map switch_in (references row)

-- those of the ports that differ, and those that differ
abbrev pub touched : Rows → Rows → List ℕ
touched old r =
    flat_map (λ id. switches_of (row_at old (PhysicalPort, id)) ++ switches_of (row_at r (PhysicalPort, id))) (differing PhysicalPort old r)
    ++ differing LogicalSwitch old r

abbrev pub is_bound : Rows → ℕ → Bool
is_bound r s = maps.has r.rows (LogicalSwitch, s) && is_named_by_port r s

abbrev pub has_flood : Rows → ℕ → Bool
has_flood r s = is_some (row_with McastMacsLocal (flood_key s) r)

-- those that are not bound
abbrev pub lost : Rows → List ℕ → List ℕ
lost r ss = filter (λ s. not (is_bound r s)) ss

-- those that are bound and have no row
abbrev pub gained : Rows → List ℕ → List ℕ
gained r ss = filter (λ s. is_bound r s && not (has_flood r s)) ss

-- ---- rows that go by their keys

abbrev pub without_by : Table → Rows → Option ℕ → Rows
without_by t r None = r
without_by t r (Some id) = removed r (t, id)

abbrev pub without_row : Table → Rows → List Atom → Rows
without_row t r key = without_by t r (row_with t key r)

abbrev pub without_rows : Table → Rows → List (List Atom) → Rows
without_rows t r [] = r
without_rows t r (key ∷ keys) = without_rows t (without_row t r key) keys

abbrev pub address_keys : List Learnt → List (List Atom)
address_keys es = map (λ e. address_key (learnt_address e)) es

abbrev pub flood_keys : List ℕ → List (List Atom)
flood_keys ss = map flood_key ss
