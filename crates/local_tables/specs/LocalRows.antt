-- The rows that a gateway writes itself (vtep(5), Ucast_Macs_Local, Mcast_Macs_Local, Physical_Locator_Set and Physical_Locator),
-- and what they are looked for by.
use Rattle.std.specs.Prelude.{ℕ, ◌^◌, ◌&&◌, not, nat_lt, Bool, List, [], ◌∷◌, map, filter, Option, codes}
use Rattle.std.specs.Ordering.{nat_cmp, ordering_then}
use Rattle.std.specs.declared.cmp.Ordering.{Ordering}
use Rattle.ovsdb_values.specs.declared.atoms.Atom.{Atom}
use Rattle.ovsdb_values.specs.declared.atoms.Atom.TheVariants.{Text, Id}
use Rattle.ovsdb_values.specs.declared.datums.Datum.{Datum}
use Rattle.ovsdb_values.specs.Sets.{one}
use Rattle.vtep_base.specs.Reading.{Bytes}
use Rattle.vtep_base.specs.Texts.{ipv4_text}
use Rattle.vtep_base.specs.Addresses.{mac_text, is_group}
use Rattle.vtep_schema.specs.declared.Table.{Table}
use Rattle.vtep_schema.specs.declared.Table.TheVariants.{UcastMacsLocal, McastMacsLocal, PhysicalLocatorSet, PhysicalLocator}
use Rattle.vtep_schema.specs.declared.Column.{Column}
use Rattle.vtep_schema.specs.declared.Column.TheVariants.{UcastLocalMac, UcastLocalLogicalSwitch, UcastLocalLocator, McastLocalMac, McastLocalLogicalSwitch, McastLocalLocatorSet, SetLocators, LocatorEncapsulationType, LocatorDstIp}
use Rattle.vtep_rows.specs.Row.{Contents, default_row, with_values, first}
use Rattle.vtep_rows.specs.Rows.{Rows, rows_of}
use Rattle.vtep_rows.specs.Keyed.{holds, first_key}
use Rattle.forward_program.specs.Follows.{Address}

-- ---- by what a row is looked for

abbrev pub address_key : Address → List Atom
address_key a = Id a.0 ∷ Text (mac_text a.1) ∷ []

-- of the frames of a switch to unknown destinations
abbrev pub flood_key : ℕ → List Atom
flood_key switch = Id switch ∷ Text (codes "unknown-dst") ∷ []

abbrev pub encapsulation : Bytes
encapsulation = codes "vxlan_over_ipv4"

abbrev pub locator_key : ℕ → List Atom
locator_key ip = Text encapsulation ∷ Text (ipv4_text ip) ∷ []

-- the row has these atoms in the columns of its table's first unique key
abbrev pub has_key : Table → List Atom → Contents → Bool
has_key t key row = holds (first_key t) key row

-- the first row of a table, by identifier, that has them
abbrev pub row_with : Table → List Atom → Rows → Option ℕ
row_with t key r = first (map (λ row. row.0) (filter (λ row. has_key t key row.1) (rows_of t r)))

-- by switch and address
abbrev pub address_cmp : Address → Address → Ordering
address_cmp a b = ordering_then (nat_cmp a.0 b.0) (nat_cmp a.1 b.1)

-- an address of 48 bits that is not that of a group (IEEE 802.3)
abbrev pub is_individual : ℕ → Bool
is_individual mac = nat_lt mac (2 ^ 48) && not (is_group mac)

-- ---- the rows

abbrev pub locator_values : ℕ → List (Column × Datum)
locator_values ip = (LocatorEncapsulationType, one (Text encapsulation)) ∷ (LocatorDstIp, one (Text (ipv4_text ip))) ∷ []

-- a tunnel end point
abbrev pub locator_row : ℕ → Contents
locator_row ip = with_values (default_row PhysicalLocator) (locator_values ip)

-- the set of one locator
abbrev pub set_row : ℕ → Contents
set_row locator = with_values (default_row PhysicalLocatorSet) ((SetLocators, one (Id locator)) ∷ [])

abbrev pub address_values : Address → ℕ → List (Column × Datum)
address_values a locator = (UcastLocalMac, one (Text (mac_text a.1))) ∷ (UcastLocalLogicalSwitch, one (Id a.0)) ∷ (UcastLocalLocator, one (Id locator)) ∷ []

-- an address of a switch is behind this gateway
abbrev pub address_row : Address → ℕ → Contents
address_row a locator = with_values (default_row UcastMacsLocal) (address_values a locator)

-- this gateway takes frames of a switch to unknown destinations
abbrev pub flood_row : ℕ → ℕ → Contents
flood_row switch set =
    with_values (default_row McastMacsLocal)
    ((McastLocalMac, one (Text (codes "unknown-dst"))) ∷ (McastLocalLogicalSwitch, one (Id switch)) ∷ (McastLocalLocatorSet, one (Id set)) ∷ [])
