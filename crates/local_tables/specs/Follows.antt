-- What holds after a commit, said of the tables and not of the steps that bring it about.
use Rattle.std.specs.Prelude.{◌≡◌, ◌⊎◌, ℕ, ◌+◌, Bool, true, false, if◌then◌else◌, List, [], ◌∷◌, ◌++◌, map, length, Option, Some, None}
use Rattle.std.specs.List.{list_any}
use Rattle.vtep_base.specs.Maps as maps
use Rattle.ovsdb_values.specs.declared.atoms.Atom.{Atom}
use Rattle.vtep_schema.specs.declared.Table.{Table}
use Rattle.vtep_schema.specs.declared.Table.TheVariants.{UcastMacsLocal, McastMacsLocal}
use Rattle.vtep_rows.specs.Row.{Contents}
use Rattle.vtep_rows.specs.Rows.{Key, Rows, row_at, row_id, next_id, stays}
use Rattle.mac_learning.specs.declared.Learnt.{Learnt}
use Rattle.forward_program.specs.Built.{IsIn}
use Rattle.forward_program.specs.Follows.{Address}
use Rattle.local_tables.specs.LocalRows.{has_key, locator_row, set_row, address_row, flood_row}
use Rattle.local_tables.specs.Followed.{bound_switches, staying, own_locator, missing_floods, missing_addresses, are_none}
use Rattle.local_tables.specs.Following.{address_keys, flood_keys}

-- ---- one row of each key

abbrev pub has_one_of : Table → List (List Atom) → Contents → Bool
has_one_of t keys row = list_any (λ key. has_key t key row) keys

-- one row of the table has the key
pub record IsOne (r : Rows) (t : Table) (key : List Atom) : Type 0 where
  pub id : ℕ
  pub row : Contents
  pub there : row_at r (t, id) ≡ Some row
  pub held : has_key t key row ≡ true
  pub alone : (i : ℕ) (other : Contents) → row_at r (t, i) ≡ Some other → has_key t key other ≡ true → i ≡ id

-- the table has one row of each of these keys and no other row, and a row of one of them that was there is as it was
pub record FollowsKeys (t : Table) (keys : List (List Atom)) (before after : Rows) : Type 0 where
  pub each : (key : List Atom) → IsIn key keys → IsOne after t key
  pub only : (i : ℕ) (row : Contents) → row_at after (t, i) ≡ Some row → has_one_of t keys row ≡ true
  pub kept : (i : ℕ) (row : Contents) → row_at before (t, i) ≡ Some row → has_one_of t keys row ≡ true → row_at after (t, i) ≡ Some row

-- ---- the rows that are new, in the order of their numbers

-- for each switch a set of the own locator, and the row that names it; the first has this number
abbrev pub flood_rows : ℕ → ℕ → ℕ → List ℕ → List Contents
flood_rows made locator number [] = []
flood_rows made locator number (s ∷ ss) = set_row locator ∷ flood_row s (row_id made number) ∷ flood_rows made locator (number + 1 + 1) ss

-- and then for each address its row
abbrev pub local_rows : ℕ → ℕ → ℕ → List ℕ → List Address → List Contents
local_rows made locator number floods addresses = flood_rows made locator number floods ++ map (λ a. address_row a locator) addresses

-- and before them the own locator, where it is not there
abbrev pub own_rows : ℕ → Option ℕ → Rows → List ℕ → List Address → List Contents
own_rows own None r floods addresses = locator_row own ∷ local_rows r.made (next_id r) (r.counter + 1 + 1) floods addresses
own_rows own (Some locator) r floods addresses = local_rows r.made locator (r.counter + 1) floods addresses

-- those of the bound switches without a row, by switch, and of the learnt addresses without a row, by switch and address
abbrev pub new_rows : ℕ → Rows → List Learnt → List Contents
new_rows own r learned = if are_none (missing_floods r) (missing_addresses r learned) then [] else own_rows own (own_locator own r) r (missing_floods r) (missing_addresses r learned)

-- rows at the places of their numbers
abbrev pub numbered : ℕ → ℕ → List Contents → List (Key × Contents)
numbered made number [] = []
numbered made number (row ∷ rows) = ((row.table, row_id made number), row) ∷ numbered made (number + 1) rows

abbrev pub new_places : ℕ → Rows → List Learnt → List (Key × Contents)
new_places own r learned = numbered r.made (r.counter + 1) (new_rows own r learned)

-- ---- the commit

abbrev pub is_local : Table → Bool
is_local UcastMacsLocal = true
is_local McastMacsLocal = true
is_local t = false

-- the rows before the change, after it and after the commit, and the learnt list before and after the commit, of a gateway of this address
pub record Follows (own : ℕ) (old changed : Rows) (learned : List Learnt) (after : Rows) (left : List Learnt) : Type 0 where
  -- the entries, in their order, whose port and VLAN name their switch, and of whose address no remote row was inserted
  pub stay_learnt : left ≡ staying old changed learned
  -- one row of each of them, and one row of each bound switch
  pub addresses : FollowsKeys UcastMacsLocal (address_keys left) changed after
  pub floods : FollowsKeys McastMacsLocal (flood_keys (bound_switches changed)) changed after
  -- what is new is there, at its number, and nothing else is new
  pub new : (k : Key) (row : Contents) → IsIn (k, row) (new_places own changed left) → row_at after k ≡ Some row
  pub no_other : (k : Key) (row : Contents) → row_at after k ≡ Some row → (row_at changed k ≡ Some row) ⊎ IsIn (k, row) (new_places own changed left)
  -- all other rows are as they were, but for those of tables that are not root and that no row names
  pub others : (k : Key) (row : Contents) → row_at changed k ≡ Some row → is_local k.0 ≡ false → stays after.rows k ≡ true → row_at after k ≡ Some row
  pub referenced : (k : Key) → maps.has after.rows k ≡ true → stays after.rows k ≡ true
  -- each new row has taken one number
  pub numbers : after.counter ≡ changed.counter + length (new_rows own changed left)
  pub address : after.made ≡ changed.made
