-- The rows of a gateway: a finite map from a table and an identifier, and the greatest row number given.
use Rattle.std.specs.Prelude.{◌≡◌, ◌≤◌, ◌<◌, ℕ, zero, suc, ◌+◌, ◌-◌, ◌*◌, ◌%◌, ◌^◌, Bool, true, ◌&&◌, ◌||◌, nat_lt, nat_le, ◌==◌, if◌then◌else◌, List, [], ◌∷◌, ◌++◌, map, filter, length, Option}
use Rattle.std.specs.List.{list_all, list_any}
use Rattle.std.specs.Ordering.{nat_cmp, ordering_then, is_eq}
use Rattle.std.specs.declared.cmp.Ordering.{Ordering}
use Rattle.vtep_base.specs.Reading.{Bytes}
use Rattle.vtep_base.specs.Texts.{ipv4_text}
use Rattle.vtep_base.specs.Maps as maps
use Rattle.vtep_base.specs.Maps.{Map}
use Rattle.ovsdb_values.specs.declared.atoms.Atom.TheVariants.{Text, Id}
use Rattle.ovsdb_values.specs.Sets.{one}
use Rattle.vtep_schema.specs.declared.Table.{Table}
use Rattle.vtep_schema.specs.declared.Table.TheVariants.{Global, PhysicalSwitch}
use Rattle.vtep_schema.specs.declared.Column.TheVariants.{GlobalSwitches, SwitchName, SwitchTunnelIps}
use Rattle.vtep_schema.specs.Tables.{table_cmp, same_table, table_rule}
use Rattle.vtep_rows.specs.Row.{Contents, is_row, references, default_row, with_value}

-- a table and an identifier
abbrev pub Key : Type 0
Key = Table × ℕ

-- by table, and then by identifier
abbrev pub key_cmp : Key → Key → Ordering
key_cmp a b = ordering_then (table_cmp a.0 b.0) (nat_cmp a.1 b.1)

abbrev pub same_key : Key → Key → Bool
same_key a b = is_eq (key_cmp a b)

pub record Rows : Type 0 where
  pub made : ℕ  -- the address that stands in every identifier
  pub counter : ℕ  -- the greatest row number given
  pub rows : Map key_cmp Contents

abbrev pub last_number : ℕ
last_number = 2 ^ 62 - 1

-- 32 bits of the address, 16 zeros, the version 8, 12 zeros, the variant 10, and the low 62 bits of the number (RFC 9562)
abbrev pub row_id : ℕ → ℕ → ℕ
row_id made number = made * 2 ^ 96 + 8 * 2 ^ 76 + 2 * 2 ^ 62 + number % 2 ^ 62

abbrev pub row_at : Rows → Key → Option Contents
row_at r k = maps.get r.rows k

-- the rows of a table by identifier
abbrev pub rows_of : Table → Rows → List (ℕ × Contents)
rows_of t r = map (λ e. (e.0.1, e.1)) (filter (λ e. same_table e.0.0 t) r.rows.list)

abbrev pub ids_of : Table → Rows → List ℕ
ids_of t r = map (λ row. row.0) (rows_of t r)

abbrev pub next_id : Rows → ℕ
next_id r = row_id r.made (r.counter + 1)

-- with one more row, of the next number
abbrev pub inserted : Rows → Contents → Rows
inserted r row = record { made = r.made; counter = r.counter + 1; rows = maps.insert r.rows (row.table, next_id r) row }

abbrev pub replaced : Rows → Key → Contents → Rows
replaced r k row = record { made = r.made; counter = r.counter; rows = maps.insert r.rows k row }

abbrev pub removed : Rows → Key → Rows
removed r k = record { made = r.made; counter = r.counter; rows = maps.remove r.rows k }

-- the one row of Global
abbrev pub global_row : ℕ → Contents
global_row switch = with_value (default_row Global) GlobalSwitches (one (Id switch))

-- the one row of Physical_Switch
abbrev pub switch_row : Bytes → ℕ → Contents
switch_row name ip = with_value (with_value (default_row PhysicalSwitch) SwitchName (one (Text name))) SwitchTunnelIps (one (Text (ipv4_text ip)))

-- a new gateway's rows: number 1 in Global, which names number 2 in Physical_Switch
abbrev pub opening : Bytes → ℕ → Rows
opening name ip = inserted (inserted (record { made = ip; counter = 0; rows = maps.empty }) (global_row (row_id ip 2))) (switch_row name ip)

-- the identifier of a number that was given
abbrev pub is_given : Rows → ℕ → Bool
is_given r id = nat_le 1 (id % 2 ^ 62) && nat_le (id % 2 ^ 62) r.counter && (id == row_id r.made (id % 2 ^ 62))

-- identifiers have 128 bits
abbrev pub IsNumbered : Map key_cmp Contents → Type 0
IsNumbered m = list_all (λ e. nat_lt e.0.1 (2 ^ 128)) m.list ≡ true

-- rows that the calls reach: each is a row of the table at which it stands, and its identifier was given
pub record IsRows (r : Rows) : Type 0 where
  pub tables : list_all (λ e. same_table e.0.0 e.1.table) r.rows.list ≡ true
  pub identifiers : list_all (λ e. is_given r e.0.1) r.rows.list ≡ true
  pub contents : list_all (λ e. is_row e.1) r.rows.list ≡ true
  pub count : r.counter ≤ last_number
  pub address : r.made < 2 ^ 32

-- ---- references

abbrev pub has_key : List Key → Key → Bool
has_key ks k = list_any (same_key k) ks

abbrev pub names : Contents → Key → Bool
names row k = has_key (references row) k

abbrev pub is_named : Map key_cmp Contents → Key → Bool
is_named m k = list_any (λ e. names e.1 k) m.list

-- it is of a root table, or some row names it
abbrev pub stays : Map key_cmp Contents → Key → Bool
stays m k = (table_rule k.0).root || is_named m k

-- without the rows that nothing names, n times over
abbrev pub collected_in : ℕ → Map key_cmp Contents → Map key_cmp Contents
collected_in zero m = m
collected_in (suc n) m = collected_in n (maps.keep (stays m) m)

-- without the rows of tables that are not root and that nothing names, until none is left
abbrev pub collected : Rows → Rows
collected r = record { made = r.made; counter = r.counter; rows = collected_in (length r.rows.list) r.rows }

-- what one pass over the rows finds: those of tables that are not root and that no earlier row which stays names, where `named` are named
abbrev pub unnamed_from : List Key → List (Key × Contents) → List Key
unnamed_from named [] = []
unnamed_from named (e ∷ es) = if (table_rule e.0.0).root || has_key named e.0 then unnamed_from (named ++ references e.1) es else e.0 ∷ unnamed_from named es

abbrev pub without : Map key_cmp Contents → List Key → Map key_cmp Contents
without m [] = m
without m (k ∷ ks) = without (maps.remove m k) ks

-- the rows of m that p picks, in which each row of a table that is not root is named by a picked one
abbrev pub IsClosed : Map key_cmp Contents → (Key → Bool) → Type 0
IsClosed m p = (k : Key) → p k ≡ true → (maps.has m k ≡ true) × (stays (maps.keep p m) k ≡ true)

-- n is the largest closed part of m
pub record IsCollected (m n : Map key_cmp Contents) : Type 0 where
  pub closed : IsClosed m (maps.has n)
  pub largest : (p : Key → Bool) → IsClosed m p → (k : Key) → p k ≡ true → maps.has n k ≡ true
  pub same : (k : Key) → maps.has n k ≡ true → maps.get n k ≡ maps.get m k
