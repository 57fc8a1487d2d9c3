-- How often the rows of a table name a row.
use Rattle.std.specs.Prelude.{ℕ, List, [], ◌∷◌, if◌then◌else◌, refl}
use Rattle.std.specs.List.{count_by}
use Rattle.std.specs.Ordering.{nat_cmp, ordering_then}
use Rattle.std.specs.declared.cmp.Ordering.{Ordering}
use Rattle.std.specs.Coded.{Coded, code_by, coded×, coded_ℕ}
use Rattle.vtep_base.specs.Maps as maps
use Rattle.vtep_base.specs.Maps.{Map}
use Rattle.vtep_schema.specs.contracts.Table as table
use Rattle.vtep_schema.specs.declared.Table.{Table}
use Rattle.vtep_schema.specs.Tables.{table_cmp, same_table}
use Rattle.vtep_rows.specs.Rows.{Key, same_key}
use Rattle.vtep_rows.specs.Tallies.{lowered}

-- a row, and a table that names it
abbrev pub Naming : Type 0
Naming = Table × ℕ × Table

abbrev pub naming_cmp : Naming → Naming → Ordering
naming_cmp a b = ordering_then (ordering_then (table_cmp a.0 b.0) (nat_cmp a.1 b.1)) (table_cmp a.2 b.2)

abbrev pub naming_code : Coded Naming
naming_code = code_by (Table × (ℕ × Table)) (coded× (table.the_row).coded (coded× coded_ℕ (table.the_row).coded)) (λ k. (k.0, (k.1, k.2))) (λ p. (p.0, p.1.0, p.1.1)) (λ _. refl)

abbrev pub names_code : Coded (Map naming_cmp ℕ)
names_code = maps.code naming_code coded_ℕ

-- how often a key stands among those that rows of the table `of` name, as counted for the table t
abbrev pub named_by : Table → Table → Key → List Key → ℕ
named_by of t k keys = if same_table of t then count_by (same_key k) keys else 0

-- once less for each key
abbrev pub lowered_all : Map naming_cmp ℕ → Table → List Key → Map naming_cmp ℕ
lowered_all m of [] = m
lowered_all m of (k ∷ ks) = lowered_all (lowered m (k.0, k.1, of)) of ks
