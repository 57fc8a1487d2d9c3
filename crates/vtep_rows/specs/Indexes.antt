-- What the indexes count, and what they say of all rows.
use Rattle.std.specs.Prelude.{◌≡◌, ℕ, List, slice_index, if◌then◌else◌, Option, Some, None}
use Rattle.std.specs.List.{sum_by}
use Rattle.vtep_base.specs.Maps as maps
use Rattle.vtep_base.specs.Maps.{Map}
use Rattle.vtep_schema.specs.declared.Table.{Table}
use Rattle.vtep_schema.specs.Tables.{table_place, same_table}
use Rattle.vtep_rows.specs.declared.indexes.Indexes.{Indexes}
use Rattle.vtep_rows.specs.Row.{Contents, references}
use Rattle.vtep_rows.specs.Rows.{Key, key_cmp}
use Rattle.vtep_rows.specs.Tallies.{count_at}
use Rattle.vtep_rows.specs.Names.{named_by}
use Rattle.vtep_rows.specs.Marks.{Mark, marked_by}

abbrev pub size_at : List ℕ → Table → ℕ
size_at sizes t = slice_index sizes (table_place t)

-- how often the rows of a table name a row, how often a mark stands, and how many rows a table has
pub data Count : Type 0 where
  Named : Key → Table → Count
  Marked : Mark → Count
  Sized : Table → Count

-- what a row adds to a count
abbrev pub adds : Count → Key × Contents → ℕ
adds (Named k t) e = named_by e.0.0 t k (references e.1)
adds (Marked q) e = marked_by q e.0 e.1
adds (Sized t) e = if same_table e.0.0 t then 1 else 0

-- the sum over all rows
abbrev pub total : (Key × Contents → ℕ) → Map key_cmp Contents → ℕ
total f m = sum_by f m.list

-- the part of a row that may be there
abbrev pub part : (Key × Contents → ℕ) → Key → Option Contents → ℕ
part f k None = 0
part f k (Some row) = f (k, row)

abbrev pub count_in : Indexes → Count → ℕ
count_in x (Named k t) = count_at x.names (k.0, k.1, t)
count_in x (Marked q) = count_at x.marks q
count_in x (Sized t) = size_at x.sizes t

-- the indexes count all rows
abbrev pub IsIndexed : Indexes → Map key_cmp Contents → Type 0
IsIndexed x m = (c : Count) → count_in x c ≡ total (adds c) m

-- a row that may be there stands there again
abbrev pub put_back : Map key_cmp Contents → Key → Option Contents → Map key_cmp Contents
put_back m k None = maps.remove m k
put_back m k (Some row) = maps.insert m k row
