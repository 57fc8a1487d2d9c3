-- Rows, and what they were at the last commit.
use Rattle.std.specs.Prelude.{◌≡◌, ◌≤◌, ℕ, ◌==◌, Bool, true, false, not, ◌&&◌, ◌||◌, nat_lt, nat_le, List, [], ◌∷◌, map, filter, filter_map, Option, Some, None, if◌then◌else◌, refl}
use Rattle.std.specs.List.{list_all, list_any}
use Rattle.std.specs.Coded.{Coded, code_by, coded×, coded_option, coded_ℕ}
use Rattle.vtep_base.specs.Maps as maps
use Rattle.vtep_base.specs.Maps.{Map}
use Rattle.vtep_schema.specs.contracts.Table as table
use Rattle.vtep_rows.specs.declared.differences.RowChange.{RowChange}
use Rattle.vtep_schema.specs.declared.Table.{Table}
use Rattle.vtep_schema.specs.Tables.{same_table, table_rule, table_place}
use Rattle.vtep_rows.specs.Row.{Contents, references}
use Rattle.vtep_rows.specs.Rows.{Key, key_cmp, Rows, IsRows, row_at, removed, is_given, names, has_key, same_key, is_named, stays}
use Rattle.vtep_rows.specs.Sound.{has_twin}
use Rattle.vtep_rows.specs.Codes.{contents_code, rows_code}
use Rattle.vtep_rows.specs.Changes.{differ}
use Rattle.vtep_rows.specs.Indexes.{put_back}

pub record Versions : Type 0 where
  pub committed : Rows
  pub current : Rows

abbrev pub versions_code : Coded Versions
versions_code = code_by (Rows × Rows) (coded× rows_code rows_code) (λ v. (v.committed, v.current)) (λ p. record { committed = p.0; current = p.1 }) (λ _. refl)

-- what rows were: a row, or none
abbrev pub Images : Type 0
Images = Map key_cmp (Option Contents)

abbrev pub images_code : Coded Images
images_code = maps.code (coded× (table.the_row).coded coded_ℕ) (coded_option contents_code)

-- with what is at a place kept, unless something is kept for it
abbrev pub remembered : Images → Rows → Key → Images
remembered b r k = if maps.has b k then b else maps.insert b k (row_at r k)

abbrev pub all_back : Map key_cmp Contents → List (Key × Option Contents) → Map key_cmp Contents
all_back m [] = m
all_back m (e ∷ es) = all_back (put_back m e.0 e.1) es

-- each row that was written is as it was, and so is the counter
abbrev pub restored : Images → ℕ → Rows → Rows
restored b counter r = record { made = r.made; counter = counter; rows = all_back r.rows b.list }

-- the images, with the counter, are what these rows were
pub record IsBefore (b : Images) (counter : ℕ) (r : Rows) : Type 0 where
  pub rows : IsRows (restored b counter r)
  pub most : counter ≤ r.counter

-- what differs at the place of an image
abbrev pub changed_at : Rows → Key × Option Contents → Option RowChange
changed_at r e = if differ e.1 (row_at r e.0) then Some (record { table = e.0.0; id = e.0.1; old = e.1; new = row_at r e.0 }) else None

-- an image may be put back: its row is one of its table, with an identifier that was given
abbrev pub image_fits : Rows → Key → Option Contents → Bool
image_fits r k None = true
image_fits r k (Some row) = same_table k.0 row.table && is_given r k.1

abbrev pub images_fit : Rows → List (Key × Option Contents) → Bool
images_fit r es = list_all (λ e. image_fits r e.0 e.1) es

-- with an image back, and with several
abbrev pub backed : Rows → Key → Option Contents → Rows
backed r k o = record r { rows = put_back r.rows k o }

abbrev pub all_backed : Rows → List (Key × Option Contents) → Rows
all_backed r es = record r { rows = all_back r.rows es }

-- the identifiers of the rows of a table that differ from their images
abbrev pub differing_in : Table → Rows → List (Key × Option Contents) → List ℕ
differing_in t r es = map (λ c. c.id) (filter (λ c. same_table c.table t) (filter_map (changed_at r) es))

-- ---- breaches at the places that were written

-- the row that went is still named, or the row names one that is not there
abbrev pub dangles : Rows → Key → Option Contents → Bool
dangles r k None = is_named r.rows k
dangles r k (Some row) = not (list_all (maps.has r.rows) (references row))

-- another row has a key of this one
abbrev pub doubled : Rows → Key → Option Contents → Bool
doubled r k None = false
doubled r k (Some row) = has_twin r k.0 (k.1, row)

abbrev pub any_dangles : Rows → List (Key × Option Contents) → Bool
any_dangles r es = list_any (λ e. dangles r e.0 (row_at r e.0)) es

abbrev pub any_doubled : Rows → List (Key × Option Contents) → Bool
any_doubled r es = list_any (λ e. doubled r e.0 (row_at r e.0)) es

-- ---- the collection at the places that were written

abbrev pub image_names : Option Contents → Key → Bool
image_names None k = false
image_names (Some row) k = names row k

-- a place that was written, or one that a row that was there named
abbrev pub may_go : List (Key × Option Contents) → Key → Bool
may_go es k = list_any (λ e. same_key k e.0 || image_names e.1 k) es

-- the row is there, its table is not root, and nothing names it
abbrev pub goes : Map key_cmp Contents → Key → Bool
goes m k = maps.has m k && not (stays m k)

abbrev pub collected_at : Rows → Key → Rows
collected_at r k = if goes r.rows k then removed r k else r

-- a row that goes names this one
abbrev pub let_go : Rows → Key → Key → Bool
let_go r k q = goes r.rows k && image_names (row_at r k) q

-- of a root table, or of a later one
abbrev pub later_than : Table → Key → Bool
later_than t k = (table_rule k.0).root || nat_lt (table_place t) (table_place k.0)

-- some rows of m went that nothing names, n is left, and p picks what still has to go
pub record IsCollecting (m n : Map key_cmp Contents) (p : Key → Bool) : Type 0 where
  pub part : (k : Key) → maps.has n k ≡ true → maps.get n k ≡ maps.get m k
  pub went : (k : Key) → maps.has m k ≡ true → maps.has n k ≡ false → stays n k ≡ false
  pub left : (k : Key) → maps.has n k ≡ true → stays n k ≡ false → p k ≡ true

-- the candidates of a table and those after it, and the candidates after a table and some of its own
abbrev pub from_place : ℕ → List Key → Key → Bool
from_place n ks k = has_key ks k && nat_le n (table_place k.0)

abbrev pub after_table : Table → List ℕ → List Key → Key → Bool
after_table t ids ks k = has_key ks k && (nat_lt (table_place t) (table_place k.0) || (same_table k.0 t && list_any (λ j. k.1 == j) ids))

-- the identifiers of a table's places
abbrev pub ids_at : Table → List Key → List ℕ
ids_at t ks = map (λ k. k.1) (filter (λ k. same_table k.0 t) ks)
