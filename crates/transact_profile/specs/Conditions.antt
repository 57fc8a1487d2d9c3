-- Names that stand for inserted rows, and the rows that meet conditions.
use Rattle.std.specs.Prelude.{◌≡◌, ℕ, ℤ, pos, int_lt, int_le, Bool, true, false, not, if◌then◌else◌, List, [], ◌∷◌, map, filter, Option, Some, None}
use Rattle.std.specs.List.{list_all}
use Rattle.vtep_base.specs.Reading.{Bytes}
use Rattle.ovsdb_values.specs.declared.atoms.Atom.{Atom}
use Rattle.ovsdb_values.specs.declared.atoms.Atom.TheVariants.{Integer, Id, Named}
use Rattle.ovsdb_values.specs.declared.datums.Datum.{Datum}
use Rattle.ovsdb_values.specs.declared.datums.Datum.TheVariants as datum
use Rattle.ovsdb_values.specs.Sets.{one, same_datum, has_atom, has_pair, set_of, map_of}
use Rattle.vtep_schema.specs.declared.Table.{Table}
use Rattle.vtep_schema.specs.declared.Column.{Column}
use Rattle.vtep_schema.specs.Tables.{belongs}
use Rattle.vtep_rows.specs.Row.{Contents, value_at}
use Rattle.vtep_rows.specs.Rows.{Rows, row_at, ids_of}
pub use Rattle.transact_profile.specs.Names.{Names}
use Rattle.transact_profile.specs.Names.{id_named}
use Rattle.transact_profile.specs.declared.operations.Field.{Field}
use Rattle.transact_profile.specs.declared.operations.Field.TheVariants as field
use Rattle.transact_profile.specs.declared.operations.Function.{Function}
use Rattle.transact_profile.specs.declared.operations.Function.TheVariants as function
use Rattle.transact_profile.specs.declared.operations.Condition.{Condition}
use Rattle.transact_profile.specs.declared.operations.Mutation.{Mutation}

-- ---- names

abbrev pub atom_for : Bytes → Option ℕ → Atom
atom_for name None = Named name
atom_for name (Some id) = Id id

abbrev pub resolved_atom : Names → Atom → Atom
resolved_atom ns (Named name) = atom_for name (id_named ns name)
resolved_atom ns a = a

abbrev pub resolved_pair : Names → Atom × Atom → Atom × Atom
resolved_pair ns p = (resolved_atom ns p.0, resolved_atom ns p.1)

-- atoms that come to be one are one
abbrev pub resolved : Names → Datum → Datum
resolved ns (datum.Set xs) = datum.Set (set_of (map (resolved_atom ns) xs))
resolved ns (datum.Map ps) = datum.Map (map_of (map (resolved_pair ns) ps))

abbrev pub resolved_cells : {K : Type 0} → Names → List (K × Datum) → List (K × Datum)
resolved_cells ns cells = map (λ v. (v.0, resolved ns v.1)) cells

abbrev pub resolved_condition : Names → Condition → Condition
resolved_condition ns c = record { field = c.field; function = c.function; value = resolved ns c.value }

abbrev pub resolved_conditions : Names → List Condition → List Condition
resolved_conditions ns cs = map (resolved_condition ns) cs

abbrev pub resolved_mutation : Names → Mutation → Mutation
resolved_mutation ns m = record { column = m.column; mutator = m.mutator; value = resolved ns m.value }

abbrev pub resolved_mutations : Names → List Mutation → List Mutation
resolved_mutations ns ms = map (resolved_mutation ns) ms

abbrev pub resolved_rows : Names → List (List (Field × Datum)) → List (List (Field × Datum))
resolved_rows ns rows = map (resolved_cells ns) rows

-- ---- conditions

-- each atom or pair of the first is in the second
abbrev pub all_in : Datum → Datum → Bool
all_in (datum.Set xs) (datum.Set ys) = list_all (has_atom ys) xs
all_in (datum.Map ps) (datum.Map qs) = list_all (has_pair qs) ps
all_in _ _ = false

-- none is
abbrev pub none_in : Datum → Datum → Bool
none_in (datum.Set xs) (datum.Set ys) = list_all (λ x. not (has_atom ys x)) xs
none_in (datum.Map ps) (datum.Map qs) = list_all (λ p. not (has_pair qs p)) ps
none_in _ _ = false

-- the number of a set of one number
abbrev pub number_in : Datum → ℤ
number_in (datum.Set (Integer z ∷ [])) = z
number_in _ = pos 0

abbrev pub compares : Function → Datum → Datum → Bool
compares function.Equal a b = same_datum a b
compares function.Unequal a b = not (same_datum a b)
compares function.Less a b = int_lt (number_in a) (number_in b)
compares function.AtMost a b = int_le (number_in a) (number_in b)
compares function.AtLeast a b = int_le (number_in b) (number_in a)
compares function.More a b = int_lt (number_in b) (number_in a)
compares function.Includes a b = all_in b a
compares function.Excludes a b = none_in b a

-- the value of a column, where it is one of the row's table
abbrev pub value_of : Contents → Column → Option Datum
value_of row c = if belongs c row.table then Some (value_at row c) else None

abbrev pub cell_of : ℕ → Contents → Field → Option Datum
cell_of id row field.Id = Some (one (Id id))
cell_of id row (field.Of c) = value_of row c

abbrev pub compares_some : Function → Option Datum → Datum → Bool
compares_some f None value = false
compares_some f (Some cell) value = compares f cell value

abbrev pub holds : ℕ → Contents → Condition → Bool
holds id row c = compares_some c.function (cell_of id row c.field) c.value

-- the condition holds of no row but the one with this identifier
abbrev pub Asks : Condition → ℕ → Type 0
Asks c id = (other : ℕ) (row : Contents) → holds other row c ≡ true → other ≡ id

-- all conditions hold of no other row
abbrev pub AsksFor : List Condition → ℕ → Type 0
AsksFor cs id = (other : ℕ) (row : Contents) → list_all (holds other row) cs ≡ true → other ≡ id

-- all conditions hold of a row that is there
abbrev pub meets : List Condition → ℕ → Option Contents → Bool
meets cs id None = false
meets cs id (Some row) = list_all (holds id row) cs

abbrev pub meets_at : Table → List Condition → Rows → ℕ → Bool
meets_at t cs r id = meets cs id (row_at r (t, id))

-- the rows of a table that meet the conditions, by identifier
abbrev pub selected : Table → List Condition → Rows → List ℕ
selected t cs r = filter (meets_at t cs r) (ids_of t r)
