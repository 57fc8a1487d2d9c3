-- Values as they stand in operations, and the columns, functions and mutators that take them.
-- Of each value its notation is looked at first, then the names in it, then its range and size.
use Rattle.std.specs.Prelude.{Bool, true, false, not, ◌&&◌, ◌||◌, nat_le, ◌==◌, if◌then◌else◌, List, [], map, length, Option, Some, None, is_some, is_none, option_map, codes, Ok}
use Rattle.std.specs.List.{list_all}
use Rattle.std.specs.Char.{to_ascii_lowercase}
use Rattle.vtep_base.specs.Reading.{Bytes, same_bytes}
use Rattle.vtep_base.specs.Addresses.{mac_of}
use Rattle.vtep_base.specs.Maps as maps
use Rattle.vtep_base.specs.declared.words.Word.TheVariants as word
use Rattle.vtep_base.specs.declared.shapes.Kind.TheVariants as kind
use Rattle.serde_json.specs.Data.{Data}
use Rattle.ovsdb_values.specs.declared.atoms.Atom.{Atom}
use Rattle.ovsdb_values.specs.declared.atoms.Atom.TheVariants.{Text, Named}
use Rattle.ovsdb_values.specs.declared.datums.Datum.{Datum}
use Rattle.ovsdb_values.specs.declared.datums.Datum.TheVariants as datum
use Rattle.ovsdb_values.specs.Atoms.{set_from, map_from}
use Rattle.ovsdb_values.specs.Notation.{atoms_of, pairs_of}
use Rattle.vtep_schema.specs.declared.Table.{Table}
use Rattle.vtep_schema.specs.declared.Column.{Column}
use Rattle.vtep_schema.specs.declared.Column.TheVariants.{EntrySequence}
use Rattle.vtep_schema.specs.declared.rules.Domain.{Domain}
use Rattle.vtep_schema.specs.declared.rules.Domain.TheVariants as domain
use Rattle.vtep_schema.specs.declared.rules.Given.TheVariants.{Optional}
use Rattle.vtep_schema.specs.declared.rules.ColumnRule.{ColumnRule}
use Rattle.vtep_schema.specs.Tables.{kind_of, column_rule, column_name, column_named, same_column}
use Rattle.vtep_rows.specs.Row.{atom_allowed, is_reference, size_allowed}
use Rattle.transact_profile.specs.declared.known.Known.{Known}
use Rattle.transact_profile.specs.declared.known.Known.TheVariants.{AnyName, OneOf}
use Rattle.transact_profile.specs.declared.operations.Field.{Field}
use Rattle.transact_profile.specs.declared.operations.Field.TheVariants as field
use Rattle.transact_profile.specs.declared.operations.Function.{Function}
use Rattle.transact_profile.specs.declared.operations.Function.TheVariants as function
use Rattle.transact_profile.specs.declared.operations.Mutator.{Mutator}
use Rattle.transact_profile.specs.declared.operations.Mutator.TheVariants as mutator
use Rattle.transact_profile.specs.Refusing.{Reading, ◌>>?◌, given, needs}

-- ---- names of insertions

abbrev pub is_known : Known → Atom → Bool
is_known AnyName name = true
is_known (OneOf names) name = maps.has names name

-- it is no name, or a known one
abbrev pub resolves : Known → Atom → Bool
resolves known (Named name) = is_known known (Named name)
resolves known _ = true

-- ---- sets and maps

-- a name stands for some row
abbrev pub fits : Domain → Atom → Bool
fits d (Named name) = is_reference d
fits d a = atom_allowed d a

abbrev pub holds_mac : Domain → Bool
holds_mac domain.Mac = true
holds_mac domain.SingleMac = true
holds_mac domain.GroupMac = true
holds_mac _ = false

abbrev pub lower_mac : Bytes → Bytes
lower_mac t = if is_some (mac_of t) then map to_ascii_lowercase t else t

-- the text of a MAC address is taken in lower case
abbrev pub lower_cased : Domain → Atom → Atom
lower_cased d (Text t) = if holds_mac d then Text (lower_mac t) else Text t
lower_cased d a = a

abbrev pub set_fits : ColumnRule → List Atom → Bool
set_fits r xs = size_allowed r (length xs) && list_all (fits r.key) xs

abbrev pub map_fits : ColumnRule → Domain → List (Atom × Atom) → Bool
map_fits r value ps = size_allowed r (length ps) && list_all (λ p. fits r.key p.0 && fits value p.1) ps

-- of a set as it stands there: an atom that stands twice is out of bounds
abbrev pub set_of_atoms : Known → ColumnRule → List Atom → Reading (List Atom)
set_of_atoms known r xs =
    needs word.UnknownUuidName (list_all (resolves known) xs)
    (given word.ConstraintViolation (set_from [] (map (lower_cased r.key) xs)) >>? λ set.
    needs word.ConstraintViolation (set_fits r set) (Ok set))

abbrev pub set_value : Known → ColumnRule → Data → Reading (List Atom)
set_value known r d = given word.SyntaxError (atoms_of (kind_of r.key) d) >>? set_of_atoms known r

abbrev pub map_of_pairs : Known → ColumnRule → Domain → List (Atom × Atom) → Reading (List (Atom × Atom))
map_of_pairs known r value ps =
    needs word.UnknownUuidName (list_all (λ p. resolves known p.0 && resolves known p.1) ps)
    (given word.ConstraintViolation (map_from [] ps) >>? λ pairs.
    needs word.ConstraintViolation (map_fits r value pairs) (Ok pairs))

abbrev pub map_value : Known → ColumnRule → Domain → Data → Reading (List (Atom × Atom))
map_value known r value d = given word.SyntaxError (pairs_of (kind_of r.key) (kind_of value) d) >>? map_of_pairs known r value

abbrev pub a_set : Reading (List Atom) → Reading Datum
a_set r = r >>? λ xs. Ok (datum.Set xs)

abbrev pub a_map : Reading (List (Atom × Atom)) → Reading Datum
a_map r = r >>? λ ps. Ok (datum.Map ps)

abbrev pub value_by : Known → ColumnRule → Option Domain → Data → Reading Datum
value_by known r None d = a_set (set_value known r d)
value_by known r (Some value) d = a_map (map_value known r value d)

-- a whole value of a column
abbrev pub column_value : Known → Column → Data → Reading Datum
column_value known c d = value_by known (column_rule c) (column_rule c).value d

-- one identifier of a row
abbrev pub id_rule : Table → ColumnRule
id_rule t = record { key = domain.Row t; value = None; least = 1; most = 1; given = Optional }

abbrev pub field_value : Known → Table → Field → Data → Reading Datum
field_value known t field.Id d = a_set (set_value known (id_rule t) d)
field_value known t (field.Of c) d = column_value known c d

-- one number of 64 bits
abbrev pub one_number : Data → Reading Datum
one_number d =
    given word.SyntaxError (atoms_of kind.Integer d) >>? λ xs.
    needs word.ConstraintViolation (length xs == 1)
    (given word.ConstraintViolation (set_from [] xs) >>? λ set. Ok (datum.Set set))

-- of a map: pairs of it, or keys
abbrev pub pairs_or_keys : Known → ColumnRule → Domain → Data → Reading Datum
pairs_or_keys known r value d =
    if is_some (pairs_of (kind_of r.key) (kind_of value) d) then a_map (map_value known r value d) else a_set (set_value known r d)

-- ---- columns by name

abbrev pub is_id : Bytes → Bool
is_id name = same_bytes name (codes "_uuid")

abbrev pub field_named : Table → Bytes → Option Field
field_named t name = if is_id name then Some field.Id else option_map field.Of (column_named t name)

abbrev pub has_field : Table → Bytes → Bool
has_field t name = is_some (field_named t name)

abbrev pub field_name : Field → Bytes
field_name field.Id = codes "_uuid"
field_name (field.Of c) = column_name c

-- ---- functions and mutators

abbrev pub function_named : Bytes → Option Function
function_named name =
    if same_bytes name (codes "==") then Some function.Equal
    else if same_bytes name (codes "!=") then Some function.Unequal
    else if same_bytes name (codes "<") then Some function.Less
    else if same_bytes name (codes "<=") then Some function.AtMost
    else if same_bytes name (codes ">=") then Some function.AtLeast
    else if same_bytes name (codes ">") then Some function.More
    else if same_bytes name (codes "includes") then Some function.Includes
    else if same_bytes name (codes "excludes") then Some function.Excludes
    else None

abbrev pub compares_order : Function → Bool
compares_order function.Less = true
compares_order function.AtMost = true
compares_order function.AtLeast = true
compares_order function.More = true
compares_order _ = false

abbrev pub has_order : Field → Bool
has_order field.Id = false
has_order (field.Of c) = same_column c EntrySequence

-- the column takes the function
abbrev pub takes_function : Field → Function → Bool
takes_function f g = not (compares_order g) || has_order f

abbrev pub mutator_named : Bytes → Option Mutator
mutator_named name =
    if same_bytes name (codes "+=") then Some mutator.Add
    else if same_bytes name (codes "-=") then Some mutator.Subtract
    else if same_bytes name (codes "*=") then Some mutator.Multiply
    else if same_bytes name (codes "/=") then Some mutator.Divide
    else if same_bytes name (codes "%=") then Some mutator.Remainder
    else if same_bytes name (codes "insert") then Some mutator.Insert
    else if same_bytes name (codes "delete") then Some mutator.Delete
    else None

abbrev pub is_whole : Domain → Bool
is_whole (domain.Whole least most) = true
is_whole _ = false

-- one number, or none or one
abbrev pub holds_number : ColumnRule → Bool
holds_number r = is_whole r.key && is_none r.value && nat_le r.most 1

-- every column but those of exactly one
abbrev pub holds_members : ColumnRule → Bool
holds_members r = (r.least == 0) || nat_le 2 r.most

-- the column takes the mutator
abbrev pub takes_mutator : ColumnRule → Mutator → Bool
takes_mutator r mutator.Insert = holds_members r
takes_mutator r mutator.Delete = holds_members r
takes_mutator r _ = holds_number r

abbrev pub deleted_value : Known → ColumnRule → Option Domain → Data → Reading Datum
deleted_value known r None d = a_set (set_value known r d)
deleted_value known r (Some value) d = pairs_or_keys known r value d

abbrev pub mutation_value : Known → Column → Mutator → Data → Reading Datum
mutation_value known c mutator.Insert d = column_value known c d
mutation_value known c mutator.Delete d = deleted_value known (column_rule c) (column_rule c).value d
mutation_value known c _ d = one_number d
