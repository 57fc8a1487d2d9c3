-- Operations as they are written (RFC 7047, section 5.2), and the first fault of each: a member of a wrong type, an unknown
-- table, an unknown column, what sessions may not write, a name that is taken, a value, and a column that is fixed or not given.
use Rattle.std.specs.Prelude.{Bool, true, false, not, ◌&&◌, ◌||◌, if◌then◌else◌, List, map, Option, Some, None, is_some, option_map, unwrap_or, codes, Ok, Err}
use Rattle.std.specs.List.{list_all, list_any}
use Rattle.vtep_base.specs.Reading.{Bytes, same_bytes}
use Rattle.vtep_base.specs.Maps as maps
use Rattle.vtep_base.specs.declared.words.Word.TheVariants as word
use Rattle.serde_json.specs.Data.{Data}
use Rattle.serde_json.specs.Find.{get, as_str, as_bool}
use Rattle.ovsdb_values.specs.declared.atoms.Atom.TheVariants.{Named}
use Rattle.ovsdb_values.specs.declared.datums.Datum.{Datum}
use Rattle.vtep_schema.specs.declared.Table.{Table}
use Rattle.vtep_schema.specs.declared.Column.{Column}
use Rattle.vtep_schema.specs.declared.rules.Given.{Given}
use Rattle.vtep_schema.specs.declared.rules.Given.TheVariants.{Optional, Fixed}
use Rattle.vtep_schema.specs.Tables.{columns_of, column_rule, table_rule, table_named, column_named, written_by_sessions, same_column}
use Rattle.transact_profile.specs.Names.{NameSet}
use Rattle.transact_profile.specs.declared.known.Known.{Known}
use Rattle.transact_profile.specs.declared.operations.Field.{Field}
use Rattle.transact_profile.specs.declared.operations.Field.TheVariants as field
use Rattle.transact_profile.specs.declared.operations.Until.{Until}
use Rattle.transact_profile.specs.declared.operations.Condition.{Condition}
use Rattle.transact_profile.specs.declared.operations.Mutation.{Mutation}
use Rattle.transact_profile.specs.declared.operations.Op.{Op}
use Rattle.transact_profile.specs.declared.operations.Op.TheVariants as op
use Rattle.transact_profile.specs.Refusing.{Reading, ◌>>?◌, given, needs, each}
use Rattle.transact_profile.specs.Members.{member, optional, items_that, is_text, is_object, is_triple, Triple, triple_of, members_in, until_of, number_of}
use Rattle.transact_profile.specs.Values.{column_value, field_value, field_named, has_field, field_name, function_named, takes_function, mutator_named, takes_mutator, mutation_value}

abbrev pub Row : Type 0
Row = List (Bytes × Data)

abbrev pub table_read : Bytes → Reading Table
table_read name = given word.UnknownTable (table_named name)

-- ---- columns that are named

-- each member of a row is a column, or `_uuid`
abbrev pub row_known : Table → Row → Bool
row_known t row = list_all (λ m. has_field t m.0) row

abbrev pub names_field : Table → Option Triple → Bool
names_field t None = false
names_field t (Some x) = has_field t x.0

-- so is the column of each condition or mutation
abbrev pub triples_known : Table → List Data → Bool
triples_known t ds = list_all (λ d. names_field t (triple_of d)) ds

abbrev pub is_field : Table → Data → Bool
is_field t d = unwrap_or (option_map (has_field t) (as_str d)) false

abbrev pub columns_known : Table → Option (List Data) → Bool
columns_known t None = true
columns_known t (Some ds) = list_all (is_field t) ds

abbrev pub field_read : Table → Bytes → Reading Field
field_read t name = given word.UnknownColumn (field_named t name)

abbrev pub column_read : Table → Bytes → Reading Column
column_read t name = given word.UnknownColumn (column_named t name)

abbrev pub field_of : Table → Data → Reading Field
field_of t d = given word.UnknownColumn (as_str d) >>? field_read t

-- the columns that are asked for, or all
abbrev pub chosen : Table → Option (List Data) → Reading (Option (List Field))
chosen t None = Ok None
chosen t (Some ds) = each (field_of t) ds >>? λ fs. Ok (Some fs)

-- ---- what sessions write

abbrev pub may_write : Table → Bytes → Bool
may_write t name = unwrap_or (option_map written_by_sessions (column_named t name)) false

abbrev pub row_permitted : Table → Row → Bool
row_permitted t row = list_all (λ m. may_write t m.0) row

abbrev pub triple_permitted : Table → Option Triple → Bool
triple_permitted t None = false
triple_permitted t (Some x) = may_write t x.0

abbrev pub triples_permitted : Table → List Data → Bool
triples_permitted t ds = list_all (λ d. triple_permitted t (triple_of d)) ds

-- ---- parts of operations, their columns known

abbrev pub cell : Known → Table → Bytes × Data → Reading (Column × Datum)
cell known t m = column_read t m.0 >>? λ c. column_value known c m.1 >>? λ v. Ok (c, v)

-- the values of a row, by key
abbrev pub cells : Known → Table → Row → Reading (List (Column × Datum))
cells known t row = each (cell known t) row

abbrev pub condition_in : Known → Table → Triple → Reading Condition
condition_in known t x =
    field_read t x.0 >>? λ f.
    given word.SyntaxError (function_named x.1) >>? λ g.
    needs word.SyntaxError (takes_function f g)
    (field_value known t f x.2 >>? λ v. Ok (record { field = f; function = g; value = v }))

abbrev pub condition : Known → Table → Data → Reading Condition
condition known t d = given word.SyntaxError (triple_of d) >>? condition_in known t

abbrev pub conditions : Known → Table → List Data → Reading (List Condition)
conditions known t ds = each (condition known t) ds

abbrev pub mutation_in : Known → Table → Triple → Reading Mutation
mutation_in known t x =
    column_read t x.0 >>? λ c.
    given word.SyntaxError (mutator_named x.1) >>? λ m.
    needs word.SyntaxError (takes_mutator (column_rule c) m)
    (mutation_value known c m x.2 >>? λ v. Ok (record { column = c; mutator = m; value = v }))

abbrev pub mutation : Known → Table → Data → Reading Mutation
mutation known t d = given word.SyntaxError (triple_of d) >>? mutation_in known t

abbrev pub mutations : Known → Table → List Data → Reading (List Mutation)
mutations known t ds = each (mutation known t) ds

-- ---- columns that an insertion has to give, and that never change

abbrev pub is_optional : Given → Bool
is_optional Optional = true
is_optional _ = false

abbrev pub is_fixed : Given → Bool
is_fixed Fixed = true
is_fixed _ = false

abbrev pub gives : List (Column × Datum) → Column → Bool
gives row c = list_any (λ v. same_column v.0 c) row

abbrev pub is_whole_row : Table → List (Column × Datum) → Bool
is_whole_row t row = list_all (λ c. is_optional (column_rule c).given || gives row c) (columns_of t)

abbrev pub none_fixed : List (Column × Datum) → Bool
none_fixed row = list_all (λ v. not (is_fixed (column_rule v.0).given)) row

abbrev pub none_mutated : List Mutation → Bool
none_mutated ms = list_all (λ m. not (is_fixed (column_rule m.column).given)) ms

-- ---- the operations

-- the names of the insertions before this operation
abbrev pub Earlier : Type 0
Earlier = NameSet

abbrev pub is_new : Earlier → Option Bytes → Bool
is_new earlier None = true
is_new earlier (Some name) = not (maps.has earlier (Named name))

abbrev pub insert_read : Known → Earlier → Data → Reading Op
insert_read known earlier d =
    member as_str (codes "table") d >>? λ table.
    member members_in (codes "row") d >>? λ row.
    optional as_str (codes "uuid-name") d >>? λ name.
    table_read table >>? λ t.
    needs word.UnknownColumn (row_known t row)
    (needs word.PermissionError ((table_rule t).open_to_sessions && row_permitted t row)
    (needs word.DuplicateUuidName (is_new earlier name)
    (cells known t row >>? λ values.
    needs word.ConstraintViolation (is_whole_row t values) (Ok (op.Insert t values name)))))

abbrev pub select_read : Known → Data → Reading Op
select_read known d =
    member as_str (codes "table") d >>? λ table.
    member (items_that is_triple) (codes "where") d >>? λ ts.
    optional (items_that is_text) (codes "columns") d >>? λ columns.
    table_read table >>? λ t.
    needs word.UnknownColumn (triples_known t ts && columns_known t columns)
    (conditions known t ts >>? λ cs.
    chosen t columns >>? λ fs. Ok (op.Select t cs fs))

abbrev pub update_read : Known → Data → Reading Op
update_read known d =
    member as_str (codes "table") d >>? λ table.
    member (items_that is_triple) (codes "where") d >>? λ ts.
    member members_in (codes "row") d >>? λ row.
    table_read table >>? λ t.
    needs word.UnknownColumn (row_known t row && triples_known t ts)
    (needs word.PermissionError (row_permitted t row)
    (cells known t row >>? λ values.
    conditions known t ts >>? λ cs.
    needs word.ConstraintViolation (none_fixed values) (Ok (op.Update t cs values))))

abbrev pub mutate_read : Known → Data → Reading Op
mutate_read known d =
    member as_str (codes "table") d >>? λ table.
    member (items_that is_triple) (codes "where") d >>? λ ts.
    member (items_that is_triple) (codes "mutations") d >>? λ us.
    table_read table >>? λ t.
    needs word.UnknownColumn (triples_known t ts && triples_known t us)
    (needs word.PermissionError (triples_permitted t us)
    (conditions known t ts >>? λ cs.
    mutations known t us >>? λ ms.
    needs word.ConstraintViolation (none_mutated ms) (Ok (op.Mutate t cs ms))))

abbrev pub delete_read : Known → Data → Reading Op
delete_read known d =
    member as_str (codes "table") d >>? λ table.
    member (items_that is_triple) (codes "where") d >>? λ ts.
    table_read table >>? λ t.
    needs word.UnknownColumn (triples_known t ts)
    (needs word.PermissionError (table_rule t).open_to_sessions
    (conditions known t ts >>? λ cs. Ok (op.Delete t cs)))

-- ---- wait

abbrev pub waited_fields : Table → Option (List Field) → List Field
waited_fields t None = map field.Of (columns_of t)
waited_fields t (Some fs) = fs

abbrev pub is_given : Data → Field → Bool
is_given row f = is_some (get (field_name f) row)

abbrev pub waited_cell : Known → Table → Bytes × Data → Reading (Field × Datum)
waited_cell known t m = field_read t m.0 >>? λ f. field_value known t f m.1 >>? λ v. Ok (f, v)

-- a row that is waited for gives each column that is asked for
abbrev pub waited_row : Known → Table → List Field → Data → Reading (List (Field × Datum))
waited_row known t fs row =
    needs word.SyntaxError (list_all (is_given row) fs)
    (given word.SyntaxError (members_in row) >>? each (waited_cell known t))

abbrev pub waited_rows : Known → Table → List Field → List Data → Reading (List (List (Field × Datum)))
waited_rows known t fs rows = each (waited_row known t fs) rows

abbrev pub object_known : Table → Data → Bool
object_known t d = unwrap_or (option_map (row_known t) (members_in d)) false

abbrev pub objects_known : Table → List Data → Bool
objects_known t ds = list_all (object_known t) ds

abbrev pub wait_read : Known → Data → Reading Op
wait_read known d =
    member as_str (codes "table") d >>? λ table.
    member (items_that is_triple) (codes "where") d >>? λ ts.
    optional (items_that is_text) (codes "columns") d >>? λ columns.
    member until_of (codes "until") d >>? λ until.
    member (items_that is_object) (codes "rows") d >>? λ rows.
    optional number_of (codes "timeout") d >>? λ timeout.
    table_read table >>? λ t.
    needs word.UnknownColumn (triples_known t ts && columns_known t columns && objects_known t rows)
    (conditions known t ts >>? λ cs.
    chosen t columns >>? λ fs.
    waited_rows known t (waited_fields t fs) rows >>? λ waited. Ok (op.Wait t cs fs until waited))

-- ---- by name

abbrev pub commit_read : Data → Reading Op
commit_read d = member as_bool (codes "durable") d >>? λ durable. Ok (op.Commit durable)

abbrev pub comment_read : Data → Reading Op
comment_read d = member as_str (codes "comment") d >>? λ text. Ok op.Comment

abbrev pub named_op : Known → Earlier → Bytes → Data → Reading Op
named_op known earlier name d =
    if same_bytes name (codes "insert") then insert_read known earlier d
    else if same_bytes name (codes "select") then select_read known d
    else if same_bytes name (codes "update") then update_read known d
    else if same_bytes name (codes "mutate") then mutate_read known d
    else if same_bytes name (codes "delete") then delete_read known d
    else if same_bytes name (codes "wait") then wait_read known d
    else if same_bytes name (codes "commit") then commit_read d
    else if same_bytes name (codes "abort") then Ok op.Abort
    else if same_bytes name (codes "comment") then comment_read d
    else if same_bytes name (codes "assert") then Err word.NotSupported
    else Err word.SyntaxError

-- what is no object has no members
abbrev pub op_read : Known → Earlier → Data → Reading Op
op_read known earlier d = member as_str (codes "op") d >>? λ name. named_op known earlier name d
