-- What operations do (RFC 7047, section 5.2): a result, and the rows after them.
use Rattle.std.specs.Prelude.{ℕ, ◌+◌, ◌-◌, ◌==◌, Bool, true, false, not, ◌&&◌, List, [], ◌∷◌, ◌++◌, map, length, replicate, Option, Some, None, Ok, Err}
use Rattle.std.specs.List.{list_all, list_any}
use Rattle.vtep_base.specs.Maps as maps
use Rattle.vtep_base.specs.declared.words.Word.{Word}
use Rattle.vtep_base.specs.declared.words.Word.TheVariants as word
use Rattle.serde_json.specs.Data.{Data, object, Members, no_members, put}
use Rattle.json_notation.specs.Json.{list}
use Rattle.ovsdb_values.specs.declared.datums.Datum.{Datum}
use Rattle.ovsdb_values.specs.Sets.{same_datum}
use Rattle.ovsdb_values.specs.Notation.{datum_json}
use Rattle.vtep_schema.specs.declared.Table.{Table}
use Rattle.vtep_schema.specs.declared.Column.{Column}
use Rattle.vtep_schema.specs.Tables.{columns_of, same_column}
use Rattle.vtep_rows.specs.Row.{Contents, filled_row}
use Rattle.vtep_rows.specs.Rows.{Rows as AllRows, row_at, next_id, inserted, replaced, removed, last_number}
use Rattle.transact_profile.specs.declared.effects.Edit.{Edit}
use Rattle.transact_profile.specs.declared.effects.Edit.TheVariants.{Write, Mutate}
use Rattle.transact_profile.specs.declared.operations.Field.{Field}
use Rattle.transact_profile.specs.declared.operations.Field.TheVariants as field
use Rattle.transact_profile.specs.declared.operations.Until.{Until}
use Rattle.transact_profile.specs.declared.operations.Until.TheVariants.{Same, Different}
use Rattle.transact_profile.specs.declared.operations.Condition.{Condition}
use Rattle.transact_profile.specs.declared.operations.Mutation.{Mutation}
use Rattle.transact_profile.specs.declared.operations.Op.{Op}
use Rattle.transact_profile.specs.declared.operations.Op.TheVariants as op
use Rattle.transact_profile.specs.declared.operations.OpFault.{OpFault}
use Rattle.transact_profile.specs.declared.operations.Ops.{Ops}
use Rattle.transact_profile.specs.Refusing.{Reading, ◌>>?◌, given, needs, by_reading}
use Rattle.transact_profile.specs.Values.{field_name}
use Rattle.transact_profile.specs.Operations.{waited_fields}
use Rattle.transact_profile.specs.Names.{Names, names_from}
use Rattle.transact_profile.specs.Conditions.{resolved_cells, resolved_conditions, resolved_mutations, resolved_rows, cell_of, selected}
use Rattle.transact_profile.specs.Mutations.{mutated, updated}

-- the result of an operation
pub data Reply : Type 0 where
  Inserted : ℕ → Reply
  Rows : Data → Reply
  Count : ℕ → Reply
  Empty : Reply
  Fault : Word → Reply
  Null : Reply

abbrev pub Step : Type 0
Step = Reading (Reply × AllRows)

-- ---- insert

-- a column that is not given has its default
abbrev pub insert : Table → List (Column × Datum) → AllRows → Step
insert t values r =
    given word.ConstraintViolation (filled_row t values) >>? λ row.
    needs word.ConstraintViolation (not (r.counter == last_number)) (Ok (Inserted (next_id r), inserted r row))

-- ---- select

abbrev pub with_cell : Field → Option Datum → Members → Members
with_cell f None done = done
with_cell f (Some d) done = put (field_name f) (datum_json d) done

abbrev pub row_members : ℕ → Contents → Members → List Field → Members
row_members id row done [] = done
row_members id row done (f ∷ fs) = row_members id row (with_cell f (cell_of id row f) done) fs

abbrev pub row_json : List Field → ℕ → Contents → Data
row_json fs id row = object (row_members id row no_members fs)

-- the columns that are given, or the identifier and all columns
abbrev pub selected_fields : Table → Option (List Field) → List Field
selected_fields t None = field.Id ∷ map field.Of (columns_of t)
selected_fields t (Some fs) = fs

abbrev pub row_found : List Field → ℕ → Option Contents → Data
row_found fs id None = object no_members
row_found fs id (Some row) = row_json fs id row

abbrev pub found : AllRows → Table → List Field → ℕ → Data
found r t fs id = row_found fs id (row_at r (t, id))

abbrev pub select : Table → List Condition → Option (List Field) → AllRows → Reply
select t cs columns r = Rows (list (map (found r t (selected_fields t columns)) (selected t cs r)))

-- ---- update and mutate

-- a row with the values written, or with the mutations done
abbrev pub changed : Edit → Contents → Reading Contents
changed (Write values) = λ row. updated row values.now
changed (Mutate mutations) = λ row. mutated row mutations.now

abbrev pub changed_at : Table → ℕ → (Contents → Reading Contents) → Option Contents → AllRows → Reading AllRows
changed_at t id change None r = Ok r
changed_at t id change (Some row) r = change row >>? λ new. Ok (replaced r (t, id) new)

-- each of the rows changed, or the first word that refuses one
abbrev pub change_each : Table → (Contents → Reading Contents) → List ℕ → AllRows → Reading AllRows
change_each t change [] r = Ok r
change_each t change (id ∷ ids) r = changed_at t id change (row_at r (t, id)) r >>? change_each t change ids

unfoldable pub change : Table → (Contents → Reading Contents) → List ℕ → AllRows → Step
change t f ids r = change_each t f ids r >>? λ after. Ok (Count (length ids), after)

-- ---- delete

abbrev pub remove_each : Table → List ℕ → AllRows → AllRows
remove_each t [] r = r
remove_each t (id ∷ ids) r = remove_each t ids (removed r (t, id))

abbrev pub delete : Table → List ℕ → AllRows → Reply × AllRows
delete t ids r = (Count (length ids), remove_each t ids r)

-- ---- wait

abbrev pub same_field : Field → Field → Bool
same_field field.Id field.Id = true
same_field (field.Of a) (field.Of b) = same_column a b
same_field _ _ = false

-- it is given for the field, and is the datum
abbrev pub is_cell : Datum → Field → Field × Datum → Bool
is_cell d f v = same_field v.0 f && same_datum d v.1

abbrev pub agrees_some : Option Datum → Field → List (Field × Datum) → Bool
agrees_some None f cells = false
agrees_some (Some d) f cells = list_any (is_cell d f) cells

abbrev pub agrees : ℕ → Contents → List (Field × Datum) → Field → Bool
agrees id row cells f = agrees_some (cell_of id row f) f cells

-- it is one of the fields
abbrev pub is_asked : List Field → Field × Datum → Bool
is_asked fs v = list_any (same_field v.0) fs

-- the row, cut to the fields, is the one that is given; one that gives a further field is none
abbrev pub is_row_given : List Field → ℕ → List (Field × Datum) → Option Contents → Bool
is_row_given fs id cells None = false
is_row_given fs id cells (Some row) = list_all (is_asked fs) cells && list_all (agrees id row cells) fs

abbrev pub is_given_at : List Field → AllRows → Table → ℕ → List (Field × Datum) → Bool
is_given_at fs r t id cells = is_row_given fs id cells (row_at r (t, id))

-- the matched rows, cut to the fields, and those that are given are the same set
abbrev pub same_rows : List Field → AllRows → Table → List ℕ → List (List (Field × Datum)) → Bool
same_rows fs r t ids rows =
    list_all (λ id. list_any (is_given_at fs r t id) rows) ids
    && list_all (λ cells. list_any (λ id. is_given_at fs r t id cells) ids) rows

abbrev pub waits_for : Until → Bool → Bool
waits_for Same same = same
waits_for Different same = not same

unfoldable pub wait : Table → List Condition → Option (List Field) → Until → List (List (Field × Datum)) → AllRows → Step
wait t cs columns until rows r =
    needs word.TimedOut (waits_for until (same_rows (waited_fields t columns) r t (selected t cs r) rows)) (Ok (Empty, r))

-- ---- an operation

abbrev pub select_step : Table → List Condition → Option (List Field) → AllRows → Step
select_step t cs columns r = Ok (select t cs columns r, r)

unfoldable pub change_step : Table → List Condition → (Contents → Reading Contents) → AllRows → Step
change_step t cs f r = change t f (selected t cs r) r

unfoldable pub update_step : Table → List Condition → List (Column × Datum) → AllRows → Step
update_step t cs values r = change_step t cs (λ row. updated row values) r

unfoldable pub mutate_step : Table → List Condition → List Mutation → AllRows → Step
mutate_step t cs ms r = change_step t cs (λ row. mutated row ms) r

abbrev pub delete_step : Table → List Condition → AllRows → Step
delete_step t cs r = Ok (delete t (selected t cs r) r)

abbrev pub run_op : Names → Op → AllRows → Step
run_op ns (op.Insert t row name) r = insert t (resolved_cells ns row) r
run_op ns (op.Select t cs columns) r = select_step t (resolved_conditions ns cs) columns r
run_op ns (op.Update t cs row) r = update_step t (resolved_conditions ns cs) (resolved_cells ns row) r
run_op ns (op.Mutate t cs ms) r = mutate_step t (resolved_conditions ns cs) (resolved_mutations ns ms) r
run_op ns (op.Delete t cs) r = delete_step t (resolved_conditions ns cs) r
run_op ns (op.Wait t cs columns until rows) r = wait t (resolved_conditions ns cs) columns until (resolved_rows ns rows) r
run_op ns (op.Commit durable) r = needs word.NotSupported (not durable) (Ok (Empty, r))
run_op ns op.Abort r = Err word.Aborted
run_op ns op.Comment r = Ok (Empty, r)

-- ---- a transaction

-- the results up to the first operation that fails, its word, and the rows
pub record Ran : Type 0 where
  pub results : List Reply
  pub stopped : Option Word
  pub rows : AllRows

abbrev pub run_from : Names → List Reply → AllRows → List Op → Ran
run_from ns done r [] = record { results = done; stopped = None; rows = r }
run_from ns done r (o ∷ os) =
    by_reading (run_op ns o r) (λ w. record { results = done; stopped = Some w; rows = r }) (λ x. run_from ns (done ++ x.0 ∷ []) x.1 os)

abbrev pub fault_word : Option OpFault → Option Word
fault_word None = None
fault_word (Some f) = Some f.word

abbrev pub first_word : Option Word → Option Word → Option Word
first_word None w = w
first_word (Some w) v = Some w

pub record Outcome : Type 0 where
  pub results : List Reply
  pub failed : Bool
  pub rows : AllRows

-- the operation that fails has its word, and each later one of so many operations nothing
abbrev pub failed_results : ℕ → Word → List Reply → List Reply
failed_results count w results = (results ++ Fault w ∷ []) ++ replicate (count - (length results + 1)) Null

-- where an operation fails or can't be read, the rows are as before
abbrev pub outcome : AllRows → ℕ → List Reply → AllRows → Option Word → Outcome
outcome before count results after None = record { results = results; failed = false; rows = after }
outcome before count results after (Some w) =
    record { results = failed_results count w results; failed = true; rows = before }

abbrev pub names_of : Ops → AllRows → Names
names_of ops r = names_from r.made (r.counter + 1) maps.empty ops.names

abbrev pub means : Ops → AllRows → Outcome
means ops r =
    let ran : Ran = run_from (names_of ops r) [] r ops.ops in
    outcome r ops.count ran.results ran.rows (first_word ran.stopped (fault_word ops.fault))
