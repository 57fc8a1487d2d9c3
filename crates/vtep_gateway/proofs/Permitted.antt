-- Operations that are read write what sessions may write.
use Rattle.std.proofs.Common.{◌≡◌, ℕ, ◌+◌, Bool, true, false, ◌&&◌, ◌||◌, List, [], ◌∷◌, ◌++◌, Option, Some, None, Ok, Err, refl, sym, ap, subst, ◌∙◌}
use Rattle.std.specs.Prelude.{codes, if◌then◌else◌}
use Rattle.std.specs.List.{list_all, list_any}
use Rattle.std.specs.Option.{unwrap_or, option_map}
use Rattle.std.specs.Cmp.{eq_by_cmp_equiv, first_so, second_so}
use Rattle.serde_json.specs.Data.{Data}
use Rattle.serde_json.specs.Find.{as_str, as_bool}
use Rattle.vtep_base.specs.Reading.{Bytes, same_bytes}
use Rattle.vtep_base.specs.declared.words.Word.{Word}
use Rattle.vtep_base.specs.declared.words.Word.TheVariants as word
use Rattle.ovsdb_values.specs.declared.datums.Datum.{Datum}
use Rattle.vtep_schema.specs.declared.Table.{Table}
use Rattle.vtep_schema.specs.declared.Column.{Column}
use Rattle.vtep_schema.specs.Tables.{same_column, table_rule, column_named, column_line, columns_of, column_rule, named_in, belongs, written_by_sessions}
use Rattle.vtep_schema.specs.Orders.{column_total}
use Rattle.vtep_rows.proofs.Entries.{both}
use Rattle.vtep_base.specs.Maps as maps
use Rattle.transact_profile.specs.declared.known.Known.{Known}
use Rattle.transact_profile.specs.declared.known.Known.TheVariants.{OneOf}
use Rattle.transact_profile.specs.declared.operations.Op.{Op}
use Rattle.transact_profile.specs.declared.operations.Op.TheVariants as op
use Rattle.transact_profile.specs.declared.operations.Mutation.{Mutation}
use Rattle.transact_profile.specs.Refusing.{Reading, ◌>>?◌, given, needs, by_reading, each_from}
use Rattle.transact_profile.specs.Members.{member, optional, items_that, is_text, is_object, is_triple, triple_of, members_in, until_of, number_of}
use Rattle.transact_profile.specs.Values.{column_value, mutator_named, takes_mutator, mutation_value}
use Rattle.transact_profile.specs.Operations.{Row, Earlier, table_read, may_write, row_known, row_permitted, triple_permitted, triples_known, triples_permitted, columns_known, objects_known, cell, cells, conditions, mutation, mutations, mutation_in, is_new, is_whole_row, none_fixed, none_mutated, chosen, waited_fields, waited_rows, insert_read, select_read, update_read, mutate_read, delete_read, wait_read, named_op, op_read}
use Rattle.transact_profile.specs.Transaction.{with_name_of, read_from, ops_in, known_insertions, operations}
use Rattle.vtep_gateway.specs.Settled.{is_written}

-- what the reading gives passes
abbrev pub Gives : {A : Type 0} → (A → Type 0) → Reading A → Type 0
Gives P (Ok a) = P a
Gives P (Err w) = Unit {0}

pub then_gives : {A B : Type 0} (P : B → Type 0) (r : Reading A) (f : A → Reading B) → ((a : A) → r ≡ Ok a → Gives P (f a)) → Gives P (r >>? f)
then_gives P (Ok a) f h = h a refl
then_gives P (Err w) f h = tt

pub need_gives : {A : Type 0} (P : A → Type 0) (w : Word) (b : Bool) (r : Reading A) → (b ≡ true → Gives P r) → Gives P (needs w b r)
need_gives P w true r h = h refl
need_gives P w false r h = tt

pub given_gives : {A B : Type 0} (P : B → Type 0) (w : Word) (o : Option A) (f : A → Reading B) → ((a : A) → o ≡ Some a → Gives P (f a)) → Gives P (given w o >>? f)
given_gives P w None f h = tt
given_gives P w (Some a) f h = h a refl

pub by_gives : {A B : Type 0} (P : A → Type 0) (Q : B → Type 0) (r : Reading A) (refused : Word → B) (f : A → B) → Gives P r → ((w : Word) → Q (refused w)) → ((a : A) → P a → Q (f a)) → Q (by_reading r refused f)
by_gives P Q (Ok a) refused f h bad good = good a h
by_gives P Q (Err w) refused f h bad good = bad w

pub either_gives : {A : Type 0} (P : A → Type 0) (b : Bool) (x y : Reading A) → Gives P x → Gives P y → Gives P (if b then x else y)
either_gives P true x y h g = h
either_gives P false x y h g = g

-- each item that passes is read as one that passes
each_gives : {A B : Type 0} (p : A → Bool) (q : B → Bool) (f : A → Reading B) → ((a : A) → p a ≡ true → Gives (λ b. q b ≡ true) (f a)) → (done : List B) (xs : List A) → list_all q done ≡ true → list_all p xs ≡ true
    → Gives (λ bs. list_all q bs ≡ true) (each_from f done xs)
each_gives p q f so done [] h g = h
each_gives {A} {B} p q f so done (x ∷ xs) h g =
    by (f x) (so x (first_so (p x) (list_all p xs) g)) (λ y passes. each_gives p q f so (done ++ y ∷ []) xs (end done y h passes) (second_so (p x) (list_all p xs) g))
  where
    end : (ys : List B) (y : B) → list_all q ys ≡ true → q y ≡ true → list_all q (ys ++ y ∷ []) ≡ true
    end [] y h g = both (q y) true g refl
    end (z ∷ zs) y h g = both (q z) _ (first_so (q z) (list_all q zs) h) (end zs y (second_so (q z) (list_all q zs) h) g)

    by : (r : Reading B) → Gives (λ b. q b ≡ true) r → ((y : B) → q y ≡ true → Gives (λ bs. list_all q bs ≡ true) (each_from f (done ++ y ∷ []) xs)) → Gives (λ bs. list_all q bs ≡ true) (r >>? λ y. each_from f (done ++ y ∷ []) xs)
    by (Ok y) passes later = later y passes
    by (Err w) passes later = tt

-- ---- columns by name

named_there : {A : Type 0} (name_of : A → Bytes) (same : A → Bool) (name : Bytes) (xs : List A) (y : A) → same y ≡ true → named_in name_of name xs ≡ Some y → list_any same xs ≡ true
named_there name_of same name [] y h e = cc
named_there name_of same name (x ∷ xs) y h e =
    elim (same_bytes (name_of x) name) as (λ b. (if b then Some x else named_in name_of name xs) ≡ Some y → (same x || list_any same xs) ≡ true) [
      | true ↦ λ here. ap (λ o. same (unwrap_or o x) || list_any same xs) here ∙ ap (λ b. b || list_any same xs) h
      | false ↦ λ later. or_later (same x) (named_there name_of same name xs y h later)
    ] e
  where
    or_later : (a : Bool) {b : Bool} → b ≡ true → (a || b) ≡ true
    or_later true h = refl
    or_later false h = h

itself : (c : Column) → same_column c c ≡ true
itself c = (eq_by_cmp_equiv column_total).refl c

writes : (t : Table) (name : Bytes) (c : Column) → may_write t name ≡ true → column_named t name ≡ Some c → is_written t c ≡ true
writes t name c h e =
    both (belongs c t) (written_by_sessions c) (named_there (λ x. (column_line x).name) (same_column c) name (columns_of t) c (itself c) e)
    (sym (ap (λ o. unwrap_or (option_map written_by_sessions o) false) e) ∙ h)

-- ---- parts of operations

abbrev WritesCell : Table → Column × Datum → Type 0
WritesCell t v = is_written t v.0 ≡ true

cell_gives : (known : Known) (t : Table) (m : Bytes × Data) → may_write t m.0 ≡ true → Gives (WritesCell t) (cell known t m)
cell_gives known t m h =
    given_gives (WritesCell t) word.UnknownColumn (column_named t m.0) (λ c. column_value known c m.1 >>? λ v. Ok (c, v))
    (λ c e. then_gives (WritesCell t) (column_value known c m.1) (λ v. Ok (c, v)) (λ v _. writes t m.0 c h e))

cells_give : (known : Known) (t : Table) (row : Row) → row_permitted t row ≡ true → Gives (λ vs. list_all (λ v. is_written t v.0) vs ≡ true) (cells known t row)
cells_give known t row h = each_gives (λ m. may_write t m.0) (λ v. is_written t v.0) (cell known t) (cell_gives known t) [] row refl h

abbrev WritesBy : Table → Mutation → Type 0
WritesBy t m = is_written t m.column ≡ true

mutation_gives : (known : Known) (t : Table) (d : Data) → triple_permitted t (triple_of d) ≡ true → Gives (WritesBy t) (mutation known t d)
mutation_gives known t d h =
    given_gives (WritesBy t) word.SyntaxError (triple_of d) (mutation_in known t) (λ x e.
    given_gives (WritesBy t) word.UnknownColumn (column_named t x.0)
    (λ c. given word.SyntaxError (mutator_named x.1) >>? λ m. needs word.SyntaxError (takes_mutator (column_rule c) m) (mutation_value known c m x.2 >>? λ v. Ok (record { column = c; mutator = m; value = v })))
    (λ c is. given_gives (WritesBy t) word.SyntaxError (mutator_named x.1)
    (λ m. needs word.SyntaxError (takes_mutator (column_rule c) m) (mutation_value known c m x.2 >>? λ v. Ok (record { column = c; mutator = m; value = v })))
    (λ m _. need_gives (WritesBy t) word.SyntaxError (takes_mutator (column_rule c) m) (mutation_value known c m x.2 >>? λ v. Ok (record { column = c; mutator = m; value = v }))
    (λ _. then_gives (WritesBy t) (mutation_value known c m x.2) (λ v. Ok (record { column = c; mutator = m; value = v })) (λ v _. writes t x.0 c (sym (ap (triple_permitted t) e) ∙ h) is)))))

mutations_give : (known : Known) (t : Table) (ds : List Data) → triples_permitted t ds ≡ true → Gives (λ ms. list_all (λ m. is_written t m.column) ms ≡ true) (mutations known t ds)
mutations_give known t ds h = each_gives (λ d. triple_permitted t (triple_of d)) (λ m. is_written t m.column) (mutation known t) (mutation_gives known t) [] ds refl h

-- ---- operations

-- it writes what sessions may write
abbrev pub is_permitted : Op → Bool
is_permitted (op.Insert t row name) = (table_rule t).open_to_sessions
is_permitted (op.Update t cs row) = list_all (λ v. is_written t v.0) row
is_permitted (op.Mutate t cs ms) = list_all (λ m. is_written t m.column) ms
is_permitted (op.Delete t cs) = (table_rule t).open_to_sessions
is_permitted _ = true

abbrev pub Permits : Op → Type 0
Permits o = is_permitted o ≡ true

insert_reads : (known : Known) (earlier : Earlier) (d : Data) → Gives Permits (insert_read known earlier d)
insert_reads known earlier d =
    then_gives Permits (member as_str (codes "table") d) _ (λ table _.
    then_gives Permits (member members_in (codes "row") d) _ (λ row _.
    then_gives Permits (optional as_str (codes "uuid-name") d) _ (λ name _.
    then_gives Permits (table_read table) _ (λ t _.
    need_gives Permits word.UnknownColumn (row_known t row) _ (λ _.
    need_gives Permits word.PermissionError ((table_rule t).open_to_sessions && row_permitted t row) _ (λ h.
    need_gives Permits word.DuplicateUuidName (is_new earlier name) _ (λ _.
    then_gives Permits (cells known t row) _ (λ vs _.
    need_gives Permits word.ConstraintViolation (is_whole_row t vs) (Ok (op.Insert t vs name)) (λ _. first_so _ _ h)))))))))

select_reads : (known : Known) (d : Data) → Gives Permits (select_read known d)
select_reads known d =
    then_gives Permits (member as_str (codes "table") d) _ (λ table _.
    then_gives Permits (member (items_that is_triple) (codes "where") d) _ (λ ts _.
    then_gives Permits (optional (items_that is_text) (codes "columns") d) _ (λ columns _.
    then_gives Permits (table_read table) _ (λ t _.
    need_gives Permits word.UnknownColumn (triples_known t ts && columns_known t columns) _ (λ _.
    then_gives Permits (conditions known t ts) _ (λ cs _. then_gives Permits (chosen t columns) (λ fs. Ok (op.Select t cs fs)) (λ fs _. refl)))))))

update_reads : (known : Known) (d : Data) → Gives Permits (update_read known d)
update_reads known d =
    then_gives Permits (member as_str (codes "table") d) _ (λ table _.
    then_gives Permits (member (items_that is_triple) (codes "where") d) _ (λ ts _.
    then_gives Permits (member members_in (codes "row") d) _ (λ row _.
    then_gives Permits (table_read table) _ (λ t _.
    need_gives Permits word.UnknownColumn (row_known t row && triples_known t ts) _ (λ _.
    need_gives Permits word.PermissionError (row_permitted t row) _ (λ h.
    then_gives Permits (cells known t row) _ (λ values e.
    then_gives Permits (conditions known t ts) _ (λ cs _.
    need_gives Permits word.ConstraintViolation (none_fixed values) (Ok (op.Update t cs values))
    (λ _. subst (Gives (λ vs. list_all (λ v. is_written t v.0) vs ≡ true)) e (cells_give known t row h))))))))))

mutate_reads : (known : Known) (d : Data) → Gives Permits (mutate_read known d)
mutate_reads known d =
    then_gives Permits (member as_str (codes "table") d) _ (λ table _.
    then_gives Permits (member (items_that is_triple) (codes "where") d) _ (λ ts _.
    then_gives Permits (member (items_that is_triple) (codes "mutations") d) _ (λ us _.
    then_gives Permits (table_read table) _ (λ t _.
    need_gives Permits word.UnknownColumn (triples_known t ts && triples_known t us) _ (λ _.
    need_gives Permits word.PermissionError (triples_permitted t us) _ (λ h.
    then_gives Permits (conditions known t ts) _ (λ cs _.
    then_gives Permits (mutations known t us) _ (λ ms e.
    need_gives Permits word.ConstraintViolation (none_mutated ms) (Ok (op.Mutate t cs ms))
    (λ _. subst (Gives (λ ms. list_all (λ m. is_written t m.column) ms ≡ true)) e (mutations_give known t us h))))))))))

delete_reads : (known : Known) (d : Data) → Gives Permits (delete_read known d)
delete_reads known d =
    then_gives Permits (member as_str (codes "table") d) _ (λ table _.
    then_gives Permits (member (items_that is_triple) (codes "where") d) _ (λ ts _.
    then_gives Permits (table_read table) _ (λ t _.
    need_gives Permits word.UnknownColumn (triples_known t ts) _ (λ _.
    need_gives Permits word.PermissionError (table_rule t).open_to_sessions _ (λ h.
    then_gives Permits (conditions known t ts) (λ cs. Ok (op.Delete t cs)) (λ cs _. h))))))

wait_reads : (known : Known) (d : Data) → Gives Permits (wait_read known d)
wait_reads known d =
    then_gives Permits (member as_str (codes "table") d) _ (λ table _.
    then_gives Permits (member (items_that is_triple) (codes "where") d) _ (λ ts _.
    then_gives Permits (optional (items_that is_text) (codes "columns") d) _ (λ columns _.
    then_gives Permits (member until_of (codes "until") d) _ (λ until _.
    then_gives Permits (member (items_that is_object) (codes "rows") d) _ (λ rows _.
    then_gives Permits (optional number_of (codes "timeout") d) _ (λ timeout _.
    then_gives Permits (table_read table) _ (λ t _.
    need_gives Permits word.UnknownColumn (triples_known t ts && columns_known t columns && objects_known t rows) _ (λ _.
    then_gives Permits (conditions known t ts) _ (λ cs _.
    then_gives Permits (chosen t columns) _ (λ fs _.
    then_gives Permits (waited_rows known t (waited_fields t fs) rows) (λ waited. Ok (op.Wait t cs fs until waited)) (λ waited _. refl)))))))))))

named_permits : (known : Known) (earlier : Earlier) (name : Bytes) (d : Data) → Gives Permits (named_op known earlier name d)
named_permits known earlier name d =
    either_gives Permits (same_bytes name (codes "insert")) _ _ (insert_reads known earlier d)
    (either_gives Permits (same_bytes name (codes "select")) _ _ (select_reads known d)
    (either_gives Permits (same_bytes name (codes "update")) _ _ (update_reads known d)
    (either_gives Permits (same_bytes name (codes "mutate")) _ _ (mutate_reads known d)
    (either_gives Permits (same_bytes name (codes "delete")) _ _ (delete_reads known d)
    (either_gives Permits (same_bytes name (codes "wait")) _ _ (wait_reads known d)
    (either_gives Permits (same_bytes name (codes "commit")) _ _ (then_gives Permits (member as_bool (codes "durable") d) (λ durable. Ok (op.Commit durable)) (λ durable _. refl))
    (either_gives Permits (same_bytes name (codes "abort")) (Ok op.Abort) _ refl
    (either_gives Permits (same_bytes name (codes "comment")) _ _ (then_gives Permits (member as_str (codes "comment") d) (λ text. Ok op.Comment) (λ text _. refl))
    (either_gives Permits (same_bytes name (codes "assert")) (Err word.NotSupported) (Err word.SyntaxError) tt tt)))))))))

op_permits : (known : Known) (earlier : Earlier) (d : Data) → Gives Permits (op_read known earlier d)
op_permits known earlier d = then_gives Permits (member as_str (codes "op") d) (λ name. named_op known earlier name d) (λ name _. named_permits known earlier name d)

-- ---- all operations of a transaction

pub end_passes : (p : Op → Bool) (os : List Op) (o : Op) → list_all p os ≡ true → p o ≡ true → list_all p (os ++ o ∷ []) ≡ true
end_passes p [] o h g = both (p o) true g refl
end_passes p (x ∷ os) o h g = both (p x) _ (first_so (p x) (list_all p os) h) (end_passes p os o (second_so (p x) (list_all p os) h) g)

all_permitted : (known : Known) (earlier : Earlier) (done : List Op) (i : ℕ) (ds : List Data) → list_all is_permitted done ≡ true → list_all is_permitted (read_from known earlier done i ds).ops ≡ true
all_permitted known earlier done i [] h = h
all_permitted known earlier done i (d ∷ ds) h =
    by_gives Permits (λ read. list_all is_permitted read.ops ≡ true) (op_read known earlier d) (λ w. record { ops = done; fault = Some (record { index = i; word = w }) })
    (λ o. read_from known (with_name_of earlier o) (done ++ o ∷ []) (i + 1) ds) (op_permits known earlier d) (λ w. h)
    (λ o permitted. all_permitted known (with_name_of earlier o) (done ++ o ∷ []) (i + 1) ds (end_passes is_permitted done o h permitted))

pub ops_permitted : (params : Data) → list_all is_permitted (ops_in params).ops ≡ true
ops_permitted params = all_permitted (OneOf (known_insertions (operations params)).taken) maps.empty [] 0 (operations params) refl
