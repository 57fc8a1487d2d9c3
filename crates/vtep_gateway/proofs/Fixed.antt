-- Operations leave the rows of locators and of their sets that stay as they were: no column of theirs can be written.
use Rattle.std.proofs.Common.{◌≡◌, ◌⊎◌, inl, inr, ℕ, ◌+◌, ◌%◌, ◌^◌, ◌<◌, ◌≤◌, ◌==◌, Bool, true, false, cond, not, ◌&&◌, nat_le, List, [], ◌∷◌, ◌++◌, Option, Some, None, Ok, Err, refl, sym, ap, ◌∙◌, true≢false, arith}
use Rattle.std.specs.Prelude.{codes, length}
use Rattle.std.proofs.Math.Nat.{mod-eq_of_lt}
use Rattle.std.proofs.lemmas.Bool.Decides.{nat_tests}
use Rattle.std.specs.List.{list_all}
use Rattle.std.specs.Ordering.{eq_by_cmp}
use Rattle.std.specs.Cmp.{first_so, second_so}
use Rattle.serde_json.specs.Data.{Data}
use Rattle.serde_json.specs.Find.{as_str, as_bool}
use Rattle.vtep_base.specs.Reading.{Bytes, same_bytes}
use Rattle.vtep_base.specs.Maps as maps
use Rattle.vtep_base.specs.declared.words.Word.{Word}
use Rattle.vtep_base.specs.declared.words.Word.TheVariants as word
use Rattle.ovsdb_values.specs.declared.datums.Datum.{Datum}
use Rattle.vtep_schema.specs.declared.Table.{Table}
use Rattle.vtep_schema.specs.declared.Table.TheVariants.{Global, PhysicalLocator, PhysicalLocatorSet}
use Rattle.vtep_schema.specs.declared.Column.{Column}
use Rattle.vtep_schema.specs.declared.Column.TheVariants.{GlobalSwitches}
use Rattle.vtep_schema.specs.Tables.{table_rule, column_rule, belongs}
use Rattle.vtep_rows.specs.Row.{Contents, filled_row}
use Rattle.vtep_rows.specs.Rows.{Key, key_cmp, Rows, IsRows, row_at, row_id, next_id, inserted, replaced, removed, last_number}
use Rattle.vtep_rows.specs.Orders.{key_total}
use Rattle.vtep_rows.proofs.Entries.{both, same_some}
use Rattle.vtep_rows.proofs.Kept.{number_of, its_identifier, so_le}
use Rattle.vtep_rows.proofs.Restored.{tied}
use Rattle.vtep_rows.proofs.IndexLaws.{put_there}
use Rattle.local_tables.specs.Local.{IsFixed}
use Rattle.local_tables.proofs.Inserted.{was_or_new}
use Rattle.transact_profile.specs.declared.known.Known.{Known}
use Rattle.transact_profile.specs.declared.known.Known.TheVariants.{OneOf}
use Rattle.transact_profile.specs.declared.operations.Op.{Op}
use Rattle.transact_profile.specs.declared.operations.Op.TheVariants as op
use Rattle.transact_profile.specs.declared.operations.Mutation.{Mutation}
use Rattle.transact_profile.specs.Refusing.{Reading, ◌>>?◌, needs}
use Rattle.transact_profile.specs.Members.{member, optional, items_that, is_text, is_object, is_triple, members_in, until_of, number_of as number_read}
use Rattle.transact_profile.specs.Operations.{Earlier, table_read, row_permitted, row_known, triples_known, triples_permitted, columns_known, objects_known, cells, conditions, mutations, is_new, is_whole_row, is_fixed, none_fixed, none_mutated, chosen, waited_fields, waited_rows, insert_read, select_read, update_read, mutate_read, delete_read, wait_read, named_op, op_read}
use Rattle.transact_profile.specs.Transaction.{with_name_of, read_from, ops_in, known_insertions, operations}
use Rattle.transact_profile.specs.Conditions.{Names, resolved_cells, resolved_mutations, selected, resolved_conditions, resolved_rows}
use Rattle.transact_profile.specs.Mutations.{mutated, updated}
use Rattle.transact_profile.specs.Meaning.{Reply, Inserted, Count, Empty, insert, changed_at, change_each, change, change_step, update_step, mutate_step, remove_each, wait, waits_for, same_rows, run_op, Ran, run_from, names_of, fault_word, first_word, outcome, means}
use Rattle.vtep_gateway.specs.Settled.{is_written, LeavesRest}
use Rattle.vtep_gateway.proofs.Permitted.{Gives, then_gives, need_gives, given_gives, by_gives, either_gives, end_passes, is_permitted, ops_permitted}
use Rattle.vtep_gateway.proofs.Lasting.{op_leaves}

-- ---- operations that are read write no fixed column

abbrev is_free : Op → Bool
is_free (op.Update t cs row) = none_fixed row
is_free (op.Mutate t cs ms) = none_mutated ms
is_free _ = true

abbrev Frees : Op → Type 0
Frees o = is_free o ≡ true

insert_reads : (known : Known) (earlier : Earlier) (d : Data) → Gives Frees (insert_read known earlier d)
insert_reads known earlier d =
    then_gives Frees (member as_str (codes "table") d) _ (λ table _.
    then_gives Frees (member members_in (codes "row") d) _ (λ row _.
    then_gives Frees (optional as_str (codes "uuid-name") d) _ (λ name _.
    then_gives Frees (table_read table) _ (λ t _.
    need_gives Frees word.UnknownColumn (row_known t row) _ (λ _.
    need_gives Frees word.PermissionError ((table_rule t).open_to_sessions && row_permitted t row) _ (λ _.
    need_gives Frees word.DuplicateUuidName (is_new earlier name) _ (λ _.
    then_gives Frees (cells known t row) _ (λ vs _.
    need_gives Frees word.ConstraintViolation (is_whole_row t vs) (Ok (op.Insert t vs name)) (λ _. refl)))))))))

select_reads : (known : Known) (d : Data) → Gives Frees (select_read known d)
select_reads known d =
    then_gives Frees (member as_str (codes "table") d) _ (λ table _.
    then_gives Frees (member (items_that is_triple) (codes "where") d) _ (λ ts _.
    then_gives Frees (optional (items_that is_text) (codes "columns") d) _ (λ columns _.
    then_gives Frees (table_read table) _ (λ t _.
    need_gives Frees word.UnknownColumn (triples_known t ts && columns_known t columns) _ (λ _.
    then_gives Frees (conditions known t ts) _ (λ cs _. then_gives Frees (chosen t columns) (λ fs. Ok (op.Select t cs fs)) (λ fs _. refl)))))))

update_reads : (known : Known) (d : Data) → Gives Frees (update_read known d)
update_reads known d =
    then_gives Frees (member as_str (codes "table") d) _ (λ table _.
    then_gives Frees (member (items_that is_triple) (codes "where") d) _ (λ ts _.
    then_gives Frees (member members_in (codes "row") d) _ (λ row _.
    then_gives Frees (table_read table) _ (λ t _.
    need_gives Frees word.UnknownColumn (row_known t row && triples_known t ts) _ (λ _.
    need_gives Frees word.PermissionError (row_permitted t row) _ (λ _.
    then_gives Frees (cells known t row) _ (λ values _.
    then_gives Frees (conditions known t ts) _ (λ cs _.
    need_gives Frees word.ConstraintViolation (none_fixed values) (Ok (op.Update t cs values)) (λ h. h)))))))))

mutate_reads : (known : Known) (d : Data) → Gives Frees (mutate_read known d)
mutate_reads known d =
    then_gives Frees (member as_str (codes "table") d) _ (λ table _.
    then_gives Frees (member (items_that is_triple) (codes "where") d) _ (λ ts _.
    then_gives Frees (member (items_that is_triple) (codes "mutations") d) _ (λ us _.
    then_gives Frees (table_read table) _ (λ t _.
    need_gives Frees word.UnknownColumn (triples_known t ts && triples_known t us) _ (λ _.
    need_gives Frees word.PermissionError (triples_permitted t us) _ (λ _.
    then_gives Frees (conditions known t ts) _ (λ cs _.
    then_gives Frees (mutations known t us) _ (λ ms _.
    need_gives Frees word.ConstraintViolation (none_mutated ms) (Ok (op.Mutate t cs ms)) (λ h. h)))))))))

delete_reads : (known : Known) (d : Data) → Gives Frees (delete_read known d)
delete_reads known d =
    then_gives Frees (member as_str (codes "table") d) _ (λ table _.
    then_gives Frees (member (items_that is_triple) (codes "where") d) _ (λ ts _.
    then_gives Frees (table_read table) _ (λ t _.
    need_gives Frees word.UnknownColumn (triples_known t ts) _ (λ _.
    need_gives Frees word.PermissionError (table_rule t).open_to_sessions _ (λ _.
    then_gives Frees (conditions known t ts) (λ cs. Ok (op.Delete t cs)) (λ cs _. refl))))))

wait_reads : (known : Known) (d : Data) → Gives Frees (wait_read known d)
wait_reads known d =
    then_gives Frees (member as_str (codes "table") d) _ (λ table _.
    then_gives Frees (member (items_that is_triple) (codes "where") d) _ (λ ts _.
    then_gives Frees (optional (items_that is_text) (codes "columns") d) _ (λ columns _.
    then_gives Frees (member until_of (codes "until") d) _ (λ until _.
    then_gives Frees (member (items_that is_object) (codes "rows") d) _ (λ rows _.
    then_gives Frees (optional number_read (codes "timeout") d) _ (λ timeout _.
    then_gives Frees (table_read table) _ (λ t _.
    need_gives Frees word.UnknownColumn (triples_known t ts && columns_known t columns && objects_known t rows) _ (λ _.
    then_gives Frees (conditions known t ts) _ (λ cs _.
    then_gives Frees (chosen t columns) _ (λ fs _.
    then_gives Frees (waited_rows known t (waited_fields t fs) rows) (λ waited. Ok (op.Wait t cs fs until waited)) (λ waited _. refl)))))))))))

named_frees : (known : Known) (earlier : Earlier) (name : Bytes) (d : Data) → Gives Frees (named_op known earlier name d)
named_frees known earlier name d =
    either_gives Frees (same_bytes name (codes "insert")) _ _ (insert_reads known earlier d)
    (either_gives Frees (same_bytes name (codes "select")) _ _ (select_reads known d)
    (either_gives Frees (same_bytes name (codes "update")) _ _ (update_reads known d)
    (either_gives Frees (same_bytes name (codes "mutate")) _ _ (mutate_reads known d)
    (either_gives Frees (same_bytes name (codes "delete")) _ _ (delete_reads known d)
    (either_gives Frees (same_bytes name (codes "wait")) _ _ (wait_reads known d)
    (either_gives Frees (same_bytes name (codes "commit")) _ _ (then_gives Frees (member as_bool (codes "durable") d) (λ durable. Ok (op.Commit durable)) (λ durable _. refl))
    (either_gives Frees (same_bytes name (codes "abort")) (Ok op.Abort) _ refl
    (either_gives Frees (same_bytes name (codes "comment")) _ _ (then_gives Frees (member as_str (codes "comment") d) (λ text. Ok op.Comment) (λ text _. refl))
    (either_gives Frees (same_bytes name (codes "assert")) (Err word.NotSupported) (Err word.SyntaxError) tt tt)))))))))

all_free : (known : Known) (earlier : Earlier) (done : List Op) (i : ℕ) (ds : List Data) → list_all is_free done ≡ true → list_all is_free (read_from known earlier done i ds).ops ≡ true
all_free known earlier done i [] h = h
all_free known earlier done i (d ∷ ds) h =
    by_gives Frees (λ read. list_all is_free read.ops ≡ true) (op_read known earlier d) (λ w. record { ops = done; fault = Some (record { index = i; word = w }) })
    (λ o. read_from known (with_name_of earlier o) (done ++ o ∷ []) (i + 1) ds)
    (then_gives Frees (member as_str (codes "op") d) (λ name. named_op known earlier name d) (λ name _. named_frees known earlier name d)) (λ w. h)
    (λ o free. all_free known (with_name_of earlier o) (done ++ o ∷ []) (i + 1) ds (end_passes is_free done o h free))

ops_free : (params : Data) → list_all is_free (ops_in params).ops ≡ true
ops_free params = all_free (OneOf (known_insertions (operations params)).taken) maps.empty [] 0 (operations params) refl

-- ---- tables of fixed columns alone

abbrev is_whole : Table → Bool
is_whole PhysicalLocator = true
is_whole PhysicalLocatorSet = true
is_whole _ = false

abbrev is_open : Table → Column → Bool
is_open t c = belongs c t && not (is_fixed (column_rule c).given)

locator_shut : (c : Column) → is_open PhysicalLocator c ≡ false
locator_shut GlobalSwitches = refl
locator_shut _ = refl

set_shut : (c : Column) → is_open PhysicalLocatorSet c ≡ false
set_shut GlobalSwitches = refl
set_shut _ = refl

shut : (t : Table) (c : Column) → is_whole t ≡ true → is_open t c ≡ false
shut PhysicalLocator c h = locator_shut c
shut PhysicalLocatorSet c h = set_shut c
shut Global c h = absurd (true≢false (sym h))
shut t c h = absurd (true≢false (sym h))

no_values : (t : Table) (row : List (Column × Datum)) → is_whole t ≡ true → list_all (λ v. is_written t v.0) row ≡ true → none_fixed row ≡ true → row ≡ []
no_values t [] whole h g = refl
no_values t (v ∷ row) whole h g =
    absurd (true≢false (sym (both (belongs v.0 t) (not (is_fixed (column_rule v.0).given)) (first_so _ _ (first_so (is_written t v.0) _ h)) (first_so (not (is_fixed (column_rule v.0).given)) _ g)) ∙ shut t v.0 whole))

no_mutations : (t : Table) (ms : List Mutation) → is_whole t ≡ true → list_all (λ m. is_written t m.column) ms ≡ true → none_mutated ms ≡ true → ms ≡ []
no_mutations t [] whole h g = refl
no_mutations t (m ∷ ms) whole h g =
    absurd (true≢false (sym (both (belongs m.column t) (not (is_fixed (column_rule m.column).given)) (first_so _ _ (first_so (is_written t m.column) _ h)) (first_so (not (is_fixed (column_rule m.column).given)) _ g)) ∙ shut t m.column whole))

-- ---- what comes has a later number, and what stays is what it was

pub record Fixes (r s : Rows) : Type 0 where
  pub grew : r.counter ≤ s.counter
  pub from : (t : Table) (i : ℕ) (row : Contents) → is_whole t ≡ true → row_at s (t, i) ≡ Some row → (row_at r (t, i) ≡ Some row) ⊎ (r.counter < i % 2 ^ 62)

fixes_itself : (r : Rows) → Fixes r r
fixes_itself r = record { grew = omega arith; from = λ t i row whole is. inl is }

fixes_along : (r s u : Rows) → Fixes r s → Fixes s u → Fixes r u
fixes_along r s u h g = record {
  grew = (let a = h.grew in let b = g.grew in omega (arith, a, b));
  from = λ t i row whole is. elim (g.from t i row whole is) [
    | inl before ↦ h.from t i row whole before
    | inr later ↦ inr (let a = h.grew in omega (arith, a, later))
  ];
}

-- ---- rows that are changed

ok_same : (f : Contents → Reading Contents) (a b : Contents) → f a ≡ Ok a → f a ≡ Ok b → a ≡ b
ok_same f a b h g = by (f a) h g
  where
    by : (x : Reading Contents) → x ≡ Ok a → x ≡ Ok b → a ≡ b
    by x p q = cc

one_changed : (t : Table) (id : ℕ) (r : Rows) (f : Contents → Reading Contents) → (is_whole t ≡ true → (a : Contents) → f a ≡ Ok a) → (o : Option Contents) → row_at r (t, id) ≡ o → Gives (Fixes r) (changed_at t id f o r)
one_changed t id r f same None e = fixes_itself r
one_changed t id r f same (Some a) e = by (f a) refl
  where
    by : (x : Reading Contents) → f a ≡ x → Gives (Fixes r) (x >>? λ new. Ok (replaced r (t, id) new))
    by (Err w) g = tt
    by (Ok new) g = record { grew = omega arith; from = λ u i row whole is. inl (at u i row whole is (eq_by_cmp key_cmp (u, i) (t, id)) refl) }
      where
        at : (u : Table) (i : ℕ) (row : Contents) → is_whole u ≡ true → row_at (replaced r (t, id) new) (u, i) ≡ Some row → (b : Bool) → eq_by_cmp key_cmp (u, i) (t, id) ≡ b → row_at r (u, i) ≡ Some row
        at u i row whole is true tie =
            let here : (u, i) ≡ (t, id) = tied (u, i) (t, id) tie in
            let put : new ≡ row = same_some new row (sym (put_there r.rows (t, id) new) ∙ ap (row_at (replaced r (t, id) new)) (sym here) ∙ is) in
            let left : a ≡ new = ok_same f a new (same (ap (λ (k : Key). is_whole k.0) (sym here) ∙ whole) a) g in
            ap (row_at r) here ∙ e ∙ ap Some (left ∙ put)
        at u i row whole is false tie = sym (maps.get-insert key_total r.rows (t, id) new (u, i) ∙ ap (λ b. cond b (Some new) (row_at r (u, i))) tie) ∙ is

each_changed : (t : Table) (f : Contents → Reading Contents) → (is_whole t ≡ true → (a : Contents) → f a ≡ Ok a) → (ids : List ℕ) (r : Rows) → Gives (Fixes r) (change_each t f ids r)
each_changed t f same [] r = fixes_itself r
each_changed t f same (id ∷ ids) r = by (changed_at t id f (row_at r (t, id)) r) (one_changed t id r f same (row_at r (t, id)) refl) (λ s. each_changed t f same ids s)
  where
    further : (s : Rows) → Fixes r s → (y : Reading Rows) → Gives (Fixes s) y → Gives (Fixes r) y
    further s g (Err w) k = tt
    further s g (Ok u) k = fixes_along r s u g k

    by : (x : Reading Rows) → Gives (Fixes r) x → ((s : Rows) → Gives (Fixes s) (change_each t f ids s)) → Gives (Fixes r) (x >>? change_each t f ids)
    by (Err w) g later = tt
    by (Ok s) g later = further s g (change_each t f ids s) (later s)

abbrev FixesIn : Rows → Reply × Rows → Type 0
FixesIn r x = Fixes r x.1

change_fixes : (t : Table) (f : Contents → Reading Contents) (ids : List ℕ) (r : Rows) → (is_whole t ≡ true → (a : Contents) → f a ≡ Ok a) → Gives (FixesIn r) (change t f ids r)
unfolding change
change_fixes t f ids r same = by (change_each t f ids r) (each_changed t f same ids r)
  where
    by : (x : Reading Rows) → Gives (Fixes r) x → Gives (FixesIn r) (x >>? λ after. Ok (Count (length ids), after))
    by (Err w) g = tt
    by (Ok s) g = g

-- ---- rows that come and go

insert_fixes : (t : Table) (vs : List (Column × Datum)) (r : Rows) → IsRows r → Gives (FixesIn r) (insert t vs r)
insert_fixes t vs r rows =
    given_gives (FixesIn r) word.ConstraintViolation (filled_row t vs) (λ row. needs word.ConstraintViolation (not (r.counter == last_number)) (Ok (Inserted (next_id r), inserted r row)))
    (λ new e. need_gives (FixesIn r) word.ConstraintViolation (not (r.counter == last_number)) (Ok (Inserted (next_id r), inserted r new)) (λ room.
    let count : r.counter ≤ last_number = rows.count in
    let left : r.counter < last_number = grind (arith, nat_tests, room, count) in
    let number : next_id r % 2 ^ 62 ≡ r.counter + 1 = number_of r.made (r.counter + 1) ∙ mod-eq_of_lt (omega (arith, left)) in
    record {
      grew = omega arith;
      from = λ u i row whole is. elim (was_or_new r new (u, i) row is) [
        | inl before ↦ inl before
        | inr came ↦ inr (let here : i ≡ next_id r = ap (λ (k : Key). k.1) came.0 in let n : i % 2 ^ 62 ≡ r.counter + 1 = ap (λ j. j % 2 ^ 62) here ∙ number in omega (arith, n))
      ];
    }))

one_removed : (r : Rows) (k : Key) → Fixes r (removed r k)
one_removed r k = record { grew = omega arith; from = λ t i row whole is. inl (by (t, i) row (eq_by_cmp key_cmp (t, i) k) (sym (maps.get-remove key_total r.rows k (t, i)) ∙ is)) }
  where
    by : (q : Key) (row : Contents) (b : Bool) → cond b None (row_at r q) ≡ Some row → row_at r q ≡ Some row
    by q row true h = cc
    by q row false h = h

all_removed : (t : Table) (ids : List ℕ) (r : Rows) → Fixes r (remove_each t ids r)
all_removed t [] r = fixes_itself r
all_removed t (id ∷ ids) r = fixes_along r (removed r (t, id)) (remove_each t ids (removed r (t, id))) (one_removed r (t, id)) (all_removed t ids (removed r (t, id)))

-- ---- operations

op_fixes : (ns : Names) (o : Op) (r : Rows) → IsRows r → is_permitted o ≡ true → is_free o ≡ true → Gives (FixesIn r) (run_op ns o r)
unfolding change_step update_step mutate_step wait
op_fixes ns (op.Insert t row name) r rows h g = insert_fixes t (resolved_cells ns row) r rows
op_fixes ns (op.Select t cs columns) r rows h g = fixes_itself r
op_fixes ns (op.Update t cs row) r rows h g =
    change_fixes t (λ a. updated a (resolved_cells ns row)) (selected t (resolved_conditions ns cs) r) r (λ whole a. ap (λ vs. updated a (resolved_cells ns vs)) (no_values t row whole h g))
op_fixes ns (op.Mutate t cs ms) r rows h g =
    change_fixes t (λ a. mutated a (resolved_mutations ns ms)) (selected t (resolved_conditions ns cs) r) r (λ whole a. ap (λ vs. mutated a (resolved_mutations ns vs)) (no_mutations t ms whole h g))
op_fixes ns (op.Delete t cs) r rows h g = all_removed t (selected t (resolved_conditions ns cs) r) r
op_fixes ns (op.Wait t cs columns until given_rows) r rows h g =
    need_gives (FixesIn r) word.TimedOut (waits_for until (same_rows (waited_fields t columns) r t (selected t (resolved_conditions ns cs) r) (resolved_rows ns given_rows))) (Ok (Empty, r)) (λ _. fixes_itself r)
op_fixes ns (op.Commit durable) r rows h g = need_gives (FixesIn r) word.NotSupported (not durable) (Ok (Empty, r)) (λ _. fixes_itself r)
op_fixes ns op.Abort r rows h g = tt
op_fixes ns op.Comment r rows h g = fixes_itself r

abbrev Both : Rows → Reply × Rows → Type 0
Both r x = LeavesRest r x.1 × Fixes r x.1

both_give : (r : Rows) (x : Reading (Reply × Rows)) → Gives (λ y. LeavesRest r y.1) x → Gives (FixesIn r) x → Gives (Both r) x
both_give r (Ok x) h g = (h, g)
both_give r (Err w) h g = tt

ran_fixes : (ns : Names) (done : List Reply) (r : Rows) (os : List Op) → IsRows r → list_all is_permitted os ≡ true → list_all is_free os ≡ true → Fixes r (run_from ns done r os).rows
ran_fixes ns done r [] rows h g = fixes_itself r
ran_fixes ns done r (o ∷ os) rows h g =
    by_gives (Both r) (λ (x : Ran). Fixes r x.rows) (run_op ns o r) (λ w. record { results = done; stopped = Some w; rows = r }) (λ x. run_from ns (done ++ x.0 ∷ []) x.1 os)
    (both_give r (run_op ns o r) (op_leaves ns o r rows (first_so (is_permitted o) _ h)) (op_fixes ns o r rows (first_so (is_permitted o) _ h) (first_so (is_free o) _ g))) (λ w. fixes_itself r)
    (λ x so. fixes_along r x.1 (run_from ns (done ++ x.0 ∷ []) x.1 os).rows so.1 (ran_fixes ns (done ++ x.0 ∷ []) x.1 os so.0.rows (second_so (is_permitted o) _ h) (second_so (is_free o) _ g)))

outcome_fixes : (r s : Rows) (count : ℕ) (results : List Reply) (w : Option Word) → Fixes r s → Fixes r (outcome r count results s w).rows
outcome_fixes r s count results None h = h
outcome_fixes r s count results (Some w) h = fixes_itself r

-- a later number was not given
not_there : (r : Rows) (t : Table) (i : ℕ) → IsRows r → r.counter < i % 2 ^ 62 → row_at r (t, i) ≡ None
not_there r t i rows later = by (row_at r (t, i)) refl
  where
    by : (o : Option Contents) → row_at r (t, i) ≡ o → row_at r (t, i) ≡ None
    by None e = e
    by (Some row) e =
        let range : (nat_le 1 (i % 2 ^ 62) && nat_le (i % 2 ^ 62) r.counter) ≡ true =
        first_so (nat_le 1 (i % 2 ^ 62) && nat_le (i % 2 ^ 62) r.counter) (i == row_id r.made (i % 2 ^ 62)) (its_identifier r t i row rows e) in
        let most : i % 2 ^ 62 ≤ r.counter = so_le (i % 2 ^ 62) r.counter (second_so (nat_le 1 (i % 2 ^ 62)) (nat_le (i % 2 ^ 62) r.counter) range) in
        absurd (omega (arith, most, later))

pub fixed_so : (r s : Rows) → IsRows r → Fixes r s → IsFixed r s
fixed_so r s rows h = record {
  locators = λ i row is. by PhysicalLocator i row (h.from PhysicalLocator i row refl is);
  sets = λ i row is. by PhysicalLocatorSet i row (h.from PhysicalLocatorSet i row refl is);
}
  where
    by : (t : Table) (i : ℕ) (row : Contents) → (row_at r (t, i) ≡ Some row) ⊎ (r.counter < i % 2 ^ 62) → (row_at r (t, i) ≡ Some row) ⊎ (row_at r (t, i) ≡ None)
    by t i row (inl before) = inl before
    by t i row (inr later) = inr (not_there r t i rows later)

pub operations_fix : (params : Data) (r : Rows) → IsRows r → IsFixed r (means (ops_in params) r).rows
operations_fix params r rows =
    let ran : Ran = run_from (names_of (ops_in params) r) [] r (ops_in params).ops in
    fixed_so r (means (ops_in params) r).rows rows
    (outcome_fixes r ran.rows (ops_in params).count ran.results (first_word ran.stopped (fault_word (ops_in params).fault)) (ran_fixes (names_of (ops_in params) r) [] r (ops_in params).ops rows (ops_permitted params) (ops_free params)))
