-- Operations that write what sessions may write leave the rest as it is.
use Rattle.std.proofs.Common.{◌≡◌, ℕ, ◌<◌, ◌≤◌, ◌==◌, Bool, true, false, cond, not, ◌&&◌, List, [], ◌∷◌, ◌++◌, is_some, Option, Some, None, Ok, Err, refl, sym, ap, subst, ◌∙◌, true≢false, arith}
use Rattle.std.specs.Prelude.{if◌then◌else◌, length}
use Rattle.std.proofs.lemmas.Bool.Decides.{nat_tests}
use Rattle.std.specs.List.{list_all}
use Rattle.std.specs.Ordering.{eq_by_cmp}
use Rattle.std.specs.Cmp.{Equal-is, first_so, second_so}
use Rattle.serde_json.specs.Data.{Data}
use Rattle.vtep_base.specs.Maps as maps
use Rattle.vtep_base.specs.Maps.{Map}
use Rattle.vtep_base.specs.declared.words.Word.{Word}
use Rattle.vtep_base.specs.declared.words.Word.TheVariants as word
use Rattle.ovsdb_values.specs.declared.datums.Datum.{Datum}
use Rattle.vtep_schema.specs.declared.Table.{Table}
use Rattle.vtep_schema.specs.declared.Column.{Column}
use Rattle.vtep_schema.specs.Tables.{column_cmp, table_rule, belongs}
use Rattle.vtep_schema.specs.Orders.{column_total, column_exact}
use Rattle.vtep_rows.specs.Row.{Contents, is_row, allowed, with_value, filled_row, changed_row}
use Rattle.vtep_rows.specs.Rows.{Key, key_cmp, Rows, IsRows, row_at, next_id, inserted, replaced, removed, last_number}
use Rattle.vtep_rows.specs.Orders.{key_total}
use Rattle.vtep_rows.proofs.Entries.{both}
use Rattle.vtep_rows.proofs.Kept.{its_table, its_contents, given_there, still_inserted, still_put, still_removed}
use Rattle.vtep_rows.proofs.RowLaws.{still_row}
use Rattle.vtep_rows.proofs.Restored.{tied}
use Rattle.transact_profile.specs.declared.operations.Op.{Op}
use Rattle.transact_profile.specs.declared.operations.Op.TheVariants as op
use Rattle.transact_profile.specs.declared.operations.Mutation.{Mutation}
use Rattle.transact_profile.specs.Refusing.{Reading, ◌>>?◌, given, needs}
use Rattle.transact_profile.specs.Conditions.{Names, resolved_cells, resolved_mutations, selected, value_of, resolved_conditions, resolved_rows}
use Rattle.transact_profile.specs.Mutations.{mutated_value, written, mutated_once, mutated, updated}
use Rattle.transact_profile.specs.Meaning.{Reply, Inserted, Count, Empty, insert, changed_at, change_each, change, change_step, update_step, mutate_step, remove_each, wait, waits_for, same_rows, run_op, Ran, run_from, names_of, fault_word, first_word, outcome, means}
use Rattle.transact_profile.specs.Operations.{waited_fields}
use Rattle.transact_profile.specs.Transaction.{ops_in}
use Rattle.vtep_gateway.specs.Settled.{is_written, IsLeft, LeavesRest}
use Rattle.vtep_gateway.proofs.Permitted.{Gives, then_gives, need_gives, given_gives, by_gives, is_permitted, Permits, ops_permitted}

-- ---- rows that differ in written columns alone

pub left_itself : (o : Option Contents) → IsLeft o o
left_itself None = tt
left_itself (Some a) = (refl, λ c e. refl)

pub left_same : (o p : Option Contents) → p ≡ o → IsLeft o p
left_same o p e = subst (IsLeft o) (sym e) (left_itself o)

left_along : (o p q : Option Contents) → IsLeft o p → IsLeft p q → IsLeft o q
left_along None None None h g = tt
left_along None None (Some c) h g = absurd g
left_along None (Some b) q h g = absurd h
left_along (Some a) None q h g = absurd h
left_along (Some a) (Some b) None h g = absurd g
left_along (Some a) (Some b) (Some c) h g = (g.0 ∙ h.0, λ x e. g.1 x (ap (λ t. is_written t x) h.0 ∙ e) ∙ h.1 x e)

leaves_itself : (r : Rows) → IsRows r → LeavesRest r r
leaves_itself r rows = record { rows = rows; made = refl; rest = λ t i _. left_itself (row_at r (t, i)) }

leaves_along : (r s u : Rows) → LeavesRest r s → LeavesRest s u → LeavesRest r u
leaves_along r s u h g = record { rows = g.rows; made = g.made ∙ h.made; rest = λ t i shut. left_along (row_at r (t, i)) (row_at s (t, i)) (row_at u (t, i)) (h.rest t i shut) (g.rest t i shut) }

-- ---- a row that is changed

-- a row of the same table, that differs in written columns alone
pub record Rewrites (a b : Contents) : Type 0 where
  pub is : is_row b ≡ true
  pub table : b.table ≡ a.table
  pub rest : (c : Column) → is_written a.table c ≡ false → maps.get b.values c ≡ maps.get a.values c

rewrites_itself : (a : Contents) → is_row a ≡ true → Rewrites a a
rewrites_itself a is = record { is = is; table = refl; rest = λ c e. refl }

rewrites_along : (a b c : Contents) → Rewrites a b → Rewrites b c → Rewrites a c
rewrites_along a b c h g = record { is = g.is; table = g.table ∙ h.table; rest = λ x e. g.rest x (ap (λ t. is_written t x) h.table ∙ e) ∙ h.rest x e }

chosen : (b : Bool) (a r : Contents) → (if b then Some a else None) ≡ Some r → (b ≡ true) × (a ≡ r)
chosen true a r e = (refl, cc)
chosen false a r e = cc

one_written : (a : Contents) (c : Column) (d : Datum) → is_row a ≡ true → is_written a.table c ≡ true → Gives (Rewrites a) (written a c d)
unfolding written
one_written a c d is h =
    by (changed_row a c d) refl
  where
    by : (o : Option Contents) → changed_row a c d ≡ o → Gives (Rewrites a) (given word.ConstraintViolation o)
    by None e = tt
    by (Some b) e =
        let fits : (belongs c a.table && allowed c d) ≡ true = (chosen _ _ b e).0 in
        let same : with_value a c d ≡ b = (chosen _ _ b e).1 in
        subst (Rewrites a) same (record {
          is = still_row a c d is (first_so _ _ fits) (second_so _ _ fits);
          table = refl;
          rest = λ x free. maps.get-insert column_total a.values c d x ∙ ap (λ b. cond b (Some d) (maps.get a.values x)) (other x free (eq_by_cmp column_cmp x c) refl);
        })
      where
        other : (x : Column) → is_written a.table x ≡ false → (b : Bool) → eq_by_cmp column_cmp x c ≡ b → eq_by_cmp column_cmp x c ≡ false
        other x free true tie = absurd (true≢false (sym h ∙ ap (is_written a.table) (sym (column_exact x c ((Equal-is (column_cmp x c)).0 tie))) ∙ free))
        other x free false tie = tie

all_written : (a : Contents) (vs : List (Column × Datum)) → is_row a ≡ true → list_all (λ v. is_written a.table v.0) vs ≡ true → Gives (Rewrites a) (updated a vs)
all_written a [] is h = rewrites_itself a is
all_written a (v ∷ vs) is h = by (written a v.0 v.1) (one_written a v.0 v.1 is (first_so _ _ h)) (λ next. all_written next vs)
  where
    further : (next : Contents) → Rewrites a next → (r : Reading Contents) → Gives (Rewrites next) r → Gives (Rewrites a) r
    further next g (Err w) k = tt
    further next g (Ok b) k = rewrites_along a next b g k

    by : (r : Reading Contents) → Gives (Rewrites a) r → ((next : Contents) → is_row next ≡ true → list_all (λ v. is_written next.table v.0) vs ≡ true → Gives (Rewrites next) (updated next vs))
        → Gives (Rewrites a) (r >>? λ next. updated next vs)
    by (Err w) g later = tt
    by (Ok next) g later = further next g (updated next vs) (later next g.is (ap (λ t. list_all (λ v. is_written t v.0) vs) g.table ∙ second_so _ _ h))

all_mutated : (a : Contents) (ms : List Mutation) → is_row a ≡ true → list_all (λ m. is_written a.table m.column) ms ≡ true → Gives (Rewrites a) (mutated a ms)
all_mutated a [] is h = rewrites_itself a is
all_mutated a (m ∷ ms) is h =
    by (mutated_once a m)
    (given_gives (Rewrites a) word.ConstraintViolation (value_of a m.column) (λ old. mutated_value m.mutator old m.value >>? written a m.column)
    (λ old _. then_gives (Rewrites a) (mutated_value m.mutator old m.value) (written a m.column) (λ d _. one_written a m.column d is (first_so _ _ h))))
    (λ next. all_mutated next ms)
  where
    further : (next : Contents) → Rewrites a next → (r : Reading Contents) → Gives (Rewrites next) r → Gives (Rewrites a) r
    further next g (Err w) k = tt
    further next g (Ok b) k = rewrites_along a next b g k

    by : (r : Reading Contents) → Gives (Rewrites a) r → ((next : Contents) → is_row next ≡ true → list_all (λ m. is_written next.table m.column) ms ≡ true → Gives (Rewrites next) (mutated next ms))
        → Gives (Rewrites a) (r >>? λ next. mutated next ms)
    by (Err w) g later = tt
    by (Ok next) g later = further next g (mutated next ms) (later next g.is (ap (λ t. list_all (λ m. is_written t m.column) ms) g.table ∙ second_so _ _ h))

-- ---- rows that are changed

put_at : (m : Map key_cmp Contents) (k q : Key) (row : Contents) (b : Bool) → eq_by_cmp key_cmp q k ≡ b → maps.get (maps.insert m k row) q ≡ cond b (Some row) (maps.get m q)
put_at m k q row b e = maps.get-insert key_total m k row q ∙ ap (λ b. cond b (Some row) (maps.get m q)) e

one_changed : (t : Table) (id : ℕ) (r : Rows) (f : Contents → Reading Contents) → IsRows r → ((a : Contents) → is_row a ≡ true → a.table ≡ t → Gives (Rewrites a) (f a)) → (o : Option Contents) → row_at r (t, id) ≡ o
    → Gives (LeavesRest r) (changed_at t id f o r)
one_changed t id r f rows so None e = leaves_itself r rows
one_changed t id r f rows so (Some a) e = by (f a) (so a (its_contents r t id a rows e) (its_table r t id a rows e))
  where
    by : (x : Reading Contents) → Gives (Rewrites a) x → Gives (LeavesRest r) (x >>? λ new. Ok (replaced r (t, id) new))
    by (Err w) g = tt
    by (Ok new) g = record {
      rows = still_put r (t, id) new rows (given_there r (t, id) rows (ap is_some e)) (g.table ∙ its_table r t id a rows e) g.is;
      made = refl;
      rest = λ u i _. at u i (eq_by_cmp key_cmp (u, i) (t, id)) refl;
    }
      where
        at : (u : Table) (i : ℕ) (b : Bool) → eq_by_cmp key_cmp (u, i) (t, id) ≡ b → IsLeft (row_at r (u, i)) (row_at (replaced r (t, id) new) (u, i))
        at u i true tie =
            let here : row_at r (u, i) ≡ Some a = ap (row_at r) (tied (u, i) (t, id) tie) ∙ e in
            let there : row_at (replaced r (t, id) new) (u, i) ≡ Some new = put_at r.rows (t, id) (u, i) new true tie in
            subst (λ o. IsLeft o (row_at (replaced r (t, id) new) (u, i))) (sym here) (subst (IsLeft (Some a)) (sym there) (g.table, g.rest))
        at u i false tie = left_same (row_at r (u, i)) _ (put_at r.rows (t, id) (u, i) new false tie)

each_changed : (t : Table) (f : Contents → Reading Contents) → ((a : Contents) → is_row a ≡ true → a.table ≡ t → Gives (Rewrites a) (f a)) → (ids : List ℕ) (r : Rows) → IsRows r → Gives (LeavesRest r) (change_each t f ids r)
each_changed t f so [] r rows = leaves_itself r rows
each_changed t f so (id ∷ ids) r rows = by (changed_at t id f (row_at r (t, id)) r) (one_changed t id r f rows so (row_at r (t, id)) refl) (λ s. each_changed t f so ids s)
  where
    further : (s : Rows) → LeavesRest r s → (y : Reading Rows) → Gives (LeavesRest s) y → Gives (LeavesRest r) y
    further s g (Err w) k = tt
    further s g (Ok u) k = leaves_along r s u g k

    by : (x : Reading Rows) → Gives (LeavesRest r) x → ((s : Rows) → IsRows s → Gives (LeavesRest s) (change_each t f ids s)) → Gives (LeavesRest r) (x >>? change_each t f ids)
    by (Err w) g later = tt
    by (Ok s) g later = further s g (change_each t f ids s) (later s g.rows)

-- ---- operations

abbrev pub Leaves : Rows → Reply × Rows → Type 0
Leaves r x = LeavesRest r x.1

change_leaves : (t : Table) (f : Contents → Reading Contents) (ids : List ℕ) (r : Rows) → IsRows r → ((a : Contents) → is_row a ≡ true → a.table ≡ t → Gives (Rewrites a) (f a)) → Gives (Leaves r) (change t f ids r)
unfolding change
change_leaves t f ids r rows so = by (change_each t f ids r) (each_changed t f so ids r rows)
  where
    by : (x : Reading Rows) → Gives (LeavesRest r) x → Gives (Leaves r) (x >>? λ after. Ok (Count (length ids), after))
    by (Err w) g = tt
    by (Ok s) g = g

open_apart : (t u : Table) → (table_rule t).open_to_sessions ≡ true → (table_rule u).open_to_sessions ≡ false → u ≡ t → ⊥
open_apart t u on off e = true≢false (sym on ∙ ap (λ x. (table_rule x).open_to_sessions) (sym e) ∙ off)

insert_leaves : (t : Table) (vs : List (Column × Datum)) (r : Rows) → IsRows r → (table_rule t).open_to_sessions ≡ true → Gives (Leaves r) (insert t vs r)
insert_leaves t vs r rows on =
    given_gives (Leaves r) word.ConstraintViolation (filled_row t vs) (λ row. needs word.ConstraintViolation (not (r.counter == last_number)) (Ok (Inserted (next_id r), inserted r row)))
    (λ row e. need_gives (Leaves r) word.ConstraintViolation (not (r.counter == last_number)) (Ok (Inserted (next_id r), inserted r row)) (λ room.
    let count : r.counter ≤ last_number = rows.count in
    let left : r.counter < last_number = grind (arith, nat_tests, room, count) in
    let is = chosen _ _ row e in
    let own : t ≡ row.table = ap (λ x. x.table) is.1 in
    record {
      rows = still_inserted r row rows left (ap is_row (sym is.1) ∙ is.0);
      made = refl;
      rest = λ u i shut. left_same (row_at r (u, i)) _ (put_at r.rows (row.table, next_id r) (u, i) row false (apart row u i own shut (eq_by_cmp key_cmp (u, i) (row.table, next_id r)) refl));
    }))
  where
    apart : (row : Contents) (u : Table) (i : ℕ) → t ≡ row.table → (table_rule u).open_to_sessions ≡ false → (b : Bool) → eq_by_cmp key_cmp (u, i) (row.table, next_id r) ≡ b → eq_by_cmp key_cmp (u, i) (row.table, next_id r) ≡ false
    apart row u i own shut true tie = absurd (open_apart t u on shut (ap (λ (k : Key). k.0) (tied (u, i) (row.table, next_id r) tie) ∙ sym own))
    apart row u i own shut false tie = tie

one_removed : (t : Table) (id : ℕ) (r : Rows) → IsRows r → (table_rule t).open_to_sessions ≡ true → LeavesRest r (removed r (t, id))
one_removed t id r rows on = record {
  rows = still_removed r (t, id) rows;
  made = refl;
  rest = λ u i shut. left_same (row_at r (u, i)) _ (maps.get-remove key_total r.rows (t, id) (u, i) ∙ ap (λ b. cond b None (row_at r (u, i))) (apart u i shut (eq_by_cmp key_cmp (u, i) (t, id)) refl));
}
  where
    apart : (u : Table) (i : ℕ) → (table_rule u).open_to_sessions ≡ false → (b : Bool) → eq_by_cmp key_cmp (u, i) (t, id) ≡ b → eq_by_cmp key_cmp (u, i) (t, id) ≡ false
    apart u i shut true tie = absurd (open_apart t u on shut (ap (λ (k : Key). k.0) (tied (u, i) (t, id) tie)))
    apart u i shut false tie = tie

all_removed : (t : Table) (ids : List ℕ) (r : Rows) → IsRows r → (table_rule t).open_to_sessions ≡ true → LeavesRest r (remove_each t ids r)
all_removed t [] r rows on = leaves_itself r rows
all_removed t (id ∷ ids) r rows on =
    leaves_along r (removed r (t, id)) (remove_each t ids (removed r (t, id))) (one_removed t id r rows on) (all_removed t ids (removed r (t, id)) (still_removed r (t, id) rows) on)

cells_resolved : (ns : Names) (p : Column → Bool) (vs : List (Column × Datum)) → list_all (λ v. p v.0) vs ≡ true → list_all (λ v. p v.0) (resolved_cells ns vs) ≡ true
cells_resolved ns p [] h = refl
cells_resolved ns p (v ∷ vs) h = both (p v.0) _ (first_so (p v.0) _ h) (cells_resolved ns p vs (second_so (p v.0) _ h))

mutations_resolved : (ns : Names) (p : Column → Bool) (ms : List Mutation) → list_all (λ m. p m.column) ms ≡ true → list_all (λ m. p m.column) (resolved_mutations ns ms) ≡ true
mutations_resolved ns p [] h = refl
mutations_resolved ns p (m ∷ ms) h = both (p m.column) _ (first_so (p m.column) _ h) (mutations_resolved ns p ms (second_so (p m.column) _ h))

pub op_leaves : (ns : Names) (o : Op) (r : Rows) → IsRows r → Permits o → Gives (Leaves r) (run_op ns o r)
unfolding change_step update_step mutate_step wait
op_leaves ns (op.Insert t row name) r rows h = insert_leaves t (resolved_cells ns row) r rows h
op_leaves ns (op.Select t cs columns) r rows h = leaves_itself r rows
op_leaves ns (op.Update t cs row) r rows h =
    change_leaves t (λ a. updated a (resolved_cells ns row)) (selected t (resolved_conditions ns cs) r) r rows
    (λ a is own. all_written a (resolved_cells ns row) is (cells_resolved ns (is_written a.table) row (ap (λ u. list_all (λ v. is_written u v.0) row) own ∙ h)))
op_leaves ns (op.Mutate t cs ms) r rows h =
    change_leaves t (λ a. mutated a (resolved_mutations ns ms)) (selected t (resolved_conditions ns cs) r) r rows
    (λ a is own. all_mutated a (resolved_mutations ns ms) is (mutations_resolved ns (is_written a.table) ms (ap (λ u. list_all (λ m. is_written u m.column) ms) own ∙ h)))
op_leaves ns (op.Delete t cs) r rows h = all_removed t (selected t (resolved_conditions ns cs) r) r rows h
op_leaves ns (op.Wait t cs columns until given_rows) r rows h =
    need_gives (Leaves r) word.TimedOut (waits_for until (same_rows (waited_fields t columns) r t (selected t (resolved_conditions ns cs) r) (resolved_rows ns given_rows))) (Ok (Empty, r)) (λ _. leaves_itself r rows)
op_leaves ns (op.Commit durable) r rows h = need_gives (Leaves r) word.NotSupported (not durable) (Ok (Empty, r)) (λ _. leaves_itself r rows)
op_leaves ns op.Abort r rows h = tt
op_leaves ns op.Comment r rows h = leaves_itself r rows

ran_leaves : (ns : Names) (done : List Reply) (r : Rows) (os : List Op) → IsRows r → list_all is_permitted os ≡ true → LeavesRest r (run_from ns done r os).rows
ran_leaves ns done r [] rows h = leaves_itself r rows
ran_leaves ns done r (o ∷ os) rows h =
    by_gives (Leaves r) (λ (x : Ran). LeavesRest r x.rows) (run_op ns o r) (λ w. record { results = done; stopped = Some w; rows = r }) (λ x. run_from ns (done ++ x.0 ∷ []) x.1 os)
    (op_leaves ns o r rows (first_so (is_permitted o) _ h)) (λ w. leaves_itself r rows)
    (λ x so. leaves_along r x.1 (run_from ns (done ++ x.0 ∷ []) x.1 os).rows so (ran_leaves ns (done ++ x.0 ∷ []) x.1 os so.rows (second_so (is_permitted o) _ h)))

outcome_leaves : (r s : Rows) (count : ℕ) (results : List Reply) (w : Option Word) → IsRows r → LeavesRest r s → LeavesRest r (outcome r count results s w).rows
outcome_leaves r s count results None rows h = h
outcome_leaves r s count results (Some w) rows h = leaves_itself r rows

pub operations_leave : (params : Data) (r : Rows) → IsRows r → LeavesRest r (means (ops_in params) r).rows
operations_leave params r rows =
    let ran : Ran = run_from (names_of (ops_in params) r) [] r (ops_in params).ops in
    outcome_leaves r ran.rows (ops_in params).count ran.results (first_word ran.stopped (fault_word (ops_in params).fault)) rows (ran_leaves (names_of (ops_in params) r) [] r (ops_in params).ops rows (ops_permitted params))
