-- What transactions answer has no fraction.
use Rattle.std.proofs.Common.{◌≡◌, ℕ, zero, suc, ◌+◌, ◌-◌, Bool, true, false, List, [], ◌∷◌, ◌++◌, length, map, replicate, Option, Some, None, Ok, Err, Ordering, Less, Equal, Greater, refl}
use Rattle.std.specs.Prelude.{◌||◌, not, ◌==◌, pos, negsuc}
use Rattle.std.specs.Ordering.{nat_cmp, match_ordering}
use Rattle.std.specs.Cmp.Lexicographic.{slice_cmp}
use Rattle.serde_json.specs.Data.{Data, Members, no_members, member, put}
use Rattle.serde_json.specs.Written.{has_float, items_have_float, members_have_float}
use Rattle.vtep_base.specs.Reading.{Bytes}
use Rattle.vtep_base.specs.declared.words.Word.{Word}
use Rattle.vtep_base.specs.declared.words.Word.TheVariants.{TimedOut, NotSupported, ConstraintViolation}
use Rattle.json_notation.specs.Json.{to_items, list}
use Rattle.ovsdb_values.specs.declared.atoms.Atom.{Atom}
use Rattle.ovsdb_values.specs.declared.atoms.Atom.TheVariants.{Integer, Text, Id, Named}
use Rattle.ovsdb_values.specs.declared.datums.Datum.{Datum}
use Rattle.ovsdb_values.specs.declared.datums.Datum.TheVariants as datum
use Rattle.ovsdb_values.specs.Notation.{atom_json, entry_json, datum_json}
use Rattle.vtep_schema.specs.declared.Table.{Table}
use Rattle.vtep_schema.specs.declared.Column.{Column}
use Rattle.vtep_rows.specs.declared.soundness.Rule.{Rule}
use Rattle.vtep_rows.specs.Row.{Contents, filled_row}
use Rattle.vtep_rows.specs.Rows.{Rows as AllRows, row_at, last_number, next_id, inserted}
use Rattle.transact_profile.specs.declared.operations.Field.{Field}
use Rattle.transact_profile.specs.declared.operations.Condition.{Condition}
use Rattle.transact_profile.specs.declared.operations.Op.{Op}
use Rattle.transact_profile.specs.declared.operations.Op.TheVariants as op
use Rattle.transact_profile.specs.declared.operations.Ops.{Ops}
use Rattle.transact_profile.specs.Refusing.{Reading, ◌>>?◌, given, needs, by_reading}
use Rattle.transact_profile.specs.Values.{field_name}
use Rattle.transact_profile.specs.Conditions.{Names, cell_of, selected, resolved_cells, resolved_conditions, resolved_mutations, resolved_rows}
use Rattle.transact_profile.specs.Operations.{waited_fields}
use Rattle.transact_profile.specs.Mutations.{updated, mutated}
use Rattle.transact_profile.specs.Meaning.{Reply, Inserted, Rows, Empty, Fault, Null, Step, with_cell, row_members, row_found, found, select, selected_fields, change_each, change, insert, waits_for, same_rows, wait, change_step, update_step, mutate_step, run_op, Ran, run_from, names_of, fault_word, first_word, outcome, means}
use Rattle.transact_profile.specs.Finish.{reply_json, breach_json, finished}

abbrev IsPlain : Data → Type 0
IsPlain d = has_float d ≡ false

-- it holds of each
abbrev Each : {A : Type 0} → (A → Type 0) → List A → Type 0
Each P [] = Unit {0}
Each P (x ∷ xs) = P x × Each P xs

each_map : {A B : Type 0} (P : B → Type 0) (f : A → B) → ((a : A) → P (f a)) → (xs : List A) → Each P (map f xs)
each_map P f h [] = tt
each_map P f h (x ∷ xs) = (h x, each_map P f h xs)

each_mapped : {A B : Type 0} (P : A → Type 0) (Q : B → Type 0) (f : A → B) → ((a : A) → P a → Q (f a)) → (xs : List A) → Each P xs → Each Q (map f xs)
each_mapped P Q f h [] e = tt
each_mapped P Q f h (x ∷ xs) e = (h x e.0, each_mapped P Q f h xs e.1)

each_append : {A : Type 0} (P : A → Type 0) (xs ys : List A) → Each P xs → Each P ys → Each P (xs ++ ys)
each_append P [] ys a b = b
each_append P (x ∷ xs) ys a b = (a.0, each_append P xs ys a.1 b)

each_replicate : {A : Type 0} (P : A → Type 0) (x : A) → P x → (n : ℕ) → Each P (replicate n x)
each_replicate P x h zero = tt
each_replicate P x h (suc n) = (h, each_replicate P x h n)

neither : (a b : Bool) → a ≡ false → b ≡ false → a || b ≡ false
neither a b e f = rw (e, f) refl

items_plain : (ds : List Data) → Each IsPlain ds → items_have_float (to_items ds) ≡ false
items_plain [] e = refl
items_plain (d ∷ ds) e = neither (has_float d) (items_have_float (to_items ds)) e.0 (items_plain ds e.1)

atom_plain : (a : Atom) → IsPlain (atom_json a)
atom_plain (Integer (pos n)) = refl
atom_plain (Integer (negsuc n)) = refl
atom_plain (Text t) = refl
atom_plain (Id u) = refl
atom_plain (Named t) = refl

entry_plain : (p : Atom × Atom) → IsPlain (entry_json p)
entry_plain p = rw (atom_plain p.0, atom_plain p.1) refl

listed_plain : (ds : List Data) → Each IsPlain ds → IsPlain (list ds)
listed_plain ds e = items_plain ds e

pair_plain : (w : Bytes) (d : Data) → IsPlain d → false || (has_float d || false) ≡ false
pair_plain w d e = rw e refl

datum_plain : (d : Datum) → IsPlain (datum_json d)
datum_plain (datum.Set []) = refl
datum_plain (datum.Set (a ∷ [])) = atom_plain a
datum_plain (datum.Set (a ∷ b ∷ atoms)) = pair_plain [] (list (map atom_json (a ∷ b ∷ atoms))) (listed_plain (map atom_json (a ∷ b ∷ atoms)) (each_map IsPlain atom_json atom_plain (a ∷ b ∷ atoms)))
datum_plain (datum.Map pairs) = pair_plain [] (list (map entry_json pairs)) (listed_plain (map entry_json pairs) (each_map IsPlain entry_json entry_plain pairs))

put_plain : (k : Bytes) (d : Data) (ms : Members) → IsPlain d → members_have_float ms ≡ false → members_have_float (put k d ms) ≡ false
put_plain k d no_members p q = neither (has_float d) false p refl
put_plain k d (member l e ms) p q = by (slice_cmp nat_cmp k l) (put_plain k d ms p (rest (has_float e) (members_have_float ms) q))
  where
    rest : (a b : Bool) → a || b ≡ false → b ≡ false
    rest true b h = absurd (cc)
    rest false b h = h

    first : (a b : Bool) → a || b ≡ false → a ≡ false
    first true b h = absurd (cc)
    first false b h = refl

    by : (o : Ordering) → members_have_float (put k d ms) ≡ false → members_have_float (match_ordering o (member k d (member l e ms)) (member l d ms) (member l e (put k d ms))) ≡ false
    by Less h = neither (has_float d) (has_float e || members_have_float ms) p q
    by Equal h = neither (has_float d) (members_have_float ms) p (rest (has_float e) (members_have_float ms) q)
    by Greater h = neither (has_float e) (members_have_float (put k d ms)) (first (has_float e) (members_have_float ms) q) h

cell_plain : (f : Field) (o : Option Datum) (done : Members) → members_have_float done ≡ false → members_have_float (with_cell f o done) ≡ false
cell_plain f None done h = h
cell_plain f (Some d) done h = put_plain (field_name f) (datum_json d) done (datum_plain d) h

row_plain : (id : ℕ) (row : Contents) (fs : List Field) (done : Members) → members_have_float done ≡ false → members_have_float (row_members id row done fs) ≡ false
row_plain id row [] done h = h
row_plain id row (f ∷ fs) done h = row_plain id row fs (with_cell f (cell_of id row f) done) (cell_plain f (cell_of id row f) done h)

found_plain : (r : AllRows) (t : Table) (fs : List Field) (id : ℕ) → IsPlain (found r t fs id)
found_plain r t fs id = by (row_at r (t, id))
  where
    by : (o : Option Contents) → IsPlain (row_found fs id o)
    by None = refl
    by (Some row) = row_plain id row fs no_members refl

abbrev pub IsPlainReply : Reply → Type 0
IsPlainReply r = IsPlain (reply_json r)

rows_plain : (d : Data) → IsPlain d → IsPlainReply (Rows d)
rows_plain d h = rw h refl

select_plain : (t : Table) (cs : List Condition) (columns : Option (List Field)) (r : AllRows) → IsPlainReply (select t cs columns r)
select_plain t cs columns r =
    rows_plain (list (map (found r t (selected_fields t columns)) (selected t cs r)))
    (listed_plain (map (found r t (selected_fields t columns)) (selected t cs r)) (each_map IsPlain (found r t (selected_fields t columns)) (found_plain r t (selected_fields t columns)) (selected t cs r)))

fault_plain : (w : Word) → IsPlainReply (Fault w)
fault_plain w = refl

-- ---- steps

abbrev IsPlainStep : Step → Type 0
IsPlainStep (Ok x) = IsPlainReply x.0
IsPlainStep (Err w) = Unit {0}

then_plain : {A : Type 0} (a : Reading A) (f : A → Step) → ((x : A) → IsPlainStep (f x)) → IsPlainStep (a >>? f)
then_plain (Ok x) f h = h x
then_plain (Err w) f h = tt

needs_plain : (w : Word) (b : Bool) (s : Step) → IsPlainStep s → IsPlainStep (needs w b s)
needs_plain w true s h = h
needs_plain w false s h = tt

insert_plain : (t : Table) (values : List (Column × Datum)) (r : AllRows) → IsPlainStep (insert t values r)
insert_plain t values r = then_plain (given ConstraintViolation (filled_row t values)) _ (λ row. needs_plain ConstraintViolation (not (r.counter == last_number)) (Ok (Inserted (next_id r), inserted r row)) refl)

change_plain : (t : Table) (f : Contents → Reading Contents) (ids : List ℕ) (r : AllRows) → IsPlainStep (change t f ids r)
unfolding change
change_plain t f ids r = then_plain (change_each t f ids r) _ (λ after. refl)

op_plain : (ns : Names) (o : Op) (r : AllRows) → IsPlainStep (run_op ns o r)
unfolding wait change_step update_step mutate_step
op_plain ns (op.Insert t row name) r = insert_plain t (resolved_cells ns row) r
op_plain ns (op.Select t cs columns) r = select_plain t (resolved_conditions ns cs) columns r
op_plain ns (op.Update t cs row) r = change_plain t (λ old. updated old (resolved_cells ns row)) (selected t (resolved_conditions ns cs) r) r
op_plain ns (op.Mutate t cs ms) r = change_plain t (λ old. mutated old (resolved_mutations ns ms)) (selected t (resolved_conditions ns cs) r) r
op_plain ns (op.Delete t cs) r = refl
op_plain ns (op.Wait t cs columns until rows) r = needs_plain TimedOut (waits_for until (same_rows (waited_fields t columns) r t (selected t (resolved_conditions ns cs) r) (resolved_rows ns rows))) (Ok (Empty, r)) refl
op_plain ns (op.Commit durable) r = needs_plain NotSupported (not durable) (Ok (Empty, r)) refl
op_plain ns op.Abort r = tt
op_plain ns op.Comment r = refl

abbrev IsPlainRan : Ran → Type 0
IsPlainRan ran = Each IsPlainReply ran.results

read_plain : (s : Step) (refused : Word → Ran) (f : Reply × AllRows → Ran) → ((w : Word) → IsPlainRan (refused w)) → ((x : Reply × AllRows) → IsPlainReply x.0 → IsPlainRan (f x)) → IsPlainStep s → IsPlainRan (by_reading s refused f)
read_plain (Ok x) refused f a b h = b x h
read_plain (Err w) refused f a b h = a w

run_plain : (ns : Names) (done : List Reply) (r : AllRows) (os : List Op) → Each IsPlainReply done → IsPlainRan (run_from ns done r os)
run_plain ns done r [] h = h
run_plain ns done r (o ∷ os) h =
    read_plain (run_op ns o r) (λ w. record { results = done; stopped = Some w; rows = r }) (λ x. run_from ns (done ++ x.0 ∷ []) x.1 os) (λ w. h)
    (λ x plain. run_plain ns (done ++ x.0 ∷ []) x.1 os (each_append IsPlainReply done (x.0 ∷ []) h (plain, tt))) (op_plain ns o r)

outcome_plain : (before after : AllRows) (count : ℕ) (results : List Reply) (w : Option Word) → Each IsPlainReply results → Each IsPlainReply (outcome before count results after w).results
outcome_plain before after count results None h = h
outcome_plain before after count results (Some w) h =
    each_append IsPlainReply (results ++ Fault w ∷ []) (replicate (count - (length results + 1)) Null) (each_append IsPlainReply results (Fault w ∷ []) h (refl, tt))
    (each_replicate IsPlainReply Null refl (count - (length results + 1)))

means_plain : (ops : Ops) (r : AllRows) → Each IsPlainReply (means ops r).results
means_plain ops r =
    let ran : Ran = run_from (names_of ops r) [] r ops.ops in
    outcome_plain r ran.rows ops.count ran.results (first_word ran.stopped (fault_word ops.fault)) (run_plain (names_of ops r) [] r ops.ops tt)

breach_plain : (b : Option Rule) → Each IsPlain (breach_json b)
breach_plain None = tt
breach_plain (Some rule) = (refl, tt)

pub plain_finished : (ops : Ops) (r : AllRows) (b : Option Rule) → has_float (finished (means ops r).results b) ≡ false
plain_finished ops r b =
    listed_plain (map reply_json (means ops r).results ++ breach_json b)
    (each_append IsPlain (map reply_json (means ops r).results) (breach_json b) (each_mapped IsPlainReply IsPlain reply_json (λ a h. h) (means ops r).results (means_plain ops r)) (breach_plain b))
