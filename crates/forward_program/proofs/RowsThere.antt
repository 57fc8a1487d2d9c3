-- The rows of a table, read by their identifiers.
use Rattle.std.proofs.Common.{◌≡◌, ℕ, Bool, true, false, cond, T, List, [], ◌∷◌, ◌++◌, map, Option, Some, None, refl, sym, ap, ◌∙◌, subst}
use Rattle.std.specs.List.{filter, filter_map, flat_map, cons_option}
use Rattle.std.specs.Iterator.{YieldsFirst}
use Rattle.std.specs.Option.{option_and_then, unwrap_or}
use Rattle.std.specs.FinMap.{find, is_sorted}
use Rattle.std.specs.FinMap.Entries.{below_all}
use Rattle.vtep_schema.specs.declared.Table.{Table}
use Rattle.vtep_schema.specs.Tables.{same_table}
use Rattle.vtep_rows.specs.Row.{Contents, put_all}
use Rattle.vtep_rows.specs.Rows.{Rows, Key, key_cmp, rows_of, ids_of, row_at}
use Rattle.forward_program.specs.Readings.{own_address}
use Rattle.forward_program.specs.Spots.{Entries}
use Rattle.forward_program.specs.Shown.{Entry, row_entries, table_entries}
use Rattle.forward_program.proofs.Puts.{one_given}
use Rattle.vtep_rows.proofs.Entries.{t_second}
use Rattle.vtep_rows.proofs.Kept.{same_table_exact}
use Rattle.vtep_rows.proofs.SoundLaws.{later_found, first_found}

-- each is a row of the table
abbrev pub AreThere : Rows → Table → List (ℕ × Contents) → Type 0
AreThere r t [] = Unit {0}
AreThere r t (e ∷ es) = (row_at r (t, e.0) ≡ Some e.1) × AreThere r t es

abbrev entry : Key × Contents → ℕ × Contents
entry e = (e.0.1, e.1)

are_there : (r : Rows) (t : Table) (es : List (Key × Contents)) → T (is_sorted key_cmp es) → ((k : Key) (row : Contents) → find key_cmp k es ≡ Some row → row_at r k ≡ Some row) → AreThere r t (map entry (filter (λ e. same_table e.0.0 t) es))
are_there r t [] sorted h = tt
are_there r t (e ∷ es) sorted h = by (same_table e.0.0 t) refl (are_there r t es (t_second (below_all key_cmp e.0 es) (is_sorted key_cmp es) sorted) (λ k row is. h k row (later_found k row e es sorted is)))
  where
    by : (b : Bool) → same_table e.0.0 t ≡ b → AreThere r t (map entry (filter (λ d. same_table d.0.0 t) es)) → AreThere r t (map entry (cond b (e ∷ filter (λ d. same_table d.0.0 t) es) (filter (λ d. same_table d.0.0 t) es)))
    by true same rest = (ap (λ u. row_at r (u, e.0.1)) (sym (same_table_exact e.0.0 t same)) ∙ h e.0 e.1 (first_found e es), rest)
    by false same rest = rest

pub rows_there : (r : Rows) (t : Table) → AreThere r t (rows_of t r)
rows_there r t = are_there r t r.rows.list r.rows.sorted (λ k row is. is)

-- what is read of the row of an identifier
abbrev pub read_at : {A : Type 0} → (ℕ × Contents → List A) → ℕ → Option Contents → List A
read_at f id None = []
read_at f id (Some row) = f (id, row)

module _ {A : Type 0} (r : Rows) (t : Table) where
  found_by : (f : ℕ × Contents → Option A) (es : List (ℕ × Contents)) → AreThere r t es → filter_map (λ id. option_and_then (λ row. f (id, row)) (row_at r (t, id))) (map (λ e. e.0) es) ≡ filter_map f es
  found_by f [] there = refl
  found_by f (e ∷ es) there = λ i. cons_option (option_and_then (λ row. f (e.0, row)) (there.0 i)) (found_by f es there.1 i)

  read_by : (f : ℕ × Contents → List A) (es : List (ℕ × Contents)) → AreThere r t es → flat_map (λ id. read_at f id (row_at r (t, id))) (map (λ e. e.0) es) ≡ flat_map f es
  read_by f [] there = refl
  read_by f (e ∷ es) there = λ i. read_at f e.0 (there.0 i) ++ read_by f es there.1 i

  pub found_by_id : (f : ℕ × Contents → Option A) → filter_map (λ id. option_and_then (λ row. f (id, row)) (row_at r (t, id))) (ids_of t r) ≡ filter_map f (rows_of t r)
  found_by_id f = found_by f (rows_of t r) (rows_there r t)

  pub read_by_id : (f : ℕ × Contents → List A) → flat_map (λ id. read_at f id (row_at r (t, id))) (ids_of t r) ≡ flat_map f (rows_of t r)
  read_by_id f = read_by f (rows_of t r) (rows_there r t)

-- ---- the entries of a table, row by row

module _ (r : Rows) (t : Table) (f : ℕ × Contents → List Entry) where
  abbrev pub given_by : ℕ → List Entry
  given_by id = read_at f id (row_at r (t, id))

  pub all_given : (ids left : List ℕ) → left ≡ ids → ids ≡ ids_of t r → flat_map given_by left ≡ flat_map f (rows_of t r)
  all_given ids left begun is = ap (flat_map given_by) (begun ∙ is) ∙ read_by_id r t f

  pub one_more : (m n : Entries) (id : ℕ) (row : Contents) (rest left : List ℕ) → left ≡ id ∷ rest → Some row ≡ row_at r (t, id) → n ≡ put_all m (f (id, row)) → put_all n (flat_map given_by rest) ≡ put_all m (flat_map given_by left)
  one_more m n id row rest left is there e = one_given given_by m n id rest left is (e ∙ ap (λ o. put_all m (read_at f id o)) there)

abbrev pub entries_by : Rows → Table → ℕ → ℕ → List Entry
entries_by r t own = given_by r t (row_entries own t)

pub table_is : (r : Rows) (t : Table) (own : ℕ) (ids left : List ℕ) → own_address r ≡ Some own → left ≡ ids → ids ≡ ids_of t r → flat_map (entries_by r t own) left ≡ table_entries r t
table_is r t own ids left known begun is = all_given r t (row_entries own t) ids left begun is ∙ ap (λ o. flat_map (row_entries (unwrap_or o 0) t) (rows_of t r)) (sym known)

pub one_row : (r : Rows) (t : Table) (own : ℕ) (m n : Entries) (id : ℕ) (row : Contents) (rest left : List ℕ) → left ≡ id ∷ rest → Some row ≡ row_at r (t, id) → n ≡ put_all m (row_entries own t (id, row))
    → put_all n (flat_map (entries_by r t own) rest) ≡ put_all m (flat_map (entries_by r t own) left)
one_row r t own = one_more r t (row_entries own t)

-- rows with one entry each
pub one_each : {A B : Type 0} (f : A → B) (xs : List A) → flat_map (λ x. f x ∷ []) xs ≡ map f xs
one_each f [] = refl
one_each f (x ∷ xs) = ap (λ ys. f x ∷ ys) (one_each f xs)

-- what is left behind the first of it
pub rest_is : (left : List ℕ) (o : Option ℕ) (rest : List ℕ) {id : ℕ} → o ≡ Some id → YieldsFirst (λ (ids : List ℕ). ids) left o rest → left ≡ id ∷ rest
rest_is left o rest {id} is step = subst (λ p. YieldsFirst (λ (ids : List ℕ). ids) left p rest) is step
