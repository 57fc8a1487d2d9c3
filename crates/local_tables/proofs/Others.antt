-- No row names a row of a Local table.
use Rattle.std.proofs.Common.{◌≡◌, ℕ, Bool, true, false, not, ◌&&◌, List, [], ◌∷◌, Option, Some, None, refl, sym, ap, ◌∙◌, true≢false}
use Rattle.std.specs.List.{filter_map, flat_map, cons_option, list_all}
use Rattle.std.proofs.lemmas.List.Folds.{list_all-append}
use Rattle.std.specs.Cmp.{first_so, second_so}
use Rattle.ovsdb_values.specs.declared.atoms.Atom.{Atom}
use Rattle.ovsdb_values.specs.declared.atoms.Atom.TheVariants.{Id}
use Rattle.ovsdb_values.specs.declared.datums.Datum.{Datum}
use Rattle.ovsdb_values.specs.declared.datums.Datum.TheVariants as datum
use Rattle.vtep_schema.specs.declared.Table.{Table}
use Rattle.vtep_schema.specs.declared.Table.TheVariants.{Global, UcastMacsLocal, McastMacsLocal}
use Rattle.vtep_schema.specs.declared.Column.{Column}
use Rattle.vtep_schema.specs.declared.rules.Domain.{Domain}
use Rattle.vtep_schema.specs.declared.rules.Domain.TheVariants as domain
use Rattle.vtep_schema.specs.declared.rules.ColumnRule.{ColumnRule}
use Rattle.vtep_schema.specs.Tables.{same_table, same_column, column_rule, columns_of, belongs}
use Rattle.vtep_rows.specs.Row.{Contents, is_row, allowed, reference, reference_list, pair_references, references_in, references}
use Rattle.vtep_rows.specs.Rows.{Key, same_key, names}
use Rattle.vtep_rows.proofs.Entries.{both, all_at, all_so}
use Rattle.vtep_rows.proofs.RowLaws.{same_column_exact}
use Rattle.vtep_rows.proofs.Restored.{tied}
use Rattle.vtep_rows.proofs.SoundLaws.{any_none}

-- of another table than the Local ones
abbrev pub is_other : Key → Bool
is_other k = not (same_table k.0 UcastMacsLocal) && not (same_table k.0 McastMacsLocal)

abbrev domain_other : Domain → Bool
domain_other (domain.Row u) = not (same_table u UcastMacsLocal) && not (same_table u McastMacsLocal)
domain_other _ = true

abbrev value_other : Option Domain → Bool
value_other None = true
value_other (Some d) = domain_other d

abbrev rule_other : Column → Bool
rule_other c = domain_other (column_rule c).key && value_other (column_rule c).value

tables_other : (t : Table) → list_all rule_other (columns_of t) ≡ true
tables_other Global = refl
tables_other _ = refl

reference_other : (d : Domain) (a : Atom) → domain_other d ≡ true → list_all is_other (reference_list (reference d a)) ≡ true
reference_other (domain.Row u) (Id i) h = both (is_other (u, i)) true h refl
reference_other _ _ h = refl

and_true : (b : Bool) → (b && true) ≡ b
and_true true = refl
and_true false = refl

some_first : (o : Option Key) (ks : List Key) → list_all is_other (cons_option o ks) ≡ (list_all is_other (reference_list o) && list_all is_other ks)
some_first None ks = refl
some_first (Some k) ks = ap (λ b. b && list_all is_other ks) (sym (and_true (is_other k)))

atoms_other : (d : Domain) (xs : List Atom) → domain_other d ≡ true → list_all is_other (filter_map (reference d) xs) ≡ true
atoms_other d [] h = refl
atoms_other d (a ∷ xs) h =
    some_first (reference d a) (filter_map (reference d) xs)
    ∙ both (list_all is_other (reference_list (reference d a))) _ (reference_other d a h) (atoms_other d xs h)

pair_other : (k : Domain) (v : Option Domain) (p : Atom × Atom) → domain_other k ≡ true → value_other v ≡ true → list_all is_other (pair_references k v p) ≡ true
pair_other k None p h g = reference_other k p.0 h
pair_other k (Some v) p h g =
    list_all-append is_other (reference_list (reference k p.0)) (reference_list (reference v p.1))
    ∙ both (list_all is_other (reference_list (reference k p.0))) _ (reference_other k p.0 h) (reference_other v p.1 g)

pairs_other : (k : Domain) (v : Option Domain) (ps : List (Atom × Atom)) → domain_other k ≡ true → value_other v ≡ true → list_all is_other (flat_map (pair_references k v) ps) ≡ true
pairs_other k v [] h g = refl
pairs_other k v (p ∷ ps) h g =
    list_all-append is_other (pair_references k v p) (flat_map (pair_references k v) ps)
    ∙ both (list_all is_other (pair_references k v p)) _ (pair_other k v p h g) (pairs_other k v ps h g)

value_others : (r : ColumnRule) (d : Datum) → domain_other r.key ≡ true → value_other r.value ≡ true → list_all is_other (references_in r d) ≡ true
value_others r (datum.Set xs) h g = atoms_other r.key xs h
value_others r (datum.Map ps) h g = pairs_other r.key r.value ps h g

values_other : (t : Table) (es : List (Column × Datum)) → list_all (λ e. belongs e.0 t && allowed e.0 e.1) es ≡ true → list_all is_other (flat_map (λ e. references_in (column_rule e.0) e.1) es) ≡ true
values_other t [] h = refl
values_other t (e ∷ es) h =
    let here : rule_other e.0 ≡ true = all_at rule_other (same_column e.0) e.0 (λ x s. sym (same_column_exact e.0 x s)) (columns_of t) (tables_other t) (first_so _ _ (first_so _ _ h)) in
    list_all-append is_other (references_in (column_rule e.0) e.1) (flat_map (λ f. references_in (column_rule f.0) f.1) es)
    ∙ both (list_all is_other (references_in (column_rule e.0) e.1)) _ (value_others (column_rule e.0) e.1 (first_so _ _ here) (second_so _ _ here)) (values_other t es (second_so _ _ h))

pub names_others : (row : Contents) → is_row row ≡ true → list_all is_other (references row) ≡ true
names_others row is = values_other row.table row.values.list (second_so _ _ is)

-- what is of a Local table is not named
pub not_named : (row : Contents) (k : Key) → is_row row ≡ true → is_other k ≡ false → names row k ≡ false
not_named row k is local = any_none (same_key k) (references row) (all_so is_other (λ x. not (same_key k x)) (λ x other. by x other (same_key k x) refl) (references row) (names_others row is))
  where
    by : (x : Key) → is_other x ≡ true → (b : Bool) → same_key k x ≡ b → not (same_key k x) ≡ true
    by x other false e = ap not e
    by x other true e = absurd (true≢false (sym other ∙ sym (ap is_other (tied k x e)) ∙ local))

pub names_no_local : (row : Contents) (i : ℕ) → is_row row ≡ true → (names row (UcastMacsLocal, i) ≡ false) × (names row (McastMacsLocal, i) ≡ false)
names_no_local row i is = (not_named row (UcastMacsLocal, i) is refl, not_named row (McastMacsLocal, i) is refl)
