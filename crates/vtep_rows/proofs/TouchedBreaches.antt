-- Rows that were written over unbroken ones break a rule only at the places that were written, or where a row that went is named.
use Rattle.std.proofs.Common.{◌≡◌, ℕ, ◌==◌, Bool, true, false, not, ◌&&◌, ◌||◌, List, [], ◌∷◌, ◌++◌, map, is_some, Option, Some, None, option_map, refl, sym, ap, ◌∙◌, true≢false, arith}
use Rattle.std.proofs.lemmas.Bool.Decides.{nat_tests}
use Rattle.std.specs.List.{filter, flat_map, list_all, list_any}
use Rattle.std.specs.Cmp.{first_so, second_so}
use Rattle.vtep_base.specs.Maps as maps
use Rattle.vtep_base.specs.Maps.{Map}
use Rattle.ovsdb_values.specs.declared.atoms.Atom.{Atom}
use Rattle.ovsdb_values.specs.Exact.{same_atoms_laws}
use Rattle.vtep_schema.specs.declared.Table.{Table}
use Rattle.vtep_schema.specs.declared.Column.{Column}
use Rattle.vtep_schema.specs.Tables.{tables, unique_keys}
use Rattle.vtep_rows.specs.declared.soundness.Breach.{Breach}
use Rattle.vtep_rows.specs.declared.soundness.Rule.{Rule}
use Rattle.vtep_rows.specs.declared.soundness.Rule.TheVariants.{Limit, Reference, Unique}
use Rattle.vtep_rows.specs.Row.{Contents, references, atoms_at, first}
use Rattle.vtep_rows.specs.Rows.{Key, key_cmp, same_key, Rows, rows_of, row_at, names, has_key, is_named}
use Rattle.vtep_rows.specs.Orders.{key_exact}
use Rattle.vtep_rows.specs.Sound.{Sound, hold_same, agree, has_twin, breaks, breaches_at, breaches, breach, broken}
use Rattle.vtep_rows.specs.Database.{Images, restored, dangles, doubled, any_dangles, any_doubled}
use Rattle.vtep_rows.proofs.Entries.{both, found}
use Rattle.vtep_rows.proofs.Breaches.{first-append, first-front}
use Rattle.vtep_rows.proofs.SoundLaws.{none_any, any_none, not_on, not_off, row_passes, rows_pass, kept, unbroken, is_sound}
use Rattle.vtep_rows.proofs.Restored.{tied, itself}
use Rattle.vtep_rows.proofs.Touched.{untouched, all_entries}

-- ---- the rule of the first breach

abbrev broken_of : List Breach → Option Rule
broken_of bs = option_map (λ b. b.rule) (first bs)

its_rule : (rule : Rule) (r : Rows) (ts : List Table) → broken_of (flat_map (breaches_at rule r) ts) ≡ option_map (λ b. rule) (first (flat_map (breaches_at rule r) ts))
its_rule rule r [] = refl
its_rule rule r (t ∷ ts) = by (its_rule rule r ts) (filter (breaks rule r t) (rows_of t r))
  where
    by : broken_of (flat_map (breaches_at rule r) ts) ≡ option_map (λ b. rule) (first (flat_map (breaches_at rule r) ts)) → (rows : List (ℕ × Contents)) → broken_of (map (λ row. record { table = t; row = row.0; rule = rule }) rows ++ flat_map (breaches_at rule r) ts)
        ≡ option_map (λ b. rule) (first (map (λ row. record { table = t; row = row.0; rule = rule }) rows ++ flat_map (breaches_at rule r) ts))
    by rest [] = rest
    by rest (x ∷ xs) = refl

module _ (r : Rows) where
  abbrev two : List Breach
  two = breaches Limit r ++ breaches Reference r

  some_rule : (rule : Rule) (b : Breach) → first (breaches rule r) ≡ Some b → Some b.rule ≡ Some rule
  some_rule rule b e = ap (option_map (λ x. x.rule)) (sym e) ∙ its_rule rule r tables ∙ ap (option_map (λ x. rule)) e

  pub breaks_limit : (b : Breach) → first (breaches Limit r) ≡ Some b → Some Limit ≡ broken r
  breaks_limit b e = sym (ap (option_map (λ x. x.rule)) (first-front two (breaches Unique r) b (first-front (breaches Limit r) (breaches Reference r) b e)) ∙ some_rule Limit b e)

  pub breaks_reference : first (breaches Limit r) ≡ None → (first (breaches Reference r) ≡ None → ⊥) → Some Reference ≡ broken r
  breaks_reference few some = by (first (breaches Reference r)) refl
    where
      by : (o : Option Breach) → first (breaches Reference r) ≡ o → Some Reference ≡ broken r
      by None e = absurd (some e)
      by (Some b) e = sym (ap (option_map (λ x. x.rule)) (first-front two (breaches Unique r) b (first-append (breaches Limit r) (breaches Reference r) few ∙ e)) ∙ some_rule Reference b e)

  past : first (breaches Limit r) ≡ None → first (breaches Reference r) ≡ None → first (two ++ breaches Unique r) ≡ first (breaches Unique r)
  past few there = first-append two (breaches Unique r) (first-append (breaches Limit r) (breaches Reference r) few ∙ there)

  pub breaks_unique : first (breaches Limit r) ≡ None → first (breaches Reference r) ≡ None → (first (breaches Unique r) ≡ None → ⊥) → Some Unique ≡ broken r
  breaks_unique few there some = by (first (breaches Unique r)) refl
    where
      by : (o : Option Breach) → first (breaches Unique r) ≡ o → Some Unique ≡ broken r
      by None e = absurd (some e)
      by (Some b) e = sym (ap (option_map (λ x. x.rule)) (past few there ∙ e) ∙ some_rule Unique b e)

  pub breaks_none : first (breaches Limit r) ≡ None → first (breaches Reference r) ≡ None → first (breaches Unique r) ≡ None → None ≡ broken r
  breaks_none few there alone = sym (ap (option_map (λ x. x.rule)) (past few there ∙ alone))

nothing_broken : (o : Option Breach) → option_map (λ b. b.rule) o ≡ None → o ≡ None
nothing_broken None e = refl
nothing_broken (Some b) e = cc

pub unbroken_sound : (r : Rows) → broken r ≡ None → Sound r
unbroken_sound r e = is_sound r (nothing_broken (breach r) e)

-- ---- lists of places

not_there : (m : Map key_cmp Contents) (k : Key) (ks : List Key) → list_all (maps.has m) ks ≡ true → maps.has m k ≡ false → has_key ks k ≡ false
not_there m k [] all none = refl
not_there m k (x ∷ xs) all none = by (not_there m k xs (second_so (maps.has m x) _ all) none) (same_key k x) refl
  where
    by : has_key xs k ≡ false → (b : Bool) → same_key k x ≡ b → has_key (x ∷ xs) k ≡ false
    by rest true e = absurd (true≢false (sym (first_so (maps.has m x) _ all) ∙ ap (maps.has m) (sym (tied k x e)) ∙ none))
    by rest false e = ap (λ b. b || has_key xs k) e ∙ rest

-- each of these is there, where it was
all_still : (p q : Key → Bool) (ks : List Key) → ((x : Key) → has_key ks x ≡ true → p x ≡ true → q x ≡ true) → list_all p ks ≡ true → list_all q ks ≡ true
all_still p q [] so all = refl
all_still p q (x ∷ xs) so all =
    both (q x) _ (so x (ap (λ b. b || has_key xs x) (itself x)) (first_so (p x) _ all)) (all_still p q xs (λ y h. so y (later (same_key y x) (has_key xs y) h)) (second_so (p x) _ all))
  where
    later : (a b : Bool) → b ≡ true → (a || b) ≡ true
    later true b h = refl
    later false b h = h

named_by : (r : Rows) (k x : Key) (row : Contents) → row_at r k ≡ Some row → names row x ≡ true → is_named r.rows x ≡ false → ⊥
named_by r k x row is name none =
    true≢false (sym (found key_exact (λ e. not (names e.1 x)) k row r.rows.list (none_any (λ e. names e.1 x) r.rows.list none) is) ∙ ap not name)

agree_symm : (cs : List Column) (a b : Contents) → agree cs a b ≡ agree cs b a
agree_symm [] a b = refl
agree_symm (c ∷ cs) a b = λ i. hold_symm (atoms_at a c) (atoms_at b c) i && agree_symm cs a b i
  where
    hold_symm : (xs ys : List Atom) → hold_same xs ys ≡ hold_same ys xs
    hold_symm [] [] = refl
    hold_symm [] (y ∷ ys) = refl
    hold_symm (x ∷ xs) [] = refl
    hold_symm (x ∷ xs) (y ∷ ys) = same_atoms_laws.symm (x ∷ xs) (y ∷ ys)

share_symm : (keys : List (List Column)) (a b : Contents) → list_any (λ cs. agree cs a b) keys ≡ list_any (λ cs. agree cs b a) keys
share_symm [] a b = refl
share_symm (cs ∷ keys) a b = λ i. agree_symm cs a b i || share_symm keys a b i

-- ---- a breach is at a place that was written

module _ (r : Rows) where
  -- where no reference is broken none dangles
  no_dangling : first (breaches Reference r) ≡ None → (k : Key) (o : Option Contents) → row_at r k ≡ o → dangles r k o ≡ false
  no_dangling e k (Some row) is = not_on (not (list_all (maps.has r.rows) (references row))) (row_passes r k.0 (λ x. not (breaks Reference r k.0 x)) (kept Reference r e k.0) k.1 row is)
  no_dangling e k None is =
      any_none (λ e. names e.1 k) r.rows.list (all_entries (λ e. not (names e.1 k)) r.rows.list r.rows.sorted (λ q row there.
      not_off (names row k) (not_there r.rows k (references row) (all_of q row there) (ap is_some is))))
    where
      twice : (b : Bool) → not (not b) ≡ true → b ≡ true
      twice true h = refl
      twice false h = h

      all_of : (q : Key) (row : Contents) → row_at r q ≡ Some row → list_all (maps.has r.rows) (references row) ≡ true
      all_of q row there = twice (list_all (maps.has r.rows) (references row)) (row_passes r q.0 (λ x. not (breaks Reference r q.0 x)) (kept Reference r e q.0) q.1 row there)

  pub some_dangles : (b : Images) → any_dangles r b.list ≡ true → first (breaches Reference r) ≡ None → ⊥
  some_dangles b h e =
      true≢false (sym h ∙ any_none (λ e. dangles r e.0 (row_at r e.0)) b.list (all_entries (λ e. not (dangles r e.0 (row_at r e.0))) b.list b.sorted (λ k o is.
      not_off (dangles r k (row_at r k)) (no_dangling e k (row_at r k) refl))))

  no_twin : first (breaches Unique r) ≡ None → (k : Key) (o : Option Contents) → row_at r k ≡ o → doubled r k o ≡ false
  no_twin e k None is = refl
  no_twin e k (Some row) is = not_on (has_twin r k.0 (k.1, row)) (row_passes r k.0 (λ x. not (breaks Unique r k.0 x)) (kept Unique r e k.0) k.1 row is)

  pub some_doubled : (b : Images) → any_doubled r b.list ≡ true → first (breaches Unique r) ≡ None → ⊥
  some_doubled b h e =
      true≢false (sym h ∙ any_none (λ e. doubled r e.0 (row_at r e.0)) b.list (all_entries (λ e. not (doubled r e.0 (row_at r e.0))) b.list b.sorted (λ k o is.
      not_off (doubled r k (row_at r k)) (no_twin e k (row_at r k) refl))))

module _ (b : Images) (counter : ℕ) (r : Rows) where
  abbrev before : Rows
  before = restored b counter r

  -- what no image shows, none of them shows
  at_image : (bad : Key → Option Contents → Bool) → list_any (λ e. bad e.0 (row_at r e.0)) b.list ≡ false → (k : Key) (o : Option Contents) → maps.get b k ≡ Some o → bad k (row_at r k) ≡ false
  at_image bad none k o is =
      not_on (bad k (row_at r k)) (found key_exact (λ e. not (bad e.0 (row_at r e.0))) k o b.list (none_any (λ e. bad e.0 (row_at r e.0)) b.list none) is)

  pub none_dangles : any_dangles r b.list ≡ false → Sound before → first (breaches Reference r) ≡ None
  none_dangles none sound =
      unbroken Reference r (λ t. rows_pass r t (λ x. not (breaks Reference r t x)) (λ i row is. ap (λ x. not (not x)) (one (t, i) row is (maps.get b (t, i)) refl))) tables
    where
      off : (x : Bool) → not x ≡ false → x ≡ true
      off true e = refl
      off false e = sym e

      there : (k : Key) (o : Option Contents) → dangles r k o ≡ false → is_named r.rows k ≡ true → row_at r k ≡ o → maps.has r.rows k ≡ true
      there k None fine named is = absurd (true≢false (sym named ∙ fine))
      there k (Some row) fine named is = ap is_some is

      named_yes : (k x : Key) (row : Contents) → row_at r k ≡ Some row → names row x ≡ true → (n : Bool) → is_named r.rows x ≡ n → n ≡ true
      named_yes k x row is name true e = refl
      named_yes k x row is name false e = absurd (named_by r k x row is name e)

      still : (k : Key) (row : Contents) → row_at r k ≡ Some row → (x : Key) → names row x ≡ true → maps.has before.rows x ≡ true → (o : Option (Option Contents)) → maps.get b x ≡ o → maps.has r.rows x ≡ true
      still k row is x name was None e = ap is_some (sym (untouched b counter r x e)) ∙ was
      still k row is x name was (Some o) e =
          there x (row_at r x) (at_image (dangles r) none x o e) (named_yes k x row is name (is_named r.rows x) refl) refl

      one : (k : Key) (row : Contents) → row_at r k ≡ Some row → (o : Option (Option Contents)) → maps.get b k ≡ o → list_all (maps.has r.rows) (references row) ≡ true
      one k row is (Some o) e = off (list_all (maps.has r.rows) (references row)) (ap (dangles r k) (sym is) ∙ at_image (dangles r) none k o e)
      one k row is None e =
          all_still (maps.has before.rows) (maps.has r.rows) (references row) (λ x name was. still k row is x name was (maps.get b x) refl) (sound.there k row (untouched b counter r k e ∙ is))

  pub none_doubled : any_doubled r b.list ≡ false → Sound before → first (breaches Unique r) ≡ None
  none_doubled none sound = unbroken Unique r (λ t. rows_pass r t (λ x. not (breaks Unique r t x)) (λ i a is. not_off (has_twin r t (i, a)) (one t i a is (maps.get b (t, i)) refl))) tables
    where
      twin_free : (t : Table) (i : ℕ) (a : Contents) → row_at r (t, i) ≡ Some a → (o : Option Contents) → maps.get b (t, i) ≡ Some o → has_twin r t (i, a) ≡ false
      twin_free t i a is o e = ap (doubled r (t, i)) (sym is) ∙ at_image (doubled r) none (t, i) o e

      off : (x : Bool) → not (not x && false) ≡ true
      off true = refl
      off false = refl

      swap : (i j : ℕ) → (j == i) ≡ (i == j)
      swap i j = by (i == j) refl
        where
          by : (x : Bool) → (i == j) ≡ x → (j == i) ≡ (i == j)
          by true e = grind (arith, nat_tests, e)
          by false e = grind (arith, nat_tests, e)

      apart : (t : Table) (i j : ℕ) (a c : Contents) → row_at r (t, i) ≡ Some a → row_at r (t, j) ≡ Some c → maps.get b (t, i) ≡ None → (o : Option (Option Contents)) → maps.get b (t, j) ≡ o
          → not (not (j == i) && list_any (λ cs. agree cs a c) (unique_keys t)) ≡ true
      apart t i j a c is_a is_c e (Some o) f =
          (λ n. not (not (swap i j n) && share_symm (unique_keys t) a c n))
          ∙ row_passes r t (λ x. not (not (x.0 == j) && list_any (λ cs. agree cs c x.1) (unique_keys t)))
          (none_any (λ x. not (x.0 == j) && list_any (λ cs. agree cs c x.1) (unique_keys t)) (rows_of t r) (twin_free t j c is_c o f)) i a is_a
      apart t i j a c is_a is_c e None f = by (list_any (λ cs. agree cs a c) (unique_keys t)) refl
        where
          by : (shared : Bool) → list_any (λ cs. agree cs a c) (unique_keys t) ≡ shared → not (not (j == i) && list_any (λ cs. agree cs a c) (unique_keys t)) ≡ true
          by true g =
              let same : (j == i) ≡ true =
              (let is : i ≡ j = sound.unique t i j a c (untouched b counter r (t, i) e ∙ is_a) (untouched b counter r (t, j) f ∙ is_c) g in grind (arith, nat_tests, is)) in
              ap (λ x. not (not x && list_any (λ cs. agree cs a c) (unique_keys t))) same
          by false g = ap (λ x. not (not (j == i) && x)) g ∙ off (j == i)

      one : (t : Table) (i : ℕ) (a : Contents) → row_at r (t, i) ≡ Some a → (o : Option (Option Contents)) → maps.get b (t, i) ≡ o → has_twin r t (i, a) ≡ false
      one t i a is (Some o) e = twin_free t i a is o e
      one t i a is None e =
          any_none (λ x. not (x.0 == i) && list_any (λ cs. agree cs a x.1) (unique_keys t)) (rows_of t r)
          (rows_pass r t (λ x. not (not (x.0 == i) && list_any (λ cs. agree cs a x.1) (unique_keys t))) (λ j c is_c. apart t i j a c is is_c e (maps.get b (t, j)) refl))
