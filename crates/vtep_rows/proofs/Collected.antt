-- What is left after the rows that nothing names went.
use Rattle.std.proofs.Common.{◌≡◌, ℕ, zero, suc, ◌<◌, ◌≤◌, Bool, true, false, cond, not, T, ◌&&◌, ◌||◌, nat_lt, nat_le, List, [], ◌∷◌, ◌++◌, map, length, is_some, Option, Some, None, refl, sym, ap, ◌∙◌, true≢false, arith}
use Rattle.std.proofs.lemmas.Bool.Decides.{nat_tests}
use Rattle.std.proofs.lemmas.List.Folds.{list_all-append}
use Rattle.std.specs.List.{filter, filter_map, flat_map, cons_option, list_all, list_any}
use Rattle.std.specs.Ordering.{is_lt, nat_cmp, ordering_then}
use Rattle.std.specs.Cmp.{Equal-is, eq_by_cmp_equiv, first_so, second_so, ranked}
use Rattle.std.specs.declared.cmp.Ordering.{Ordering}
use Rattle.std.specs.declared.cmp.Ordering.TheVariants.{Less, Equal, Greater}
use Rattle.std.specs.FinMap.{find, is_sorted}
use Rattle.std.specs.FinMap.Entries.{below_all, find-where_key, is_some-find}
use Rattle.vtep_base.specs.Maps as maps
use Rattle.vtep_base.specs.Maps.{Map}
use Rattle.ovsdb_values.specs.declared.atoms.Atom.{Atom}
use Rattle.ovsdb_values.specs.declared.atoms.Atom.TheVariants.{Id}
use Rattle.ovsdb_values.specs.declared.datums.Datum.{Datum}
use Rattle.ovsdb_values.specs.declared.datums.Datum.TheVariants as datum
use Rattle.vtep_schema.specs.declared.Table.{Table}
use Rattle.vtep_schema.specs.declared.Table.TheVariants.{Global}
use Rattle.vtep_schema.specs.declared.Column.{Column}
use Rattle.vtep_schema.specs.declared.rules.Domain.{Domain}
use Rattle.vtep_schema.specs.declared.rules.Domain.TheVariants as domain
use Rattle.vtep_schema.specs.declared.rules.ColumnRule.{ColumnRule}
use Rattle.vtep_schema.specs.Tables.{table_rule, table_place, same_table, same_column, column_rule, columns_of, belongs}
use Rattle.vtep_rows.specs.Row.{Contents, is_row, allowed, reference, reference_list, pair_references, references_in, references}
use Rattle.vtep_rows.specs.Rows.{Key, key_cmp, same_key, Rows, IsRows, names, has_key, is_named, stays, collected_in, collected, IsClosed, IsCollected, unnamed_from, without}
use Rattle.vtep_rows.specs.Orders.{key_total, key_exact}
use Rattle.vtep_rows.proofs.Entries.{both, all_at, all_filter, t_first, t_second, less}
use Rattle.vtep_rows.proofs.RowLaws.{same_column_exact}
use Rattle.vtep_rows.proofs.Kept.{same_table_exact, same_rows, le_so, so_le}

-- ---- tests

and_true : (b : Bool) → (b && true) ≡ b
and_true true = refl
and_true false = refl

and_false : (b : Bool) → (b && false) ≡ false
and_false true = refl
and_false false = refl

or_false : (b : Bool) → (b || false) ≡ b
or_false true = refl
or_false false = refl

or_right : (a b : Bool) → b ≡ true → (a || b) ≡ true
or_right true b h = refl
or_right false b h = h

or_both : (a b c : Bool) → (a || (b || c)) ≡ ((a || b) || c)
or_both true b c = refl
or_both false b c = refl

or_so : (a b c : Bool) → (b ≡ true → c ≡ true) → (a || b) ≡ true → (a || c) ≡ true
or_so true b c so h = refl
or_so false b c so h = so h

module _ {A : Type 0} where
  all_cons : (p : A → Bool) (x : A) (xs : List A) → list_all p (x ∷ []) ≡ p x
  all_cons p x xs = and_true (p x)

  any_append : (p : A → Bool) (xs ys : List A) → list_any p (xs ++ ys) ≡ (list_any p xs || list_any p ys)
  any_append p [] ys = refl
  any_append p (x ∷ xs) ys = ap (λ b. p x || b) (any_append p xs ys) ∙ or_both (p x) (list_any p xs) (list_any p ys)

  any_filter : (p q : A → Bool) (xs : List A) → list_any p (filter q xs) ≡ list_any (λ x. q x && p x) xs
  any_filter p q [] = refl
  any_filter p q (x ∷ xs) =
      elim (q x) as (λ b. list_any p (cond b (x ∷ filter q xs) (filter q xs)) ≡ ((b && p x) || list_any (λ y. q y && p y) xs)) [
        | true ↦ ap (λ b. p x || b) (any_filter p q xs)
        | false ↦ any_filter p q xs
      ]

  pub any_filter_so : (p q : A → Bool) (xs : List A) → list_any p (filter q xs) ≡ true → list_any p xs ≡ true
  any_filter_so p q [] h = h
  any_filter_so p q (x ∷ xs) h =
      elim (q x) as (λ b. list_any p (cond b (x ∷ filter q xs) (filter q xs)) ≡ true → (p x || list_any p xs) ≡ true) [
        | true ↦ or_so (p x) (list_any p (filter q xs)) (list_any p xs) (any_filter_so p q xs)
        | false ↦ λ g. or_right (p x) (list_any p xs) (any_filter_so p q xs g)
      ] h

  filter_filter : (p s : A → Bool) → ((x : A) → p x ≡ true → s x ≡ true) → (xs : List A) → filter p (filter s xs) ≡ filter p xs
  filter_filter p s so [] = refl
  filter_filter p s so (x ∷ xs) =
      elim (s x) as (λ b. s x ≡ b → filter p (cond b (x ∷ filter s xs) (filter s xs)) ≡ cond (p x) (x ∷ filter p xs) (filter p xs)) [
        | true ↦ λ _. ap (λ ys. cond (p x) (x ∷ ys) ys) (filter_filter p s so xs)
        | false ↦ λ e. filter_filter p s so xs ∙ sym (ap (λ b. cond b (x ∷ filter p xs) (filter p xs)) (off (p x) refl e))
      ] refl
    where
      off : (b : Bool) → p x ≡ b → s x ≡ false → p x ≡ false
      off true e g = absurd (true≢false (sym (so x e) ∙ g))
      off false e g = e

  filter_short : (p : A → Bool) (xs : List A) → length (filter p xs) ≤ length xs
  filter_short p [] = omega arith
  filter_short p (x ∷ xs) =
      let rest : length (filter p xs) ≤ length xs = filter_short p xs in
      elim (p x) as (λ b. length (cond b (x ∷ filter p xs) (filter p xs)) ≤ length (x ∷ xs)) [ true ↦ omega (arith, rest) | false ↦ omega (arith, rest) ]

  filter_all : (p : A → Bool) (xs : List A) → length xs ≤ length (filter p xs) → filter p xs ≡ xs
  filter_all p [] h = refl
  filter_all p (x ∷ xs) h =
      let short : length (filter p xs) ≤ length xs = filter_short p xs in
      elim (p x) as (λ b. length (x ∷ xs) ≤ length (cond b (x ∷ filter p xs) (filter p xs)) → cond b (x ∷ filter p xs) (filter p xs) ≡ x ∷ xs) [
        | true ↦ λ g. ap (λ ys. x ∷ ys) (filter_all p xs (omega (arith, g)))
        | false ↦ λ g. absurd (omega (arith, g, short))
      ] h

  all_flat : {B : Type 0} (p : B → Bool) (f : A → List B) (q : A → Bool) → ((x : A) → q x ≡ true → list_all p (f x) ≡ true) → (xs : List A) → list_all q xs ≡ true → list_all p (flat_map f xs) ≡ true
  all_flat p f q so [] h = refl
  all_flat p f q so (x ∷ xs) h =
      list_all-append p (f x) (flat_map f xs)
      ∙ both (list_all p (f x)) _ (so x (first_so (q x) (list_all q xs) h)) (all_flat p f q so xs (second_so (q x) (list_all q xs) h))

-- ---- rows name rows of root tables, or of later tables

abbrev down : Table → Key → Bool
down t k = (table_rule k.0).root || nat_lt (table_place t) (table_place k.0)

abbrev domain_down : Table → Domain → Bool
domain_down t (domain.Row u) = (table_rule u).root || nat_lt (table_place t) (table_place u)
domain_down t _ = true

abbrev value_down : Table → Option Domain → Bool
value_down t None = true
value_down t (Some d) = domain_down t d

abbrev rule_down : Table → Column → Bool
rule_down t c = domain_down t (column_rule c).key && value_down t (column_rule c).value

tables_down : (t : Table) → list_all (rule_down t) (columns_of t) ≡ true
tables_down Global = refl
tables_down _ = refl

reference_down : (t : Table) (d : Domain) (a : Atom) → domain_down t d ≡ true → list_all (down t) (reference_list (reference d a)) ≡ true
reference_down t (domain.Row u) (Id i) h = both (down t (u, i)) true h refl
reference_down t _ _ h = refl

some_first : (p : Key → Bool) (o : Option Key) (ks : List Key) → list_all p (cons_option o ks) ≡ (list_all p (reference_list o) && list_all p ks)
some_first p None ks = refl
some_first p (Some k) ks = ap (λ b. b && list_all p ks) (sym (and_true (p k)))

atoms_down : (t : Table) (d : Domain) (xs : List Atom) → domain_down t d ≡ true → list_all (down t) (filter_map (reference d) xs) ≡ true
atoms_down t d [] h = refl
atoms_down t d (a ∷ xs) h =
    some_first (down t) (reference d a) (filter_map (reference d) xs)
    ∙ both (list_all (down t) (reference_list (reference d a))) _ (reference_down t d a h) (atoms_down t d xs h)

pair_down : (t : Table) (k : Domain) (v : Option Domain) (p : Atom × Atom) → domain_down t k ≡ true → value_down t v ≡ true → list_all (down t) (pair_references k v p) ≡ true
pair_down t k None p h g = reference_down t k p.0 h
pair_down t k (Some v) p h g =
    list_all-append (down t) (reference_list (reference k p.0)) (reference_list (reference v p.1))
    ∙ both (list_all (down t) (reference_list (reference k p.0))) _ (reference_down t k p.0 h) (reference_down t v p.1 g)

pairs_down : (t : Table) (k : Domain) (v : Option Domain) (ps : List (Atom × Atom)) → domain_down t k ≡ true → value_down t v ≡ true → list_all (down t) (flat_map (pair_references k v) ps) ≡ true
pairs_down t k v [] h g = refl
pairs_down t k v (p ∷ ps) h g =
    list_all-append (down t) (pair_references k v p) (flat_map (pair_references k v) ps)
    ∙ both (list_all (down t) (pair_references k v p)) _ (pair_down t k v p h g) (pairs_down t k v ps h g)

value_in_down : (t : Table) (r : ColumnRule) (d : Datum) → domain_down t r.key ≡ true → value_down t r.value ≡ true → list_all (down t) (references_in r d) ≡ true
value_in_down t r (datum.Set xs) h g = atoms_down t r.key xs h
value_in_down t r (datum.Map ps) h g = pairs_down t r.key r.value ps h g

row_down : (row : Contents) → is_row row ≡ true → list_all (down row.table) (references row) ≡ true
row_down row h =
    all_flat (down row.table) (λ e. references_in (column_rule e.0) e.1) (λ e. belongs e.0 row.table && allowed e.0 e.1)
    (λ e fits.
    let here : rule_down row.table e.0 ≡ true = all_at (rule_down row.table) (same_column e.0) e.0 (λ x s. sym (same_column_exact e.0 x s)) (columns_of row.table) (tables_down row.table) (first_so _ _ fits) in
    value_in_down row.table (column_rule e.0) e.1 (first_so _ _ here) (second_so _ _ here))
    row.values.list (second_so _ _ h)

abbrev AllDown : List (Key × Contents) → Type 0
AllDown es = list_all (λ e. list_all (down e.0.0) (references e.1)) es ≡ true

all_down : (es : List (Key × Contents)) → list_all (λ e. same_table e.0.0 e.1.table) es ≡ true → list_all (λ e. is_row e.1) es ≡ true → AllDown es
all_down [] h g = refl
all_down (e ∷ es) h g =
    let is : e.1.table ≡ e.0.0 = sym (same_table_exact e.0.0 e.1.table (first_so _ _ h)) in
    both (list_all (down e.0.0) (references e.1)) _ (ap (λ t. list_all (down t) (references e.1)) (sym is) ∙ row_down e.1 (first_so _ _ g)) (all_down es (second_so _ _ h) (second_so _ _ g))

-- ---- what one pass finds

abbrev naming : (Key → Bool) → Key → List (Key × Contents) → Bool
naming h k es = list_any (λ e. h e.0 && names e.1 k) es

not_named : (t : Table) (k : Key) (ks : List Key) → (table_rule k.0).root ≡ false → table_place k.0 ≤ table_place t → list_all (down t) ks ≡ true → list_any (same_key k) ks ≡ false
not_named t k [] leaf le h = refl
not_named t k (x ∷ xs) leaf le h =
    elim (same_key k x) as (λ b. same_key k x ≡ b → (b || list_any (same_key k) xs) ≡ false) [
      | true ↦ λ e.
          let same : x ≡ k = sym (key_exact k x ((Equal-is (key_cmp k x)).0 e)) in
          let lower : (false || nat_lt (table_place t) (table_place k.0)) ≡ true = ap (λ b. b || nat_lt (table_place t) (table_place k.0)) (sym leaf) ∙ ap (down t) (sym same) ∙ first_so (down t x) (list_all (down t) xs) h in
          let less_than : table_place t < table_place k.0 = grind (arith, nat_tests, lower) in
          absurd (omega (arith, less_than, le))
      | false ↦ λ _. not_named t k xs leaf le (second_so (down t x) (list_all (down t) xs) h)
    ] refl

off : (b : Bool) → ((b && false) || false) ≡ false
off true = refl
off false = refl

none_later : (h : Key → Bool) (k : Key) (es : List (Key × Contents)) → (table_rule k.0).root ≡ false → list_all (λ f. nat_le (table_place k.0) (table_place f.0.0)) es ≡ true → AllDown es → naming h k es ≡ false
none_later h k [] leaf le downs = refl
none_later h k (e ∷ es) leaf le downs =
    let here : names e.1 k ≡ false = not_named e.0.0 k (references e.1) leaf (so_le _ _ (first_so _ _ le)) (first_so _ _ downs) in
    let rest : naming h k es ≡ false = none_later h k es leaf (second_so _ _ le) (second_so _ _ downs) in
    (λ i. (h e.0 && here i) || rest i) ∙ off (h e.0)

place_le : (a b : Key) (r : Ordering) → r ≡ nat_cmp (table_place a.0) (table_place b.0) → ordering_then r (nat_cmp a.1 b.1) ≡ Less → table_place a.0 ≤ table_place b.0
place_le a b Less e h = let lt : table_place a.0 < table_place b.0 = ranked (table_place a.0) (table_place b.0) Less e in omega (arith, lt)
place_le a b Equal e h = let eq : table_place a.0 ≡ table_place b.0 = ranked (table_place a.0) (table_place b.0) Equal e in omega (arith, eq)
place_le a b Greater e h = cc

later_tables : (k : Key) (es : List (Key × Contents)) → T (below_all key_cmp k es) → list_all (λ f. nat_le (table_place k.0) (table_place f.0.0)) es ≡ true
later_tables k [] h = refl
later_tables k (f ∷ es) h =
    both _ _ (le_so (table_place k.0) (table_place f.0.0) (place_le k f.0 (nat_cmp (table_place k.0) (table_place f.0.0)) refl (less (key_cmp k f.0) (t_first (is_lt (key_cmp k f.0)) (below_all key_cmp k es) h))))
    (later_tables k es (t_second (is_lt (key_cmp k f.0)) (below_all key_cmp k es) h))

abbrev keys_in : List (Key × Contents) → List Key
keys_in es = map (λ e. e.0) es

abbrev is_root : Key → Bool
is_root k = (table_rule k.0).root

rooted : (a b n : Bool) → (a ≡ false → n ≡ false) → (a || (b || n)) ≡ (a || b)
rooted true b n h = refl
rooted false b n h = ap (λ x. b || x) (h refl) ∙ or_false b

one_pass : (h : Key → Bool) (seen : List Key) (es : List (Key × Contents)) → T (is_sorted key_cmp es) → AllDown es
    → ((k : Key) → list_any (same_key k) (keys_in es) ≡ true → h k ≡ (is_root k || (has_key seen k || naming h k es)))
    → unnamed_from seen es ≡ keys_in (filter (λ e. not (h e.0)) es)
one_pass h seen [] sorted downs is = refl
one_pass h seen (e ∷ es) sorted downs is =
    ap (λ b. cond b (unnamed_from (seen ++ references e.1) es) (e.0 ∷ unnamed_from seen es)) (sym live)
    ∙ elim (h e.0) as (λ b. h e.0 ≡ b → cond b (unnamed_from (seen ++ references e.1) es) (e.0 ∷ unnamed_from seen es) ≡ keys_in (cond (not b) (e ∷ filter (λ f. not (h f.0)) es) (filter (λ f. not (h f.0)) es))) [
      | true ↦ λ on. one_pass h (seen ++ references e.1) es rest (second_so _ _ downs) (λ k there.
          is k (or_right (same_key k e.0) _ there)
          ∙ ap (λ b. is_root k || b)
          (ap (λ b. has_key seen k || ((b && names e.1 k) || naming h k es)) on
          ∙ or_both (has_key seen k) (names e.1 k) (naming h k es)
          ∙ ap (λ b. b || naming h k es) (sym (any_append (same_key k) seen (references e.1)))))
      | false ↦ λ gone. ap (λ ks. e.0 ∷ ks) (one_pass h seen es rest (second_so _ _ downs) (λ k there.
          is k (or_right (same_key k e.0) _ there) ∙ ap (λ b. is_root k || (has_key seen k || ((b && names e.1 k) || naming h k es))) gone))
    ] refl
  where
    rest : T (is_sorted key_cmp es)
    rest = t_second (below_all key_cmp e.0 es) (is_sorted key_cmp es) sorted

    itself : same_key e.0 e.0 ≡ true
    itself = (eq_by_cmp_equiv key_total).refl e.0

    live : h e.0 ≡ (is_root e.0 || has_key seen e.0)
    live =
        is e.0 (ap (λ b. b || list_any (same_key e.0) (keys_in es)) itself)
        ∙ rooted (is_root e.0) (has_key seen e.0) (naming h e.0 (e ∷ es)) (λ leaf.
        none_later h e.0 (e ∷ es) leaf
        (both _ _ (le_so (table_place e.0.0) (table_place e.0.0) (omega arith)) (later_tables e.0 es (t_first (below_all key_cmp e.0 es) (is_sorted key_cmp es) sorted))) downs)

-- ---- parts of a map

get-keep : (p : Key → Bool) (m : Map key_cmp Contents) (k : Key) → maps.get (maps.keep p m) k ≡ cond (p k) (maps.get m k) None
get-keep p m k = find-where_key key_cmp p k (λ x tie. ap p (sym (key_exact k x tie))) m.list

has-keep : (p : Key → Bool) (m : Map key_cmp Contents) (k : Key) → maps.has (maps.keep p m) k ≡ (maps.has m k && p k)
has-keep p m k =
    ap is_some (get-keep p m k)
    ∙ elim (p k) as (λ b. is_some (cond b (maps.get m k) None) ≡ (maps.has m k && b)) [ true ↦ sym (and_true (maps.has m k)) | false ↦ sym (and_false (maps.has m k)) ]

none_of : {A : Type 0} (x : Option A) → is_some x ≡ false → x ≡ None
none_of None e = refl
none_of (Some a) e = absurd (true≢false e)

abbrev IsExact : Map key_cmp Contents → Map key_cmp Contents → Type 0
IsExact m x = (k : Key) → maps.has x k ≡ (maps.has m k && stays x k)

abbrev IsPart : Map key_cmp Contents → Map key_cmp Contents → Type 0
IsPart m x = (k : Key) → maps.has x k ≡ true → maps.get x k ≡ maps.get m k

part_is : (m x : Map key_cmp Contents) → IsPart m x → x ≡ maps.keep (maps.has x) m
part_is m x part = maps.same_map key_total key_exact x (maps.keep (maps.has x) m) (λ q. at q (maps.has x q) refl ∙ sym (get-keep (maps.has x) m q))
  where
    at : (q : Key) (b : Bool) → maps.has x q ≡ b → maps.get x q ≡ cond (maps.has x q) (maps.get m q) None
    at q true e = part q e ∙ sym (ap (λ b. cond b (maps.get m q) None) e)
    at q false e = none_of (maps.get x q) e ∙ sym (ap (λ b. cond b (maps.get m q) None) e)

named_is : (m x : Map key_cmp Contents) (k : Key) → IsPart m x → is_named x k ≡ naming (maps.has x) k m.list
named_is m x k part = ap (λ y. list_any (λ e. names e.1 k) y.list) (part_is m x part) ∙ any_filter (λ e. names e.1 k) (λ e. maps.has x e.0) m.list

in_map : (m : Map key_cmp Contents) (k : Key) → list_any (same_key k) (keys_in m.list) ≡ maps.has m k
in_map m k = sym (is_some-find key_cmp k m.list)

-- one pass finds what an exact part lacks
pub pass_finds : (m x : Map key_cmp Contents) → AllDown m.list → IsExact m x → IsPart m x → unnamed_from [] m.list ≡ keys_in (filter (λ e. not (maps.has x e.0)) m.list)
pass_finds m x downs exact part =
    one_pass (maps.has x) [] m.list m.sorted downs (λ k there.
    exact k ∙ ap (λ b. b && stays x k) (sym (in_map m k) ∙ there) ∙ ap (λ b. is_root k || b) (named_is m x k part))

in_filtered : (p : Key → Bool) (k : Key) (es : List (Key × Contents)) → list_any (same_key k) (keys_in (filter (λ e. p e.0) es)) ≡ (list_any (same_key k) (keys_in es) && p k)
in_filtered p k [] = refl
in_filtered p k (e ∷ es) =
    elim (same_key k e.0) as (λ b. same_key k e.0 ≡ b → list_any (same_key k) (keys_in (cond (p e.0) (e ∷ filter (λ f. p f.0) es) (filter (λ f. p f.0) es))) ≡ ((b || list_any (same_key k) (keys_in es)) && p k)) [
      | true ↦ λ tie.
          let same : p e.0 ≡ p k = ap p (sym (key_exact k e.0 ((Equal-is (key_cmp k e.0)).0 tie))) in
          elim (p e.0) as (λ b. p e.0 ≡ b → list_any (same_key k) (keys_in (cond b (e ∷ filter (λ f. p f.0) es) (filter (λ f. p f.0) es))) ≡ p k) [
            | true ↦ λ on. ap (λ b. b || list_any (same_key k) (keys_in (filter (λ f. p f.0) es))) tie ∙ sym on ∙ same
            | false ↦ λ gone. in_filtered p k es ∙ ap (λ b. list_any (same_key k) (keys_in es) && b) (sym same ∙ gone) ∙ and_false _ ∙ sym gone ∙ same
          ] refl
      | false ↦ λ apart.
          elim (p e.0) as (λ b. list_any (same_key k) (keys_in (cond b (e ∷ filter (λ f. p f.0) es) (filter (λ f. p f.0) es))) ≡ (list_any (same_key k) (keys_in es) && p k)) [
            | true ↦ ap (λ b. b || list_any (same_key k) (keys_in (filter (λ f. p f.0) es))) apart ∙ in_filtered p k es
            | false ↦ in_filtered p k es
          ]
    ] refl

-- ---- the collection

same_part : (n : ℕ) (m : Map key_cmp Contents) → IsPart m (collected_in n m)
same_part zero m k h = refl
same_part (suc n) m k h =
    let inner : maps.get (collected_in n (maps.keep (stays m) m)) k ≡ maps.get (maps.keep (stays m) m) k = same_part n (maps.keep (stays m) m) k h in
    inner ∙ kept (stays m k) refl (sym (ap is_some inner) ∙ h)
  where
    kept : (b : Bool) → stays m k ≡ b → maps.has (maps.keep (stays m) m) k ≡ true → maps.get (maps.keep (stays m) m) k ≡ maps.get m k
    kept true e g = get-keep (stays m) m k ∙ ap (λ b. cond b (maps.get m k) None) e
    kept false e g = absurd (true≢false (sym g ∙ ap is_some (get-keep (stays m) m k ∙ ap (λ b. cond b (maps.get m k) None) e)))

any_left : (p : Key × Contents → Bool) (n : ℕ) (m : Map key_cmp Contents) → list_any p (collected_in n m).list ≡ true → list_any p m.list ≡ true
any_left p zero m h = h
any_left p (suc n) m h = any_filter_so p (λ e. stays m e.0) m.list (any_left p n (maps.keep (stays m) m) h)

stays_so : (n : ℕ) (m : Map key_cmp Contents) (k : Key) → stays (collected_in n m) k ≡ true → stays m k ≡ true
stays_so n m k = or_so (is_root k) (is_named (collected_in n m) k) (is_named m k) (any_left (λ e. names e.1 k) n m)

stable : (n : ℕ) (m : Map key_cmp Contents) → maps.keep (stays m) m ≡ m → collected_in n m ≡ m
stable zero m e = refl
stable (suc n) m e = ap (collected_in n) e ∙ stable n m e

nothing_in : (m : Map key_cmp Contents) (k : Key) (es : List (Key × Contents)) → m.list ≡ es → length es ≤ 0 → maps.has m k ≡ false
nothing_in m k [] e h = ap (λ xs. is_some (find key_cmp k xs)) e
nothing_in m k (x ∷ xs) e h = absurd (omega (arith, h))

through : (a s t : Bool) → (t ≡ true → s ≡ true) → ((a && s) && t) ≡ (a && t)
through true s true so = ap (λ b. b && true) (so refl)
through true true false so = refl
through true false false so = refl
through false s t so = refl

pub exact_in : (n : ℕ) (m : Map key_cmp Contents) → length m.list ≤ n → IsExact m (collected_in n m)
exact_in zero m h k = let none : maps.has m k ≡ false = nothing_in m k m.list refl h in none ∙ sym (ap (λ b. b && stays m k) none)
exact_in (suc n) m h k = round (λ fewer. exact_in n (maps.keep (stays m) m) fewer k) (nat_le (length (maps.keep (stays m) m).list) n) refl
  where
    round : (length (maps.keep (stays m) m).list ≤ n → maps.has (collected_in (suc n) m) k ≡ (maps.has (maps.keep (stays m) m) k && stays (collected_in (suc n) m) k))
        → (b : Bool) → nat_le (length (maps.keep (stays m) m).list) n ≡ b → maps.has (collected_in (suc n) m) k ≡ (maps.has m k && stays (collected_in (suc n) m) k)
    round next true e =
        next (so_le _ _ e)
        ∙ ap (λ b. b && stays (collected_in (suc n) m) k) (has-keep (stays m) m k)
        ∙ through (maps.has m k) (stays m k) (stays (collected_in (suc n) m) k) (stays_so (suc n) m k)
    round next false e =
        let more : n < length (filter (λ f. stays m f.0) m.list) = grind (arith, nat_tests, e) in
        let same : maps.keep (stays m) m ≡ m = maps.same_list (maps.keep (stays m) m) m (filter_all (λ f. stays m f.0) m.list (omega (arith, more, h))) in
        let still : collected_in (suc n) m ≡ m = stable (suc n) m same in
        ap (λ x. maps.has x k) still ∙ ap (λ x. maps.has x k) (sym same) ∙ has-keep (stays m) m k ∙ ap (λ x. maps.has m k && stays x k) (sym still)

largest_in : (n : ℕ) (m : Map key_cmp Contents) (p : Key → Bool) → IsClosed m p → (k : Key) → p k ≡ true → maps.has (collected_in n m) k ≡ true
largest_in zero m p closed k h = (closed k h).0
largest_in (suc n) m p closed k h = largest_in n (maps.keep (stays m) m) p (λ q g. (inside q g, still q g)) k h
  where
    picked : (q : Key) → p q ≡ true → stays m q ≡ true
    picked q g = or_so (is_root q) (is_named (maps.keep p m) q) (is_named m q) (any_filter_so (λ e. names e.1 q) (λ e. p e.0) m.list) (closed q g).1

    inside : (q : Key) → p q ≡ true → maps.has (maps.keep (stays m) m) q ≡ true
    inside q g = has-keep (stays m) m q ∙ both (maps.has m q) (stays m q) (closed q g).0 (picked q g)

    same : maps.keep p (maps.keep (stays m) m) ≡ maps.keep p m
    same = maps.same_list _ _ (filter_filter (λ e. p e.0) (λ e. stays m e.0) (λ e g. picked e.0 g) m.list)

    still : (q : Key) → p q ≡ true → stays (maps.keep p (maps.keep (stays m) m)) q ≡ true
    still q g = ap (λ x. stays x q) same ∙ (closed q g).1

pub is_collected : (r : Rows) → IsCollected r.rows (collected r).rows
is_collected r = record {
  closed = λ k h.
      let part : IsPart r.rows (collected r).rows = same_part (length r.rows.list) r.rows in (
        sym (ap is_some (part k h)) ∙ h,
        ap (λ x. stays x k) (sym (part_is r.rows (collected r).rows part)) ∙ second_so (maps.has r.rows k) (stays (collected r).rows k) (sym (exact_in (length r.rows.list) r.rows (omega arith) k) ∙ h),
      );
  largest = largest_in (length r.rows.list) r.rows;
  same = same_part (length r.rows.list) r.rows;
}

-- ---- the only exact part

not_same : (a b m : Bool) → (a ≡ true → m ≡ true) → (b ≡ true → m ≡ true) → (m && not a) ≡ (m && not b) → a ≡ b
not_same true true m f g e = refl
not_same false false m f g e = refl
not_same true false m f g e = absurd (true≢false (sym (ap (λ x. x && true) (f refl)) ∙ sym e ∙ and_false m))
not_same false true m f g e = absurd (true≢false (sym (ap (λ x. x && true) (g refl)) ∙ e ∙ and_false m))

same_keys : (m x y : Map key_cmp Contents) → AllDown m.list → IsExact m x → IsPart m x → IsExact m y → IsPart m y → (k : Key) → maps.has x k ≡ maps.has y k
same_keys m x y downs ex px ey py k =
    not_same (maps.has x k) (maps.has y k) (maps.has m k) (λ h. sym (ap is_some (px k h)) ∙ h) (λ h. sym (ap is_some (py k h)) ∙ h)
    (ap (λ b. b && not (maps.has x k)) (sym (in_map m k)) ∙ sym (in_filtered (λ q. not (maps.has x q)) k m.list)
    ∙ ap (list_any (same_key k)) (sym (pass_finds m x downs ex px) ∙ pass_finds m y downs ey py)
    ∙ in_filtered (λ q. not (maps.has y q)) k m.list ∙ ap (λ b. b && not (maps.has y k)) (in_map m k))

pub rows_down : (r : Rows) → IsRows r → AllDown r.rows.list
rows_down r rows = all_down r.rows.list rows.tables rows.contents

pub only_one : (r : Rows) (n : Map key_cmp Contents) → IsRows r → IsExact r.rows n → IsPart r.rows n → n ≡ (collected r).rows
only_one r n rows exact part =
    maps.same_map key_total key_exact n (collected r).rows (λ q. at q (maps.has n q) refl)
  where
    whole : IsExact r.rows (collected r).rows
    whole = exact_in (length r.rows.list) r.rows (omega arith)

    its : IsPart r.rows (collected r).rows
    its = same_part (length r.rows.list) r.rows

    same : (q : Key) → maps.has n q ≡ maps.has (collected r).rows q
    same q = same_keys r.rows n (collected r).rows (rows_down r rows) exact part whole its q

    at : (q : Key) (b : Bool) → maps.has n q ≡ b → maps.get n q ≡ maps.get (collected r).rows q
    at q true e = part q e ∙ sym (its q (sym (same q) ∙ e))
    at q false e = none_of (maps.get n q) e ∙ sym (none_of (maps.get (collected r).rows q) (sym (same q) ∙ e))

-- ---- what the code leaves

get-without : (m : Map key_cmp Contents) (ks : List Key) (q : Key) → maps.get (without m ks) q ≡ cond (list_any (same_key q) ks) None (maps.get m q)
get-without m [] q = refl
get-without m (k ∷ ks) q =
    get-without (maps.remove m k) ks q ∙ ap (cond (list_any (same_key q) ks) None) (maps.get-remove key_total m k q)
    ∙ twice (list_any (same_key q) ks) (same_key q k) (maps.get m q)
  where
    twice : (a b : Bool) (x : Option Contents) → cond a None (cond b None x) ≡ cond (b || a) None x
    twice true true x = refl
    twice true false x = refl
    twice false true x = refl
    twice false false x = refl

pub what_is_left : (r : Rows) → IsRows r → without r.rows (unnamed_from [] r.rows.list) ≡ (collected r).rows
what_is_left r rows =
    maps.same_map key_total key_exact _ _ (λ q.
    get-without r.rows (unnamed_from [] r.rows.list) q
    ∙ ap (λ ks. cond (list_any (same_key q) ks) None (maps.get r.rows q)) (pass_finds r.rows (collected r).rows (rows_down r rows) whole its)
    ∙ ap (λ b. cond b None (maps.get r.rows q)) (in_filtered (λ k. not (maps.has (collected r).rows k)) q r.rows.list ∙ ap (λ b. b && not (maps.has (collected r).rows q)) (in_map r.rows q))
    ∙ at q (maps.has (collected r).rows q) refl)
  where
    whole : IsExact r.rows (collected r).rows
    whole = exact_in (length r.rows.list) r.rows (omega arith)

    its : IsPart r.rows (collected r).rows
    its = same_part (length r.rows.list) r.rows

    gone : (x : Option Contents) → cond (is_some x && true) None x ≡ None
    gone None = refl
    gone (Some a) = refl

    at : (q : Key) (b : Bool) → maps.has (collected r).rows q ≡ b → cond (maps.has r.rows q && not (maps.has (collected r).rows q)) None (maps.get r.rows q) ≡ maps.get (collected r).rows q
    at q true e = ap (λ b. cond (maps.has r.rows q && not b) None (maps.get r.rows q)) e ∙ ap (λ b. cond b None (maps.get r.rows q)) (and_false (maps.has r.rows q)) ∙ sym (its q e)
    at q false e = ap (λ b. cond (maps.has r.rows q && not b) None (maps.get r.rows q)) e ∙ gone (maps.get r.rows q) ∙ sym (none_of (maps.get (collected r).rows q) e)

left_keeps : (p : Key × Contents → Bool) (n : ℕ) (m : Map key_cmp Contents) → list_all p m.list ≡ true → list_all p (collected_in n m).list ≡ true
left_keeps p zero m h = h
left_keeps p (suc n) m h = left_keeps p n (maps.keep (stays m) m) (all_filter p (λ e. stays m e.0) m.list h)

pub still_collected : (r : Rows) → IsRows r → IsRows (collected r)
still_collected r rows = record {
  tables = left_keeps (λ e. same_table e.0.0 e.1.table) (length r.rows.list) r.rows rows.tables;
  identifiers = left_keeps _ (length r.rows.list) r.rows rows.identifiers;
  contents = left_keeps (λ e. is_row e.1) (length r.rows.list) r.rows rows.contents;
  count = rows.count;
  address = rows.address;
}

-- ---- the pass, row by row

unnamed_alike : (a b : List Key) (es : List (Key × Contents)) → ((k : Key) → has_key a k ≡ has_key b k) → unnamed_from a es ≡ unnamed_from b es
unnamed_alike a b [] alike = refl
unnamed_alike a b (e ∷ es) alike =
    ap (λ x. cond (is_root e.0 || x) (unnamed_from (a ++ references e.1) es) (e.0 ∷ unnamed_from a es)) (alike e.0)
    ∙ (λ i. cond (is_root e.0 || has_key b e.0)
    (unnamed_alike (a ++ references e.1) (b ++ references e.1) es
    (λ k. any_append (same_key k) a (references e.1) ∙ ap (λ x. x || has_key (references e.1) k) (alike k) ∙ sym (any_append (same_key k) b (references e.1))) i)
    (e.0 ∷ unnamed_alike a b es alike i))

pub one_kept : (named more : List Key) (e : Key × Contents) (es : List (Key × Contents)) → (is_root e.0 || has_key named e.0) ≡ true → ((k : Key) → has_key more k ≡ (has_key named k || names e.1 k))
    → unnamed_from more es ≡ unnamed_from named (e ∷ es)
one_kept named more e es live adds =
    unnamed_alike more (named ++ references e.1) es (λ k. adds k ∙ sym (any_append (same_key k) named (references e.1)))
    ∙ sym (ap (λ b. cond b (unnamed_from (named ++ references e.1) es) (e.0 ∷ unnamed_from named es)) live)

-- the fields once all that was found is left out
pub all_left_out : (r now : Rows) (ks : List Key) (m : Map key_cmp Contents) → r ≡ now → IsRows r → ks ≡ unnamed_from [] now.rows.list → m ≡ without r.rows ks
    → ◌≡◌ {A = Rows} (record { made = r.made; counter = r.counter; rows = m }) (collected r)
all_left_out r now ks m is rows keys e =
    same_rows r.made r.counter m (collected r).rows (e ∙ ap (without r.rows) (keys ∙ ap (λ x. unnamed_from [] x.rows.list) (sym is)) ∙ what_is_left r rows)
