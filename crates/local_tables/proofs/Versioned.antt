-- What a database holds after several calls.
use Rattle.std.proofs.Common.{◌≡◌, ℕ, ◌+◌, ◌<◌, ◌≤◌, Bool, true, false, ◌||◌, List, [], ◌∷◌, length, get_or, drop, Option, Some, None, Result, Ok, Err, IfErr, refl, sym, ap, ◌∙◌, arith}
use Rattle.std.proofs.lemmas.List.{drop_more}
use Rattle.std.specs.Prelude.{◌==◌}
use Rattle.std.specs.BTreeSet.{insert_key}
use Rattle.std.specs.Ordering.{nat_cmp, match_ordering}
use Rattle.std.specs.Cmp.{ranked}
use Rattle.std.specs.declared.cmp.Ordering.{Ordering}
use Rattle.std.specs.declared.cmp.Ordering.TheVariants.{Less, Equal, Greater}
use Rattle.vtep_base.specs.Answers.{OrMemory}
use Rattle.ovsdb_values.specs.declared.atoms.Atom.{Atom}
use Rattle.vtep_schema.specs.declared.Table.{Table}
use Rattle.vtep_rows.specs.Row.{Contents}
use Rattle.vtep_rows.specs.Rows.{Rows, next_id, inserted, collected, last_number}
use Rattle.vtep_rows.specs.Database.{Versions}
use Rattle.local_tables.specs.LocalRows.{set_row, flood_row}
use Rattle.local_tables.specs.Followed.{located, locator_of, with_flood, with_floods, completed_by}
use Rattle.local_tables.specs.Following.{has_id, without_row, without_rows}

-- ---- rows that go, one by one

pub one_gone : {A : Type 0} (t : Table) (key : A → List Atom) (r s : Rows) (items : List A) (i : ℕ) (d : A) (keys : List A → List (List Atom)) → ((x : A) (xs : List A) → keys (x ∷ xs) ≡ key x ∷ keys xs) → i < length items
    → s ≡ without_row t r (key (get_or items i d)) → without_rows t s (keys (drop (i + 1) items)) ≡ without_rows t r (keys (drop i items))
one_gone t key r s items i d keys each lt is =
    ap (λ x. without_rows t x (keys (drop (i + 1) items))) is
    ∙ sym (ap (λ xs. without_rows t r (keys xs)) (drop_more items i d lt) ∙ ap (without_rows t r) (each (get_or items i d) (drop (i + 1) items)))

-- ---- rows that come, one by one

pub one_flooded : (locator : ℕ) (r s : Rows) (items : List ℕ) (i d : ℕ) → i < length items → s ≡ with_flood locator r (get_or items i d) → with_floods locator s (drop (i + 1) items) ≡ with_floods locator r (drop i items)
one_flooded locator r s items i d lt is = ap (λ x. with_floods locator x (drop (i + 1) items)) is ∙ sym (ap (with_floods locator r) (drop_more items i d lt))

pub flood_added : (d e f : Versions) (locator s set : ℕ) (row last : Contents) → e ≡ record d { current = inserted d.current row } → row ≡ set_row locator → set ≡ next_id d.current → last ≡ flood_row s set
    → f ≡ record e { current = inserted e.current last } → f ≡ record d { current = with_flood locator d.current s }
flood_added d e f locator s set row last first made number known second =
    second
    ∙ (λ i. let v : Versions = record { committed = (first i).committed; current = inserted (first i).current ((known ∙ ap (flood_row s) number) i) } in v)
    ∙ (λ i. let v : Versions = record { committed = d.committed; current = inserted (inserted d.current (made i)) (flood_row s (next_id d.current)) } in v)

-- numbers are only given
pub floods_number : (locator : ℕ) (r : Rows) (ss : List ℕ) → r.counter ≤ (with_floods locator r ss).counter
floods_number locator r [] = omega arith
floods_number locator r (s ∷ ss) = let more : r.counter + 1 + 1 ≤ (with_floods locator (with_flood locator r s) ss).counter = floods_number locator (with_flood locator r s) ss in omega (arith, more)

-- where one number too many is given, so it is for all of them
pub one_spent : (locator : ℕ) (before r : Rows) (items : List ℕ) (i d : ℕ) → i < length items → with_floods locator r (drop i items) ≡ with_floods locator before items → last_number < (with_flood locator r (get_or items i d)).counter
    → last_number < (with_floods locator before items).counter
one_spent locator before r items i d lt is past =
    let rest = drop (i + 1) items in
    let more : (with_flood locator r (get_or items i d)).counter ≤ (with_floods locator (with_flood locator r (get_or items i d)) rest).counter = floods_number locator (with_flood locator r (get_or items i d)) rest in
    let same : (with_floods locator (with_flood locator r (get_or items i d)) rest).counter ≡ (with_floods locator before items).counter = ap (λ (x : Rows). x.counter) (sym (ap (with_floods locator r) (drop_more items i d lt)) ∙ is) in
    omega (arith, past, more, same)

pub first_spent : (own : ℕ) (o : Option ℕ) (r : Rows) (items : List ℕ) → (length items == 0) ≡ false → last_number < (located own o r).counter → last_number < (completed_by own o items [] r).counter
first_spent own o r [] some past = cc
first_spent own o r (s ∷ ss) some past =
    let more : (located own o r).counter ≤ (with_floods (locator_of o r) (located own o r) (s ∷ ss)).counter = floods_number (locator_of o r) (located own o r) (s ∷ ss) in
    omega (arith, past, more)

-- ---- what a call says where it fails

pub err_so : {T F : Type 0} {P Q : F → Type 0} (r : Result T F) → ((fault : F) → P fault → Q fault) → IfErr r P → IfErr r Q
err_so (Ok x) so h = tt
err_so (Err fault) so h = so fault h

pub or_so : {R : Type 0} {P Q : R → Type 0} (o : Option R) → ((x : R) → P x → Q x) → OrMemory o P → OrMemory o Q
or_so None so h = tt
or_so (Some x) so h = so x h

-- ---- the numbers of a set

pub has_inserted : (keys : List ℕ) (n i : ℕ) → has_id (insert_key nat_cmp keys n) i ≡ (has_id keys i || (i == n))
has_inserted [] n i = by (i == n)
  where
    by : (b : Bool) → (b || false) ≡ b
    by true = refl
    by false = refl
has_inserted (x ∷ keys) n i = by (nat_cmp n x) refl (has_inserted keys n i)
  where
    turned : (a b c : Bool) → (a || (b || c)) ≡ ((b || c) || a)
    turned true true c = refl
    turned true false true = refl
    turned true false false = refl
    turned false true c = refl
    turned false false true = refl
    turned false false false = refl

    joined : (a b c : Bool) → (a || (b || c)) ≡ ((a || b) || c)
    joined true b c = refl
    joined false b c = refl

    taken : (a b : Bool) → (a || b) ≡ ((a || b) || a)
    taken true b = refl
    taken false true = refl
    taken false false = refl

    by : (o : Ordering) → nat_cmp n x ≡ o → has_id (insert_key nat_cmp keys n) i ≡ (has_id keys i || (i == n)) → has_id (match_ordering o (n ∷ x ∷ keys) (x ∷ keys) (x ∷ insert_key nat_cmp keys n)) i ≡ (has_id (x ∷ keys) i || (i == n))
    by Less e rest = turned (i == n) (i == x) (has_id keys i)
    by Equal e rest = let same : n ≡ x = ranked n x Equal (sym e) in taken (i == x) (has_id keys i) ∙ ap (λ m. ((i == x) || has_id keys i) || (i == m)) (sym same)
    by Greater e rest = ap (λ b. (i == x) || b) rest ∙ joined (i == x) (has_id keys i) (i == n)

pub one_distinct : (old new : List ℕ) (n : ℕ) (rest left all : List ℕ) → new ≡ insert_key nat_cmp old n → left ≡ n ∷ rest → (i : ℕ) → (has_id old i || has_id left i) ≡ has_id all i → (has_id new i || has_id rest i) ≡ has_id all i
one_distinct old new n rest left all added is i before =
    ap (λ ks. has_id ks i || has_id rest i) added ∙ ap (λ b. b || has_id rest i) (has_inserted old n i) ∙ joined (has_id old i) (i == n) (has_id rest i) ∙ sym (ap (λ xs. has_id old i || has_id xs i) is) ∙ before
  where
    joined : (a b c : Bool) → ((a || b) || c) ≡ (a || (b || c))
    joined true b c = refl
    joined false b c = refl

-- ---- learnt addresses

pub forgotten : (d e f : Versions) (r s : Rows) → e ≡ record d { current = r } → f ≡ record e { current = collected e.current } → collected r ≡ s → f ≡ record d { current = s }
forgotten d e f r s first second is =
    second ∙ (λ i. let v : Versions = record { committed = (first i).committed; current = collected (first i).current } in v) ∙ (λ i. let v : Versions = record { committed = d.committed; current = is i } in v)

pub inserted_one : (d e : Versions) (row made : Contents) → e ≡ record d { current = inserted d.current row } → row ≡ made → e ≡ record d { current = inserted d.current made }
inserted_one d e row made is same = is ∙ (λ i. let v : Versions = record { committed = d.committed; current = inserted d.current (same i) } in v)

pub address_added : (d e f g : Versions) (r s : Rows) (row : Contents) → e ≡ record d { current = r } → f ≡ record e { current = inserted e.current row } → g ≡ record f { current = collected f.current } → collected (inserted r row) ≡ s → g ≡ record d { current = s }
address_added d e f g r s row first second third is =
    third
    ∙ (λ i. let v : Versions = record { committed = (second i).committed; current = collected (second i).current } in v)
    ∙ (λ i. let v : Versions = record { committed = (first i).committed; current = collected (inserted (first i).current row) } in v)
    ∙ (λ i. let v : Versions = record { committed = d.committed; current = is i } in v)
