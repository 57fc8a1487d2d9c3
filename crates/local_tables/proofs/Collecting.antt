-- What a collection leaves, and rows of which some went.
use Rattle.std.proofs.Common.{◌≡◌, ℕ, ◌≤◌, Bool, true, false, ◌&&◌, ◌||◌, length, is_some, Option, Some, None, refl, sym, ap, ◌∙◌, true≢false, arith}
use Rattle.std.proofs.lemmas.List.{length-map}
use Rattle.std.specs.List.{list_all}
use Rattle.std.specs.Cmp.{second_so}
use Rattle.vtep_base.specs.Maps as maps
use Rattle.vtep_schema.specs.declared.Table.{Table}
use Rattle.vtep_schema.specs.Tables.{table_rule}
use Rattle.vtep_rows.specs.Row.{Contents, references}
use Rattle.vtep_rows.specs.Rows.{Key, same_key, Rows, IsRows, row_at, rows_of, ids_of, names, is_named, stays, collected}
use Rattle.vtep_rows.specs.Sound.{Sound}
use Rattle.vtep_rows.specs.Orders.{key_exact}
use Rattle.vtep_rows.proofs.Entries.{both}
use Rattle.vtep_rows.proofs.Kept.{same_rows, its_contents}
use Rattle.vtep_rows.proofs.Collected.{exact_in, is_collected, only_one}
use Rattle.vtep_rows.proofs.Restored.{itself}
use Rattle.vtep_rows.proofs.TwinLaws.{any_found}
use Rattle.forward_program.proofs.Ascending.{fewer, has_row, ids_ascend}
use Rattle.local_tables.proofs.Members.{all_in, in_all, in_any}
use Rattle.local_tables.proofs.Others.{is_other, names_others}

-- ---- what a collection leaves

pub exact : (r : Rows) (k : Key) → maps.has (collected r).rows k ≡ (maps.has r.rows k && stays (collected r).rows k)
exact r k = exact_in (length r.rows.list) r.rows (omega arith) k

-- it was there, as it is
pub was_there : (r : Rows) (k : Key) (row : Contents) → row_at (collected r) k ≡ Some row → row_at r k ≡ Some row
was_there r k row is = sym ((is_collected r).same k (ap is_some is)) ∙ is

-- what stays is there
pub still_in : (r : Rows) (k : Key) → maps.has r.rows k ≡ true → stays (collected r).rows k ≡ true → maps.has (collected r).rows k ≡ true
still_in r k h g = exact r k ∙ both (maps.has r.rows k) _ h g

-- nothing goes where everything stays
pub all_stay : (r : Rows) → IsRows r → ((k : Key) → maps.has r.rows k ≡ true → stays r.rows k ≡ true) → collected r ≡ r
all_stay r rows so = sym (same_rows r.made r.counter r.rows (collected r).rows (only_one r r.rows rows (λ k. by k (maps.has r.rows k) refl) (λ k h. refl)))
  where
    by : (k : Key) (b : Bool) → maps.has r.rows k ≡ b → maps.has r.rows k ≡ (maps.has r.rows k && stays r.rows k)
    by k true e = e ∙ sym (both (maps.has r.rows k) _ e (so k e))
    by k false e = e ∙ sym (ap (λ b. b && stays r.rows k) e)

pub it_stays : (r : Rows) → collected r ≡ r → (k : Key) → maps.has r.rows k ≡ true → stays r.rows k ≡ true
it_stays r clean k there =
    second_so (maps.has r.rows k) (stays r.rows k) (sym (ap (λ y. maps.has y.rows k) (sym clean) ∙ exact r k ∙ ap (λ y. maps.has r.rows k && stays y.rows k) clean) ∙ there)

or_right : (a b : Bool) → b ≡ true → (a || b) ≡ true
or_right true b h = refl
or_right false b h = h

pub stays_named : (r : Rows) (k q : Key) (row : Contents) → row_at r k ≡ Some row → names row q ≡ true → stays r.rows q ≡ true
stays_named r k q row is h = or_right (table_rule q.0).root (is_named r.rows q) (any_found key_exact (λ e. names e.1 q) k row r.rows.list is h)

-- ---- rows of which some went

-- s has no row but rows of r
abbrev pub IsPart : Rows → Rows → Type 0
IsPart r s = (k : Key) (row : Contents) → row_at s k ≡ Some row → row_at r k ≡ Some row

pub part_has : (r s : Rows) → IsPart r s → (k : Key) → maps.has s.rows k ≡ true → maps.has r.rows k ≡ true
part_has r s part k h = by (row_at s k) refl h
  where
    by : (o : Option Contents) → row_at s k ≡ o → is_some o ≡ true → maps.has r.rows k ≡ true
    by None none g = absurd (true≢false (sym g))
    by (Some row) there g = ap is_some (part k row there)

pub count_ids : (t : Table) (r : Rows) → length (ids_of t r) ≡ length (rows_of t r)
count_ids t r = length-map (rows_of t r) (λ row. row.0)

-- no more rows than there were
pub no_more : (t : Table) (r s : Rows) (most : ℕ) → length (rows_of t r) ≤ most → ((i : ℕ) → maps.has s.rows (t, i) ≡ true → maps.has r.rows (t, i) ≡ true) → length (rows_of t s) ≤ most
no_more t r s most few within =
    let fewer_ids : length (ids_of t s) ≤ length (ids_of t r) = fewer (ids_of t s) (ids_of t r) (ids_ascend t s) (ids_ascend t r) (λ i h. has_row t r i ∙ within i (sym (has_row t s i) ∙ h)) in
    omega (arith, fewer_ids, count_ids t r, count_ids t s, few)

pub part_sound : (r s : Rows) → Sound r → IsPart r s → ((k : Key) (row : Contents) → row_at s k ≡ Some row → list_all (maps.has s.rows) (references row) ≡ true) → Sound s
part_sound r s sound part there = record {
  few = λ t. no_more t r s (table_rule t).most (sound.few t) (λ i h. part_has r s part (t, i) h);
  there = there;
  unique = λ t i j a b is_a is_b shared. sound.unique t i j a b (part (t, i) a is_a) (part (t, j) b is_b) shared;
}

-- ---- rows of Local tables went, and then what nothing names any more

pub left_sound : (r s : Rows) → IsRows r → Sound r → IsPart r s → ((k : Key) → is_other k ≡ true → row_at s k ≡ row_at r k) → Sound (collected s)
left_sound r s rows sound part others = part_sound r (collected s) sound (λ k row is. part k row (was_there s k row is)) named_left
  where
    named_left : (k : Key) (row : Contents) → row_at (collected s) k ≡ Some row → list_all (maps.has (collected s).rows) (references row) ≡ true
    named_left k row is = in_all (maps.has (collected s).rows) (references row) (λ q listed.
        let was = part k row (was_there s k row is) in
        let there = all_in (maps.has r.rows) (references row) q (sound.there k row was) listed in
        let other = all_in is_other (references row) q (names_others row (its_contents r k.0 k.1 row rows was)) listed in
        still_in s q (ap is_some (others q other) ∙ there) (stays_named (collected s) k q row is (in_any (same_key q) (references row) q listed (itself q))))
