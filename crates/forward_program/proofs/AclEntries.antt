-- The entries that a row of ACL names: few, and each once.
use Rattle.std.proofs.Common.{◌≡◌, ◌≤◌, ℕ, Bool, true, false, nat_eq, nat_le, List, [], ◌∷◌, ◌++◌, ◌||◌, map, length, drop, append-nil, Option, Some, None, refl, sym, ap, ◌∙◌, arith, IsPermutation}
use Rattle.std.specs.List.{list_any, filter_map, cons_option, IsDistinct, AllByRecursion}
use Rattle.std.specs.List.Sorted.{IsStrictlySortedBy}
use Rattle.std.specs.Option.{option_and_then, option_map, option_to_list}
use Rattle.std.specs.declared.cmp.Ordering.TheVariants.{Less, Equal}
use Rattle.std.specs.Cmp.{Equal-is, eq_by_cmp_equiv}
use Rattle.std.proofs.lemmas.Bool.Decides.{nat_tests}
use Rattle.std.proofs.lemmas.List.{drop_all}
use Rattle.std.proofs.lemmas.List.Sorted.{length_permutation}
use Rattle.ovsdb_values.specs.Atoms.{atom_cmp, atom_total}
use Rattle.ovsdb_values.specs.declared.atoms.Atom.{Atom}
use Rattle.ovsdb_values.specs.declared.atoms.Atom.TheVariants.{Integer, Text, Id, Named}
use Rattle.vtep_schema.specs.declared.Table.TheVariants.{AclEntry}
use Rattle.vtep_schema.specs.declared.Column.TheVariants.{AclEntries}
use Rattle.vtep_rows.specs.Row.{Contents, is_row, atoms_at, id_in}
use Rattle.vtep_rows.specs.Rows.{Rows, row_at}
use Rattle.vtep_rows.proofs.Kept.{so_le}
use Rattle.acl_rules.specs.declared.entry.Entry.{Entry}
use Rattle.forward_program.specs.Acls.{entry_of, entry_at}
use Rattle.forward_program.proofs.Columns.{atoms_fit}

pub picked_twice : {A B C : Type 0} (f : B → Option C) (g : A → Option B) (xs : List A) → filter_map (λ x. option_and_then f (g x)) xs ≡ filter_map f (filter_map g xs)
picked_twice f g [] = refl
picked_twice {A} {B} f g (x ∷ xs) = by (g x) (picked_twice f g xs)
  where
    by : (o : Option B) → filter_map (λ y. option_and_then f (g y)) xs ≡ filter_map f (filter_map g xs) → cons_option (option_and_then f o) (filter_map (λ y. option_and_then f (g y)) xs) ≡ filter_map f (cons_option o (filter_map g xs))
    by None e = e
    by (Some y) e = ap (cons_option (f y)) e

-- once all are gone through
pub all_done : {A B : Type 0} (f : A → Option B) (done : List B) (xs : List A) (i : ℕ) → length xs ≤ i → done ++ filter_map f (drop i xs) ≡ filter_map f xs → done ≡ filter_map f xs
all_done f done xs i le h = sym (append-nil done) ∙ ap (λ ys. done ++ filter_map f ys) (sym (drop_all i xs le)) ∙ h

pub any_picked : {A B : Type 0} (p : B → Bool) (f : A → Option B) (xs : List A) → list_any (λ x. list_any p (option_to_list (f x))) xs ≡ list_any p (filter_map f xs)
any_picked p f [] = refl
any_picked {A} {B} p f (x ∷ xs) = by (f x) (any_picked p f xs)
  where
    of_one : (b c d : Bool) → c ≡ d → ((b || false) || c) ≡ (b || d)
    of_one true c d e = refl
    of_one false c d e = e

    by : (o : Option B) → list_any (λ y. list_any p (option_to_list (f y))) xs ≡ list_any p (filter_map f xs) → (list_any p (option_to_list o) || list_any (λ y. list_any p (option_to_list (f y))) xs) ≡ list_any p (cons_option o (filter_map f xs))
    by None e = e
    by (Some y) e = of_one (p y) (list_any (λ z. list_any p (option_to_list (f z))) xs) (list_any p (filter_map f xs)) e

-- an ACL has few entries
few_entries : (row : Contents) (xs : List Atom) → is_row row ≡ true → xs ≡ atoms_at row AclEntries → length xs ≤ 64
few_entries row xs is same = so_le (length xs) 64 (ap (λ (ys : List Atom). nat_le (length ys) 64) same ∙ (atoms_fit row AclEntries is).few)

-- ---- each is named once

less_apart : (u v : ℕ) → atom_cmp (Id u) (Id v) ≡ Less → nat_eq u v ≡ false
less_apart u v h = by (nat_eq u v) refl
  where
    by : (b : Bool) → nat_eq u v ≡ b → b ≡ false
    by false e = refl
    by true e =
        let same : u ≡ v = grind (arith, nat_tests, e) in
        let tie : atom_cmp (Id v) (Id v) ≡ Equal = (Equal-is (atom_cmp (Id v) (Id v))).0 ((eq_by_cmp_equiv atom_total).refl (Id v)) in
        let clash : Less ≡ Equal = sym h ∙ ap (λ n. atom_cmp (Id n) (Id v)) same ∙ tie in
        cc

module _ (r : Rows) where
  abbrev ids_named : List Atom → List ℕ
  ids_named xs = map (λ (e : Entry). e.id) (filter_map (entry_at r) (filter_map id_in xs))

  all_apart : (u : ℕ) (xs : List Atom) → AllByRecursion (λ (y : Atom). atom_cmp (Id u) y ≡ Less) xs → AllByRecursion (λ (j : ℕ). nat_eq u j ≡ false) (ids_named xs)
  all_apart u [] h = tt
  all_apart u (Integer z ∷ xs) h = all_apart u xs h.1
  all_apart u (Text t ∷ xs) h = all_apart u xs h.1
  all_apart u (Named t ∷ xs) h = all_apart u xs h.1
  all_apart u (Id v ∷ xs) h = by (row_at r (AclEntry, v)) (all_apart u xs h.1)
    where
      by : (o : Option Contents) → AllByRecursion (λ (j : ℕ). nat_eq u j ≡ false) (ids_named xs)
          → AllByRecursion (λ (j : ℕ). nat_eq u j ≡ false) (map (λ (e : Entry). e.id) (cons_option (option_map (entry_of v) o) (filter_map (entry_at r) (filter_map id_in xs))))
      by None rest = rest
      by (Some row) rest = (less_apart u v h.0, rest)

  pub named_once : (xs : List Atom) → IsStrictlySortedBy atom_cmp xs → IsDistinct nat_eq (ids_named xs)
  unfolding IsStrictlySortedBy IsDistinct
  named_once [] h = tt
  named_once (Integer z ∷ xs) h = named_once xs h.1
  named_once (Text t ∷ xs) h = named_once xs h.1
  named_once (Named t ∷ xs) h = named_once xs h.1
  named_once (Id v ∷ xs) h = by (row_at r (AclEntry, v)) (named_once xs h.1)
    where
      by : (o : Option Contents) → IsDistinct nat_eq (ids_named xs) → IsDistinct nat_eq (map (λ (e : Entry). e.id) (cons_option (option_map (entry_of v) o) (filter_map (entry_at r) (filter_map id_in xs))))
      by None rest = rest
      by (Some row) rest = (all_apart v xs h.0, rest)

pub few_rules : (row : Contents) (xs : List Atom) (es rules : List Entry) → is_row row ≡ true → xs ≡ atoms_at row AclEntries → length es ≤ length xs → IsPermutation es rules → length rules ≤ 64
few_rules row xs es rules is same few order =
    let as_many : length rules ≡ length es = length_permutation es rules order in
    let most : length xs ≤ 64 = few_entries row xs is same in
    omega arith
