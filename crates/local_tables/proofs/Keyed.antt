-- Rows of one key: in sound rows there is one at most.
use Rattle.std.proofs.Common.{◌≡◌, ℕ, true, ◌||◌, List, [], ◌∷◌, is_some, Some, refl, sym, ap, ◌∙◌, true≢false}
use Rattle.std.specs.List.{list_any}
use Rattle.std.specs.Cmp.{first_so, second_so}
use Rattle.ovsdb_values.specs.declared.atoms.Atom.{Atom}
use Rattle.ovsdb_values.specs.Exact.{same_atom_exact}
use Rattle.vtep_schema.specs.declared.Table.{Table}
use Rattle.vtep_schema.specs.declared.Column.{Column}
use Rattle.vtep_schema.specs.Tables.{unique_keys}
use Rattle.vtep_rows.specs.Row.{Contents, atoms_at, first}
use Rattle.vtep_rows.specs.Rows.{Rows, row_at, rows_of}
use Rattle.vtep_rows.specs.Keyed.{holds_only, holds_in, holds}
use Rattle.vtep_rows.specs.Sound.{Sound, hold_same, agree}
use Rattle.vtep_rows.proofs.Entries.{both}
use Rattle.forward_program.proofs.Columns.{hold_one}
use Rattle.forward_program.proofs.RowsIn.{in_rows, rows_in}
use Rattle.local_tables.specs.LocalRows.{has_key, row_with}
use Rattle.local_tables.proofs.Members.{first_picked, some_picked}

-- a row of a table that has a key
pub record HasKey (r : Rows) (t : Table) (key : List Atom) (i : ℕ) : Type 0 where
  pub row : Contents
  pub there : row_at r (t, i) ≡ Some row
  pub held : has_key t key row ≡ true

module _ (r : Rows) (t : Table) (key : List Atom) where
  pub first_has : (i : ℕ) → row_with t key r ≡ Some i → HasKey r t key i
  first_has i is =
      let found = first_picked (λ (row : ℕ × Contents). row.0) (λ row. has_key t key row.1) (rows_of t r) i is in record {
        row = found.0.1;
        there = ap (λ j. row_at r (t, j)) (sym found.3) ∙ in_rows r t found.0 found.1;
        held = found.2;
      }

  pub has_first : (i : ℕ) → HasKey r t key i → is_some (row_with t key r) ≡ true
  has_first i h = some_picked (λ (row : ℕ × Contents). row.0) (λ row. has_key t key row.1) (rows_of t r) (i, h.row) (rows_in r t i h.row h.there) h.held

-- ---- one at most

only_so : (xs : List Atom) (x : Atom) → holds_only xs x ≡ true → xs ≡ x ∷ []
only_so [] x h = absurd (true≢false (sym h))
only_so (y ∷ []) x h = ap (λ z. z ∷ []) ((same_atom_exact y x).0 h)
only_so (y ∷ z ∷ zs) x h = absurd (true≢false (sym h))

both_hold : (cs : List Column) (key : List Atom) (a b : Contents) → holds_in cs key a ≡ true → holds_in cs key b ≡ true → agree cs a b ≡ true
both_hold [] key a b h g = refl
both_hold (c ∷ cs) [] a b h g = absurd (true≢false (sym h))
both_hold (c ∷ cs) (x ∷ key) a b h g =
    both (hold_same (atoms_at a c) (atoms_at b c)) _
    (hold_one x (atoms_at a c) (atoms_at b c) (only_so (atoms_at a c) x (first_so (holds_only (atoms_at a c) x) (holds_in cs key a) h)) (only_so (atoms_at b c) x (first_so (holds_only (atoms_at b c) x) (holds_in cs key b) g)))
    (both_hold cs key a b (second_so (holds_only (atoms_at a c) x) (holds_in cs key a) h) (second_so (holds_only (atoms_at b c) x) (holds_in cs key b) g))

share : (keys : List (List Column)) (key : List Atom) (a b : Contents) → holds (first keys) key a ≡ true → holds (first keys) key b ≡ true → list_any (λ cs. agree cs a b) keys ≡ true
share [] key a b h g = absurd (true≢false (sym h))
share (cs ∷ keys) key a b h g = ap (λ c. c || list_any (λ cs. agree cs a b) keys) (both_hold cs key a b h g)

-- no two rows of the table have one key
abbrev pub IsKeyed : Rows → Table → Type 0
IsKeyed r t = (key : List Atom) (i j : ℕ) → HasKey r t key i → HasKey r t key j → i ≡ j

pub sound_keyed : (r : Rows) (t : Table) → Sound r → IsKeyed r t
sound_keyed r t sound key i j a b = sound.unique t i j a.row b.row a.there b.there (share (unique_keys t) key a.row b.row a.held b.held)

pub keyed_part : (r s : Rows) (t : Table) → ((i : ℕ) (row : Contents) → row_at s (t, i) ≡ Some row → row_at r (t, i) ≡ Some row) → IsKeyed r t → IsKeyed s t
keyed_part r s t part keyed key i j a b =
    keyed key i j (record { row = a.row; there = part i a.row a.there; held = a.held }) (record { row = b.row; there = part j b.row b.there; held = b.held })
