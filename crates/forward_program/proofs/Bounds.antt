-- How large the numbers are that columns allow.
use Rattle.std.proofs.Common.{◌≡◌, ◌≤◌, ℕ, pos, true, List, [], ◌∷◌, Option, Some, sym, ap, ◌∙◌, length, nat_le, arith}
use Rattle.std.proofs.lemmas.Bool.Decides.{nat_tests}
use Rattle.std.specs.List.{list_all, filter_map}
use Rattle.std.specs.Cmp.{first_so, second_so}
use Rattle.ovsdb_values.specs.declared.atoms.Atom.{Atom}
use Rattle.ovsdb_values.specs.declared.atoms.Atom.TheVariants.{Integer}
use Rattle.vtep_schema.specs.declared.rules.Domain.TheVariants as domain
use Rattle.vtep_schema.specs.declared.Column.TheVariants.{LogicalTunnelKey, SetLocators}
use Rattle.vtep_rows.specs.Row.{Contents, is_row, atom_allowed, atoms_at, first, nat_in}
use Rattle.vtep_rows.proofs.Entries.{same_some}
use Rattle.vtep_rows.proofs.Kept.{so_le}
use Rattle.forward_program.proofs.Columns.{atoms_fit}

within : (m most : ℕ) → atom_allowed (domain.Whole 0 most) (Integer (pos m)) ≡ true → m ≤ most
within m most h = grind (arith, nat_tests, h)

small_number : (most : ℕ) (xs : List Atom) (n : ℕ) → list_all (atom_allowed (domain.Whole 0 most)) xs ≡ true → first (filter_map nat_in xs) ≡ Some n → n ≤ most
small_number most [] n h e = cc
small_number most (Integer (pos m) ∷ xs) n h e =
    let small : m ≤ most = within m most (first_so (atom_allowed (domain.Whole 0 most) (Integer (pos m))) (list_all (atom_allowed (domain.Whole 0 most)) xs) h) in
    omega (arith, same_some m n e)
small_number most (x ∷ xs) n h e = small_number most xs n (second_so (atom_allowed (domain.Whole 0 most) x) (list_all (atom_allowed (domain.Whole 0 most)) xs) h) e

pub key_within : (row : Contents) (xs : List Atom) (o : Option ℕ) (n : ℕ) → is_row row ≡ true → xs ≡ atoms_at row LogicalTunnelKey → o ≡ first (filter_map nat_in xs) → o ≡ Some n → n ≤ 16777215
key_within row xs o n is same e f =
    small_number 16777215 xs n (ap (list_all (atom_allowed (domain.Whole 0 16777215))) same ∙ (atoms_fit row LogicalTunnelKey is).each) (sym e ∙ f)

-- a locator set has few locators
pub few_locators : (row : Contents) (xs : List Atom) → is_row row ≡ true → xs ≡ atoms_at row SetLocators → length xs ≤ 64
few_locators row xs is same = so_le (length xs) 64 (ap (λ (ys : List Atom). nat_le (length ys) 64) same ∙ (atoms_fit row SetLocators is).few)
