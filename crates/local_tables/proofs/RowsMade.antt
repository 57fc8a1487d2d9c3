-- The rows that a gateway writes itself are rows of their tables.
use Rattle.std.proofs.Common.{◌≡◌, ℕ, zero, suc, ◌/◌, ◌%◌, ◌^◌, ◌<◌, true, not, ◌&&◌, nat_lt, nat_le, List, ◌++◌, Option, Some, None, Result, Err, IfErr, codes, refl, sym, ap, ◌∙◌, subst, arith, lit<}
use Rattle.std.specs.Prelude.{if◌then◌else◌}
use Rattle.std.proofs.lemmas.Bool.Decides.{nat_tests}
use Rattle.std.proofs.lemmas.List.Folds.{list_all-append}
use Rattle.std.proofs.Math.Nat.{mod-lt}
use Rattle.std.specs.Cmp.{second_so}
use Rattle.vtep_base.specs.Texts.{ipv4_of, ipv4_text}
use Rattle.vtep_base.specs.Addresses.{be_bytes, hex_digit, pair_text, pairs_text, mac_of, mac_text, is_group}
use Rattle.vtep_base.specs.Answers.{OrMemory}
use Rattle.vtep_base.proofs.AddressLaws.{mac_printed_is_read}
use Rattle.vtep_base.proofs.NumberLaws.{ipv4_printed_is_read}
use Rattle.ovsdb_values.specs.declared.datums.Datum.{Datum}
use Rattle.vtep_schema.specs.declared.Table.{Table}
use Rattle.vtep_schema.specs.declared.Column.{Column}
use Rattle.vtep_rows.specs.declared.row.RowFault.{RowFault}
use Rattle.vtep_rows.specs.declared.row.RowFault.TheVariants.{Values}
use Rattle.vtep_rows.specs.Row.{Contents, is_row, is_lower, default_row, with_values, filled_row}
use Rattle.vtep_rows.specs.Faults.{row_refusal}
use Rattle.vtep_rows.proofs.Entries.{both}
use Rattle.forward_program.specs.Follows.{Address}
use Rattle.local_tables.specs.LocalRows.{is_individual, locator_row, address_row}
use Rattle.local_tables.proofs.Texts.{small}

-- values that make a row are not refused
pub not_refused : (r : Result Contents RowFault) (t : Table) (values es : List (Column × Datum)) → IfErr r (λ fault. OrMemory (row_refusal fault) (λ _. filled_row t values ≡ None)) → values ≡ es
    → is_row (with_values (default_row t) es) ≡ true → r ≡ Err Values → ⊥
not_refused r t values es refused given is e =
    let none : filled_row t values ≡ None = subst (λ x. IfErr x (λ fault. OrMemory (row_refusal fault) (λ _. filled_row t values ≡ None))) e refused in
    clash (sym (ap (filled_row t) given) ∙ none) (ap (λ b. if b then Some (with_values (default_row t) es) else None) is)
  where
    clash : {A : Type 0} {o : Option A} {x : A} → o ≡ None → o ≡ Some x → ⊥
    clash p q = let e = sym p ∙ q in cc

pub locator_is_row : (ip : ℕ) → ip < 2 ^ 32 → is_row (locator_row ip) ≡ true
locator_is_row ip fits =
    let known : ipv4_of (ipv4_text ip) ≡ Some ip = ipv4_printed_is_read ip fits in
    rw known refl

-- ---- texts of addresses are in lower case

low_digit : (d : ℕ) → d < 16 → not (nat_le 65 (hex_digit d) && nat_le (hex_digit d) 90) ≡ true
low_digit d h = grind (arith, nat_tests, h)

low_pair : (n : ℕ) → is_lower (pair_text (n % 256)) ≡ true
low_pair n =
    let below : n % 256 < 256 = mod-lt n (lit< tt) in
    both _ _ (low_digit (n % 256 / 16) (omega (arith, below))) (both _ true (low_digit (n % 256 % 16) (mod-lt (n % 256) (lit< tt))) refl)

low_pairs : (k n : ℕ) → is_lower (pairs_text (be_bytes k n)) ≡ true
low_pairs zero n = refl
low_pairs (suc zero) n = low_pair (n / 256 ^ 0)
low_pairs (suc (suc k)) n =
    list_all-append (λ c. not (nat_le 65 c && nat_le c 90)) (pair_text (n / 256 ^ suc k % 256)) (codes ":" ++ pairs_text (be_bytes (suc k) n))
    ∙ both (is_lower (pair_text (n / 256 ^ suc k % 256))) _ (low_pair (n / 256 ^ suc k)) (low_pairs (suc k) n)

pub low_mac : (mac : ℕ) → is_lower (mac_text mac) ≡ true
low_mac mac = low_pairs 6 mac

pub address_is_row : (a : Address) (locator : ℕ) → is_individual a.1 ≡ true → is_row (address_row a locator) ≡ true
address_is_row a locator individual =
    let known : mac_of (mac_text a.1) ≡ Some a.1 = mac_printed_is_read a.1 (small a.1 individual) in
    let low : is_lower (mac_text a.1) ≡ true = low_mac a.1 in
    let single : not (is_group a.1) ≡ true = second_so (nat_lt a.1 (2 ^ 48)) (not (is_group a.1)) individual in
    rw known (rw low (rw single refl))
