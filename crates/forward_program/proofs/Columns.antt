-- Columns of one atom at most, read as a text, an identifier or a number.
use Rattle.std.proofs.Common.{◌≡◌, ◌≤◌, ◌+◌, ℕ, suc, pos, negsuc, Bool, true, false, not, cond, ◌&&◌, List, [], ◌∷◌, length, Option, Some, None, refl, sym, ap, ◌∙◌, subst, nat_le, arith}
use Rattle.std.specs.List.{list_all, filter_map, cons_option}
use Rattle.std.specs.Option.{unwrap_or}
use Rattle.std.specs.Cmp.{first_so, second_so, eq_by_cmp_equiv}
use Rattle.vtep_base.specs.Reading.{Bytes}
use Rattle.vtep_base.specs.Addresses.{mac_of, mac_text, lower}
use Rattle.vtep_base.specs.Maps as maps
use Rattle.vtep_base.proofs.AddressLaws.{mac_read_is_printed}
use Rattle.ovsdb_values.specs.Atoms.{atom_total}
use Rattle.ovsdb_values.specs.declared.atoms.Atom.{Atom}
use Rattle.ovsdb_values.specs.declared.atoms.Atom.TheVariants.{Integer, Text, Id, Named}
use Rattle.ovsdb_values.specs.declared.datums.Datum.{Datum}
use Rattle.ovsdb_values.specs.declared.datums.Datum.TheVariants as datum
use Rattle.vtep_schema.specs.declared.Column.{Column}
use Rattle.vtep_schema.specs.declared.rules.Domain.{Domain}
use Rattle.vtep_schema.specs.declared.rules.ColumnRule.{ColumnRule}
use Rattle.vtep_schema.specs.Tables.{column_rule}
use Rattle.vtep_rows.specs.Row.{Contents, is_row, allowed_by, set_allowed, atom_allowed, size_allowed, set_in, atoms_at, number_at, text_in, nat_in, id_in, first, is_lower}
use Rattle.vtep_rows.specs.Sound.{hold_same}
use Rattle.vtep_rows.proofs.RowLaws.{value_allowed}
use Rattle.vtep_rows.proofs.Kept.{le_so, so_le}
use Rattle.forward_program.specs.Readings.{text_in_row, id_at}

-- ---- what a column allows

pub record Fits (r : ColumnRule) (xs : List Atom) : Type 0 where
  pub few : nat_le (length xs) r.most ≡ true
  pub each : list_all (atom_allowed r.key) xs ≡ true

none_fit : (r : ColumnRule) → Fits r []
none_fit r = record { few = le_so 0 r.most (omega arith); each = refl }

set_fits : (r : ColumnRule) (v : Option Domain) (xs : List Atom) → set_allowed r v xs ≡ true → Fits r xs
set_fits r None xs h = record {
  few = second_so (nat_le r.least (length xs)) (nat_le (length xs) r.most) (first_so (size_allowed r (length xs)) (list_all (atom_allowed r.key) xs) h);
  each = second_so (size_allowed r (length xs)) (list_all (atom_allowed r.key) xs) h;
}
set_fits r (Some v) xs h = cc

datum_fits : (r : ColumnRule) (d : Datum) → allowed_by r d ≡ true → Fits r (set_in d)
datum_fits r (datum.Set xs) h = set_fits r r.value xs h
datum_fits r (datum.Map ps) h = none_fit r

pub atoms_fit : (row : Contents) (c : Column) → is_row row ≡ true → Fits (column_rule c) (atoms_at row c)
atoms_fit row c is = by (maps.get row.values c) refl
  where
    by : (o : Option Datum) → maps.get row.values c ≡ o → Fits (column_rule c) (atoms_at row c)
    by None e = subst (λ p. Fits (column_rule c) (set_in (unwrap_or p (datum.Set [])))) (sym e) (none_fit (column_rule c))
    by (Some d) e = subst (λ p. Fits (column_rule c) (set_in (unwrap_or p (datum.Set [])))) (sym e) (datum_fits (column_rule c) d (value_allowed row c d is e))

-- ---- one atom at most

two : (k : ℕ) → nat_le (suc (suc k)) 1 ≡ true → ⊥
two k h = let below : suc (suc k) ≤ 1 = so_le (suc (suc k)) 1 h in omega arith

only : (f : Atom → Option ℕ) (xs : List Atom) (n : ℕ) → nat_le (length xs) 1 ≡ true → first (filter_map f xs) ≡ Some n → (x : Atom) × (xs ≡ x ∷ []) × (f x ≡ Some n)
only f [] n few is = cc
only f (x ∷ []) n few is = (x, refl, by (f x) is)
  where
    by : (o : Option ℕ) → first (cons_option o []) ≡ Some n → o ≡ Some n
    by None e = cc
    by (Some m) e = e
only f (x ∷ y ∷ xs) n few is = absurd (two (length xs) few)

only_text : (xs : List Atom) (t : Bytes) → nat_le (length xs) 1 ≡ true → first (filter_map text_in xs) ≡ Some t → xs ≡ Text t ∷ []
only_text [] t few is = cc
only_text (Integer z ∷ []) t few is = cc
only_text (Text u ∷ []) t few is = ap (λ o. Text (unwrap_or o t) ∷ []) is
only_text (Id u ∷ []) t few is = cc
only_text (Named u ∷ []) t few is = cc
only_text (x ∷ y ∷ xs) t few is = absurd (two (length xs) few)

pub id_is : (x : Atom) (u : ℕ) → id_in x ≡ Some u → x ≡ Id u
id_is (Integer z) u is = cc
id_is (Text t) u is = cc
id_is (Id v) u is = ap (λ o. Id (unwrap_or o u)) is
id_is (Named t) u is = cc

number_is : (x : Atom) (n : ℕ) → nat_in x ≡ Some n → x ≡ Integer (pos n)
number_is (Integer (pos m)) n is = ap (λ o. Integer (pos (unwrap_or o n))) is
number_is (Integer (negsuc m)) n is = cc
number_is (Text t) n is = cc
number_is (Id v) n is = cc
number_is (Named t) n is = cc

module _ (row : Contents) (c : Column) (is : is_row row ≡ true) (one : (column_rule c).most ≡ 1) where
  few : nat_le (length (atoms_at row c)) 1 ≡ true
  few = ap (λ n. nat_le (length (atoms_at row c)) n) (sym one) ∙ (atoms_fit row c is).few

  pub text_alone : (t : Bytes) → text_in_row row c ≡ Some t → atoms_at row c ≡ Text t ∷ []
  text_alone t e = only_text (atoms_at row c) t few e

  pub id_alone : (u : ℕ) → id_at row c ≡ Some u → atoms_at row c ≡ Id u ∷ []
  id_alone u e = let p = only id_in (atoms_at row c) u few e in p.1 ∙ ap (λ x. x ∷ []) (id_is p.0 u p.2)

  pub number_alone : (n : ℕ) → number_at row c ≡ Some n → atoms_at row c ≡ Integer (pos n) ∷ []
  number_alone n e = let p = only nat_in (atoms_at row c) n few e in p.1 ∙ ap (λ x. x ∷ []) (number_is p.0 n p.2)

-- ---- rows that hold the same

pub hold_one : (x : Atom) (xs ys : List Atom) → xs ≡ x ∷ [] → ys ≡ x ∷ [] → hold_same xs ys ≡ true
hold_one x xs ys e f = (λ i. hold_same (e i) (f i)) ∙ ap (λ b. b && true) ((eq_by_cmp_equiv atom_total).refl x)

-- ---- texts of addresses

not_lowered : (t : Bytes) → is_lower t ≡ true → lower t ≡ t
not_lowered [] h = refl
not_lowered (c ∷ t) h =
    let small : (nat_le 65 c && nat_le c 90) ≡ false = off (nat_le 65 c && nat_le c 90) (first_so (not (nat_le 65 c && nat_le c 90)) (is_lower t) h) in
    (λ i. cond (small i) (c + 32) c ∷ not_lowered t (second_so (not (nat_le 65 c && nat_le c 90)) (is_lower t) h) i)
  where
    off : (b : Bool) → not b ≡ true → b ≡ false
    off true e = sym e
    off false e = refl

pub mac_spelled : (t : Bytes) (m : ℕ) → mac_of t ≡ Some m → is_lower t ≡ true → t ≡ mac_text m
mac_spelled t m is low = sym (mac_read_is_printed t m is ∙ not_lowered t low)
