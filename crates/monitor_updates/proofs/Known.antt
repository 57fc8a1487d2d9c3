-- Names tell tables and columns apart, and what is written of a value is read as it.
use Rattle.std.proofs.Common.{◌≡◌, Bool, true, false, cond, ◌&&◌, not, [], ◌∷◌, map, Option, Some, None, Ok, refl, sym, ap, ◌∙◌, true≢false, arith}
use Rattle.std.proofs.lemmas.Bool.Decides.{nat_tests, Decides-eqb}
use Rattle.std.specs.Prelude.{option_and_then, unwrap_or, nat_le, nat_lt, ℕ, ◌||◌, ◌+◌, codes}
use Rattle.std.specs.List.{list_all, list_any}
use Rattle.std.specs.Char.{to_ascii_lowercase}
use Rattle.std.specs.Cmp.{first_so, second_so}
use Rattle.std.specs.Cmp.Lexicographic.{pointwise_decides}
use Rattle.vtep_base.specs.Reading.{Bytes, same_bytes}
use Rattle.vtep_base.specs.Addresses.{is_group}
use Rattle.vtep_base.specs.declared.shapes.Shape.{Shape}
use Rattle.json_notation.specs.Computes.{texts}
use Rattle.ovsdb_values.specs.declared.atoms.Atom.TheVariants.{Integer, Text, Id, Named}
use Rattle.ovsdb_values.specs.declared.datums.Datum.{Datum}
use Rattle.ovsdb_values.specs.declared.datums.Datum.TheVariants.{Set, Map}
use Rattle.ovsdb_values.specs.Notation.{IsOf, datum_of, datum_json}
use Rattle.vtep_schema.specs.declared.Table.{Table}
use Rattle.vtep_schema.specs.declared.Table.TheVariants.{Global, PhysicalSwitch, PhysicalPort, LogicalSwitch, UcastMacsLocal, UcastMacsRemote, McastMacsLocal, McastMacsRemote, PhysicalLocatorSet, PhysicalLocator, Acl, AclEntry}
use Rattle.vtep_schema.specs.declared.Column.{Column}
use Rattle.vtep_schema.specs.declared.rules.Domain.{Domain}
use Rattle.vtep_schema.specs.declared.rules.Domain.TheVariants as domain
use Rattle.vtep_schema.specs.declared.rules.ColumnRule.{ColumnRule}
use Rattle.vtep_schema.specs.Tables.{tables, columns_of, belongs, same_table, same_column, column_name, column_named, table_name, table_named, column_rule, shape_of}
use Rattle.vtep_rows.specs.Row.{allowed, allowed_by, is_lower, text_allowed, set_allowed, size_allowed, is_mac}
use Rattle.vtep_rows.proofs.Entries.{all_at}
use Rattle.vtep_rows.proofs.RowLaws.{same_column_exact}
use Rattle.monitor_updates.specs.Noted.{asked_of, everything, whole}
use Rattle.monitor_updates.specs.Mirrored.{told_value, value_in, value_if, lowered, holds_mac}

-- ---- names

abbrev finds : Option Column → Column → Bool
finds None c = false
finds (Some d) c = same_column d c

pub record Known (t : Table) : Type 0 where
  pub columns : list_all (λ c. finds (column_named t (column_name c)) c) (columns_of t) ≡ true
  pub inside : list_all (λ c. belongs c t) (columns_of t) ≡ true
  pub named : table_named (table_name t) ≡ Some t
  pub asked : asked_of everything t ≡ Some (whole t)
  pub listed : list_any (same_table t) tables ≡ true

pub known : (t : Table) → Known t
unfolding texts
known Global = record { columns = refl; inside = refl; named = refl; asked = refl; listed = refl }
known PhysicalSwitch = record { columns = refl; inside = refl; named = refl; asked = refl; listed = refl }
known PhysicalPort = record { columns = refl; inside = refl; named = refl; asked = refl; listed = refl }
known LogicalSwitch = record { columns = refl; inside = refl; named = refl; asked = refl; listed = refl }
known UcastMacsLocal = record { columns = refl; inside = refl; named = refl; asked = refl; listed = refl }
known UcastMacsRemote = record { columns = refl; inside = refl; named = refl; asked = refl; listed = refl }
known McastMacsLocal = record { columns = refl; inside = refl; named = refl; asked = refl; listed = refl }
known McastMacsRemote = record { columns = refl; inside = refl; named = refl; asked = refl; listed = refl }
known PhysicalLocatorSet = record { columns = refl; inside = refl; named = refl; asked = refl; listed = refl }
known PhysicalLocator = record { columns = refl; inside = refl; named = refl; asked = refl; listed = refl }
known Acl = record { columns = refl; inside = refl; named = refl; asked = refl; listed = refl }
known AclEntry = record { columns = refl; inside = refl; named = refl; asked = refl; listed = refl }

found : (o : Option Column) (c : Column) → finds o c ≡ true → o ≡ Some c
found None c e = cc
found (Some d) c e = ap Some (same_column_exact d c e)

pub column_back : (t : Table) (c : Column) → belongs c t ≡ true → column_named t (column_name c) ≡ Some c
column_back t c is =
    found (column_named t (column_name c)) c
    (all_at (λ x. finds (column_named t (column_name x)) x) (same_column c) c (λ x h. sym (same_column_exact c x h)) (columns_of t) (known t).columns is)

some_is : {A : Type 0} (x y : A) → Some x ≡ Some y → x ≡ y
some_is x y e = ap (λ o. unwrap_or o x) e

pub same_columns_of : (t : Table) (c d : Column) → belongs c t ≡ true → belongs d t ≡ true → column_name c ≡ column_name d → c ≡ d
same_columns_of t c d is there e = some_is c d (sym (column_back t c is) ∙ ap (column_named t) e ∙ column_back t d there)

pub same_tables_of : (s t : Table) → table_name s ≡ table_name t → s ≡ t
same_tables_of s t e = some_is s t (sym (known s).named ∙ ap table_named e ∙ (known t).named)

-- ---- values

same_texts : (t u : Bytes) → same_bytes t u ≡ true → t ≡ u
same_texts t u e = (pointwise_decides Decides-eqb t u).0 e

no_capital : (c : ℕ) → not (nat_le 65 c && nat_le c 90) ≡ true → to_ascii_lowercase c ≡ c
no_capital c h = by (nat_lt c 65) (nat_lt c 91) refl refl
  where
    by : (a b : Bool) → nat_lt c 65 ≡ a → nat_lt c 91 ≡ b → cond a c (cond b (c + 32) c) ≡ c
    by true b e f = refl
    by false false e f = refl
    by false true e f =
        let least : nat_le 65 c ≡ true = grind (arith, nat_tests, e) in
        let most : nat_le c 90 ≡ true = grind (arith, nat_tests, f) in
        absurd (true≢false (sym h ∙ (λ i. not (least i && most i))))

all_lower : (t : Bytes) → is_lower t ≡ true → map to_ascii_lowercase t ≡ t
all_lower [] h = refl
all_lower (c ∷ t) h =
    let first : to_ascii_lowercase c ≡ c = no_capital c (first_so _ (is_lower t) h) in
    let rest : map to_ascii_lowercase t ≡ t = all_lower t (second_so (not (nat_le 65 c && nat_le c 90)) (is_lower t) h) in
    λ i. first i ∷ rest i

stays_lower : (b : Bool) (t : Bytes) → is_lower t ≡ true → cond b (map to_ascii_lowercase t) t ≡ t
stays_lower true t h = all_lower t h
stays_lower false t h = refl

either_lower : (a b : Bool) (t : Bytes) → (a ≡ true → is_lower t ≡ true) → (b ≡ true → is_lower t ≡ true) → (a || b) ≡ true → is_lower t ≡ true
either_lower true b t first rest e = first refl
either_lower false b t first rest e = rest e

mac_lower : (d : Domain) (t : Bytes) → holds_mac d ≡ true → text_allowed d t ≡ true → is_lower t ≡ true
mac_lower domain.Mac t mac fits = second_so _ (is_lower t) fits
mac_lower domain.SingleMac t mac fits = second_so _ (is_lower t) fits
mac_lower domain.GroupMac t mac fits =
    either_lower (same_bytes t (codes "unknown-dst")) (is_mac is_group t) t (λ e. ap is_lower (same_texts t (codes "unknown-dst") e)) (λ e. second_so _ (is_lower t) e) fits
mac_lower d t mac fits = cc

lowered_text : (d : Domain) (t : Bytes) (b : Bool) → holds_mac d ≡ b → text_allowed d t ≡ true → lowered b (Set (Text t ∷ [])) ≡ Set (Text t ∷ [])
lowered_text d t true mac fits = ap (λ u. Set (Text u ∷ [])) (stays_lower _ t (mac_lower d t mac fits))
lowered_text d t false mac fits = refl

lowered_by : (r : ColumnRule) (d : Datum) → allowed_by r d ≡ true → lowered (holds_mac r.key) d ≡ d
lowered_by r (Map ps) fits = refl
lowered_by r (Set []) fits = refl
lowered_by r (Set (Integer z ∷ xs)) fits = refl
lowered_by r (Set (Id u ∷ xs)) fits = refl
lowered_by r (Set (Named u ∷ xs)) fits = refl
lowered_by r (Set (Text t ∷ x ∷ xs)) fits = refl
lowered_by r (Set (Text t ∷ [])) fits = by r.value fits
  where
    by : (o : Option Domain) → set_allowed r o (Text t ∷ []) ≡ true → lowered (holds_mac r.key) (Set (Text t ∷ [])) ≡ Set (Text t ∷ [])
    by None e = lowered_text r.key t (holds_mac r.key) refl (first_so (text_allowed r.key t) true (second_so (size_allowed r 1) _ e))
    by (Some v) e = cc

-- what is written of a row's value is read as it
pub value_back : (back : (shape : Shape) (d : Datum) → IsOf shape d → datum_of shape (datum_json d) ≡ Ok d) (t : Table) (c : Column) (d : Datum)
    → belongs c t ≡ true → allowed c d ≡ true → IsOf (shape_of c) d → told_value t (column_name c) (datum_json d) ≡ Some (c, d)
value_back back t c d is fits form =
    ap (option_and_then (λ x. value_in x (datum_of (shape_of x) (datum_json d)))) (column_back t c is)
    ∙ ap (value_in c) (back (shape_of c) d form)
    ∙ ap (value_if c) (lowered_by (column_rule c) d fits)
    ∙ ap (λ b. cond b (Some (c, d)) None) fits
