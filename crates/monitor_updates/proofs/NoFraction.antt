-- What is told has no fraction, so that its text is known.
use Rattle.std.proofs.Common.{◌≡◌, pos, negsuc, Bool, true, false, cond, ◌||◌, List, [], ◌∷◌, map, Option, Some, None, option_map, Result, Ok, Err, IfOk, refl, ap, ◌∙◌}
use Rattle.std.specs.Prelude.{filter, filter_map, IfSome, codes}
use Rattle.std.specs.List.{cons_option}
use Rattle.std.specs.Ordering.{match_ordering}
use Rattle.std.specs.declared.cmp.Ordering.{Ordering}
use Rattle.std.specs.declared.cmp.Ordering.TheVariants.{Less, Equal, Greater}
use Rattle.std.specs.Cmp.Lexicographic.{slice_cmp}
use Rattle.std.specs.Ordering.{nat_cmp}
use Rattle.serde_json.specs.Data.{Data, Members, no_members, member, put}
use Rattle.serde_json.specs.View.{view}
use Rattle.serde_json.specs.Written.{has_float, members_have_float, items_have_float}
use Rattle.serde_json.specs.declared.value.Value.{Value}
use Rattle.vtep_base.specs.Reading.{Bytes}
use Rattle.json_notation.specs.Json.{list, to_items, to_members}
use Rattle.ovsdb_values.specs.declared.atoms.Atom.{Atom}
use Rattle.ovsdb_values.specs.declared.atoms.Atom.TheVariants.{Integer, Text, Id, Named}
use Rattle.ovsdb_values.specs.declared.datums.Datum.{Datum}
use Rattle.ovsdb_values.specs.declared.datums.Datum.TheVariants as datum
use Rattle.ovsdb_values.specs.Notation.{id_text, atom_json, entry_json, datum_json}
use Rattle.vtep_schema.specs.declared.Table.{Table}
use Rattle.vtep_schema.specs.Tables.{same_table, tables}
use Rattle.vtep_rows.specs.Rows.{Rows, Key}
use Rattle.monitor_updates.specs.declared.requests.MonitorRequest.{MonitorRequest}
use Rattle.monitor_updates.specs.Noted.{Cut, Update, Insert, Delete, Modify, opening}
use Rattle.monitor_updates.specs.Updates.{members_json, cut_json, update_json, in_table, table_member, updates_json, opening_json, params_json}

abbrev IsPlain : Data → Type 0
IsPlain d = has_float d ≡ false

neither : (a b : Bool) → a ≡ false → b ≡ false → (a || b) ≡ false
neither a b p q i = p i || q i

-- ---- objects and arrays

abbrev AllPlain : List (Bytes × Data) → Type 0
AllPlain [] = Unit {0}
AllPlain (m ∷ ms) = IsPlain m.1 × AllPlain ms

put_plain : (k : Bytes) (d : Data) (ms : Members) → IsPlain d → members_have_float ms ≡ false → members_have_float (put k d ms) ≡ false
put_plain k d no_members p h = neither (has_float d) false p refl
put_plain k d (member l e ms) p h = by (slice_cmp nat_cmp k l) (left h) (right h) (put_plain k d ms p (right h))
  where
    left : (has_float e || members_have_float ms) ≡ false → has_float e ≡ false
    left = first (has_float e) (members_have_float ms)
      where
        first : (a b : Bool) → (a || b) ≡ false → a ≡ false
        first false b x = refl
        first true b x = x

    right : (has_float e || members_have_float ms) ≡ false → members_have_float ms ≡ false
    right = last (has_float e) (members_have_float ms)
      where
        last : (a b : Bool) → (a || b) ≡ false → b ≡ false
        last false b x = x
        last true b x = cc

    by : (o : Ordering) → has_float e ≡ false → members_have_float ms ≡ false → members_have_float (put k d ms) ≡ false
        → members_have_float (match_ordering o (member k d (member l e ms)) (member l d ms) (member l e (put k d ms))) ≡ false
    by Less x y z = neither (has_float d) (has_float e || members_have_float ms) p (neither (has_float e) (members_have_float ms) x y)
    by Equal x y z = neither (has_float d) (members_have_float ms) p y
    by Greater x y z = neither (has_float e) (members_have_float (put k d ms)) x z

members_plain : (ms : List (Bytes × Data)) → AllPlain ms → members_have_float (to_members ms) ≡ false
members_plain [] h = refl
members_plain (m ∷ ms) h = put_plain m.0 m.1 (to_members ms) h.0 (members_plain ms h.1)

items_plain : {A : Type 0} (f : A → Data) → ((x : A) → IsPlain (f x)) → (xs : List A) → items_have_float (to_items (map f xs)) ≡ false
items_plain f plain [] = refl
items_plain f plain (x ∷ xs) = neither (has_float (f x)) (items_have_float (to_items (map f xs))) (plain x) (items_plain f plain xs)

-- ---- values

atom_plain : (a : Atom) → IsPlain (atom_json a)
atom_plain (Integer (pos n)) = refl
atom_plain (Integer (negsuc n)) = refl
atom_plain (Text t) = refl
atom_plain (Id u) = refl
atom_plain (Named t) = refl

entry_plain : (p : Atom × Atom) → IsPlain (entry_json p)
entry_plain p = neither (has_float (atom_json p.0)) (has_float (atom_json p.1) || false) (atom_plain p.0) (neither (has_float (atom_json p.1)) false (atom_plain p.1) refl)

listed_plain : (d : Data) → IsPlain d → (has_float d || false) ≡ false
listed_plain d p = neither (has_float d) false p refl

datum_plain : (d : Datum) → IsPlain (datum_json d)
datum_plain (datum.Set []) = refl
datum_plain (datum.Set (a ∷ [])) = atom_plain a
datum_plain (datum.Set (a ∷ b ∷ atoms)) = listed_plain (list (map atom_json (a ∷ b ∷ atoms))) (items_plain atom_json atom_plain (a ∷ b ∷ atoms))
datum_plain (datum.Map pairs) = listed_plain (list (map entry_json pairs)) (items_plain entry_json entry_plain pairs)

cut_plain : (cut : Cut) → AllPlain (members_json cut)
cut_plain [] = tt
cut_plain (e ∷ cut) = (datum_plain e.1, cut_plain cut)

update_plain : (u : Update) → IsPlain (update_json u)
update_plain (Insert new) = members_plain ((codes "new", cut_json new) ∷ []) (members_plain (members_json new) (cut_plain new), tt)
update_plain (Delete old) = members_plain ((codes "old", cut_json old) ∷ []) (members_plain (members_json old) (cut_plain old), tt)
update_plain (Modify before new) =
    members_plain ((codes "new", cut_json new) ∷ (codes "old", cut_json before) ∷ [])
    (members_plain (members_json new) (cut_plain new), (members_plain (members_json before) (cut_plain before), tt))

-- ---- tables

rows_plain : (t : Table) (us : List (Key × Update)) → AllPlain (in_table t us)
rows_plain t [] = tt
rows_plain t (u ∷ us) = by (same_table u.0.0 t) (rows_plain t us)
  where
    by : (b : Bool) → AllPlain (in_table t us) → AllPlain (map (λ (x : Key × Update). (id_text x.0.1, update_json x.1)) (cond b (u ∷ filter (λ x. same_table x.0.0 t) us) (filter (λ x. same_table x.0.0 t) us)))
    by true rest = (update_plain u.1, rest)
    by false rest = rest

member_plain : (t : Table) (ms : Members) (rest : List (Bytes × Data)) → members_have_float ms ≡ false → AllPlain rest → AllPlain (cons_option (table_member t ms) rest)
member_plain t no_members rest p h = h
member_plain t (member k d ms) rest p h = (p, h)

tables_plain : (us : List (Key × Update)) (ts : List Table) → AllPlain (filter_map (λ t. table_member t (to_members (in_table t us))) ts)
tables_plain us [] = tt
tables_plain us (t ∷ ts) = member_plain t (to_members (in_table t us)) _ (members_plain (in_table t us) (rows_plain t us)) (tables_plain us ts)

updates_plain : (us : List (Key × Update)) → IsPlain (updates_json us)
updates_plain us = members_plain _ (tables_plain us tables)

-- ---- what the calls give

pub reply_plain : (v : Value) (request : List MonitorRequest) (rows : Rows) → view v ≡ opening_json request rows → has_float (view v) ≡ false
reply_plain v request rows e = ap has_float e ∙ updates_plain (opening request rows)

some_is : {A : Type 0} (x y : A) → Some x ≡ Some y → x ≡ y
some_is x y e = cc

told_plain : (v : Value) (id : Data) (us : List (Key × Update)) → has_float id ≡ false → Some (view v) ≡ params_json id us → has_float (view v) ≡ false
told_plain v id [] p e = cc
told_plain v id (u ∷ us) p e =
    ap has_float (some_is (view v) (list (id ∷ updates_json (u ∷ us) ∷ [])) e)
    ∙ neither (has_float id) (has_float (updates_json (u ∷ us)) || false) p (listed_plain (updates_json (u ∷ us)) (updates_plain (u ∷ us)))

pub notice_plain : {E : Type 0} (r : Result (Option Value) E) (id : Data) (us : List (Key × Update)) → has_float id ≡ false → IfOk r (λ o. option_map view o ≡ params_json id us) → IfOk r (λ o. IfSome o (λ v. has_float (view v) ≡ false))
notice_plain (Err e) id us p h = tt
notice_plain (Ok None) id us p h = tt
notice_plain (Ok (Some v)) id us p h = told_plain v id us p h
