-- The port of a name, one row after another.
use Rattle.std.proofs.Common.{◌≡◌, ℕ, Bool, true, false, cond, T, ◌&&◌, ◌||◌, List, [], ◌∷◌, map, is_some, Option, Some, None, refl, sym, ap, ◌∙◌}
use Rattle.std.specs.List.{filter, list_any}
use Rattle.std.specs.FinMap.{find, is_sorted}
use Rattle.std.specs.FinMap.Entries.{below_all}
use Rattle.vtep_base.specs.Reading.{Bytes}
use Rattle.ovsdb_values.specs.declared.atoms.Atom.{Atom}
use Rattle.ovsdb_values.specs.declared.atoms.Atom.TheVariants.{Integer, Text, Id, Named}
use Rattle.ovsdb_values.specs.declared.datums.Datum.{Datum}
use Rattle.ovsdb_values.specs.declared.datums.Datum.TheVariants as datum
use Rattle.vtep_schema.specs.declared.Column.TheVariants.{PortName}
use Rattle.vtep_schema.specs.declared.Table.TheVariants.{PhysicalPort}
use Rattle.vtep_schema.specs.Tables.{same_table}
use Rattle.vtep_rows.specs.Row.{Contents, value_at, set_in, first}
use Rattle.vtep_rows.specs.Keyed.{holds_only}
use Rattle.vtep_rows.specs.Rows.{Key, key_cmp, Rows, row_at, rows_of, ids_of}
use Rattle.vtep_rows.proofs.Entries.{t_second}
use Rattle.vtep_rows.proofs.Kept.{same_table_exact}
use Rattle.vtep_rows.proofs.SoundLaws.{first_found, later_found}
use Rattle.vtep_gateway.specs.Ports.{is_text, is_named, port_named}
use Rattle.vtep_gateway.proofs.PortRows.{same_texts}

abbrev pub named_at : Option Contents → Bytes → Bool
named_at None name = false
named_at (Some row) name = is_text (value_at row PortName) name

two_texts : (name : Bytes) (x y : Atom) (ys : List Atom) → is_text (datum.Set (x ∷ y ∷ ys)) name ≡ false
two_texts name (Integer z) y ys = refl
two_texts name (Text t) y ys = refl
two_texts name (Id u) y ys = refl
two_texts name (Named t) y ys = refl

text_is : (name : Bytes) (d : Datum) → is_text d name ≡ holds_only (set_in d) (Text name)
text_is name (datum.Map ps) = refl
text_is name (datum.Set []) = refl
text_is name (datum.Set (Integer z ∷ [])) = refl
text_is name (datum.Set (Text t ∷ [])) = same_texts t name
text_is name (datum.Set (Id u ∷ [])) = refl
text_is name (datum.Set (Named t ∷ [])) = refl
text_is name (datum.Set (x ∷ y ∷ ys)) = two_texts name x y ys

and_true : (b : Bool) → b ≡ (b && true)
and_true true = refl
and_true false = refl

name_is : (name : Bytes) (row : Contents) → is_text (value_at row PortName) name ≡ is_named name row
name_is name row = text_is name (value_at row PortName) ∙ and_true _

-- some row of these identifiers has the name
abbrev pub among : Rows → Bytes → List ℕ → Bool
among r name [] = false
among r name (id ∷ ids) = named_at (row_at r (PhysicalPort, id)) name || among r name ids

some_first : {A B : Type 0} (f : A → B) (p : A → Bool) (xs : List A) → is_some (first (map f (filter p xs))) ≡ list_any p xs
some_first f p [] = refl
some_first f p (x ∷ xs) = elim (p x) as (λ b. is_some (first (map f (cond b (x ∷ filter p xs) (filter p xs)))) ≡ (b || list_any p xs)) [ true ↦ refl | false ↦ some_first f p xs ]

abbrev entry : Key × Contents → ℕ × Contents
entry e = (e.0.1, e.1)

abbrev ports_in : List (Key × Contents) → List (ℕ × Contents)
ports_in es = map entry (filter (λ e. same_table e.0.0 PhysicalPort) es)

-- the rows that are found are those that are listed
listed : (r : Rows) (name : Bytes) (es : List (Key × Contents)) → T (is_sorted key_cmp es) → ((k : Key) (row : Contents) → find key_cmp k es ≡ Some row → row_at r k ≡ Some row)
    → among r name (map (λ row. row.0) (ports_in es)) ≡ list_any (λ row. is_named name row.1) (ports_in es)
listed r name [] sorted so = refl
listed r name (e ∷ es) sorted so =
    let rest = listed r name es (t_second (below_all key_cmp e.0 es) (is_sorted key_cmp es) sorted) (λ k row is. so k row (later_found k row e es sorted is)) in
    elim (same_table e.0.0 PhysicalPort) as (λ b. same_table e.0.0 PhysicalPort ≡ b
    → among r name (map (λ row. row.0) (map entry (cond b (e ∷ filter (λ f. same_table f.0.0 PhysicalPort) es) (filter (λ f. same_table f.0.0 PhysicalPort) es))))
    ≡ list_any (λ row. is_named name row.1) (map entry (cond b (e ∷ filter (λ f. same_table f.0.0 PhysicalPort) es) (filter (λ f. same_table f.0.0 PhysicalPort) es)))) [
      | true ↦ λ here.
          ap (λ o. named_at o name || among r name (map (λ row. row.0) (ports_in es))) (ap (λ t. row_at r (t, e.0.1)) (sym (same_table_exact e.0.0 PhysicalPort here)) ∙ so e.0 e.1 (first_found e es))
          ∙ (λ i. name_is name e.1 i || rest i)
      | false ↦ λ _. rest
    ] refl

pub all_ports : (r : Rows) (name : Bytes) → among r name (ids_of PhysicalPort r) ≡ is_some (port_named r name)
all_ports r name = listed r name r.rows.list r.rows.sorted (λ k row is. is) ∙ sym (some_first (λ row. row.0) (λ row. is_named name row.1) (rows_of PhysicalPort r))
