-- What is written is read back.
use Rattle.std.proofs.Common.{◌≡◌, ℕ, ℤ, pos, negsuc, List, [], ◌∷◌, map, true, cond, Option, Some, None, option_map, Result, Ok, Err, IfOk, refl, ap, ◌∙◌, arith}
use Rattle.std.specs.Prelude.{FitsSigned, nat_lt, ◌^◌, codes, option_and_then}
use Rattle.std.specs.Int.{w64}
use Rattle.std.specs.List.{AllByRecursion}
use Rattle.std.proofs.lemmas.Bool.Decides.{nat_tests}
use Rattle.serde_json.specs.Data.{Data, number}
use Rattle.serde_json.specs.Find.{of_integer}
use Rattle.serde_json.specs.View.{view}
use Rattle.serde_json.specs.declared.value.Value.{Value}
use Rattle.json_notation.specs.Json.{integer_of, list, list_of}
use Rattle.vtep_base.specs.declared.shapes.Shape.{Shape}
use Rattle.vtep_base.specs.declared.shapes.Kind.{Kind}
use Rattle.vtep_base.specs.declared.shapes.Kind.TheVariants as kind
use Rattle.ovsdb_values.specs.declared.atoms.Atom.{Atom}
use Rattle.ovsdb_values.specs.declared.atoms.Atom.TheVariants.{Integer, Text, Id, Named}
use Rattle.ovsdb_values.specs.declared.datums.Datum.{Datum}
use Rattle.ovsdb_values.specs.declared.datums.Datum.TheVariants.{Set, Map}
use Rattle.ovsdb_values.specs.Notation.{IsOfKind, IsOfKinds, IsOf, atom_of, atom_json, entry_of, entry_json, both, first_of, atoms_of, pairs_of, each_from, set_json, word_json, as_set, as_map, set_or, map_or, datum_by, datum_of, datum_json, name_in, behind}
use Rattle.ovsdb_values.proofs.Ids.{id_back}
use Rattle.ovsdb_values.proofs.InOrder.{set_stays, map_stays}
use Rattle.ovsdb_values.proofs.JsonLists.{each_back, held}

below_top : (n : ℕ) → FitsSigned w64 (pos n) → nat_lt n (2 ^ 63) ≡ true
below_top n h = grind (arith, nat_tests)

integer_back : (z : ℤ) → FitsSigned w64 z → integer_of (number (of_integer z)) ≡ Some z
integer_back (pos n) h = ap (λ b. cond b (Some (pos n)) None) (below_top n h)
integer_back (negsuc n) h = refl

pub atom_back : (k : Kind) (a : Atom) → IsOfKind k a → atom_of k (atom_json a) ≡ Some a
atom_back kind.Integer (Integer z) h = ap (option_map Integer) (integer_back z h)
atom_back kind.Integer (Text t) h = absurd h
atom_back kind.Integer (Id u) h = absurd h
atom_back kind.Integer (Named t) h = absurd h
atom_back kind.Text (Integer z) h = absurd h
atom_back kind.Text (Text t) h = refl
atom_back kind.Text (Id u) h = absurd h
atom_back kind.Text (Named t) h = absurd h
atom_back kind.Id (Integer z) h = absurd h
atom_back kind.Id (Text t) h = absurd h
atom_back kind.Id (Id u) h = ap (λ o. first_of (option_map Id o) (option_map Named (name_in (atom_json (Id u))))) (id_back u h)
atom_back kind.Id (Named t) h = refl

entry_back : (k v : Kind) (p : Atom × Atom) → IsOfKind k p.0 × IsOfKind v p.1 → entry_of k v (entry_json p) ≡ Some p
entry_back k v p h = ap (λ o. both o (atom_of v (atom_json p.1))) (atom_back k p.0 h.0) ∙ ap (both (Some p.0)) (atom_back v p.1 h.1)

all_back : {A : Type 0} (P Q : A → Type 0) → ((x : A) → P x → Q x) → (xs : List A) → AllByRecursion P xs → AllByRecursion Q xs
all_back P Q f [] h = tt
all_back P Q f (x ∷ xs) h = (f x h.0, all_back P Q f xs h.1)

-- no set is an atom
no_atom : (k : Kind) (d : Data) → atom_of k (word_json (codes "set") d) ≡ None
no_atom kind.Integer d = refl
no_atom kind.Text d = refl
no_atom kind.Id d = refl

listed_back : (k : Kind) (atoms : List Atom) → AllByRecursion (IsOfKind k) atoms → atoms_of k (word_json (codes "set") (list (map atom_json atoms))) ≡ Some atoms
listed_back k atoms h =
    ap (λ o. first_of (option_map (λ a. a ∷ []) o) (option_and_then (each_from (atom_of k) []) (option_and_then list_of (behind (codes "set") (word_json (codes "set") (list (map atom_json atoms))))))) (no_atom k (list (map atom_json atoms)))
    ∙ ap (each_from (atom_of k) []) (held (map atom_json atoms))
    ∙ each_back (atom_of k) atom_json [] atoms (all_back (IsOfKind k) _ (atom_back k) atoms h)

atoms_back : (k : Kind) (atoms : List Atom) → AllByRecursion (IsOfKind k) atoms → atoms_of k (set_json atoms) ≡ Some atoms
atoms_back k [] h = listed_back k [] h
atoms_back k (a ∷ []) h = ap (λ o. first_of (option_map (λ x. x ∷ []) o) (option_and_then (each_from (atom_of k) []) (option_and_then list_of (behind (codes "set") (atom_json a))))) (atom_back k a h.0)
atoms_back k (a ∷ b ∷ rest) h = listed_back k (a ∷ b ∷ rest) h

pairs_back : (k v : Kind) (pairs : List (Atom × Atom)) → AllByRecursion (λ p. IsOfKind k p.0 × IsOfKind v p.1) pairs → pairs_of k v (datum_json (Map pairs)) ≡ Some pairs
pairs_back k v pairs h =
    ap (each_from (entry_of k v) []) (held (map entry_json pairs))
    ∙ each_back (entry_of k v) entry_json [] pairs (all_back _ _ (entry_back k v) pairs h)

by_kinds : (k : Kind) (o : Option Kind) (datum : Datum) → IsOfKinds k o datum → datum_by k o (datum_json datum) ≡ Ok datum
by_kinds k None (Set atoms) h = ap as_set (atoms_back k atoms h.0) ∙ ap set_or (set_stays [] atoms h.1)
by_kinds k None (Map pairs) h = absurd h
by_kinds k (Some v) (Set atoms) h = absurd h
by_kinds k (Some v) (Map pairs) h = ap as_map (pairs_back k v pairs h.0) ∙ ap map_or (map_stays [] pairs h.1)

pub read_back : (shape : Shape) (datum : Datum) → IsOf shape datum → datum_of shape (datum_json datum) ≡ Ok datum
read_back shape datum h = by_kinds shape.key shape.value datum h

pub read_back_on_ok : {F : Type 0} (shape : Shape) (datum : Datum) (result : Result Value F) → IfOk result (λ value. view value ≡ datum_json datum)
    → IsOf shape datum → IfOk result (λ value. datum_of shape (view value) ≡ Ok datum)
read_back_on_ok shape datum (Ok value) e h = ap (datum_of shape) e ∙ read_back shape datum h
read_back_on_ok shape datum (Err f) e h = tt
