-- Atoms and their order, and lists of them in order (RFC 7047, section 3.1).
use Rattle.std.specs.Prelude.{ℕ, ℤ, pos, Bool, List, [], ◌∷◌, if◌then◌else◌, is_some, Option, Some, None}
use Rattle.std.specs.List.{list_any}
use Rattle.std.specs.Map.{lookup}
use Rattle.std.specs.BTreeMap.{is_at, insert_entry}
use Rattle.std.specs.BTreeSet.{insert_key}
use Rattle.std.specs.Ordering.{nat_cmp, int_cmp, ordering_then, is_eq}
use Rattle.std.specs.Cmp.{IsTotalOrder, nat_cmp_total, int_cmp_total}
use Rattle.std.specs.Cmp.Lexicographic.{slice_cmp, nat_list_cmp_total}
use Rattle.std.specs.declared.cmp.Ordering.{Ordering}
use Rattle.std.proofs.lemmas.Cmp.{then_total, on_total}
use Rattle.vtep_base.specs.Reading.{Bytes}
use Rattle.ovsdb_values.specs.declared.atoms.Atom.{Atom}
use Rattle.ovsdb_values.specs.declared.atoms.Atom.TheVariants.{Integer, Text, Id, Named}

-- numbers stand before texts, then come identifiers, and names of rows that are still to be made
abbrev pub rank : Atom → ℕ
rank (Integer z) = 0
rank (Text t) = 1
rank (Id u) = 2
rank (Named t) = 3

abbrev pub integer_in : Atom → ℤ
integer_in (Integer z) = z
integer_in (Text t) = pos 0
integer_in (Id u) = pos 0
integer_in (Named t) = pos 0

abbrev pub id_in : Atom → ℕ
id_in (Integer z) = 0
id_in (Text t) = 0
id_in (Id u) = u
id_in (Named t) = 0

abbrev pub text_in : Atom → Bytes
text_in (Integer z) = []
text_in (Text t) = t
text_in (Id u) = []
text_in (Named t) = t

-- atoms of one kind: numbers by value, identifiers by value, texts by bytes
abbrev pub atom_cmp : Atom → Atom → Ordering
atom_cmp a b =
    ordering_then (ordering_then (ordering_then (nat_cmp (rank a) (rank b)) (int_cmp (integer_in a) (integer_in b))) (nat_cmp (id_in a) (id_in b)))
    (slice_cmp nat_cmp (text_in a) (text_in b))

pub atom_total : IsTotalOrder atom_cmp
atom_total = then_total (then_total (then_total (on_total rank nat_cmp_total) (on_total integer_in int_cmp_total)) (on_total id_in nat_cmp_total)) (on_total text_in nat_list_cmp_total)

abbrev pub same_atom : Atom → Atom → Bool
same_atom a b = is_eq (atom_cmp a b)

-- ---- the atoms of a list in order: none where an atom stands twice

abbrev pub set_from : List Atom → List Atom → Option (List Atom)
set_from done [] = Some done
set_from done (a ∷ rest) = if list_any (is_at (atom_cmp a)) done then None else set_from (insert_key atom_cmp done a) rest

-- the pairs of a list in the order of their keys: none where a key stands twice
abbrev pub map_from : List (Atom × Atom) → List (Atom × Atom) → Option (List (Atom × Atom))
map_from done [] = Some done
map_from done (p ∷ rest) = if is_some (lookup (is_at (atom_cmp p.0)) done) then None else map_from (insert_entry atom_cmp done p.0 p.1) rest
