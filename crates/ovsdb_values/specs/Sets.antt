-- Sets and maps of atoms as values: when two are one, and what joining and taking away leaves (RFC 7047, sections 3.2 and 5.1).
use Rattle.std.specs.Prelude.{Bool, false, not, ◌&&◌, if◌then◌else◌, is_some, List, [], ◌∷◌, ◌++◌, filter, Option}
use Rattle.std.specs.List.{list_any}
use Rattle.std.specs.Map.{lookup}
use Rattle.std.specs.BTreeMap.{insert_entry}
use Rattle.std.specs.BTreeSet.{insert_key}
use Rattle.std.specs.Cmp.Lexicographic.{pointwise}
use Rattle.ovsdb_values.specs.declared.atoms.Atom.{Atom}
use Rattle.ovsdb_values.specs.declared.datums.Datum.{Datum}
use Rattle.ovsdb_values.specs.declared.datums.Datum.TheVariants.{Set, Map}
use Rattle.ovsdb_values.specs.Atoms.{atom_cmp, same_atom}

abbrev pub one : Atom → Datum
one a = Set (a ∷ [])

-- ---- when two are one

abbrev pub same_pair : Atom × Atom → Atom × Atom → Bool
same_pair p q = same_atom p.0 q.0 && same_atom p.1 q.1

abbrev pub same_atoms : List Atom → List Atom → Bool
same_atoms = pointwise same_atom

abbrev pub same_pairs : List (Atom × Atom) → List (Atom × Atom) → Bool
same_pairs = pointwise same_pair

abbrev pub same_datum : Datum → Datum → Bool
same_datum (Set xs) (Set ys) = same_atoms xs ys
same_datum (Map ps) (Map qs) = same_pairs ps qs
same_datum _ _ = false

-- ---- what is in a set, and in a map

abbrev pub has_atom : List Atom → Atom → Bool
has_atom xs x = list_any (same_atom x) xs

abbrev pub has_pair : List (Atom × Atom) → Atom × Atom → Bool
has_pair ps p = list_any (same_pair p) ps

-- the value at a key
abbrev pub value_in : List (Atom × Atom) → Atom → Option Atom
value_in ps k = lookup (same_atom k) ps

-- ---- joining

-- a set with further atoms
abbrev pub with_atoms : List Atom → List Atom → List Atom
with_atoms done [] = done
with_atoms done (a ∷ rest) = with_atoms (insert_key atom_cmp done a) rest

-- the atoms of a list in order, each once
abbrev pub set_of : List Atom → List Atom
set_of atoms = with_atoms [] atoms

-- a key that is there keeps its value
abbrev pub with_pair : List (Atom × Atom) → Atom × Atom → List (Atom × Atom)
with_pair done p = if is_some (value_in done p.0) then done else insert_entry atom_cmp done p.0 p.1

abbrev pub with_pairs : List (Atom × Atom) → List (Atom × Atom) → List (Atom × Atom)
with_pairs done [] = done
with_pairs done (p ∷ rest) = with_pairs (with_pair done p) rest

-- the pairs of a list in the order of their keys, of those with one key the first
abbrev pub map_of : List (Atom × Atom) → List (Atom × Atom)
map_of pairs = with_pairs [] pairs

-- all of both; a key of both keeps the first value
abbrev pub with_all : Datum → Datum → Datum
with_all (Set xs) (Set ys) = Set (set_of (xs ++ ys))
with_all (Map ps) (Map qs) = Map (map_of (ps ++ qs))
with_all d _ = d

-- ---- taking away

-- a set without the atoms of another, a map without some keys, or without the pairs of another
abbrev pub without_all : Datum → Datum → Datum
without_all (Set xs) (Set ys) = Set (filter (λ x. not (has_atom ys x)) xs)
without_all (Map ps) (Set ys) = Map (filter (λ p. not (has_atom ys p.0)) ps)
without_all (Map ps) (Map qs) = Map (filter (λ p. not (has_pair qs p)) ps)
without_all d _ = d
