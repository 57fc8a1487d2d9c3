-- Rows that hold given atoms in the columns of the table's first unique key.
use Rattle.std.specs.Prelude.{Bool, false, ◌&&◌, ◌==◌, List, [], ◌∷◌, length, Option, Some, None}
use Rattle.ovsdb_values.specs.declared.atoms.Atom.{Atom}
use Rattle.ovsdb_values.specs.Atoms.{same_atom}
use Rattle.vtep_schema.specs.declared.Table.{Table}
use Rattle.vtep_schema.specs.declared.Column.{Column}
use Rattle.vtep_schema.specs.Tables.{unique_keys}
use Rattle.vtep_rows.specs.declared.stamps.Stamp.{Stamp}
use Rattle.vtep_rows.specs.Row.{Contents, atoms_at, first}
use Rattle.vtep_rows.specs.Marks.{with_atoms}

-- exactly this atom
abbrev pub holds_only : List Atom → Atom → Bool
holds_only (y ∷ []) x = same_atom y x
holds_only _ x = false

-- each column holds exactly one atom, the one that stands at its place
abbrev pub holds_in : List Column → List Atom → Contents → Bool
holds_in [] xs row = length xs == 0
holds_in (c ∷ cs) [] row = false
holds_in (c ∷ cs) (x ∷ xs) row = holds_only (atoms_at row c) x && holds_in cs xs row

-- where there is no key, no row holds it
abbrev pub holds : Option (List Column) → List Atom → Contents → Bool
holds None xs row = false
holds (Some cs) xs row = holds_in cs xs row

abbrev pub first_key : Table → Option (List Column)
first_key t = first (unique_keys t)

-- the row that may be there holds the atoms
abbrev pub holds_there : Table → List Atom → Option Contents → Bool
holds_there t xs None = false
holds_there t xs (Some row) = holds (first_key t) xs row

-- the stamp of rows that hold these atoms
abbrev pub stamp_with : List Atom → Stamp
stamp_with xs = with_atoms (record { id = 0; number = 0 }) xs
