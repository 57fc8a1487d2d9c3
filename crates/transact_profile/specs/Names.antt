-- Names of insertions, each as the atom that a value holds, and the rows that they stand for.
use Rattle.std.specs.Prelude.{ℕ, ◌+◌, List, [], ◌∷◌, Option, Some, None}
use Rattle.std.specs.Coded.{Coded, coded_ℕ}
use base.Stored.{coded_unit}
use Rattle.vtep_base.specs.Reading.{Bytes}
use Rattle.vtep_base.specs.Maps as maps
use Rattle.vtep_base.specs.Maps.{Map}
use Rattle.ovsdb_values.specs.declared.atoms.Atom.TheVariants.{Named}
use Rattle.ovsdb_values.specs.contracts.atoms.Atom as atom
use Rattle.ovsdb_values.specs.Atoms.{atom_cmp}
use Rattle.vtep_rows.specs.Rows.{row_id}

abbrev pub NameSet : Type 0
NameSet = Map atom_cmp (Unit {0})

abbrev pub set_code : Coded NameSet
set_code = maps.code (atom.the_row).coded coded_unit

-- with the name of an insertion, where it has one
abbrev pub with_name : NameSet → Option Bytes → NameSet
with_name names None = names
with_name names (Some name) = maps.insert names (Named name) tt

-- from a name to the identifier of the row that has it
abbrev pub Names : Type 0
Names = Map atom_cmp ℕ

abbrev pub names_code : Coded Names
names_code = maps.code (atom.the_row).coded coded_ℕ

-- with the row of an insertion, where it has a name
abbrev pub with_row : Names → Option Bytes → ℕ → Names
with_row names None id = names
with_row names (Some name) id = maps.insert names (Named name) id

-- the insertions take the numbers from this one on
abbrev pub names_from : ℕ → ℕ → Names → List (Option Bytes) → Names
names_from made number done [] = done
names_from made number done (name ∷ names) = names_from made (number + 1) (with_row done name (row_id made number)) names

abbrev pub id_named : Names → Bytes → Option ℕ
id_named ns name = maps.get ns (Named name)
