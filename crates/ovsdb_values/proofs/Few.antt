-- Lists of one atom or none.
use Rattle.std.proofs.Common.{◌≡◌, ◌≤◌, List, [], ◌∷◌, length, Some, refl, arith}
use Rattle.std.specs.List.Sorted.{IsStrictlySortedBy}
use Rattle.ovsdb_values.specs.declared.atoms.Atom.{Atom}
use Rattle.ovsdb_values.specs.Atoms.{atom_cmp, set_from}
use Rattle.ovsdb_values.specs.Sets.{set_of}
use Rattle.ovsdb_values.proofs.InOrder.{no_atoms, one_atom}

pub few_ordered : (atoms : List Atom) → length atoms ≤ 1 → IsStrictlySortedBy atom_cmp atoms
few_ordered [] h = no_atoms [] refl
few_ordered (a ∷ []) h = one_atom (a ∷ []) a refl
few_ordered (a ∷ b ∷ atoms) h = absurd (omega (arith, h))

pub few_once : (atoms : List Atom) → length atoms ≤ 1 → set_from [] atoms ≡ Some atoms
few_once [] h = refl
few_once (a ∷ []) h = refl
few_once (a ∷ b ∷ atoms) h = absurd (omega (arith, h))

pub few_merged : (atoms : List Atom) → length atoms ≤ 1 → set_of atoms ≡ atoms
few_merged [] h = refl
few_merged (a ∷ []) h = refl
few_merged (a ∷ b ∷ atoms) h = absurd (omega (arith, h))
