-- Texts of columns that hold no MAC address stay as they are.
use Rattle.std.proofs.Common.{◌≡◌, false, List, [], ◌∷◌, map, refl, ap₂}
use Rattle.vtep_schema.specs.declared.rules.Domain.{Domain}
use Rattle.ovsdb_values.specs.declared.atoms.Atom.{Atom}
use Rattle.ovsdb_values.specs.declared.atoms.Atom.TheVariants.{Integer, Text, Id, Named}
use Rattle.transact_profile.specs.Values.{holds_mac, lower_cased}

one_stays : (d : Domain) (a : Atom) → holds_mac d ≡ false → lower_cased d a ≡ a
one_stays d (Integer z) e = refl
one_stays d (Text t) e = rw e refl
one_stays d (Id u) e = refl
one_stays d (Named t) e = refl

pub all_stay : (d : Domain) (atoms : List Atom) → holds_mac d ≡ false → map (lower_cased d) atoms ≡ atoms
all_stay d [] e = refl
all_stay d (a ∷ atoms) e = ap₂ (λ x xs. x ∷ xs) (one_stays d a e) (all_stay d atoms e)
