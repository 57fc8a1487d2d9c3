-- Worked values, by computation.
use Rattle.std.proofs.Common.{◌≡◌, pos, Some, None, Ok, Err, refl, [], ◌∷◌, option_map}
use Rattle.std.specs.Prelude.{codes}
use Rattle.serde_json.specs.Read.{read}
use Rattle.serde_json.specs.Written.{compact_text}
use Rattle.vtep_base.specs.declared.shapes.Kind.TheVariants as kind
use Rattle.json_notation.specs.Computes.{texts}
use Rattle.ovsdb_values.specs.declared.NotationFault.TheVariants.{Notation, Repeated}
use Rattle.ovsdb_values.specs.declared.atoms.Atom.TheVariants.{Integer, Text, Id, Named}
use Rattle.ovsdb_values.specs.declared.datums.Datum.TheVariants.{Set, Map}
use Rattle.ovsdb_values.specs.Notation.{datum_of, datum_json}

in_order : option_map (datum_of (record { key = kind.Text; value = None })) (read (codes "[\"set\",[\"b\",\"aa\"]]")) ≡ Some (Ok (Set (Text (codes "aa") ∷ Text (codes "b") ∷ [])))
unfolding texts
in_order = refl

twice : option_map (datum_of (record { key = kind.Text; value = None })) (read (codes "[\"set\",[\"b\",\"b\"]]")) ≡ Some (Err Repeated)
unfolding texts
twice = refl

an_id : option_map (datum_of (record { key = kind.Id; value = None })) (read (codes "[\"uuid\",\"0A000001-0000-8000-8000-00000000000C\"]")) ≡ Some (Ok (Set (Id 0x0a00000100008000800000000000000c ∷ [])))
unfolding texts
an_id = refl

a_map : option_map (datum_of (record { key = kind.Integer; value = Some kind.Id })) (read (codes "[\"map\",[[7,[\"named-uuid\",\"r0\"]]]]")) ≡ Some (Ok (Map ((Integer (pos 7), Named (codes "r0")) ∷ [])))
unfolding texts
a_map = refl

no_map : option_map (datum_of (record { key = kind.Integer; value = Some kind.Id })) (read (codes "7")) ≡ Some (Err Notation)
unfolding texts
no_map = refl

written : compact_text (datum_json (Set (Text (codes "b\"") ∷ []))) ≡ codes "\"b\\\"\""
unfolding texts
written = refl
