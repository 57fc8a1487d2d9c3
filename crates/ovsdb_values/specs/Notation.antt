-- The notation of atoms, sets and maps in JSON (RFC 7047, section 5.1).
use Rattle.std.specs.Prelude.{◌≡◌, ℕ, ◌^◌, ◌<◌, ◌==◌, if◌then◌else◌, List, [], ◌∷◌, map, length, Option, Some, None, option_map, option_and_then, ◌++◌, Result, Ok, Err, codes, FitsSigned}
use Rattle.std.specs.List.{AllByRecursion}
use Rattle.std.specs.Int.{w64, w128, to_be_bytes, from_be_bytes}
use Rattle.uuid.specs.Text.{hyphenated_text, lower, parsed}
use Rattle.serde_json.specs.Data.{Data, number, string}
use Rattle.serde_json.specs.Find.{of_integer}
use Rattle.vtep_base.specs.Answers.{OrMemory}
use Rattle.vtep_base.specs.Reading.{Bytes, same_bytes}
use Rattle.vtep_base.specs.declared.shapes.Shape.{Shape}
use Rattle.vtep_base.specs.declared.shapes.Kind.{Kind}
use Rattle.vtep_base.specs.declared.shapes.Kind.TheVariants as kind
use Rattle.json_notation.specs.Json.{text_of, list_of, integer_of, list}
use Rattle.ovsdb_values.specs.declared.NotationFault.{NotationFault}
use Rattle.ovsdb_values.specs.declared.NotationFault.TheVariants.{OutOfMemory, Notation, Repeated}
use Rattle.ovsdb_values.specs.declared.atoms.Atom.{Atom}
use Rattle.ovsdb_values.specs.declared.atoms.Atom.TheVariants.{Integer, Text, Id, Named}
use Rattle.ovsdb_values.specs.declared.datums.Datum.{Datum}
use Rattle.ovsdb_values.specs.declared.datums.Datum.TheVariants.{Set, Map}
use Rattle.std.specs.List.Sorted.{IsStrictlySortedBy}
use Rattle.std.specs.Map.{keys_of}
use Rattle.ovsdb_values.specs.Atoms.{atom_cmp, set_from, map_from}

-- ---- what a value means

abbrev pub two_of : List Data → Option (Data × Data)
two_of (a ∷ b ∷ []) = Some (a, b)
two_of _ = None

-- the two of a list of two
abbrev pub pair_in : Data → Option (Data × Data)
pair_in d = option_and_then two_of (list_of d)

abbrev pub is_word : Bytes → Option Bytes → Data → Option Data
is_word word None d = None
is_word word (Some text) d = if same_bytes text word then Some d else None

abbrev pub second : Bytes → Data × Data → Option Data
second word p = is_word word (text_of p.0) p.1

-- what stands behind this word in a list of two
abbrev pub behind : Bytes → Data → Option Data
behind word d = option_and_then (second word) (pair_in d)

-- the identifier that 36 bytes of text spell (RFC 9562)
abbrev pub id_of : Bytes → Option ℕ
id_of text = if length text == 36 then option_map (from_be_bytes w128) (parsed text) else None

abbrev pub id_in : Data → Option ℕ
id_in d = option_and_then id_of (option_and_then text_of (behind (codes "uuid") d))

abbrev pub name_in : Data → Option Bytes
name_in d = option_and_then text_of (behind (codes "named-uuid") d)

abbrev pub first_of : {A : Type 0} → Option A → Option A → Option A
first_of None o = o
first_of (Some a) o = Some a

abbrev pub atom_of : Kind → Data → Option Atom
atom_of kind.Integer d = option_map Integer (integer_of d)
atom_of kind.Text d = option_map Text (text_of d)
atom_of kind.Id d = first_of (option_map Id (id_in d)) (option_map Named (name_in d))

abbrev pub both : Option Atom → Option Atom → Option (Atom × Atom)
both None b = None
both (Some a) None = None
both (Some a) (Some b) = Some (a, b)

abbrev pub pair_of : Kind → Kind → Data × Data → Option (Atom × Atom)
pair_of key value p = both (atom_of key p.0) (atom_of value p.1)

abbrev pub entry_of : Kind → Kind → Data → Option (Atom × Atom)
entry_of key value d = option_and_then (pair_of key value) (pair_in d)

-- what f gives of every item behind those that are there, where it gives something of each
abbrev pub each_from : {A : Type 0} → (Data → Option A) → List A → List Data → Option (List A)
each_from f done [] = Some done
each_from f done (d ∷ ds) = option_and_then (λ a. each_from f (done ++ a ∷ []) ds) (f d)

-- an atom stands for the set of it
abbrev pub atoms_of : Kind → Data → Option (List Atom)
atoms_of k d = first_of (option_map (λ a. a ∷ []) (atom_of k d)) (option_and_then (each_from (atom_of k) []) (option_and_then list_of (behind (codes "set") d)))

abbrev pub pairs_of : Kind → Kind → Data → Option (List (Atom × Atom))
pairs_of k v d = option_and_then (each_from (entry_of k v) []) (option_and_then list_of (behind (codes "map") d))

-- an atom or a key that stands twice is a fault
abbrev pub set_or : Option (List Atom) → Result Datum NotationFault
set_or None = Err Repeated
set_or (Some atoms) = Ok (Set atoms)

abbrev pub map_or : Option (List (Atom × Atom)) → Result Datum NotationFault
map_or None = Err Repeated
map_or (Some pairs) = Ok (Map pairs)

abbrev pub as_set : Option (List Atom) → Result Datum NotationFault
as_set None = Err Notation
as_set (Some atoms) = set_or (set_from [] atoms)

abbrev pub as_map : Option (List (Atom × Atom)) → Result Datum NotationFault
as_map None = Err Notation
as_map (Some pairs) = map_or (map_from [] pairs)

abbrev pub datum_by : Kind → Option Kind → Data → Result Datum NotationFault
datum_by k None d = as_set (atoms_of k d)
datum_by k (Some v) d = as_map (pairs_of k v d)

abbrev pub refusal_of : NotationFault → Option NotationFault
refusal_of OutOfMemory = None
refusal_of Notation = Some Notation
refusal_of Repeated = Some Repeated

-- the fault is the one that is meant, or want of memory
abbrev pub IsOrMemory : NotationFault → Result Datum NotationFault → Type 0
IsOrMemory fault meant = OrMemory (refusal_of fault) (λ refusal. meant ≡ Err refusal)

-- the set or the map that a value means in a shape, or its fault
abbrev pub datum_of : Shape → Data → Result Datum NotationFault
datum_of shape d = datum_by shape.key shape.value d

-- ---- how a value is written

abbrev pub id_text : ℕ → Bytes
id_text id = hyphenated_text lower (to_be_bytes w128 id)

abbrev pub pair_json : Data → Data → Data
pair_json a b = list (a ∷ b ∷ [])

abbrev pub word_json : Bytes → Data → Data
word_json word d = pair_json (string word) d

abbrev pub atom_json : Atom → Data
atom_json (Integer z) = number (of_integer z)
atom_json (Text t) = string t
atom_json (Id u) = word_json (codes "uuid") (string (id_text u))
atom_json (Named t) = word_json (codes "named-uuid") (string t)

abbrev pub entry_json : Atom × Atom → Data
entry_json p = pair_json (atom_json p.0) (atom_json p.1)

abbrev pub set_json : List Atom → Data
set_json (a ∷ []) = atom_json a
set_json atoms = word_json (codes "set") (list (map atom_json atoms))

abbrev pub datum_json : Datum → Data
datum_json (Set atoms) = set_json atoms
datum_json (Map pairs) = word_json (codes "map") (list (map entry_json pairs))

-- ---- the data of a shape

-- an atom of a kind, whose number has 64 bits or whose identifier has 128
abbrev pub IsOfKind : Kind → Atom → Type 0
IsOfKind kind.Integer (Integer z) = FitsSigned w64 z
IsOfKind kind.Text (Text t) = Unit {0}
IsOfKind kind.Id (Id u) = u < 2 ^ 128
IsOfKind kind.Id (Named t) = Unit {0}
IsOfKind _ _ = ⊥

abbrev pub IsOfPair : Kind → Kind → Atom × Atom → Type 0
IsOfPair key value p = IsOfKind key p.0 × IsOfKind value p.1

-- a datum of a shape: its atoms are of their kinds, and stand in order
abbrev pub IsOfKinds : Kind → Option Kind → Datum → Type 0
IsOfKinds key None (Set atoms) = AllByRecursion (IsOfKind key) atoms × IsStrictlySortedBy atom_cmp atoms
IsOfKinds key (Some value) (Map pairs) = AllByRecursion (IsOfPair key value) pairs × IsStrictlySortedBy atom_cmp (keys_of pairs)
IsOfKinds _ _ _ = ⊥

abbrev pub IsOf : Shape → Datum → Type 0
IsOf shape datum = IsOfKinds shape.key shape.value datum
