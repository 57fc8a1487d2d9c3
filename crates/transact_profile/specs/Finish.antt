-- The result array of a transaction (RFC 7047, section 4.1.3).
use Rattle.std.specs.Prelude.{List, [], ◌∷◌, ◌++◌, map, Option, Some, None, codes}
use Rattle.vtep_base.specs.Refusals.{word_text}
use Rattle.vtep_base.specs.declared.words.Word.{Word}
use Rattle.vtep_base.specs.declared.words.Word.TheVariants as word
use Rattle.json_notation.specs.Json.{list, fields}
use Rattle.serde_json.specs.Data.{Data, string, null, number, unsigned}
use Rattle.ovsdb_values.specs.Notation.{atom_json}
use Rattle.ovsdb_values.specs.declared.atoms.Atom.TheVariants.{Id}
use Rattle.serde_json.specs.View.{view}
use Rattle.vtep_rows.specs.declared.soundness.Rule.{Rule}
use Rattle.vtep_rows.specs.declared.soundness.Rule.TheVariants.{Limit, Reference, Unique}
use Rattle.transact_profile.specs.declared.outcomes.OpResult.{OpResult}
use Rattle.transact_profile.specs.declared.outcomes.OpResult.TheVariants as held
use Rattle.transact_profile.specs.Meaning.{Reply, Inserted, Rows, Count, Empty, Fault, Null}

-- the result that the code holds
abbrev pub seen : OpResult → Reply
seen (held.Inserted id) = Inserted id
seen (held.Rows rows) = Rows (view rows)
seen (held.Count n) = Count n
seen held.Empty = Empty
seen (held.Fault w) = Fault w
seen held.Null = Null

abbrev pub error : Word → Data
error w = fields ((codes "error", string (word_text w)) ∷ [])

abbrev pub reply_json : Reply → Data
reply_json (Inserted id) = fields ((codes "uuid", atom_json (Id id)) ∷ [])
reply_json (Rows rows) = fields ((codes "rows", rows) ∷ [])
reply_json (Count n) = fields ((codes "count", number (unsigned n)) ∷ [])
reply_json Empty = fields []
reply_json (Fault w) = error w
reply_json Null = null

abbrev pub breach_word : Rule → Word
breach_word Limit = word.ConstraintViolation
breach_word Reference = word.ReferentialIntegrityViolation
breach_word Unique = word.ConstraintViolation

-- a commit that breaks a rule adds its error
abbrev pub breach_json : Option Rule → List Data
breach_json None = []
breach_json (Some rule) = error (breach_word rule) ∷ []

abbrev pub finished : List Reply → Option Rule → Data
finished results breach = list (map reply_json results ++ breach_json breach)
