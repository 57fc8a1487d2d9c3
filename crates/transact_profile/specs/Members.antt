-- The members of an operation, each of its JSON type.
use Rattle.std.specs.Prelude.{Bool, if◌then◌else◌, List, [], ◌∷◌, Option, Some, None, is_some, option_map, option_and_then, codes}
use Rattle.std.specs.List.{list_all}
use Rattle.serde_json.specs.Data.{Data}
use Rattle.serde_json.specs.Find.{get, as_str, as_array, as_object, as_number}
use Rattle.vtep_base.specs.Reading.{Bytes, same_bytes}
use Rattle.vtep_base.specs.declared.words.Word.TheVariants as word
use Rattle.json_notation.specs.Json.{items_of, members_of}
use Rattle.transact_profile.specs.declared.operations.Until.{Until}
use Rattle.transact_profile.specs.declared.operations.Until.TheVariants.{Same, Different}
use Rattle.transact_profile.specs.Refusing.{Reading, given}

abbrev pub items_in : Data → Option (List Data)
items_in d = option_map items_of (as_array d)

-- a member of a type
abbrev pub member : {A : Type 0} → (Data → Option A) → Bytes → Data → Reading A
member typed name d = given word.SyntaxError (option_and_then typed (get name d))

abbrev pub if_there : {A : Type 0} → (Data → Option A) → Option Data → Option (Option A)
if_there typed None = Some None
if_there typed (Some d) = option_map Some (typed d)

-- a member that may be missing
abbrev pub optional : {A : Type 0} → (Data → Option A) → Bytes → Data → Reading (Option A)
optional typed name d = given word.SyntaxError (if_there typed (get name d))

-- ---- types of members

-- the items of a list, each of which passes
abbrev pub passing : (Data → Bool) → List Data → Option (List Data)
passing test ds = if list_all test ds then Some ds else None

abbrev pub items_that : (Data → Bool) → Data → Option (List Data)
items_that test d = option_and_then (passing test) (items_in d)

abbrev pub is_text : Data → Bool
is_text d = is_some (as_str d)

abbrev pub is_object : Data → Bool
is_object d = is_some (as_object d)

-- what an element of `where` or `mutations` says: a column, a function, and a value
abbrev pub Triple : Type 0
Triple = Bytes × Bytes × Data

abbrev pub triple_with : Data → Option Bytes → Option Bytes → Option Triple
triple_with value None function = None
triple_with value (Some column) None = None
triple_with value (Some column) (Some function) = Some (column, function, value)

abbrev pub triple_in : List Data → Option Triple
triple_in (a ∷ b ∷ c ∷ []) = triple_with c (as_str a) (as_str b)
triple_in _ = None

abbrev pub triple_of : Data → Option Triple
triple_of d = option_and_then triple_in (items_in d)

abbrev pub is_triple : Data → Bool
is_triple d = is_some (triple_of d)

abbrev pub members_in : Data → Option (List (Bytes × Data))
members_in d = option_map members_of (as_object d)

abbrev pub until_named : Bytes → Option Until
until_named name = if same_bytes name (codes "==") then Some Same else (if same_bytes name (codes "!=") then Some Different else None)

abbrev pub until_of : Data → Option Until
until_of d = option_and_then until_named (as_str d)

abbrev pub number_of : Data → Option (Unit {0})
number_of d = option_map (λ n. tt) (as_number d)
