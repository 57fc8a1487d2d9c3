-- The forms of what is asked of a table, as they are written (RFC 7047, section 4.1.5).
use Rattle.std.specs.Prelude.{Bool, true, ◌&&◌, if◌then◌else◌, Option, Some, None, is_some, option_map, option_and_then, codes}
use Rattle.serde_json.specs.Data.{Data, Items, no_items, item}
use Rattle.serde_json.specs.Find.{get, as_array, as_object, as_str, as_bool}
use Rattle.vtep_base.specs.Choices.{◌>>=◌}
use Rattle.vtep_base.specs.Reading.{Bytes}

-- an object of a table's request: the names of its columns, where they are given, and its flags
pub record Form : Type 0 where
  pub names : Option Items
  pub initial : Bool
  pub insert : Bool
  pub delete : Bool
  pub modify : Bool

abbrev pub all_texts : Items → Bool
all_texts no_items = true
all_texts (item d ds) = is_some (as_str d) && all_texts ds

abbrev pub texts_only : Items → Option (Option Items)
texts_only ds = if all_texts ds then Some (Some ds) else None

abbrev pub names_of : Option Data → Option (Option Items)
names_of None = Some None
names_of (Some d) = option_and_then texts_only (as_array d)

-- a flag that is left out is true
abbrev pub flag_of : Option Data → Option Bool
flag_of None = Some true
flag_of (Some d) = as_bool d

abbrev pub flag : Bytes → Option Data → Option Bool
flag name select = flag_of (option_and_then (get name) select)

-- an object, where it is given
abbrev pub select_of : Option Data → Option (Option Data)
select_of None = Some None
select_of (Some d) = option_map (λ _. Some d) (as_object d)

-- an object that may give the names of columns and the flags
abbrev pub form_of : Data → Option Form
form_of d = do
  _ ← as_object d
  names ← names_of (get (codes "columns") d)
  select ← select_of (get (codes "select") d)
  initial ← flag (codes "initial") select
  insert ← flag (codes "insert") select
  delete ← flag (codes "delete") select
  modify ← flag (codes "modify") select
  Some (record { names = names; initial = initial; insert = insert; delete = delete; modify = modify })

abbrev pub all_forms : Items → Bool
all_forms no_items = true
all_forms (item d ds) = is_some (form_of d) && all_forms ds
