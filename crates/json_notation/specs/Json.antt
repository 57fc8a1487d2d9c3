-- JSON values as lists and maps.
use Rattle.std.specs.Prelude.{ℕ, ◌^◌, ℤ, pos, nat_lt, if◌then◌else◌, List, [], ◌∷◌, map, Option, Some, None, codes, Bool, true, false}
use Rattle.serde_json.specs.Data.{Num, unsigned, negative, float, Data, null, boolean, number, string, array, object, Items, no_items, item, Members, no_members, member, put}
use Rattle.vtep_base.specs.Reading.{Bytes, same_bytes}

abbrev pub items_of : Items → List Data
items_of no_items = []
items_of (item d ds) = d ∷ items_of ds

abbrev pub members_of : Members → List (Bytes × Data)
members_of no_members = []
members_of (member k d ms) = (k, d) ∷ members_of ms

abbrev pub to_items : List Data → Items
to_items [] = no_items
to_items (d ∷ ds) = item d (to_items ds)

-- the members, each key in its place
abbrev pub to_members : List (Bytes × Data) → Members
to_members [] = no_members
to_members (m ∷ ms) = put m.0 m.1 (to_members ms)

abbrev pub list : List Data → Data
list ds = array (to_items ds)

abbrev pub fields : List (Bytes × Data) → Data
fields ms = object (to_members ms)

abbrev pub text_of : Data → Option Bytes
text_of (string s) = Some s
text_of _ = None

abbrev pub list_of : Data → Option (List Data)
list_of (array ds) = Some (items_of ds)
list_of _ = None

abbrev pub fields_of : Data → Option (List (Bytes × Data))
fields_of (object ms) = Some (members_of ms)
fields_of _ = None

-- a whole number of 64 bits
abbrev pub integer_of : Data → Option ℤ
integer_of (number (unsigned n)) = if nat_lt n (2 ^ 63) then Some (pos n) else None
integer_of (number (negative z)) = Some z
integer_of _ = None

abbrev pub bool_of : Data → Option Bool
bool_of (boolean b) = Some b
bool_of _ = None

-- the member with this key
abbrev pub at_key : Bytes → List (Bytes × Data) → Option Data
at_key k [] = None
at_key k (m ∷ ms) = if same_bytes k m.0 then Some m.1 else at_key k ms
