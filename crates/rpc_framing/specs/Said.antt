-- What a text says (RFC 7047, section 4).
use Rattle.std.specs.Prelude.{◌≡◌, Bool, true, ◌&&◌, if◌then◌else◌, Option, Some, None, is_some, option_map, option_and_then, codes}
use Rattle.std.specs.Str.{is_utf8}
use Rattle.serde_json.specs.Data.{Data, null, boolean, number, string, array, object, Items, no_items, item, Members, no_members, member}
use Rattle.serde_json.specs.Find.{get, as_i64, as_str, as_array, as_null}
use Rattle.serde_json.specs.Read.{read}
use Rattle.serde_json.specs.View.{view}
use Rattle.vtep_base.specs.Reading.{Bytes}
use Rattle.rpc_framing.specs.declared.Message.{Message as Held}
use Rattle.rpc_framing.specs.declared.Message.TheVariants as held

pub data Message : Type 0 where
  Request : Bytes → Data → Data → Message  -- method, params, id
  Notification : Bytes → Data → Message  -- method, params
  Response : Data → Data → Data → Message  -- result, error, id

-- every number is a whole number of 64 bits
abbrev mutual
  pub is_whole : Data → Bool
  is_whole null = true
  is_whole (boolean b) = true
  is_whole (number n) = is_some (as_i64 n)
  is_whole (string s) = true
  is_whole (array ds) = items_whole ds
  is_whole (object ms) = members_whole ms

  pub items_whole : Items → Bool
  items_whole no_items = true
  items_whole (item d ds) = is_whole d && items_whole ds

  pub members_whole : Members → Bool
  members_whole no_members = true
  members_whole (member k d ms) = is_whole d && members_whole ms

abbrev pub called : Bytes → Data → Data → Message
called method params id = if is_some (as_null id) then Notification method params else Request method params id

abbrev pub array_of : Data → Option Data
array_of d = if is_some (as_array d) then Some d else None

-- a call: a text `method`, an array `params`, and an `id`
abbrev pub call_of : Data → Data → Option Message
call_of d method =
    option_and_then (λ name. option_and_then (λ params. option_map (called name params) (get (codes "id") d)) (option_and_then array_of (get (codes "params") d)))
    (as_str method)

abbrev pub response_of : Data → Option Message
response_of d =
    option_and_then (λ result. option_and_then (λ error. option_map (Response result error) (get (codes "id") d)) (get (codes "error") d))
    (get (codes "result") d)

abbrev pub by_method : Data → Option Data → Option Message
by_method d (Some method) = call_of d method
by_method d None = response_of d

-- the message that a value is. What is no object has no members.
abbrev pub message_of : Data → Option Message
message_of d = if is_whole d then by_method d (get (codes "method") d) else None

-- the value of bytes: they are UTF-8, and a text of JSON (RFC 8259)
abbrev pub reading : Bytes → Option Data
reading bytes = if is_utf8 bytes then read bytes else None

-- the text is read as a value that is the message
abbrev pub Says : Bytes → Message → Type 0
Says text m = (d : Data) × (reading text ≡ Some d) × (message_of d ≡ Some m)

-- the message that the code holds
abbrev pub said : Held → Message
said (held.Request method params id) = Request method (view params) (view id)
said (held.Notification method params) = Notification method (view params)
said (held.Response result error id) = Response (view result) (view error) (view id)
