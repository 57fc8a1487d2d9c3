-- How a message is written.
use Rattle.std.specs.Prelude.{codes}
use Rattle.serde_json.specs.Data.{Data, null, string, object, no_members, member}
use Rattle.serde_json.specs.Written.{compact_text}
use Rattle.vtep_base.specs.Reading.{Bytes}
use Rattle.rpc_framing.specs.Said.{Message, Request, Notification, Response}

-- three members
abbrev pub three : Bytes → Data → Bytes → Data → Bytes → Data → Data
three k d l e m f = object (member k d (member l e (member m f no_members)))

-- the keys stand in the order of their bytes
abbrev pub called_json : Bytes → Data → Data → Data
called_json method params id = three (codes "id") id (codes "method") (string method) (codes "params") params

abbrev pub answer_json : Data → Data → Data → Data
answer_json result error id = three (codes "error") error (codes "id") id (codes "result") result

abbrev pub message_json : Message → Data
message_json (Request method params id) = called_json method params id
message_json (Notification method params) = called_json method params null
message_json (Response result error id) = answer_json result error id

abbrev pub message_text : Message → Bytes
message_text m = compact_text (message_json m)
