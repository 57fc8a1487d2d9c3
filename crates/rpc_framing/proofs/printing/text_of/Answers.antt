use Rattle.std.proofs.Common.{string_bytes}
use Rattle.std.proofs.lemmas.Str.{IsUtf8-string_bytes}
use Rattle.serde_json.specs.View.{view}
use Rattle.rpc_framing.proofs.Printed.{is_printed}
use Rattle.rpc_framing.proofs.printing.text_of.Goals as goal

pub returns-clause-printed : goal.returns-clause-printed
returns-clause-printed c =
    let s = c.in_ok-to_string in
    is_printed (string_bytes s.field-0) (view c.args.value.now) (IsUtf8-string_bytes s.field-0) s.ensures.compact s.ensures.order s.ensures.reads_back
