use Rattle.std.proofs.Common.{sym, true≢false}
use Rattle.serde_json.specs.View.{view}
use Rattle.rpc_framing.proofs.Readings.{is_read, is_unread}
use Rattle.rpc_framing.proofs.reading.value_of.Goals as goal

pub returns-in-Ok : goal.returns-in-Ok
returns-in-Ok c = sym (is_read c.args.text.now (view c.in-Ok.value) c.in-Ok.ensures.ok.0 c.in-Ok.ensures.ok.1)

pub returns-else-is_memory : goal.returns-else-is_memory
returns-else-is_memory c = sym (is_unread c.args.text.now (c.in-Err.ensures.err (λ m. absurd (true≢false (sym (c.if-is_memory.ensures.1 m))))))
