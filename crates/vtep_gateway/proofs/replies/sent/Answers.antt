use Rattle.std.proofs.Common.{ap, ◌∙◌, ◌++◌}
use Rattle.rpc_framing.specs.Written.{message_text}
use Rattle.rpc_framing.specs.Said.{said}
use Rattle.vtep_gateway.proofs.replies.sent.Goals as goal

pub returns : goal.returns
returns c =
    ap (λ b. record { session = c.args.session; bytes = b })
    (c.in_ok-print.ensures.ok c.requires.plain ∙ ap (λ b. b ++ message_text (said c.args.message.now)) c.new-bytes.ensures)
