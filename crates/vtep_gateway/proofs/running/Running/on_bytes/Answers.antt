use Rattle.std.proofs.Common.{sym, ap, subst, ◌∙◌, ◌++◌}
use Rattle.rpc_framing.specs.Streams.{fed}
use Rattle.rpc_framing.specs.Pieces.{come}
use Rattle.vtep_base.specs.Maps as maps
use Rattle.vtep_gateway.specs.Ready.{IsReady}
use Rattle.vtep_gateway.specs.Gateway.{Running, Answer}
use Rattle.vtep_gateway.specs.Sessions.{on_bytes, take_all}
use Rattle.vtep_gateway.proofs.Answered.{bytes_answered}
use Rattle.vtep_gateway.proofs.running.Running.on_bytes.Goals as goal

pub returns-clause-ok : goal.returns-clause-ok
returns-clause-ok g c =
    ap (λ (r : Running). on_bytes r.state c.args.session c.args.piece.now) (sym c.self.view_is)
    ∙ bytes_answered (record { vtep = c.self.inside.vtep; streams = c.self.inside.streams }) c.args.session c.args.piece.now c.take-framer.result c.feed.new.self c.take_all.new.framer c.put.new.self c.take_all.new.self c.take_all.new.sends c.in_ok-failed.failed
    c.take-framer.ensures.stream (c.in_ok-feed.ensures.ok ∙ ap (fed c.take-framer.result) c.as_slice.ensures) c.in_ok-failed.ensures.left
    (c.in_ok-failed.ensures.sends ∙ ap (λ l. l ++ (take_all c.self.inside.vtep c.args.session (come c.feed.new.self).messages).sends) c.new-sends.ensures) c.in_ok-failed.ensures.end c.in_ok-failed.ensures.failed
    (c.in_ok-put.ensures ∙ ap (λ m. maps.insert m c.args.session c.take_all.new.framer) c.take-framer.ensures.left)
    ∙ ap (λ (a : Answer). record { gateway = record { vtep = c.take_all.new.self; streams = c.put.new.self }; answer = a }) (sym c.said.ensures)

pub take_all-requires-clause-fib : goal.take_all-requires-clause-fib
take_all-requires-clause-fib g c = (subst IsReady (sym c.self.view_is) c.requires).fib
