use Rattle.std.proofs.Common.{sym, ◌∙◌}
use Rattle.vtep_gateway.proofs.ToldNothing.{no_items, nothing_told}
use Rattle.vtep_gateway.proofs.monitors.Monitors.tell.Goals as goal

pub returns-then-is_empty : goal.returns-then-is_empty
returns-then-is_empty c old new is =
    nothing_told old new (sym is ∙ no_items c.args.change.now (sym c.is_empty.ensures ∙ c.if-is_empty.true)) c.args.self.now c.args.sends.now
