use Rattle.std.proofs.Common.{sym, ap, ◌∙◌, is_some}
use Rattle.std.specs.Cmp.{nat_cmp_total}
use Rattle.std.proofs.lemmas.Map.Lookups.{exact_unsigned}
use Rattle.vtep_base.specs.Maps as maps
use Rattle.vtep_base.proofs.Held.{get-held, one_gone}
use Rattle.vtep_gateway.proofs.streams.Streams.close.Goals as goal

pub returns-clause-open : goal.returns-clause-open
returns-clause-open c =
    c.is_some.ensures
    ∙ ap is_some (c.remove.ensures.value ∙ sym (get-held nat_cmp_total c.self.inside.framers.entries c.args.session) ∙ ap (λ m. maps.get m c.args.session) c.self.view_is)

pub returns-clause-left : goal.returns-clause-left
returns-clause-left c =
    one_gone nat_cmp_total exact_unsigned c.self.inside.framers.entries c.remove.new.self.entries c.args.session c.remove.ensures.updates.0
    ∙ ap (λ m. maps.remove m c.args.session) c.self.view_is
