use Rattle.std.proofs.Common.{◌≡◌, [], sym, ap, ◌∙◌, unwrap_or}
use Rattle.std.specs.Cmp.{nat_cmp_total}
use Rattle.std.proofs.lemmas.Map.Lookups.{exact_unsigned}
use Rattle.vtep_base.specs.Maps as maps
use Rattle.vtep_base.proofs.Held.{get-held, one_gone}
use Rattle.vtep_gateway.proofs.monitors.Monitors.take.Goals as goal
use Rattle.vtep_gateway.proofs.monitors.Monitors.take.Goals.{in-Some, in-None}

pub returns-clause-monitors : goal.returns-clause-monitors
returns-clause-monitors c =
    let found : c.remove.result ≡ maps.get c.args.self.now c.args.session =
    c.remove.ensures.value ∙ sym (get-held nat_cmp_total c.self.inside.by_session.entries c.args.session) ∙ ap (λ m. maps.get m c.args.session) c.self.view_is in
    elim c.match-remove.branch [
      | in-Some w ↦ w.result-is ∙ ap (λ o. unwrap_or o []) (sym w.in-Some.is ∙ found)
      | in-None w ↦ w.result-is ∙ w.new.ensures ∙ ap (λ o. unwrap_or o []) (sym w.in-None.is ∙ found)
    ]

pub returns-clause-left : goal.returns-clause-left
returns-clause-left c =
    one_gone nat_cmp_total exact_unsigned c.self.inside.by_session.entries c.remove.new.self.entries c.args.session c.remove.ensures.updates.0
    ∙ ap (λ m. maps.remove m c.args.session) c.self.view_is
