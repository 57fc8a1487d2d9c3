use Rattle.std.proofs.Common.{[], sym, ap, ◌∙◌, unwrap_or}
use Rattle.std.specs.Cmp.{nat_cmp_total}
use Rattle.vtep_base.specs.Maps as maps
use Rattle.vtep_base.proofs.Held.{get-held}
use Rattle.vtep_gateway.proofs.monitors.Monitors.of.Goals as goal

pub returns-in-Some : goal.returns-in-Some
returns-in-Some c =
    c.as_slice.ensures
    ∙ ap (λ o. unwrap_or o [])
    (c.in-Some.ensures.value ∙ sym (get-held nat_cmp_total c.self.inside.by_session.entries c.args.session) ∙ ap (λ m. maps.get m c.args.session) c.self.view_is)

pub returns-in-None : goal.returns-in-None
returns-in-None c =
    ap (λ o. unwrap_or o []) (c.in-None.ensures.value ∙ sym (get-held nat_cmp_total c.self.inside.by_session.entries c.args.session) ∙ ap (λ m. maps.get m c.args.session) c.self.view_is)
