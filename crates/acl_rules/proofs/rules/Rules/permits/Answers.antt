use Rattle.std.proofs.Common.{◌≡◌, sym, ap, subst, ◌∙◌}
use Rattle.acl_rules.specs.Permits.{permits, IsOrdered}
use Rattle.acl_rules.proofs.LeastDecides.{permits_least}
use Rattle.acl_rules.proofs.rules.Rules.permits.Goals as goal

pub returns-clause-least : goal.returns-clause-least
returns-clause-least c =
    let is : c.first_says.result ≡ permits c.args.self.now c.args.headers.now c.args.direction =
    c.first_says.ensures ∙ ap (λ l. permits l c.args.headers.now c.args.direction) (c.as_slice.ensures.value ∙ c.self.view_is) in
    let least = permits_least c.args.headers.now c.args.direction c.args.self.now (subst IsOrdered c.self.view_is c.self.invariant) in
    (λ t. least.0 (sym is ∙ t), λ p. is ∙ least.1 p)
