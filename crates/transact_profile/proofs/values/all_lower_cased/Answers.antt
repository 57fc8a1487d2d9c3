use Rattle.std.proofs.Common.{sym, ◌∙◌}
use Rattle.transact_profile.proofs.Cased.{all_stay}
use Rattle.transact_profile.proofs.values.all_lower_cased.Goals as goal

pub returns-then-not-holds_mac : goal.returns-then-not-holds_mac
returns-then-not-holds_mac c = sym (all_stay c.args.domain c.args.atoms (sym c.holds_mac.ensures ∙ c.if-not-holds_mac.true))
