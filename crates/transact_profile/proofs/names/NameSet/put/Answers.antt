use Rattle.std.proofs.Common.{ap, ◌∙◌}
use Rattle.vtep_base.specs.Maps as maps
use Rattle.ovsdb_values.specs.declared.atoms.Atom.TheVariants.{Named}
use Rattle.transact_profile.proofs.names.NameSet.put.Goals as goal

pub returns : goal.returns
returns c = c.in_ok-put.ensures.ok ∙ ap (λ m. maps.insert m (Named c.args.name) tt) c.self.view_is
