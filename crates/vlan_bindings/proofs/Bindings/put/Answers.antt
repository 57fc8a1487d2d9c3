use Rattle.std.proofs.Common.{◌≡◌, IfOk, OnOk, subst}
use Rattle.vtep_base.specs.Maps as maps
use Rattle.vlan_bindings.proofs.Bindings.put.Goals as goal

pub returns-clause-before : goal.returns-clause-before
returns-clause-before c = subst (λ m. IfOk c.put.result (λ before. before ≡ maps.get m (c.args.port.now, c.args.vlan))) c.self.view_is c.put.ensures.before

pub returns-clause-ok : goal.returns-clause-ok
returns-clause-ok c =
    subst (λ m. OnOk c.put.result (maps.of_list c.put.new.self ≡ maps.insert m (c.args.port.now, c.args.vlan) c.args.switch)) c.self.view_is c.put.ensures.ok
