use Rattle.std.proofs.Common.{◌≡◌, ◌++◌, false, sym, ap, subst, ◌∙◌, IfOk, OnOk}
use Rattle.vtep_base.specs.Addresses.{is_group}
use Rattle.vtep_gateway.specs.Vtep.{Vtep}
use Rattle.vtep_gateway.specs.Learning.{Seen}
use Rattle.vtep_gateway.proofs.SourceFits.{bound_there, source_seen}
use Rattle.vtep_gateway.proofs.vtep.Vtep.learn.Goals as goal

pub see-requires-clause-bound : goal.see-requires-clause-bound
see-requires-clause-bound g c = bound_there c.args.self.now c.requires.good c.args.switch c.source-mac.result c.args.port.now c.args.vlan c.self.inside.clock c.requires.bound

pub returns-clause-left : goal.returns-clause-left
returns-clause-left g c =
    let alone : is_group c.source-mac.result ≡ false = sym c.is_group.ensures ∙ c.if-is_group.false in
    subst (λ (s : Seen). OnOk c.see.result (c.see.new.self ≡ s.vtep))
    (source_seen c.args.self.now c.args.switch c.source-mac.result c.args.port.now c.args.vlan c.args.inner.now c.self.inside.clock c.source-mac.ensures (ap (λ (v : Vtep). v.clock) c.self.view_is) alone)
    c.see.ensures.left

pub returns-clause-told : goal.returns-clause-told
returns-clause-told g c =
    let alone : is_group c.source-mac.result ≡ false = sym c.is_group.ensures ∙ c.if-is_group.false in
    subst (λ (s : Seen). OnOk c.see.result (c.see.new.sends ≡ c.args.sends.now ++ s.sends))
    (source_seen c.args.self.now c.args.switch c.source-mac.result c.args.port.now c.args.vlan c.args.inner.now c.self.inside.clock c.source-mac.ensures (ap (λ (v : Vtep). v.clock) c.self.view_is) alone)
    c.see.ensures.told

pub returns-clause-full : goal.returns-clause-full
returns-clause-full g c =
    let alone : is_group c.source-mac.result ≡ false = sym c.is_group.ensures ∙ c.if-is_group.false in
    subst (λ (s : Seen). IfOk c.see.result (λ full. full ≡ s.full))
    (source_seen c.args.self.now c.args.switch c.source-mac.result c.args.port.now c.args.vlan c.args.inner.now c.self.inside.clock c.source-mac.ensures (ap (λ (v : Vtep). v.clock) c.self.view_is) alone)
    c.see.ensures.full
