use Rattle.std.proofs.Common.{map, sym, subst, ◌∙◌}
use Rattle.std.specs.Map.Iter.{deref_pair}
use Rattle.std.proofs.lemmas.Map.Iter.{rest_more, rest_all}
use Rattle.vtep_base.specs.Maps as maps
use Rattle.fabric_world.specs.Happenings.{install_at, install_each}
use Rattle.vtep_fabric.proofs.Happen.{Going, begins, goes_on, ends}
use Rattle.vtep_fabric.proofs.Installed.{named}
use Rattle.vtep_fabric.proofs.roster.Roster.install_each.Goals as goal

pub peers-init : goal.peers-init
peers-init c =
    let i = c.args.intention.now in
    let ps = c.args.peers.now in
    let all = install_each i ps c.args.self.now (maps.keys ps) in
    subst (λ es. Going all (install_each i ps c.args.self.now (map named es)) c.args.text.now c.args.text.now) (sym (c.into_iter-name-iterator.ensures.into_iter_gives ∙ c.walk-name-items.ensures.rest))
    (begins all c.args.text.now)

pub peers-preserved : goal.peers-preserved
peers-preserved c =
    let i = c.args.intention.now in
    let ps = c.args.peers.now in
    let all = install_each i ps c.args.self.now (maps.keys ps) in
    let next = c.next.new.self in
    let more = rest_more deref_pair c.peers.name-iterator next c.next.result (c.in-Some.name, c.in-Some.field-0-1) c.in-Some.is c.next.ensures.steps in
    goes_on all (install_at i ps c.peers.self c.in-Some.name.now) (λ hs. install_each i ps hs (map named next)) c.install_at.new.self c.args.text.now c.peers.text c.install_at.new.text
    (subst (λ es. Going all (install_each i ps c.peers.self (map named es)) c.args.text.now c.peers.text) more c.peers.invariant) c.in_ok-install_at.ensures

pub returns : goal.returns
returns c =
    let i = c.args.intention.now in
    let ps = c.args.peers.now in
    let all = install_each i ps c.args.self.now (maps.keys ps) in
    let none = rest_all deref_pair c.peers.name-iterator c.next.new.self c.next.result c.in-None.is c.next.ensures.steps in
    ends all c.peers.self c.args.text.now c.peers.text (subst (λ es. Going all (install_each i ps c.peers.self (map named es)) c.args.text.now c.peers.text) none c.peers.invariant)
