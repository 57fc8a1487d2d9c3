use Rattle.std.proofs.Common.{◌+◌, drop, subst, arith}
use Rattle.fabric_world.specs.Happenings.{carried, carried_each}
use Rattle.vtep_fabric.proofs.Ascending.{dropped}
use Rattle.vtep_fabric.proofs.Happen.{Going, goes_on}
use Rattle.vtep_fabric.proofs.roster.Roster.carry_each.Goals as goal

pub packets-preserved : goal.packets-preserved
packets-preserved c =
    let packets = c.args.packets.now in
    let i = c.packets.packet-index in
    let packet = c.packet-item.result in
    let all = carried_each c.args.self.now packets in
    goes_on all (carried c.packets.self packet) (λ hs. carried_each hs (drop (i + 1) packets)) c.carry.new.self c.args.text.now c.packets.text c.carry.new.text
    (subst (λ ps. Going all (carried_each c.packets.self ps) c.args.text.now c.packets.text) (dropped packets i packet (omega arith) c.packet-item.is) c.packets.invariant) c.in_ok-carry.ensures
