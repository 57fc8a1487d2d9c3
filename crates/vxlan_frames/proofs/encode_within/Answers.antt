use Rattle.std.proofs.Common.{◌≡◌, ◌≤◌, ◌-◌, length, ap, ◌∙◌, arith, length-drop}
use Rattle.vxlan_frames.proofs.Written.{parts_written, added}
use Rattle.vxlan_frames.proofs.encode_within.Goals as goal

pub append-requires-5 : goal.append-requires-5
append-requires-5 c =
    let rest : length c.rest.result.now ≡ length c.args.inner.now - 12 = ap length c.rest.ensures.value ∙ length-drop 12 c.args.inner.now in
    omega (arith, c.requires.room, c.append.ensures.room, c.append-2.ensures.room, c.append-3.ensures.room, c.append-4.ensures.room, c.addresses.ensures.twelve)

pub returns-clause-bytes : goal.returns-clause-bytes
returns-clause-bytes c =
    added c.args.out.now.0 _ _ _ _ _ _ _ _ _ _ c.append-5.new.self.0 c.append.ensures.bytes c.append-2.ensures.bytes c.append-3.ensures.bytes c.append-4.ensures.bytes c.append-5.ensures.bytes
    (parts_written c.args.src c.args.dst c.args.vni c.len-size.result c.source_port.result c.args.inner.now c.summed_header-header.result c.udp_header-udp.result c.vxlan_header-vxlan.result c.addresses.result.now c.rest.result.now
    c.len-size.ensures c.source_port.ensures c.summed_header-header.ensures c.udp_header-udp.ensures c.vxlan_header-vxlan.ensures c.addresses.ensures.value c.rest.ensures.value)
