use Rattle.std.proofs.Common.{◌++◌, ap, ◌∙◌}
use Rattle.vxlan_frames.proofs.Written.{parts_written, on_ok}
use Rattle.vxlan_frames.proofs.encode.Goals as goal

pub returns-clause-ok : goal.returns-clause-ok
returns-clause-ok c =
    let parts = parts_written c.args.src c.args.dst c.args.vni c.len-size.result c.source_port.result c.args.inner.now c.summed_header-header.result c.udp_header-udp.result c.vxlan_header-vxlan.result c.addresses.result.now c.rest.result.now
    c.len-size.ensures c.source_port.ensures c.summed_header-header.ensures c.udp_header-udp.ensures c.vxlan_header-vxlan.ensures c.addresses.ensures.value c.rest.ensures.value in
    on_ok c.append_all.result (λ e. e ∙ ap (λ bytes. c.args.out.now ++ bytes) parts) c.append_all.ensures.ok
