use Rattle.std.proofs.Common.{ap, ◌∙◌, arith}
use Rattle.std.specs.Ordering.{nat_cmp}
use Rattle.fabric_world.specs.Installer.{with_each}
use Rattle.vtep_fabric.proofs.Ascending.{turn}
use Rattle.vtep_fabric.proofs.wanted.addresses_in.Goals as goal

pub floods-preserved : goal.floods-preserved
floods-preserved c =
    turn nat_cmp (λ f. f.1) c.floods.addresses.keys c.add_addresses.new.addresses.keys _ c.args.floods.now c.floods.ips-index c.floods-item.result
    (omega arith) c.floods-item.is (c.in_ok-add_addresses.ensures ∙ ap (with_each nat_cmp c.floods.addresses.keys) c.as_slice.ensures) c.floods.invariant
