use Rattle.std.proofs.Common.{map, ap, ◌∙◌, arith}
use Rattle.fabric_world.specs.Intentions.{bytes_cmp}
use Rattle.fabric_world.specs.Installer.{with_each}
use Rattle.vtep_fabric.proofs.Ascending.{turn}
use Rattle.vtep_fabric.proofs.wanted.switches_in.Goals as goal

pub ports-preserved : goal.ports-preserved
ports-preserved c =
    turn bytes_cmp (λ p. map (λ b. b.1) p.1) c.ports.switches.keys c.add_names.new.names.keys _ c.args.ports.now c.ports.bound-index c.ports-item.result
    (omega arith) c.ports-item.is (c.in_ok-add_names.ensures ∙ ap (λ bs. with_each bytes_cmp c.ports.switches.keys (map (λ b. b.1) bs)) c.as_slice.ensures) c.ports.invariant
