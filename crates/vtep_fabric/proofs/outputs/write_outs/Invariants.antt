use Rattle.std.proofs.Common.{◌≡◌, ◌++◌, drop, map}
use Rattle.fabric_world.specs.Outputs.{Out, outputs_text}
use Rattle.vtep_fabric.proofs.outputs.write_outs.Given as goal

abbrev pub invariant-frames : goal.invariant-frames
invariant-frames l =
    l.text ++ outputs_text (map (λ o. Out l.gateway o.port o.bytes) (drop l.frame-index l.frames))
    ≡ l.fn.text ++ outputs_text (map (λ o. Out l.gateway o.port o.bytes) l.frames)
