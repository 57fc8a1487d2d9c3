use Rattle.std.proofs.Common.{◌≡◌, map, fold, drop}
use Rattle.fabric_world.specs.Intentions.{placed, in_sequence}
use Rattle.vtep_fabric.proofs.acls.in_sequence.Given as goal

abbrev pub invariant-entries : goal.invariant-entries
invariant-entries l = fold (λ sorted e. placed e sorted) (map (λ e. e.now) l.sorted.items) (drop l.entry-index l.entries) ≡ in_sequence l.entries
