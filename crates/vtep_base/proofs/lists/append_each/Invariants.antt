use Rattle.std.proofs.Common.{◌≡◌, ◌++◌, take}
use Rattle.std.specs.List.{flat_map}
use Rattle.vtep_base.proofs.lists.append_each.Given as goal

abbrev pub invariant-pieces : goal.invariant-pieces
invariant-pieces l = l.bytes.items ≡ l.fn.bytes.items ++ flat_map (λ p. p.now) (take l.piece-index l.pieces)
