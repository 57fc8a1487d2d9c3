use Rattle.std.proofs.Common.{◌≡◌, ◌∷◌, take}
use Rattle.json.specs.Print.{escape}
use Rattle.rpc_framing.proofs.printing.quoted.Given as goal

abbrev pub invariant-bytes : goal.invariant-bytes
invariant-bytes l = l.out ≡ 34 ∷ escape (take l.byte-index l.text)
