use Rattle.std.proofs.Common.{◌≡◌, nat_le, length}
use Rattle.vtep_gateway.proofs.ports.has_at_least.Given as goal

abbrev pub invariant-ids : goal.invariant-ids
invariant-ids l = nat_le l.missing (length l._id-iterator) ≡ nat_le l.least (length l.fn.ids)
