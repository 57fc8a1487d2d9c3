-- What stays as it was.
use Rattle.std.proofs.Common.{Result, Ok, Err, OnErr}

-- what holds anyway holds on an error
pub always_on_err : {T E P : Type 0} (r : Result T E) → P → OnErr r P
always_on_err (Ok x) p = tt
always_on_err (Err e) p = p
