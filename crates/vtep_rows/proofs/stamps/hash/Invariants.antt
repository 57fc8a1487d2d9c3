use Rattle.std.proofs.Common.{◌≡◌, drop}
use Rattle.vtep_rows.specs.Marks.{hash_from}
use Rattle.vtep_rows.proofs.stamps.hash.Given as goal

abbrev pub invariant-bytes : goal.invariant-bytes
invariant-bytes l = hash_from l.hash (drop l.byte-index l.text) ≡ hash_from 0 l.text
