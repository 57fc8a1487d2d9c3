use Rattle.std.proofs.Common.{◌≡◌, ◌≤◌, drop}
use Rattle.rpc_framing.specs.Scan.{end_from, end_of}
use Rattle.rpc_framing.proofs.scan.scan.Given as goal

abbrev pub invariant-bytes : goal.invariant-bytes
invariant-bytes l = record {
  so_far : end_from l.limit l.cursor l.place (drop l.place l.text) ≡ end_of l.limit l.text;
  shallow : l.cursor.depth ≤ 64;
}
