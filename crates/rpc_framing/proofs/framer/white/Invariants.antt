use Rattle.std.proofs.Common.{length, ◌-◌, ◌+◌, ◌≡◌, ◌≤◌, drop}
use Rattle.rpc_framing.specs.Streams.{white}
use Rattle.rpc_framing.proofs.framer.white.Given as goal

abbrev pub invariant-white : goal.invariant-white
invariant-white l = record {
  so_far : l.count + white (drop l.count l.bytes) ≡ white l.fn.bytes;
  within : l.count ≤ length l.bytes;
}

abbrev pub decreases-white : goal.decreases-white
decreases-white l = length l.bytes - l.count
