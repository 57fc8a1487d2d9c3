use Rattle.std.proofs.Common.{◌≡◌, ◌≤◌, ◌++◌, length}
use Rattle.vtep_base.specs.Reading.{Bytes}
use Rattle.vtep_base.specs.Outside.{Grows}
use Rattle.fabric_replay.proofs.replay.put_all.Given as goal

abbrev pub invariant-rest : goal.invariant-rest
invariant-rest g l = record {
  done : (front : Bytes) × (l.bytes ≡ front ++ l.rest) × Grows (g.K.Sink.written l.fn.sink) front (g.K.Sink.written l.sink);
  faults : g.K.Sink.faults l.fn.sink ≤ g.K.Sink.faults l.sink;
}

abbrev pub decreases-rest : goal.decreases-rest
decreases-rest g l = length l.rest
