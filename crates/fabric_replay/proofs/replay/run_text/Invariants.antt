use Rattle.std.proofs.Common.{◌≡◌, length}
use Rattle.fabric_replay.specs.Outcomes.{SoFar}
use Rattle.fabric_replay.proofs.replay.run_text.Given as goal

abbrev pub invariant-piece : goal.invariant-piece
invariant-piece g l = record {
  so_far : SoFar (g.R.Reader.meaning l.fn.reader)
      (record { left = g.S.Source.left l.fn.source; taken = g.S.Source.taken l.fn.source; faults = g.S.Source.faults l.fn.source; ends = g.S.Source.ends l.fn.source })
      (record { left = g.S.Source.left l.source; taken = g.S.Source.taken l.source; faults = g.S.Source.faults l.source; ends = g.S.Source.ends l.source })
      (record { written = g.K.Sink.written l.fn.sink; faults = g.K.Sink.faults l.fn.sink })
      (record { written = g.K.Sink.written l.sink; faults = g.K.Sink.faults l.sink })
      (g.R.Reader.meaning l.reader) (g.R.Reader.number l.reader) l.left;
  room : length l.buffer.items ≡ 4096;
}

abbrev pub decreases-piece : goal.decreases-piece
decreases-piece g l = l.left
