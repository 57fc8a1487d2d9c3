use Rattle.std.proofs.Common.{◌≡◌, ◌-◌, length}
use Rattle.vtep_base.specs.Memory.{left_at, taken_at}
use Rattle.vtep_base.proofs.memory.next_place.Given as goal

abbrev pub invariant-spent : goal.invariant-spent
invariant-spent l = record {
  left : left_at l.pieces l.place l.offset ≡ left_at l.pieces l.fn.place l.fn.offset;
  taken : taken_at l.pieces l.place l.offset ≡ taken_at l.pieces l.fn.place l.fn.offset;
}

abbrev pub decreases-spent : goal.decreases-spent
decreases-spent l = length l.pieces - l.place
