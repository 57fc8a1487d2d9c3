use Rattle.std.proofs.Common.{drop}
use Rattle.rpc_framing.proofs.Held.{held_behind_white}
use Rattle.rpc_framing.proofs.framer.Framer.take.Goals as goal

pub find_front-requires : goal.find_front-requires
find_front-requires c = record {
  held = rw (c.split_at-2.ensures.back, c.white-space.ensures.value, c.split_at.ensures.back, c.as_slice.ensures.value)
      (held_behind_white c.self.inside.limit (drop c.self.inside.start c.self.inside.bytes.items) c.self.inside.count c.self.inside.cursor c.self.invariant.held);
}
