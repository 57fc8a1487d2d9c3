use Rattle.std.proofs.Common.{◌-◌, ◌++◌, length, sym, ap, ◌∙◌, arith}
use Rattle.std.specs.List.{length_refill}
use Rattle.fabric_replay.proofs.SoFar.{starts, goes_on, ends_short, ends_ended, ends_failed, ends_full}
use Rattle.fabric_replay.proofs.replay.run_text.Goals as goal

pub piece-init : goal.piece-init
piece-init g c = record {
  so_far = starts (g.R.Reader.meaning c.args.reader.now) _ _ (g.R.Reader.number c.args.reader.now) c.requires.unread c.requires.number;
  room = sym c.in-Ok.buffer.ok.0 ∙ c.in-Ok.ensures.len;
}

pub split_at_mut-room-requires : goal.split_at_mut-room-requires
split_at_mut-room-requires g c = omega (arith, c.min.ensures, ap length c.deref_mut.ensures.value, c.piece.invariant.room)

pub play_piece-requires : goal.play_piece-requires
play_piece-requires g c = record { room = omega (arith, c.piece.invariant.so_far.room, c.piece.invariant.so_far.counted, c.split_at.ensures.front_len, c.in-Took.ensures.fits, c.take.auto.buffer, c.split_at_mut-room.ensures.front_len, c.min.ensures) }

pub returns-in-Some : goal.returns-in-Some
returns-in-Some g c =
    ends_short (g.R.Reader.meaning c.args.reader.now) _ _ _ _ _ _ (g.R.Reader.meaning c.piece.reader) c.take.new.buffer (g.R.Reader.number c.piece.reader) c.piece.left (length c.take.new.buffer) c.in-Took.count c.in-Some.status
    c.piece.invariant.so_far c.in-Took.ensures c.in-Took.ensures.fits
    (omega (arith, c.in-Took.ensures.fits, c.take.auto.buffer, c.split_at_mut-room.ensures.front_len, c.min.ensures))
    (omega (arith, c.in-Took.ensures.fits, c.take.auto.buffer, c.split_at_mut-room.ensures.front_len, c.min.ensures))
    (rw (sym c.split_at.ensures.front) c.in-Some.ensures.plays)

pub piece-preserved : goal.piece-preserved
piece-preserved g c = record {
  so_far = goes_on (g.R.Reader.meaning c.args.reader.now) _ _ _ _ _ _ (g.R.Reader.meaning c.piece.reader) (g.R.Reader.meaning c.play_piece.new.reader) c.take.new.buffer
      (g.R.Reader.number c.piece.reader) (g.R.Reader.number c.play_piece.new.reader) c.piece.left (c.piece.left - c.in-Took.count) (length c.take.new.buffer) c.in-Took.count
      c.piece.invariant.so_far c.in-Took.ensures c.in-Took.ensures.fits
      (rw (sym c.split_at.ensures.front) c.in_default-play_piece.ensures.plays)
      (omega (arith, c.in_default-play_piece.ensures.number, c.split_at.ensures.front_len))
      (omega (arith, c.in-Took.ensures.fits, c.take.auto.buffer, c.split_at_mut-room.ensures.front_len, c.min.ensures));
  room = sym (length_refill c.piece.buffer.len c.piece.buffer.items (c.take.new.buffer ++ c.split_at_mut-room.result.1.now) c.piece.buffer.ok.0) ∙ c.piece.buffer.ok.0 ∙ c.piece.invariant.room;
}

pub finish-requires : goal.finish-requires
finish-requires g c = record { room = omega (arith, c.piece.invariant.so_far.room, c.piece.invariant.so_far.counted) }

pub returns-in-End : goal.returns-in-End
returns-in-End g c = ends_ended (g.R.Reader.meaning c.args.reader.now) _ _ _ _ _ _ (g.R.Reader.meaning c.piece.reader) (g.R.Reader.number c.piece.reader) c.piece.left c.finish.result c.piece.invariant.so_far c.in-End.ensures c.finish.ensures

pub returns-in-Failed : goal.returns-in-Failed
returns-in-Failed g c = ends_failed (g.R.Reader.meaning c.args.reader.now) _ _ _ _ _ (g.R.Reader.meaning c.piece.reader) (g.R.Reader.number c.piece.reader) c.piece.left c.piece.invariant.so_far c.in-Failed.ensures

pub returns : goal.returns
returns g c = ends_full (g.R.Reader.meaning c.args.reader.now) _ _ _ _ _ (g.R.Reader.meaning c.piece.reader) (g.R.Reader.number c.piece.reader) c.piece.left c.fill.result c.piece.invariant.so_far (omega (arith, c.piece-test.false)) c.fill.ensures
