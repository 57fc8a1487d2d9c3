use Rattle.std.proofs.Common.{◌≡◌, ℕ, ◌<◌, ◌+◌, [], List, ◌++◌, length, take, drop, get_or, sym, ap, ◌∙◌, arith}
use Rattle.std.proofs.lemmas.List.{get_or_default}
use Rattle.vtep_base.specs.Memory.{left_at, taken_at}
use Rattle.vtep_base.proofs.Pieces.{none_left, left_more, taken_more}
use Rattle.vtep_base.proofs.memory.take_piece.Goals as goal

pub returns-then-place-pieces-clause-none : goal.returns-then-place-pieces-clause-none
returns-then-place-pieces-clause-none c = sym c.next_place-place.ensures.left ∙ none_left c.args.pieces.now c.next_place-place.result.0 c.next_place-place.result.1 c.if-place-pieces.true

pub returns-clause-some : goal.returns-clause-some
returns-clause-some c =
    let pieces : List (List ℕ) = c.args.pieces.now in
    let piece : List ℕ = c.index-pieces-place.result in
    let place : ℕ = c.next_place-place.result.0 in
    let offset : ℕ = c.next_place-place.result.1 in
    let n : ℕ = c.copy_front-count.result in
    let found : offset < length (get_or pieces place []) = c.next_place-place.ensures.found c.if-place-pieces.false in
    let rest : c.split_at.result.1.now ≡ drop offset piece = c.split_at.ensures.back ∙ ap (drop offset) c.as_slice.ensures in
    let bytes : take n c.copy_front-count.new.buffer ≡ take n (drop offset (get_or pieces place piece)) =
    c.copy_front-count.ensures.front ∙ ap (take n) rest ∙ ap (λ p. take n (drop offset p)) c.index-pieces-place.is in
    let same : c.as_slice.result.now ≡ get_or pieces place [] = c.as_slice.ensures ∙ c.index-pieces-place.is ∙ get_or_default pieces place piece [] c.if-place-pieces.false in
    let more : offset < length c.as_slice.result.now = rw same found in
    record {
      some = omega (arith, c.requires, more, c.split_at.ensures.back_len, c.copy_front-count.ensures.count);
      fits = omega (arith, c.copy_front-count.ensures.count, c.copy_front-count.auto.buffer);
      left = sym c.next_place-place.ensures.left ∙ left_more piece pieces place offset n c.if-place-pieces.false ∙ ap (λ b. b ++ left_at pieces place (offset + n)) (sym bytes);
      taken = taken_more piece pieces place offset n c.if-place-pieces.false ∙ ap (λ r. r ++ take n (drop offset (get_or pieces place piece))) c.next_place-place.ensures.taken
          ∙ ap (λ b. taken_at pieces c.args.place c.args.offset ++ b) (sym bytes);
    }
