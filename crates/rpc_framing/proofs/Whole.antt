-- What the next message is known to be.
use Rattle.std.proofs.Common.{◌≡◌, false, Option, Some, None, ap, option_map}
use Rattle.std.specs.Prelude.{◌<◌, IfOk, IfSome, IfNone, Result, Ok, Err, length}
use Rattle.serde_json.specs.Written.{has_float}
use Rattle.rpc_framing.specs.Said.{said}
use Rattle.rpc_framing.specs.Streams.{Stream, answered, next}
use Rattle.rpc_framing.specs.Written.{message_json}
use Rattle.rpc_framing.specs.Told.{IsTold}
use Rattle.rpc_framing.specs.Pieces.{come, comes_after}
use Rattle.rpc_framing.specs.declared.Message.{Message as Held}
use Rattle.rpc_framing.proofs.Kept.{comes_next, shorter_next, waits_next}
use Rattle.rpc_framing.proofs.Parts.{said_own}
use Rattle.rpc_framing.proofs.Told.{next_told}

-- what a call answers
module _ {E : Type 0} (s left : Stream) where
  pub ok_comes : (r : Result (Option Held) E) → IfOk r (λ o. next s ≡ record { answer = answered (option_map said o); left = left }) → IfOk r (λ o. come s ≡ comes_after (option_map said o) left)
  ok_comes (Ok o) e = comes_next s left (option_map said o) e
  ok_comes (Err e) h = tt

  pub ok_waits : (r : Result (Option Held) E) → IfOk r (λ o. next s ≡ record { answer = answered (option_map said o); left = left }) → IfOk r (λ o. IfNone o (left.refused ≡ None))
  ok_waits (Ok None) e = waits_next s left e
  ok_waits (Ok (Some m)) e = tt
  ok_waits (Err e) h = tt

  pub ok_shorter : (r : Result (Option Held) E) → IfOk r (λ o. next s ≡ record { answer = answered (option_map said o); left = left }) → IfOk r (λ o. IfSome o (λ _. length left.rest < length s.rest))
  ok_shorter (Ok None) e = tt
  ok_shorter (Ok (Some m)) e = shorter_next s left (Some (said m)) e
  ok_shorter (Err e) h = tt

  pub ok_plain : (r : Result (Option Held) E) → IfOk r (λ o. next s ≡ record { answer = answered (option_map said o); left = left }) → IfOk r (λ o. IfSome o (λ m. has_float (message_json (said m)) ≡ false))
  ok_plain (Ok None) e = tt
  ok_plain (Ok (Some m)) e = let told = next_told s (said m) (ap (λ n. n.answer) e) in (said_own told.1.says.0 (said m) told.1.says.2).2
  ok_plain (Err e) h = tt

  pub ok_told : (r : Result (Option Held) E) → IfOk r (λ o. next s ≡ record { answer = answered (option_map said o); left = left }) → IfOk r (λ o. IfSome o (λ m. IsTold (said m)))
  ok_told (Ok None) e = tt
  ok_told (Ok (Some m)) e = next_told s (said m) (ap (λ n. n.answer) e)
  ok_told (Err e) h = tt
