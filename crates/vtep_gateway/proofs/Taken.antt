-- What the messages of a stream come to, one after another.
use Rattle.std.proofs.Common.{◌≡◌, ℕ, List, ◌++◌, refl, sym, ap, ◌∙◌, append_assoc, append-nil}
use Rattle.rpc_framing.specs.Said.{Message}
use Rattle.rpc_framing.specs.Streams.{Stream}
use Rattle.rpc_framing.specs.Pieces.{come, no_more, and_then}
use Rattle.vtep_gateway.specs.declared.Outgoing.{Outgoing}
use Rattle.vtep_gateway.specs.Vtep.{Vtep}
use Rattle.vtep_gateway.specs.Sessions.{take, take_all}

-- what is still to be done, and what was sent, come to the whole
pub record StillTakes (s : ℕ) (v w : Vtep) (stream whole : Stream) (sends before : List Outgoing) : Type 0 where
  pub left : (take_all v s (come stream).messages).vtep ≡ (take_all w s (come whole).messages).vtep
  pub sent : sends ++ (take_all v s (come stream).messages).sends ≡ before ++ (take_all w s (come whole).messages).sends
  pub end : (come stream).end ≡ (come whole).end

pub nothing_taken : (s : ℕ) (v : Vtep) (stream : Stream) (sends : List Outgoing) → StillTakes s v v stream stream sends sends
nothing_taken s v stream sends = record { left = refl; sent = refl; end = refl }

-- a message is taken
pub one_taken : (s : ℕ) (v w : Vtep) (stream whole left : Stream) (sends before : List Outgoing) (m : Message) (v' : Vtep) (sends' : List Outgoing) → StillTakes s v w stream whole sends before
    → come stream ≡ and_then m (come left) → v' ≡ (take v s m).vtep → sends' ≡ sends ++ (take v s m).sends → StillTakes s v' w left whole sends' before
one_taken s v w stream whole left sends before m v' sends' so_far comes is told = record {
  left = ap (λ x. (take_all x s (come left).messages).vtep) is ∙ sym (ap (λ c. (take_all v s c.messages).vtep) comes) ∙ so_far.left;
  sent =
      ap (λ x. sends' ++ (take_all x s (come left).messages).sends) is
      ∙ ap (λ x. x ++ (take_all (take v s m).vtep s (come left).messages).sends) told
      ∙ append_assoc sends (take v s m).sends (take_all (take v s m).vtep s (come left).messages).sends
      ∙ sym (ap (λ c. sends ++ (take_all v s c.messages).sends) comes)
      ∙ so_far.sent;
  end = sym (ap (λ c. c.end) comes) ∙ so_far.end;
}

module _ (s : ℕ) (v w : Vtep) (stream whole left : Stream) (sends before : List Outgoing) (so_far : StillTakes s v w stream whole sends before) (comes : come stream ≡ no_more left) where
  -- no further message comes
  pub all_left : v ≡ (take_all w s (come whole).messages).vtep
  all_left = sym (ap (λ c. (take_all v s c.messages).vtep) comes) ∙ so_far.left

  pub all_sent : sends ≡ before ++ (take_all w s (come whole).messages).sends
  all_sent = sym (append-nil sends) ∙ sym (ap (λ c. sends ++ (take_all v s c.messages).sends) comes) ∙ so_far.sent

  pub all_ended : left ≡ (come whole).end
  all_ended = sym (ap (λ c. c.end) comes) ∙ so_far.end
