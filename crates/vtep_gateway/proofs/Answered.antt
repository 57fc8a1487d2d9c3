-- What a gateway does with a piece, and with a hangup.
use Rattle.std.proofs.Common.{◌≡◌, ℕ, false, List, Option, Some, refl, ap, ◌∙◌}
use Rattle.vtep_base.specs.Reading.{Bytes}
use Rattle.vtep_base.specs.Maps as maps
use Rattle.rpc_framing.specs.declared.Framing.{Framing}
use Rattle.rpc_framing.specs.Streams.{Stream, fed}
use Rattle.rpc_framing.specs.Pieces.{come}
use Rattle.vtep_gateway.specs.declared.Outgoing.{Outgoing}
use Rattle.vtep_gateway.specs.declared.EventRefused.TheVariants.{NoSession}
use Rattle.vtep_gateway.specs.Vtep.{Vtep}
use Rattle.vtep_gateway.specs.Gateway.{Gateway, Streams, nothing}
use Rattle.vtep_gateway.specs.Sessions.{take_all, stream_of, on_bytes}
use Rattle.vtep_gateway.specs.Moves.{on_hangup}
use Rattle.vtep_gateway.proofs.Open.{put_back, not_there}

pub bytes_answered : (g : Gateway) (s : ℕ) (piece : Bytes) (out more left : Stream) (streams : Streams) (v : Vtep) (sends : List Outgoing) (failed : Option Framing)
    → out ≡ stream_of g.streams s → more ≡ fed out piece → v ≡ (take_all g.vtep s (come more).messages).vtep → sends ≡ (take_all g.vtep s (come more).messages).sends
    → left ≡ (come more).end → failed ≡ left.refused → streams ≡ maps.insert (maps.remove g.streams s) s left
    → on_bytes g s piece ≡ record { gateway = record { vtep = v; streams = streams }; answer = record nothing { sends = sends; failed = failed } }
bytes_answered g s piece out more left streams v sends failed is_out is_more is_v is_sends is_left is_failed is_streams =
    let all : more ≡ fed (stream_of g.streams s) piece = is_more ∙ ap (λ x. fed x piece) is_out in
    rw (is_failed, is_streams ∙ put_back g.streams s left, is_left, is_sends, is_v, all) refl

pub not_open : (g : Gateway) (s : ℕ) (streams : Streams) → maps.has g.streams s ≡ false → streams ≡ maps.remove g.streams s
    → on_hangup g s ≡ record { gateway = record { vtep = g.vtep; streams = streams }; answer = record nothing { refused = Some NoSession } }
not_open g s streams closed is = rw (closed, is ∙ not_there g.streams s closed) refl
