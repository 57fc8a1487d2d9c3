-- The gateways of a fabric as they are found.
use Rattle.std.proofs.Common.{◌≡◌, List, [], ◌∷◌, map, refl, sym, ap, ◌∙◌}
use Rattle.std.specs.List.Sorted.{IsStrictlySortedBy}
use Rattle.std.specs.Map.{keys_of}
use Rattle.vtep_base.specs.Reading.{Bytes}
use Rattle.vtep_base.specs.Maps as maps
use Rattle.vtep_rows.specs.Row.{put_all}
use Rattle.vtep_gateway.specs.Gateway.{Gateway, Held}
use Rattle.fabric_world.specs.Intentions.{bytes_cmp}
use Rattle.fabric_world.specs.Installer.{Peer, Peers, peer_in}
use Rattle.fabric_world.specs.Happenings.{peers_of}
use Rattle.vtep_fabric.specs.Fabrics.{gateways_of}
use Rattle.vtep_fabric.proofs.Rosters.{list-gateways}

abbrev pub found : Bytes × Held → Bytes × Peer
found e = (e.0, peer_in e.1.state.vtep.rows)

abbrev seen : Bytes × Gateway → Bytes × Peer
seen e = (e.0, peer_in e.1.vtep.rows)

abbrev state : Bytes × Held → Bytes × Gateway
state e = (e.0, e.1.state)

found_in : (es : List (Bytes × Held)) → map seen (map state es) ≡ map found es
found_in [] = refl
found_in (e ∷ es) = ap (λ ps. found e ∷ ps) (found_in es)

pub peers-gateways : (es : List (Bytes × Held)) → IsStrictlySortedBy bytes_cmp (keys_of es) → peers_of (gateways_of es) ≡ put_all maps.empty (map found es)
peers-gateways es ordered =
    ap (λ gs. put_all maps.empty (map seen gs)) (list-gateways es ordered) ∙ ap (put_all maps.empty) (found_in es)

-- a gateway more is found
pub one_found : (old new all : Peers) (rest next : List (Bytes × Held)) (name : Bytes) (h : Held) (peer : Peer) → rest ≡ (name, h) ∷ next → new ≡ maps.insert old name peer → peer ≡ peer_in h.state.vtep.rows
    → put_all old (map found rest) ≡ all → put_all new (map found next) ≡ all
one_found old new all rest next name h peer is put read inv =
    ap (λ m. put_all m (map found next)) (put ∙ ap (maps.insert old name) read) ∙ ap (λ es. put_all old (map found es)) (sym is) ∙ inv

-- the name of a gateway that is found
abbrev pub named : Bytes × Peer → Bytes
named e = e.0
