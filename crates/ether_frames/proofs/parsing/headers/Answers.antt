use Rattle.std.proofs.Common.{◌≡◌, ◌+◌, ◌*◌, take, drop, ap, ◌∙◌, arith}
use Rattle.std.proofs.lemmas.List.{take-take, drop-take, get_or-drop, drop-drop}
use Rattle.vtep_base.specs.Reading.{Bytes}
use Rattle.vtep_base.specs.Addresses.{be}
use Rattle.ether_frames.specs.Headers.{word, carried_ip}
use Rattle.ether_frames.proofs.parsing.headers.Goals as goal

pub returns : goal.returns
returns c =
    let inner : Bytes = c.args.inner.now in
    let destination : c.address.result ≡ be (take 6 inner) = c.address.ensures ∙ ap be (c.split_at.ensures.front ∙ ap (take 6) c.addresses.ensures.value ∙ take-take 6 12 inner (omega arith)) in
    let source : c.address-2.result ≡ be (take 6 (drop 6 inner)) = c.address-2.ensures ∙ ap be (c.split_at.ensures.back ∙ ap (drop 6) c.addresses.ensures.value ∙ drop-take 6 6 inner) in
    let ethertype : c.word-ethertype.result ≡ word inner 12 = c.word-ethertype.ensures ∙ ap (λ b. word b 0) c.rest.ensures.value ∙ (λ i. 256 * get_or-drop 12 inner 0 0 i + get_or-drop 12 inner 1 0 i) in
    let packet : c.split_at-2.result.1.now ≡ drop 14 inner = c.split_at-2.ensures.back ∙ ap (drop 2) c.rest-2.ensures.value ∙ drop-drop 2 12 inner in
    let ip : c.carried.result ≡ carried_ip (word inner 12) (drop 14 inner) = c.carried.ensures ∙ (λ i. carried_ip (ethertype i) (packet i)) in
    (λ i. record { destination = destination i; source = source i; ethertype = ethertype i; ip = ip i })
