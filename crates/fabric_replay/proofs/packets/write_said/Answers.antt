use Rattle.std.proofs.Common.{[], ◌∷◌, ◌++◌, codes, append_assoc, ap, ◌∙◌}
use Rattle.std.specs.Fmt.{decimal}
use Rattle.vtep_base.specs.Reading.{Bytes}
use Rattle.vtep_base.specs.Texts.{ipv4_text}
use Rattle.vtep_base.specs.Memory.{joined}
use Rattle.fabric_world.specs.Outputs.{hex_word}
use Rattle.vtep_fabric.proofs.HexText.{adds, adds_all, adds_none}
use Rattle.fabric_replay.proofs.WordOfParts.{word_of_parts}
use Rattle.fabric_replay.proofs.packets.write_said.Goals as goal

pub returns : goal.returns
returns c =
    let out : Bytes = c.args.out.now in
    let inner : Bytes = c.args.packet.now.inner in
    let src : Bytes = ipv4_text c.args.packet.now.src in
    let dst : Bytes = ipv4_text c.args.packet.now.dst in
    let vni : Bytes = decimal c.args.packet.now.vni in
    let a = adds [] out out c.append.new.self (codes "packet ") (adds_none out) c.in_ok-append.ensures.ok in
    let b = adds (codes "packet " ∷ []) out c.append.new.self c.print.new.out src a c.in_ok-print.ensures.ok in
    let d = adds (codes "packet " ∷ src ∷ []) out c.print.new.out c.append-2.new.self (codes " ") b c.in_ok-append-2.ensures.ok in
    let e = adds (codes "packet " ∷ src ∷ codes " " ∷ []) out c.append-2.new.self c.print-2.new.out dst d c.in_ok-print-2.ensures.ok in
    let number = c.as_bytes.ensures.value ∙ c.format.ensures.text ∙ ap decimal c.number.ensures.value in
    let f = adds_all (codes "packet " ∷ src ∷ codes " " ∷ dst ∷ []) (codes " " ∷ vni ∷ codes " " ∷ []) out c.print-2.new.out c.append_all.new.self e
    (c.in_ok-append_all.ensures.ok ∙ ap (λ t. c.print-2.new.out ++ joined (codes " " ∷ t ∷ codes " " ∷ [])) number) in
    let digits = c.in_ok-append_word-2.ensures ∙ ap (λ t. t ++ hex_word c.rest.result.now) c.in_ok-append_word.ensures
    ∙ append_assoc c.append_all.new.self (hex_word c.addresses.result.now) (hex_word c.rest.result.now)
    ∙ ap (λ t. c.append_all.new.self ++ t) (word_of_parts inner c.addresses.result.now c.rest.result.now c.addresses.ensures.value c.rest.ensures.value c.addresses.ensures.twelve c.rest.ensures.has_type) in
    let h = adds (codes "packet " ∷ src ∷ codes " " ∷ dst ∷ codes " " ∷ vni ∷ codes " " ∷ []) out c.append_all.new.self c.append_word-2.new.out (hex_word inner) f digits in
    adds (codes "packet " ∷ src ∷ codes " " ∷ dst ∷ codes " " ∷ vni ∷ codes " " ∷ hex_word inner ∷ []) out c.append_word-2.new.out c.append-3.new.self (codes "\n") h c.in_ok-append-3.ensures.ok
