use Rattle.std.proofs.Common.{List, [], ◌∷◌, ◌++◌, codes, ap, ◌∙◌}
use Rattle.vtep_base.specs.Reading.{Bytes}
use Rattle.vtep_base.specs.Memory.{joined}
use Rattle.fabric_world.specs.Outputs.{hex_word}
use Rattle.vtep_fabric.proofs.HexText.{adds, adds_all, adds_none}
use Rattle.vtep_fabric.proofs.outputs.write_out.Goals as goal

pub returns : goal.returns
returns c =
    let text : Bytes = c.args.text.now in
    let g : Bytes = c.args.gateway.now in
    let p : Bytes = c.args.frame.now.port in
    let bytes : Bytes = c.args.frame.now.bytes in
    let head : List Bytes = codes "out " ∷ g ∷ codes " " ∷ p ∷ codes " " ∷ [] in
    let first = adds_all [] head text text c.append_all.new.self (adds_none text)
    (c.in_ok-append_all.ensures.ok
    ∙ ap (λ t. text ++ joined (codes "out " ∷ t ∷ codes " " ∷ c.as_slice-2.result.now ∷ codes " " ∷ [])) c.as_slice.ensures.text
    ∙ ap (λ t. text ++ joined (codes "out " ∷ g ∷ codes " " ∷ t ∷ codes " " ∷ [])) c.as_slice-2.ensures.text) in
    let second = adds head text c.append_all.new.self c.append_word.new.out (hex_word bytes) first (c.in_ok-append_word.ensures ∙ ap (λ t. c.append_all.new.self ++ hex_word t) c.as_slice-3.ensures) in
    adds (head ++ hex_word bytes ∷ []) text c.append_word.new.out c.append.new.self (codes "\n") second c.in_ok-append.ensures.ok
