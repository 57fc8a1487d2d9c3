use Rattle.std.proofs.Common.{◌≡◌, ◌++◌, sym, ap, subst, ◌∙◌}
use Rattle.std.specs.Str.{IsUtf8}
use Rattle.vtep_base.specs.Addresses.{mac_text}
use Rattle.vtep_fabric.proofs.MacTexts.{mac_is_text}
use Rattle.vtep_fabric.proofs.acls.mac_text.Goals as goal

pub returns : goal.returns
returns c =
    let printed : c.as_slice.result.now ≡ mac_text c.args.mac = c.as_slice.ensures ∙ c.in_ok-print.ensures.ok ∙ ap (λ front. front ++ mac_text c.args.mac) c.new-bytes.ensures in
    c.from_string.ensures ∙ c.in_ok-text.ensures.ok (subst IsUtf8 (sym printed) (mac_is_text c.args.mac)) ∙ printed
