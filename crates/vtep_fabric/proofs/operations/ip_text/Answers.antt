use Rattle.std.proofs.Common.{◌≡◌, ◌<◌, ◌^◌, ◌++◌, sym, ap, subst, ◌∙◌}
use Rattle.std.specs.Str.{IsUtf8}
use Rattle.vtep_base.specs.Texts.{ipv4_text}
use Rattle.vtep_rows.proofs.Texts.{address_is_text}
use Rattle.vtep_fabric.proofs.operations.ip_text.Goals as goal

pub returns : goal.returns
returns c =
    let fits : c.args.ip < 2 ^ 32 = subst (λ n. n < 2 ^ 32) c.bits-bits.ensures.value c.bits-bits.ensures.fits in
    let printed : c.as_slice.result.now ≡ ipv4_text c.args.ip = c.as_slice.ensures ∙ c.in_ok-print.ensures.ok ∙ ap (λ front. front ++ ipv4_text c.args.ip) c.new-bytes.ensures in
    c.from_string.ensures ∙ c.in_ok-text.ensures.ok (subst IsUtf8 (sym printed) (address_is_text c.args.ip fits)) ∙ printed
