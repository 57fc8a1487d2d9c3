use Rattle.std.proofs.Common.{◌++◌, sym, ap, subst, ◌∙◌}
use Rattle.std.specs.Str.{IsUtf8}
use Rattle.vtep_base.specs.Texts.{ipv4_text}
use Rattle.vtep_rows.proofs.Texts.{address_is_text}
use Rattle.local_tables.proofs.keys.ip_atom.Goals as goal

pub ascii_text-requires : goal.ascii_text-requires
ascii_text-requires c = subst IsUtf8 (sym (c.as_slice.ensures ∙ c.in_ok-print.ensures.ok ∙ ap (λ front. front ++ ipv4_text c.args.ip) c.new-text.ensures)) (address_is_text c.args.ip c.requires)
