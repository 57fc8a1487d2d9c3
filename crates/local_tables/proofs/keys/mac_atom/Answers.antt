use Rattle.std.proofs.Common.{◌++◌, sym, ap, subst, ◌∙◌}
use Rattle.std.specs.Str.{IsUtf8}
use Rattle.vtep_base.specs.Addresses.{mac_text}
use Rattle.local_tables.proofs.Ascii.{mac_is_text}
use Rattle.local_tables.proofs.keys.mac_atom.Goals as goal

pub ascii_text-requires : goal.ascii_text-requires
ascii_text-requires c = subst IsUtf8 (sym (c.as_slice.ensures ∙ c.in_ok-print.ensures.ok ∙ ap (λ front. front ++ mac_text c.args.mac) c.new-text.ensures)) (mac_is_text c.args.mac)
