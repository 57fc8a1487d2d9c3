use Rattle.std.proofs.Common.{ap, ◌∙◌}
use Rattle.ovsdb_values.specs.declared.atoms.Atom.TheVariants.{Text}
use Rattle.vtep_rows.proofs.Texts.{name_is_text}
use Rattle.vtep_gateway.proofs.ports.name_atom.Goals as goal

pub returns-clause-atom : goal.returns-clause-atom
returns-clause-atom c = ap Text (c.from_string.ensures ∙ c.in_ok-text.ensures.ok (name_is_text c.as_slice.result.now c.as_slice.ensures.form) ∙ c.as_slice.ensures.text)
