use Rattle.std.proofs.Common.{◌∙◌}
use Rattle.vtep_rows.proofs.Texts.{name_is_text}
use Rattle.vtep_fabric.proofs.operations.name_text.Goals as goal

pub returns : goal.returns
returns c = c.from_string.ensures ∙ c.in_ok-text.ensures.ok (name_is_text c.as_slice.result.now c.as_slice.ensures.form) ∙ c.as_slice.ensures.text
