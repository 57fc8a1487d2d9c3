use Rattle.std.proofs.Common.{◌≡◌, ap, ◌∙◌}
use Rattle.uuid.specs.Text.{hyphenated_text, lower}
use Rattle.ovsdb_values.specs.Notation.{id_text}
use Rattle.monitor_updates.proofs.updates.put_row.Goals as goal

pub returns : goal.returns
returns c =
    let text : c.encode_lower-text.result.now ≡ id_text c.args.id = c.encode_lower-text.ensures.text ∙ ap (hyphenated_text lower) (c.hyphenated.ensures ∙ c.from_u128.ensures) in
    rw text at c.in_ok-put.ensures.ok
