use Rattle.std.proofs.Common.{◌≡◌, true, Some, None, ◌∙◌, sym, ap, subst}
use Rattle.std.specs.Prelude.{if◌then◌else◌, option_map}
use Rattle.fabric_world.specs.declared.fields.AclField.TheVariants.{Ethertype}
use Rattle.fabric_world.specs.Acls.{IsEthertype}
use Rattle.fabric_world.specs.Fields.{is_hex_word}
use Rattle.fabric_world.proofs.HexWords.{hex_word_is_text}
use Rattle.fabric_replay.proofs.fields.ethertype.Goals as goal

module _ (c : goal.After-from_string) where
  is_word : is_hex_word c.args.word.now ≡ true
  is_word = sym c.is_hex_word.ensures ∙ c.if-not-is_hex_word.false

  same : c.from_string.result ≡ c.args.word.now
  same = c.from_string.ensures ∙ c.in_ok-text.ensures.ok (hex_word_is_text c.args.word.now is_word)

pub returns-clause-value : goal.returns-clause-value
returns-clause-value c =
    ap (λ t. Some (Ethertype t)) (same c) ∙ sym (ap (λ b. option_map (λ t. Ethertype t) (if b then Some c.args.word.now else None)) (is_word c))

pub returns-clause-allowed : goal.returns-clause-allowed
returns-clause-allowed c = subst IsEthertype (sym (same c)) (is_word c)
