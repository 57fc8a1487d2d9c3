use Rattle.std.proofs.Common.{◌∷◌, ◌++◌, [], sym, ap, ◌∙◌, append-nil, arith}
use Rattle.ovsdb_values.specs.Sets.{one}
use Rattle.ovsdb_values.specs.declared.atoms.Atom.TheVariants.{Text}
use Rattle.fabric_world.specs.Installer.{given, mac_atom}
use Rattle.vtep_fabric.proofs.AclNumbers.{column_added}
use Rattle.vtep_fabric.proofs.acls.add_macs.Goals.{in-Some+in_ok-mac_text+in_ok-one+in_ok-push, in_default}
use Rattle.vtep_fabric.proofs.acls.add_macs.Goals as goal

pub columns-preserved : goal.columns-preserved
columns-preserved c =
    let old = c.columns.values.items in
    let column = c.columns-item.result.0 in
    column_added mac_atom old c.match-mac.values.items _ c.args.columns.now c.columns.column-index c.columns-item.result (omega arith) c.columns-item.is
    (elim c.match-mac.branch [
      | in-Some+in_ok-mac_text+in_ok-one+in_ok-push w ↦ (
          ap (λ v. v.items) w.values-is ∙ w.in_ok-push.ensures.items
          ∙ ap (λ d. old ++ (column, d) ∷ []) (w.in_ok-one.ensures ∙ ap (λ t. one (Text t)) w.in_ok-mac_text.ensures)
          ∙ ap (λ o. old ++ given mac_atom ((column, o) ∷ [])) (sym w.in-Some.is))
      | in_default w ↦ (
          ap (λ v. v.items) w.values-is ∙ sym (append-nil old) ∙ ap (λ o. old ++ given mac_atom ((column, o) ∷ [])) (sym w.in_default.is))
    ])
    c.columns.invariant
