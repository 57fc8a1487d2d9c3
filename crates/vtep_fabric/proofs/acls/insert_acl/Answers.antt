use Rattle.std.proofs.Common.{◌≡◌, ◌+◌, ◌++◌, map, length, ap, ◌∙◌, arith}
use Rattle.serde_json.specs.View.{view}
use Rattle.fabric_world.specs.Intentions.{in_sequence}
use Rattle.fabric_world.specs.Installer.{with_entries}
use Rattle.vtep_fabric.proofs.AclNumbers.{list_added}
use Rattle.vtep_fabric.proofs.acls.insert_acl.Goals as goal

module _ (c : goal.After-drop-sorted-2) where
  both : (c.len-number.result ≡ length c.args.operations.now.items + length (in_sequence c.args.entries.now))
      × (map view c.push.new.self.items ≡ map view c.args.operations.now.items ++ with_entries (in_sequence c.args.entries.now) (length c.args.operations.now.items) c.args.name.now)
  both =
      list_added view (λ e. e.now) c.args.operations.now.items c.insert_entries.new.operations.items c.push.new.self.items c.in_ok-acl_json.field-0 c.as_slice.result.now
      (in_sequence c.args.entries.now) c.in_ok-rows.rows c.args.name.now c.len-number.result
      (ap (map (λ e. e.now)) c.as_slice.ensures.value ∙ c.in_ok-sorted.ensures) c.in_ok-rows.ensures.rows c.in_ok-rows.ensures.added
      (omega (arith, c.len-number.ensures, c.insert_entries.new.operations.ok.0)) c.in_ok-push.ensures.items c.in_ok-acl_json.ensures

pub returns-clause-number : goal.returns-clause-number
returns-clause-number c = (both c).0

pub returns-clause-added : goal.returns-clause-added
returns-clause-added c = (both c).1
