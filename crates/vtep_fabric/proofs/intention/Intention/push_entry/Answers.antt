use Rattle.std.proofs.Common.{◌≡◌, List, [], ◌∷◌, ◌++◌, ap, ◌∙◌}
use Rattle.std.specs.Cmp.Lexicographic.{nat_list_cmp_total}
use Rattle.std.specs.FinMap.{nat_cmp-IsAntisymmetric, slice_cmp-IsAntisymmetric}
use Rattle.vtep_base.specs.Maps as maps
use Rattle.vtep_base.specs.Maps.{Map}
use Rattle.fabric_world.specs.declared.WantedEntry.{WantedEntry}
use Rattle.fabric_world.specs.Intentions.{Intention, bytes_cmp, entries_of}
use Rattle.vtep_fabric.proofs.AclLists.{put_back}
use Rattle.vtep_fabric.proofs.intention.Intention.push_entry.Goals as goal

pub returns : goal.returns
returns c =
    let i = c.args.self.now in
    let name = c.args.name in
    let with : Map bytes_cmp (List WantedEntry) → Intention = λ m. record { switches = i.switches; bindings = i.bindings; acls = m; guards = i.guards } in
    let put : Intention → List WantedEntry → Intention = λ j es. record { switches = j.switches; bindings = j.bindings; acls = maps.insert j.acls name es; guards = j.guards } in
    let entries : c.push.new.self ≡ entries_of i name ++ c.args.entry ∷ [] = c.in_ok-push.ensures.ok ∙ ap (λ es. es ++ c.args.entry ∷ []) c.take_acl-entries.ensures.entries in
    c.in_ok-put_acl.ensures ∙ (λ t. put (c.take_acl-entries.ensures.taken t) (entries t))
    ∙ ap with (put_back nat_list_cmp_total (slice_cmp-IsAntisymmetric nat_cmp-IsAntisymmetric) i.acls name (entries_of i name ++ c.args.entry ∷ []))
