use Rattle.std.proofs.Common.{◌≡◌, ◌≤◌, map, length, insert, subst, refl, arith}
use Rattle.fabric_world.specs.Intentions.{placed}
use Rattle.vtep_fabric.proofs.AclOrder.{entry_placed}
use Rattle.vtep_fabric.proofs.acls.in_sequence.Goals as goal

pub entries-preserved : goal.entries-preserved
entries-preserved c =
    let old = c.entries.sorted.items in
    let seen : c.deref.result.now ≡ old = c.deref.ensures.value in
    entry_placed (λ e. e.now) old c.insert.new.self.items _ c.args.entries.now c.entries.entry-index c.entry-item.result c.place_among-place.result _
    (omega arith) c.entry-item.is refl (subst (λ xs. c.place_among-place.result ≤ length xs) seen c.place_among-place.ensures.within) c.in_ok-insert.ensures.items
    (subst (λ xs. insert (map (λ e. e.now) xs) c.place_among-place.result c.entry-item.result ≡ placed c.entry-item.result (map (λ e. e.now) xs)) seen c.place_among-place.ensures.place)
    c.entries.invariant
