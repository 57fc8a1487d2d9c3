use Rattle.std.proofs.Common.{◌≡◌, drop}
use Rattle.serde_json.specs.View.{items_view, members_view}
use Rattle.rpc_framing.specs.Said.{items_whole, members_whole}
use Rattle.rpc_framing.proofs.reading.+is_whole.Given as goal

abbrev pub invariant-items_whole-items : goal.invariant-items_whole-items
invariant-items_whole-items l = items_whole (items_view (drop l.item-index l.item-items)) ≡ items_whole (items_view l.fn.items.items)

abbrev pub invariant-members_whole-members : goal.invariant-members_whole-members
invariant-members_whole-members l = members_whole (members_view l.member-iterator) ≡ members_whole (members_view l.fn.members.entries)
