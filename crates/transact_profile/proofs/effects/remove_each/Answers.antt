use Rattle.std.proofs.Common.{◌≡◌, ◌∷◌, ◌+◌, ◌<◌, length, get_or, drop, ap, ◌∙◌, add-one, drop-cons}
use Rattle.transact_profile.specs.Meaning.{remove_each}
use Rattle.transact_profile.proofs.effects.remove_each.Goals as goal

pub ids-preserved : goal.ids-preserved
ids-preserved c =
    let more : c.ids.id-index < length c.args.ids.now = c.ids-test.true in
    let next : get_or c.args.ids.now c.ids.id-index 0 ∷ drop (c.ids.id-index + 1) c.args.ids.now ≡ drop c.ids.id-index c.args.ids.now = rw (add-one, drop-cons c.args.ids.now c.ids.id-index 0) in
    rw c.in_ok-remove.ensures.ok (
      ap (λ ids. remove_each c.args.table ids c.ids.database.current) next ∙ c.ids.invariant.0,
      c.ids.invariant.1,
    )
