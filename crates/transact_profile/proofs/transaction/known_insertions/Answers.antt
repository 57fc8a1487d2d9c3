use Rattle.std.proofs.Common.{◌≡◌, ◌+◌, ◌<◌, ◌∷◌, map, length, get_or, drop, sym, ap, ◌∙◌, add-one, drop-cons}
use Rattle.serde_json.specs.View.{view}
use Rattle.transact_profile.specs.Refusing.{Reading, by_reading}
use Rattle.transact_profile.specs.declared.operations.Op.{Op}
use Rattle.transact_profile.specs.Transaction.{with_insertion, known_from}
use Rattle.transact_profile.proofs.transaction.known_insertions.Goals as goal

pub operations-preserved : goal.operations-preserved
operations-preserved c =
    let known = c.operations.known in
    let all = c.args.operations.now in
    let i = c.operations.operation-index in
    let x = c.operation-item.result in
    let rest = drop (i + 1) all in
    let more : i < length all = c.operations-test.true in
    let cut : get_or all i x ∷ rest ≡ drop i all = rw (add-one, drop-cons all i x) in
    let next : x ∷ rest ≡ drop i all = ap (λ y. y ∷ rest) c.operation-item.is ∙ cut in
    ap (λ k. known_from k (map view rest)) c.in_ok-add-in-Ok.ensures
    ∙ sym (ap (λ (r : Reading Op). by_reading r (λ w. known) (λ o. known_from (with_insertion known o) (map view rest))) c.in-Ok.ensures)
    ∙ ap (λ ds. known_from known (map view ds)) next ∙ c.operations.invariant
