use Rattle.std.proofs.Common.{unwrap_or, length, insert, ap, ◌∙◌}
use Rattle.acl_rules.proofs.Placed.{insert_at-place}
use Rattle.acl_rules.proofs.rules.place_among.Goals as goal

pub returns-clause-place : goal.returns-clause-place
returns-clause-place c =
    ap (λ n. insert c.args.sorted.now n c.args.entry.now) (c.unwrap_or.ensures ∙ ap (λ p. unwrap_or p (length c.args.sorted.now)) c.first_behind.ensures)
    ∙ insert_at-place c.args.entry.now c.args.sorted.now
