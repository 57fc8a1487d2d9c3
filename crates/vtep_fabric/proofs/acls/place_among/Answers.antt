use Rattle.std.proofs.Common.{◌≡◌, ◌≤◌, unwrap_or, position, length, map, insert, sym, ap, subst, ◌∙◌}
use Rattle.std.specs.Prelude.{nat_lt}
use Rattle.vtep_fabric.proofs.AclOrder.{place_within, goes_there}
use Rattle.vtep_fabric.proofs.acls.place_among.Goals as goal

module _ (c : goal.After-unwrap_or) where
  is : c.unwrap_or.result ≡ unwrap_or (position (λ x. nat_lt c.args.entry.now.sequence x.now.sequence) c.args.sorted.now) (length c.args.sorted.now)
  is = c.unwrap_or.ensures ∙ ap (λ p. unwrap_or p (length c.args.sorted.now)) c.first_behind.ensures

pub returns-clause-within : goal.returns-clause-within
returns-clause-within c = subst (λ n. n ≤ length c.args.sorted.now) (sym (is c)) (place_within (λ x. nat_lt c.args.entry.now.sequence x.now.sequence) c.args.sorted.now)

pub returns-clause-place : goal.returns-clause-place
returns-clause-place c =
    ap (λ n. insert (map (λ e. e.now) c.args.sorted.now) n c.args.entry.now) (is c) ∙ goes_there (λ e. e.now) c.args.entry.now c.args.sorted.now
