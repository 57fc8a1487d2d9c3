-- What the code leaves of entries that are no longer learnt is what a commit adds.
use Rattle.std.proofs.Common.{◌≡◌, ℕ, Bool, true, not, List, [], sym, ap, ◌∙◌}
use Rattle.std.specs.List.{list_any}
use Rattle.vtep_schema.specs.declared.Table.TheVariants.{UcastMacsLocal}
use Rattle.vtep_rows.specs.Rows.{Rows, collected}
use Rattle.mac_learning.specs.declared.Learnt.{Learnt}
use Rattle.mac_learning.specs.Learning.{same_address}
use Rattle.forward_program.specs.Built.{IsIn}
use Rattle.local_tables.specs.Followed.{is_bound_there, completed, without_stale, followed}
use Rattle.local_tables.specs.Following.{without_all, without_rows, address_keys}
use Rattle.local_tables.specs.Local.{IsChanged}
use Rattle.local_tables.proofs.Members.{all_in, in_filter}
use Rattle.local_tables.proofs.Stale.{Parted, not_not}
use Rattle.local_tables.proofs.FollowIs.{completed_is}
use Rattle.local_tables.proofs.Unchanged.{all_stay, none_lacks}

module _ (own : ℕ) (r : Rows) (l : List Learnt) (is : IsChanged own r r l) (gone : List Learnt) (listed : (e : Learnt) → IsIn e gone → IsIn e l) where
  abbrev pub keeps : Learnt → Bool
  keeps e = not (list_any (same_address e) gone)

  pub parted : Parted r r l keeps gone []
  parted = record { was_learnt = listed; leaves = λ e h. sym (not_not (list_any (same_address e) gone)); unbinds = λ s bound. sym (ap not bound) }

  pub rows_are : without_rows UcastMacsLocal r (address_keys gone) ≡ completed own (without_stale r (without_all gone l)) (without_all gone l)
  rows_are = completed_is own r r l is keeps gone [] parted [] tt (none_lacks own r l is)

  pub still_bound : (e : Learnt) → IsIn e (without_all gone l) → is_bound_there r e ≡ true
  still_bound e h = all_in (is_bound_there r) l e is.local.bound (in_filter keeps l e h).0

  pub forgotten_is : collected (without_rows UcastMacsLocal r (address_keys gone)) ≡ (followed own r r (without_all gone l)).rows
  forgotten_is = ap collected rows_are ∙ ap (λ k. collected (completed own (without_stale r k) k)) (sym (all_stay r (without_all gone l) still_bound))
