-- Ageing keeps the Local tables those of what is learnt and of the switches that are bound.
use Rattle.std.proofs.Common.{◌≡◌, inl, ℕ, ◌<◌, ◌≤◌, ◌^◌, List, sym, ap, subst}
use Rattle.vtep_schema.specs.declared.Table.TheVariants.{PhysicalPort, UcastMacsLocal}
use Rattle.vtep_rows.specs.Rows.{Rows, collected, last_number}
use Rattle.vtep_rows.specs.Sound.{Sound}
use Rattle.mac_learning.specs.declared.Learnt.{Learnt}
use Rattle.forward_program.specs.Built.{IsIn}
use Rattle.local_tables.specs.Followed.{without_stale, completed, followed}
use Rattle.local_tables.specs.Following.{without_all, address_keys}
use Rattle.local_tables.specs.Local.{IsLocal, IsChanged, IsFixed}
use Rattle.local_tables.proofs.RemovingLaws.{same_counter}
use Rattle.local_tables.proofs.Same.{SameTable}
use Rattle.local_tables.proofs.Forgetting.{keeps, parted, rows_are, still_bound}
use Rattle.local_tables.proofs.Grown.{kept_local}
use Rattle.local_tables.proofs.Unchanged.{all_stay}

module _ (own : ℕ) (r : Rows) (l : List Learnt) (is : IsChanged own r r l) (gone : List Learnt) (listed : (e : Learnt) → IsIn e gone → IsIn e l) (small : own < 2 ^ 32) where
  abbrev kept : List Learnt
  kept = without_all gone l

  abbrev after : Rows
  after = completed own (without_stale r kept) kept

  rows_after : (followed own r r kept).rows ≡ collected after
  rows_after = ap (λ k. collected (completed own (without_stale r k) k)) (all_stay r kept (still_bound own r l is gone listed))

  nothing_given : after.counter ≤ last_number
  nothing_given = subst (λ (x : Rows). x.counter ≤ last_number) (rows_are own r l is gone listed) (subst (λ n. n ≤ last_number) (sym (same_counter UcastMacsLocal r (address_keys gone))) is.after.count)

  nothing_changed : IsFixed r r
  nothing_changed = record { locators = λ i row there. inl there; sets = λ i row there. inl there }

  pub aged_local : Sound (followed own r r kept).rows → SameTable PhysicalPort (followed own r r kept).rows r → IsLocal own (followed own r r kept).rows kept
  aged_local sound ports =
      subst (λ x. IsLocal own x kept) (sym rows_after)
      (kept_local own r r l is (keeps own r l is gone listed) gone _ (parted own r l is gone listed) small nothing_given (subst Sound rows_after sound) (subst (λ x. SameTable PhysicalPort x r) rows_after ports) nothing_changed
      (still_bound own r l is gone listed))
