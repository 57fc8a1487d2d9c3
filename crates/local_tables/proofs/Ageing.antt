-- A commit of entries that are no longer learnt never breaks a rule.
use Rattle.std.proofs.Common.{◌≡◌, ℕ, ◌≤◌, false, not, nat_lt, List, Some, Ok, sym, ap, ◌∙◌, subst, arith}
use Rattle.std.specs.Prelude.{if◌then◌else◌}
use Rattle.std.proofs.lemmas.Bool.Decides.{nat_tests}
use Rattle.std.specs.Option.{option_map}
use Rattle.std.specs.Cmp.{first_so}
use Rattle.vtep_schema.specs.declared.Table.TheVariants.{UcastMacsLocal, McastMacsLocal}
use Rattle.vtep_schema.specs.Tables.{same_table}
use Rattle.vtep_rows.specs.declared.soundness.Rule.TheVariants.{Limit}
use Rattle.vtep_rows.specs.Rows.{Rows, collected, last_number}
use Rattle.vtep_rows.specs.Sound.{Sound, broken}
use Rattle.vtep_rows.proofs.SoundLaws.{is_unbroken, not_on}
use Rattle.mac_learning.specs.declared.Learnt.{Learnt}
use Rattle.forward_program.specs.Built.{IsIn}
use Rattle.local_tables.specs.Followed.{Committed, is_spent, judged, followed, commit}
use Rattle.local_tables.specs.Following.{without_all, without_rows, address_keys}
use Rattle.local_tables.specs.Local.{IsChanged}
use Rattle.local_tables.proofs.Keyed.{IsKeyed}
use Rattle.local_tables.proofs.RemovingLaws.{others_stay, all_left, same_counter}
use Rattle.local_tables.proofs.LocalLaws.{addresses_keyed}
use Rattle.local_tables.proofs.Forgetting.{forgotten_is}
use Rattle.local_tables.proofs.Collecting.{left_sound}

pub unspent : (r : Rows) → r.counter ≤ last_number → is_spent r ≡ false
unspent r few = by last_number r.counter few
  where
    by : (a b : ℕ) → b ≤ a → nat_lt a b ≡ false
    by a b h = grind (arith, nat_tests, h)

-- sound rows are kept
pub sound_kept : (c : Committed) → Sound c.rows → c.rows.counter ≤ last_number → judged c (if is_spent c.rows then Some Limit else broken c.rows) ≡ Ok c
sound_kept c sound few =
    ap (λ b. judged c (if b then Some Limit else broken c.rows)) (unspent c.rows few)
    ∙ ap (judged c) (ap (option_map (λ b. b.rule)) (is_unbroken c.rows sound))

module _ (own : ℕ) (r : Rows) (l : List Learnt) (is : IsChanged own r r l) (gone : List Learnt) (listed : (e : Learnt) → IsIn e gone → IsIn e l) where
  abbrev left : Rows
  left = without_rows UcastMacsLocal r (address_keys gone)

  keyed : IsKeyed r UcastMacsLocal
  keyed = addresses_keyed own r r l is

  aged_sound : Sound (collected left)
  aged_sound =
      left_sound r left is.after is.sound (all_left UcastMacsLocal r (address_keys gone) keyed)
      (λ k other. others_stay UcastMacsLocal r (address_keys gone) keyed k (not_on (same_table k.0 UcastMacsLocal) (first_so (not (same_table k.0 UcastMacsLocal)) (not (same_table k.0 McastMacsLocal)) other)))

  aged_few : (collected left).counter ≤ last_number
  aged_few = subst (λ n. n ≤ last_number) (sym (same_counter UcastMacsLocal r (address_keys gone))) is.after.count

  pub ageing_kept : commit own r r (without_all gone l) ≡ Ok (followed own r r (without_all gone l))
  ageing_kept =
      let same = forgotten_is own r l is gone listed in
      sound_kept (followed own r r (without_all gone l)) (subst Sound same aged_sound) (subst (λ (x : Rows). x.counter ≤ last_number) same aged_few)
