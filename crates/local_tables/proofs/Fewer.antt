-- A commit that binds no switch more breaks no rule, where the rows are sound but for the Local tables.
use Rattle.std.proofs.Common.{◌≡◌, ℕ, ◌≤◌, Bool, true, false, not, cond, ◌&&◌, List, [], is_some, Option, Some, None, Ok, refl, sym, ap, ◌∙◌, subst, true≢false}
use Rattle.std.specs.List.{list_all}
use Rattle.std.specs.Cmp.{first_so, second_so}
use Rattle.vtep_base.specs.Maps as maps
use Rattle.vtep_base.specs.Maps.{Map}
use Rattle.vtep_schema.specs.declared.Table.{Table}
use Rattle.vtep_schema.specs.declared.Table.TheVariants.{Global, UcastMacsLocal, McastMacsLocal}
use Rattle.vtep_rows.specs.Row.{Contents, references}
use Rattle.vtep_rows.specs.Rows.{Key, same_key, Rows, IsRows, row_at, collected, stays, last_number}
use Rattle.vtep_rows.specs.Sound.{Sound}
use Rattle.vtep_rows.specs.Orders.{key_total, key_exact}
use Rattle.vtep_rows.proofs.Kept.{its_contents}
use Rattle.vtep_rows.proofs.Collected.{is_collected}
use Rattle.vtep_rows.proofs.Restored.{itself}
use Rattle.mac_learning.specs.declared.Learnt.{Learnt}
use Rattle.local_tables.specs.LocalRows.{flood_key}
use Rattle.local_tables.specs.Followed.{picked, is_stale, stale_at, stays as remains, staying, without_stale, own_locator, completed_by, completed, followed, commit}
use Rattle.local_tables.specs.Following.{is_bound, has_flood}
use Rattle.local_tables.specs.Local.{IsChanged}
use Rattle.local_tables.proofs.Members.{all_in, in_all, in_any}
use Rattle.local_tables.proofs.Keyed.{has_first}
use Rattle.local_tables.proofs.RemovingLaws.{at_picked}
use Rattle.local_tables.proofs.LocalLaws.{flood_has}
use Rattle.local_tables.proofs.Missing.{was_there, still_there, missing_is, none_missing}
use Rattle.local_tables.proofs.Others.{is_other, names_others}
use Rattle.local_tables.proofs.Collecting.{exact, still_in, stays_named, IsPart, part_has, part_sound}
use Rattle.local_tables.proofs.Collecting as collecting
use Rattle.local_tables.proofs.Ageing.{sound_kept}

-- ---- a part of rows, of which all but Local rows are there

module _ (r s : Rows) (rows : IsRows r) (sound : Sound (collected r)) (part : IsPart r s) (others : (k : Key) → is_other k ≡ true → row_at s k ≡ row_at r k) where
  abbrev left : Key → Bool
  left k = maps.has (collected s).rows k

  at_left : (k : Key) → row_at (collected s) k ≡ row_at (picked left r) k
  at_left k = by (row_at (collected s) k) refl ∙ sym (at_picked left r k)
    where
      by : (o : Option Contents) → row_at (collected s) k ≡ o → row_at (collected s) k ≡ cond (left k) (row_at r k) None
      by None none = none ∙ sym (ap (λ b. cond b (row_at r k) None) (ap is_some none))
      by (Some row) there = there ∙ sym (ap (λ b. cond b (row_at r k) None) (ap is_some there) ∙ part k row (collecting.was_there s k row there))

  same_left : (collected s).rows ≡ (picked left r).rows
  same_left = maps.same_map key_total key_exact (collected s).rows (picked left r).rows at_left

  closed : (k : Key) → left k ≡ true → (maps.has r.rows k ≡ true) × (stays (picked left r).rows k ≡ true)
  closed k h =
      let both_so = sym (exact s k) ∙ h in (
        part_has r s part k (first_so (maps.has s.rows k) (stays (collected s).rows k) both_so),
        ap (λ m. stays m k) (sym same_left) ∙ second_so (maps.has s.rows k) (stays (collected s).rows k) both_so,
      )

  within : IsPart (collected r) (collected s)
  within k row there =
      let was = part k row (collecting.was_there s k row there) in
      (is_collected r).same k ((is_collected r).largest left closed k (ap is_some there)) ∙ was

  named_left : (k : Key) (row : Contents) → row_at (collected s) k ≡ Some row → list_all (maps.has (collected s).rows) (references row) ≡ true
  named_left k row there = in_all (maps.has (collected s).rows) (references row) (λ q listed.
      let was = within k row there in
      let inside = all_in (maps.has (collected r).rows) (references row) q (sound.there k row was) listed in
      let before = first_so (maps.has r.rows q) (stays (collected r).rows q) (sym (exact r q) ∙ inside) in
      let other = all_in is_other (references row) q (names_others row (its_contents r k.0 k.1 row rows (collecting.was_there r k row was))) listed in
      still_in s q (ap is_some (others q other) ∙ before) (stays_named (collected s) k q row there (in_any (same_key q) (references row) q listed (itself q))))

  pub fewer_sound : Sound (collected s)
  fewer_sound = part_sound (collected r) (collected s) sound within named_left

-- ---- the commit

module _ (own : ℕ) (old r : Rows) (l : List Learnt) (is : IsChanged own old r l) (sound : Sound (collected r)) (no_more : (s : ℕ) → is_bound r s ≡ true → is_bound old s ≡ true) where
  abbrev kept : List Learnt
  kept = staying old r l

  abbrev fewest : Rows
  fewest = without_stale r kept

  none_lacks : (s : ℕ) → false ≡ (is_bound r s && not (has_flood r s))
  none_lacks s = by (is_bound r s) refl
    where
      by : (b : Bool) → is_bound r s ≡ b → false ≡ (is_bound r s && not (has_flood r s))
      by false e = sym (ap (λ b. b && not (has_flood r s)) e)
      by true e = let here = flood_has own old r l is s (no_more s e) in sym (λ i. e i && not (has_first r McastMacsLocal (flood_key s) here.0 here.1 i))

  rows_are : completed own fewest kept ≡ fewest
  rows_are = λ i. completed_by own (own_locator own fewest) (sym (missing_is own old r l is (remains old r) [] tt none_lacks) i) (none_missing own old r l is (remains old r) i) fewest

  other_same : (k : Key) → is_other k ≡ true → row_at fewest k ≡ row_at r k
  other_same k other = at_picked (λ k. not (stale_at r kept k)) r k ∙ by k.0 k.1 other
    where
      never : (t : Table) (i : ℕ) → ((row : Contents) → is_stale r kept t row ≡ false) → cond (not (stale_at r kept (t, i))) (row_at r (t, i)) None ≡ row_at r (t, i)
      never t i fresh = at (row_at r (t, i)) refl
        where
          at : (o : Option Contents) → row_at r (t, i) ≡ o → cond (not (stale_at r kept (t, i))) (row_at r (t, i)) None ≡ row_at r (t, i)
          at (Some row) there = sym (at_picked (λ k. not (stale_at r kept k)) r (t, i)) ∙ still_there own old r l is (remains old r) (t, i) row there (fresh row) ∙ sym there
          at None none = gone (not (stale_at r kept (t, i))) ∙ sym none
            where
              gone : (b : Bool) → cond b (row_at r (t, i)) None ≡ None
              gone true = none
              gone false = refl

      by : (t : Table) (i : ℕ) → is_other (t, i) ≡ true → cond (not (stale_at r kept (t, i))) (row_at r (t, i)) None ≡ row_at r (t, i)
      by UcastMacsLocal i h = absurd (true≢false (sym h))
      by McastMacsLocal i h = absurd (true≢false (sym h))
      by Global i h = never Global i (λ row. refl)
      by t i h = never t i (λ row. refl)

  pub fewer_kept : commit own old r l ≡ Ok (followed own old r l)
  fewer_kept =
      sound_kept (followed own old r l)
      (subst (λ x. Sound (collected x)) (sym rows_are) (fewer_sound r fewest is.after sound (λ k row there. was_there own old r l is (remains old r) k row there) other_same))
      (subst (λ (x : Rows). x.counter ≤ last_number) (sym rows_are) is.after.count)
