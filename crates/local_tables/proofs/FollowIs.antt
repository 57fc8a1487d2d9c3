-- What the code leaves of a change is what a commit adds to it.
use Rattle.std.proofs.Common.{◌≡◌, ℕ, ◌<◌, Bool, true, false, not, ◌&&◌, nat_lt, List, [], ◌∷◌, refl, sym, ap, subst, ◌∙◌, true≢false, arith}
use Rattle.std.proofs.lemmas.Bool.Decides.{nat_tests}
use Rattle.std.specs.List.{AllByRecursion}
use Rattle.std.specs.List.Sorted.{IsStrictlySortedBy}
use Rattle.std.specs.Ordering.{nat_cmp}
use Rattle.std.specs.Cmp.{ranked}
use Rattle.std.specs.declared.cmp.Ordering.TheVariants.{Less}
use Rattle.std.specs.List.{filter}
use Rattle.vtep_schema.specs.declared.Table.TheVariants.{UcastMacsLocal, McastMacsLocal}
use Rattle.vtep_rows.specs.Rows.{Rows, collected, last_number}
use Rattle.vtep_rows.specs.Database.{Versions}
use Rattle.mac_learning.specs.declared.Learnt.{Learnt}
use Rattle.forward_program.proofs.Ascending.{Over, Ascending, in_picked}
use Rattle.local_tables.specs.LocalRows.{flood_key}
use Rattle.local_tables.specs.Followed.{own_locator, stays, staying, without_stale, completed_by, completed, followed, is_spent}
use Rattle.local_tables.specs.Following.{has_id, touched, is_bound, has_flood, lost, gained, leaving, without_rows, address_keys, flood_keys}
use Rattle.local_tables.specs.Local.{IsChanged}
use Rattle.local_tables.proofs.Keyed.{has_first}
use Rattle.local_tables.proofs.LocalLaws.{flood_has}
use Rattle.local_tables.proofs.LeavingLaws.{leaves, leaving_in}
use Rattle.local_tables.proofs.FloodsLaws.{bound_apart}
use Rattle.local_tables.proofs.Stale.{Parted, fewest_is}
use Rattle.local_tables.proofs.Missing.{missing_is, none_missing}

and_false : (b : Bool) → (b && false) ≡ false
and_false true = refl
and_false false = refl

-- the rows that the code leaves, of entries that go, of switches that are no longer bound and of those that lack a row
module _ (own : ℕ) (old r : Rows) (l : List Learnt) (is : IsChanged own old r l) (keeps : Learnt → Bool) (gone : List Learnt) (unbound_ones : List ℕ) (parted : Parted old r l keeps gone unbound_ones) where
  abbrev left : Rows
  left = without_rows McastMacsLocal (without_rows UcastMacsLocal r (address_keys gone)) (flood_keys unbound_ones)

  pub completed_is : (ids : List ℕ) → Ascending ids → ((i : ℕ) → has_id ids i ≡ (is_bound r i && not (has_flood r i))) → completed_by own (own_locator own left) ids [] left ≡ completed own (without_stale r (filter keeps l)) (filter keeps l)
  completed_is ids up same =
      let kept = filter keeps l in
      let fewest = without_stale r kept in
      ap (λ (x : Rows). completed_by own (own_locator own x) ids [] x) (fewest_is own old r l is keeps gone unbound_ones parted)
      ∙ (λ i. completed_by own (own_locator own fewest) (missing_is own old r l is keeps ids up same i) (sym (none_missing own old r l is keeps) i) fewest)

-- ---- a change

module _ (own : ℕ) (old r : Rows) (l : List Learnt) (is : IsChanged own old r l) where
  lost_is : (s : ℕ) → is_bound old s ≡ true → has_id (lost r (touched old r)) s ≡ not (is_bound r s)
  lost_is s before = in_picked (λ s. not (is_bound r s)) (touched old r) s ∙ by (is_bound r s) refl
    where
      by : (b : Bool) → is_bound r s ≡ b → (has_id (touched old r) s && not (is_bound r s)) ≡ not (is_bound r s)
      by true e = ap (λ b. has_id (touched old r) s && not b) e ∙ and_false (has_id (touched old r) s) ∙ sym (ap not e)
      by false e = ap (λ b. b && not (is_bound r s)) (bound_apart old r s true false before e true≢false)

  pub change_parts : Parted old r l (stays old r) (leaving old r l) (lost r (touched old r))
  change_parts = record { was_learnt = leaving_in own old r l is; leaves = leaves own old r l is; unbinds = lost_is }

  gained_is : (s : ℕ) → has_id (gained r (touched old r)) s ≡ (is_bound r s && not (has_flood r s))
  gained_is s = in_picked (λ s. is_bound r s && not (has_flood r s)) (touched old r) s ∙ by (is_bound r s) refl (has_flood r s) refl
    where
      by : (b : Bool) → is_bound r s ≡ b → (c : Bool) → has_flood r s ≡ c → (has_id (touched old r) s && (is_bound r s && not (has_flood r s))) ≡ (is_bound r s && not (has_flood r s))
      by false e c f = ap (λ b. has_id (touched old r) s && (b && not (has_flood r s))) e ∙ and_false (has_id (touched old r) s) ∙ sym (ap (λ b. b && not (has_flood r s)) e)
      by true e true f = (λ i. has_id (touched old r) s && (e i && not (f i))) ∙ and_false (has_id (touched old r) s) ∙ sym (λ i. e i && not (f i))
      by true e false f = ap (λ b. b && (is_bound r s && not (has_flood r s))) (bound_apart old r s false true (before (is_bound old s) refl) e (λ clash. true≢false (sym clash)))
        where
          before : (b : Bool) → is_bound old s ≡ b → is_bound old s ≡ false
          before true g = let was = flood_has own old r l is s g in absurd (true≢false (sym (has_first r McastMacsLocal (flood_key s) was.0 was.1) ∙ f))
          before false g = g

-- ---- the calls, one after the other

over : (n : ℕ) (xs : List ℕ) → AllByRecursion (λ x. nat_cmp n x ≡ Less) xs → Over n xs
over n [] h = tt
over n (x ∷ xs) h = (ranked n x Less (sym h.0), over n xs h.1)

pub sorted_ascends : (xs : List ℕ) → IsStrictlySortedBy nat_cmp xs → Ascending xs
unfolding IsStrictlySortedBy
sorted_ascends [] h = tt
sorted_ascends (x ∷ xs) h = (over x xs h.0, sorted_ascends xs h.1)

-- what the calls were given
pub record Steps (own : ℕ) (d e : Versions) (l : List Learnt) (ids : List ℕ) : Type 0 where
  pub changed : IsChanged own d.committed d.current l
  pub ascends : Ascending ids
  pub same : (i : ℕ) → has_id ids i ≡ has_id (gained d.current (touched d.committed d.current)) i
  pub left : e
      ≡ record d { current = without_rows McastMacsLocal (without_rows UcastMacsLocal d.current (address_keys (leaving d.committed d.current l))) (flood_keys (lost d.current (touched d.committed d.current))) }

pub steps_of : (own : ℕ) (d e : Versions) (l gone gone_slice : List Learnt) (rows : Rows) (touched_list touched_first touched_slice ids : List ℕ) → IsChanged own d.committed d.current l
    → gone ≡ leaving d.committed d.current l → touched_list ≡ touched d.committed d.current → rows ≡ d.current → gone_slice ≡ gone → touched_first ≡ touched_list → touched_slice ≡ touched_list
    → ((i : ℕ) → has_id ids i ≡ has_id (gained rows touched_first) i) → IsStrictlySortedBy nat_cmp ids
    → e ≡ record d { current = without_rows McastMacsLocal (without_rows UcastMacsLocal d.current (address_keys gone_slice)) (flood_keys (lost d.current touched_slice)) } → Steps own d e l ids
steps_of own d e l gone gone_slice rows touched_list touched_first touched_slice ids changed gone_is touched_is rows_are gone_same first_same slice_same same order left = record {
  changed = changed;
  ascends = sorted_ascends ids order;
  same = λ i. same i ∙ (λ j. has_id (gained (rows_are j) ((first_same ∙ touched_is) j)) i);
  left =
      left
      ∙ (λ j.
      let v : Versions = record {
        committed = d.committed;
        current = without_rows McastMacsLocal (without_rows UcastMacsLocal d.current (address_keys ((gone_same ∙ gone_is) j))) (flood_keys (lost d.current ((slice_same ∙ touched_is) j)));
      } in v);
}

module _ (own : ℕ) (d e : Versions) (l : List Learnt) (ids : List ℕ) (steps : Steps own d e l ids) where
  abbrev after : Rows
  after = completed own (without_stale d.current (staying d.committed d.current l)) (staying d.committed d.current l)

  added_is : completed_by own (own_locator own e.current) ids [] e.current ≡ after
  added_is =
      ap (λ (v : Versions). completed_by own (own_locator own v.current) ids [] v.current) steps.left
      ∙ completed_is own d.committed d.current l steps.changed (stays d.committed d.current) (leaving d.committed d.current l) (lost d.current (touched d.committed d.current)) (change_parts own d.committed d.current l steps.changed) ids steps.ascends
      (λ i. steps.same i ∙ gained_is own d.committed d.current l steps.changed i)

  pub followed_is : (f g : Versions) → f ≡ record e { current = completed_by own (own_locator own e.current) ids [] e.current } → g ≡ record f { current = collected f.current } → g ≡ record d { current = (followed own d.committed d.current l).rows }
  followed_is f g added kept =
      kept ∙ (λ i. let v : Versions = record { committed = (added i).committed; current = collected (added i).current } in v)
      ∙ (λ i. let v : Versions = record { committed = (steps.left i).committed; current = collected (added_is i) } in v)

  pub spent_is : last_number < (completed_by own (own_locator own e.current) ids [] e.current).counter → is_spent (followed own d.committed d.current l).rows ≡ true
  spent_is past = let more : last_number < after.counter = subst (λ (x : Rows). last_number < x.counter) added_is past in past_so last_number after.counter more
    where
      past_so : (a b : ℕ) → a < b → nat_lt a b ≡ true
      past_so a b h = grind (arith, nat_tests, h)
