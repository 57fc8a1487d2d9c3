-- What is known after the source of a frame is learnt.
use Rattle.std.proofs.Common.{◌≡◌, ◌⊎◌, inl, inr, ℕ, ◌<◌, ◌^◌, Bool, true, false, not, cond, ◌&&◌, nat_lt, List, [], ◌∷◌, ◌++◌, length, is_some, Option, Some, None, Result, Ok, refl, sym, ap, subst, ◌∙◌, true≢false, arith}
use Rattle.std.specs.Prelude.{◌==◌, if◌then◌else◌}
use Rattle.std.specs.Cmp.{first_so, second_so}
use Rattle.std.specs.Ordering.{eq_by_cmp}
use Rattle.std.proofs.lemmas.Bool.Decides.{nat_tests}
use Rattle.vtep_base.specs.Reading.{Bytes}
use Rattle.vtep_base.specs.Addresses.{is_group}
use Rattle.vtep_base.specs.Maps as maps
use Rattle.vtep_schema.specs.declared.Table.{Table}
use Rattle.vtep_schema.specs.declared.Table.TheVariants.{PhysicalSwitch, PhysicalPort, LogicalSwitch, UcastMacsLocal, UcastMacsRemote, McastMacsRemote, PhysicalLocatorSet, PhysicalLocator, Acl, AclEntry}
use Rattle.vtep_rows.specs.declared.soundness.Rule.{Rule}
use Rattle.vtep_rows.specs.Row.{Contents}
use Rattle.vtep_rows.specs.Rows.{Rows, key_cmp, row_at, next_id, inserted, last_number}
use Rattle.vtep_rows.specs.Orders.{key_total}
use Rattle.mac_learning.specs.declared.Learn.TheVariants as learn
use Rattle.mac_learning.specs.declared.Learnt.{Learnt}
use Rattle.mac_learning.specs.Learning.{is_of, same_address, same_place, IsOnce, entry, found, learns_by, put}
use Rattle.mac_learning.proofs.KeptLemmas.{of_address}
use Rattle.forward_program.specs.Follows.{learnt_address}
use Rattle.forward_program.specs.Hop.{source}
use Rattle.forward_program.specs.Readings.{own_ip}
use Rattle.local_tables.specs.LocalRows.{is_individual, address_row}
use Rattle.local_tables.specs.Followed.{Committed, is_bound_there, own_locator, followed, commit}
use Rattle.local_tables.specs.Local.{IsChanged, IsLearning}
use Rattle.local_tables.proofs.Accepted.{learnt_follows, moved_kept}
use Rattle.local_tables.proofs.LearningLaws.{locator_there}
use Rattle.local_tables.proofs.Learns.{learning_kept, learnt_rows}
use Rattle.local_tables.proofs.MovedLocal.{moved_local}
use Rattle.local_tables.proofs.Same.{SameTable}
use Rattle.vtep_gateway.specs.Vtep.{Vtep}
use Rattle.vtep_gateway.specs.Commit.{kept, commit_of, changed}
use Rattle.vtep_gateway.specs.Good.{IsGood}
use Rattle.vtep_gateway.specs.Learning.{most_learnt, has_room, Seen, unseen, taught, seen_by, with_source}
use Rattle.vtep_gateway.specs.Monitors.{told_all}
use Rattle.vtep_gateway.proofs.ToldNothing.{nothing_told}
use Rattle.fabric_world.proofs.SameRows.{IsSame, all_same, no_changes}

-- ---- an entry that is put into the list

-- the entries of other addresses are found as before
pub found_beside : (s mac : ℕ) (new : Learnt) (l : List Learnt) → (mac == new.mac) ≡ false → found s mac (put new l) ≡ found s mac l
found_beside s mac new [] other = ap (λ b. cond b (Some new) None) (not_of (s == new.switch))
  where
    not_of : (b : Bool) → (b && (mac == new.mac)) ≡ false
    not_of true = other
    not_of false = refl
found_beside s mac new (e ∷ l) other = by (same_address new e) refl (found_beside s mac new l other)
  where
    not_of : (b : Bool) → (b && (mac == new.mac)) ≡ false
    not_of true = other
    not_of false = refl

    by : (b : Bool) → same_address new e ≡ b → found s mac (put new l) ≡ found s mac l → found s mac (cond b (new ∷ l) (e ∷ put new l)) ≡ found s mac (e ∷ l)
    by true is rest =
        let its : new.mac ≡ e.mac = (of_address new.switch new.mac e is).1 in
        ap (λ b. cond b (Some new) (found s mac l)) (not_of (s == new.switch))
        ∙ ap (λ b. cond b (Some e) (found s mac l)) (sym (not_so (s == e.switch) (ap (λ n. mac == n) (sym its) ∙ other)))
      where
        not_so : (b : Bool) → (mac == e.mac) ≡ false → (b && (mac == e.mac)) ≡ false
        not_so true h = h
        not_so false h = refl
    by false is rest = ap (cond (is_of s mac e) (Some e)) rest

-- one that is not known stands at the end
pub put_last : (new : Learnt) (l : List Learnt) → found new.switch new.mac l ≡ None → put new l ≡ l ++ new ∷ []
put_last new [] none = refl
put_last new (e ∷ l) none = by (same_address new e) none (put_last new l)
  where
    by : (b : Bool) → cond b (Some e) (found new.switch new.mac l) ≡ None → (found new.switch new.mac l ≡ None → put new l ≡ l ++ new ∷ []) → cond b (new ∷ l) (e ∷ put new l) ≡ e ∷ (l ++ new ∷ [])
    by true h rest = cc
    by false h rest = ap (λ es. e ∷ es) (rest h)

-- ---- a row of Ucast_Macs_Local that comes

module _ (r : Rows) (row : Contents) (t : Table) (apart : (i : ℕ) → eq_by_cmp key_cmp (t, i) (UcastMacsLocal, next_id r) ≡ false) where
  beside : (at : row.table ≡ UcastMacsLocal) → SameTable t (inserted r row) r
  beside at i =
      ap (λ (u : Table). row_at (record { made = r.made; counter = r.counter; rows = maps.insert r.rows (u, next_id r) row }) (t, i)) at
      ∙ maps.get-insert key_total r.rows (UcastMacsLocal, next_id r) row (t, i)
      ∙ ap (λ b. cond b (Some row) (row_at r (t, i))) (apart i)

one_address : (r : Rows) (row : Contents) → row.table ≡ UcastMacsLocal → IsSame (inserted r row) r
one_address r row at = record {
  gateways = beside r row PhysicalSwitch (λ i. refl) at;
  ports = beside r row PhysicalPort (λ i. refl) at;
  switches = beside r row LogicalSwitch (λ i. refl) at;
  remotes = beside r row UcastMacsRemote (λ i. refl) at;
  floods = beside r row McastMacsRemote (λ i. refl) at;
  sets = beside r row PhysicalLocatorSet (λ i. refl) at;
  locators = beside r row PhysicalLocator (λ i. refl) at;
  acls = beside r row Acl (λ i. refl) at;
  entries = beside r row AclEntry (λ i. refl) at;
}

-- ---- the source of a frame

-- what forwarding reads of the rows is as it was, each other address is where it was, and the monitors are told how the rows differ
pub record IsTaught (v : Vtep) (new : Learnt) (s : Seen) : Type 0 where
  pub same : IsSame s.vtep.rows v.rows
  pub once : IsOnce s.vtep.learned
  pub nothing : (is_group new.mac ≡ true) ⊎ (s.full ≡ true) → s.vtep.learned ≡ v.learned
  pub learnt : is_group new.mac ≡ false → s.full ≡ false → s.vtep.learned ≡ put new v.learned
  pub told : s.sends ≡ told_all v.rows s.vtep.rows v.monitors

module _ (v : Vtep) (good : IsGood v.rows v.learned) where
  abbrev r : Rows
  r = v.rows

  abbrev l : List Learnt
  l = v.learned

  abbrev own : ℕ
  own = own_ip r

  is_changed : IsChanged own r r l
  is_changed = record {
    before = good.settled.rows;
    sound = good.settled.sound;
    referenced = good.settled.referenced;
    local = good.local;
    after = good.settled.rows;
    addresses = λ i. refl;
    floods = λ i. refl;
  }

  as_it_was : (new : Learnt) (full : Bool) → (is_group new.mac ≡ true) ⊎ (full ≡ true) → IsTaught v new (unseen v full)
  as_it_was new full why = record {
    same = all_same r;
    once = good.local.once;
    nothing = λ h. refl;
    learnt = λ alone room. absurd (elim why [ inl group ↦ true≢false (sym group ∙ alone) | inr is ↦ true≢false (sym is ∙ room) ]);
    told = nothing_told r r (no_changes r) v.monitors [];
  }

  module _ (new : Learnt) (single : is_individual new.mac ≡ true) (bound : is_bound_there r new ≡ true) where
    of_commit : (c : Committed) → commit_of v r (put new l) ≡ Ok c → c.learned ≡ put new l → IsSame c.rows r → IsOnce c.learned → IsTaught v new (taught (changed v r (put new l)))
    of_commit c is list same once = subst (λ (x : Result Committed Rule). IsTaught v new (taught (kept v x))) (sym is) (record {
      same = same;
      once = once;
      nothing = λ h. absurd (elim h [ inl group ↦ true≢false (sym (second_so (nat_lt new.mac (2 ^ 48)) (not (is_group new.mac)) single) ∙ ap not group) | inr never ↦ true≢false (sym never) ]);
      learnt = λ alone room. list;
      told = refl;
    })

    -- ---- an address that is known

    moves : (old : Learnt) → found new.switch new.mac l ≡ Some old → IsTaught v new (taught (changed v r (put new l)))
    moves old known =
        of_commit (record { rows = r; learned = put new l }) (moved_kept own r l old new is_changed known bound) refl (all_same r) (moved_local own r l new old is_changed known bound).once

    -- ---- one that is not

    module _ (unknown : found new.switch new.mac l ≡ None) (room : has_room v ≡ true) where
      is_learning : IsLearning own r l new
      is_learning = record { unchanged = is_changed; unknown = unknown; individual = single; bound = bound }

      few : length l < 2048
      few = let h = first_so (nat_lt (length l) most_learnt) (nat_lt r.counter last_number) room in grind (arith, nat_tests, h)

      number : r.counter < last_number
      number = let h = second_so (nat_lt (length l) most_learnt) (nat_lt r.counter last_number) room in below r.counter last_number h
        where
          below : (m n : ℕ) → nat_lt m n ≡ true → m < n
          below m n h = grind (arith, nat_tests, h)

      abbrev after : Committed
      after = followed own r r (l ++ new ∷ [])

      after_kept : commit own r r (l ++ new ∷ []) ≡ Ok after
      after_kept = learning_kept own r l new is_learning number few

      same_after : IsSame after.rows r
      same_after = by (own_locator own r) refl (locator_there own r l new is_learning)
        where
          by : (o : Option ℕ) → own_locator own r ≡ o → is_some o ≡ true → IsSame after.rows r
          by (Some locator) there _ =
              subst (λ (x : Rows). IsSame x r) (sym (learnt_rows own r l new is_learning number locator there)) (one_address r (address_row (learnt_address new) locator) refl)
          by None none h = absurd (true≢false (sym h))

      learns : IsTaught v new (taught (changed v r (put new l)))
      learns =
          let f = learnt_follows own r l new after is_learning after_kept in
          let last = put_last new l unknown in
          of_commit after (ap (commit own r r) last ∙ after_kept) (f.0 ∙ sym last) same_after f.1.once

    seen : (o : Option Learnt) → found new.switch new.mac l ≡ o → (room : Bool) → has_room v ≡ room → IsTaught v new (seen_by v new (learns_by room new o))
    seen None unknown true room = learns unknown room
    seen None unknown false full = as_it_was new true (inr refl)
    seen (Some old) known room is =
        elim (same_place old new) as (λ b. IsTaught v new (seen_by v new (if b then learn.Same else learn.Moved))) [ true ↦ moves old known | false ↦ moves old known ]

  pub source_taught : (switch : ℕ) (port : Bytes) (vlan : ℕ) (inner : Bytes) → (is_group (source inner) ≡ false → is_individual (source inner) ≡ true)
      → is_bound_there r (entry switch (source inner) port vlan v.clock) ≡ true → IsTaught v (entry switch (source inner) port vlan v.clock) (with_source v switch port vlan inner)
  source_taught switch port vlan inner single bound = by (is_group (source inner)) refl
    where
      new : Learnt
      new = entry switch (source inner) port vlan v.clock

      by : (b : Bool) → is_group (source inner) ≡ b
          → IsTaught v (entry switch (source inner) port vlan v.clock) (if b then unseen v false else seen_by v (entry switch (source inner) port vlan v.clock) (learns_by (has_room v) (entry switch (source inner) port vlan v.clock) (found switch (source inner) v.learned)))
      by true group = as_it_was (entry switch (source inner) port vlan v.clock) false (inl group)
      by false alone = seen (entry switch (source inner) port vlan v.clock) (single alone) bound (found switch (source inner) v.learned) refl (has_room v) refl

-- each other address is found as before
pub found_as_before : (v : Vtep) (new : Learnt) (s : Seen) → IsTaught v new s → (switch a : ℕ) → (a == new.mac) ≡ false → found switch a s.vtep.learned ≡ found switch a v.learned
found_as_before v new s taught switch a other = by (is_group new.mac) refl s.full refl
  where
    by : (g : Bool) → is_group new.mac ≡ g → (f : Bool) → s.full ≡ f → found switch a s.vtep.learned ≡ found switch a v.learned
    by true group f is = ap (found switch a) (taught.nothing (inl group))
    by false alone true full = ap (found switch a) (taught.nothing (inr full))
    by false alone false room = ap (found switch a) (taught.learnt alone room) ∙ found_beside switch a new v.learned other
