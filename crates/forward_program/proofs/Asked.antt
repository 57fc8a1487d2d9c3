-- The learnt list is asked for the addresses that a change may concern.
use Rattle.std.proofs.Common.{◌≡◌, ◌⊎◌, ◌+◌, ◌<◌, inl, inr, ℕ, true, false, cond, List, [], ◌∷◌, ◌++◌, length, get_or, drop, map, Result, OnOk, Option, Some, None, refl, sym, ap, ◌∙◌, subst}
use Rattle.std.proofs.lemmas.List.{drop_more}
use Rattle.std.specs.List.{flat_map}
use Rattle.std.specs.Option.{option_map, option_to_list}
use Rattle.vtep_base.specs.Maps as maps
use Rattle.vtep_schema.specs.declared.Table.{Table}
use Rattle.vtep_schema.specs.declared.Table.TheVariants.{UcastMacsRemote}
use Rattle.vtep_schema.specs.Tables.{same_table}
use Rattle.vtep_rows.specs.declared.differences.RowChange.{RowChange}
use Rattle.vtep_rows.specs.Row.{Contents}
use Rattle.vtep_rows.proofs.Kept.{same_table_itself}
use Rattle.mac_learning.specs.declared.Learnt.{Learnt}
use Rattle.mac_learning.specs.Learning.{IsOnce}
use Rattle.forward_program.specs.declared.spots.Spot.{Spot}
use Rattle.forward_program.specs.declared.spots.Spot.TheVariants as spot
use Rattle.forward_program.specs.declared.spots.Part.TheVariants as part
use Rattle.forward_program.specs.declared.held.Held.{Held}
use Rattle.forward_program.specs.declared.held.Held.TheVariants as held
use Rattle.forward_program.specs.declared.readings.Remote.{Remote}
use Rattle.forward_program.specs.Readings.{remote_of}
use Rattle.forward_program.specs.Built.{IsIn}
use Rattle.forward_program.specs.Spots.{Entries, spot_total}
use Rattle.forward_program.specs.Joins.{Port}
use Rattle.forward_program.specs.Hosts.{host, there_in, learnt_port, with_place, with_learnt}
use Rattle.forward_program.specs.Shown.{Entry, remote_entries, row_entries}
use Rattle.forward_program.specs.Follows.{Address, remote_address, remote_addresses, place_now, asked, entries_if, entries_before, entries_after, places}
use Rattle.forward_program.proofs.InLists.{in_front, in_back, in_flat, flat_in, in_map, map_in}
use Rattle.forward_program.proofs.MapLists.{in_or_not}
use Rattle.forward_program.proofs.SpotOrder.{spot_exact}
use Rattle.forward_program.proofs.Homes.{home, at_home}
use Rattle.forward_program.proofs.HostLaws.{unset, put_right, spots, places_out, places_in, is_host, host_same, all_hosts, merged, with_plain, with_host}

-- ---- address by address

pub asked_append : (l : List Learnt) (xs ys : List Address) (m : Entries) → asked l (xs ++ ys) m ≡ asked l ys (asked l xs m)
asked_append l [] ys m = refl
asked_append l (x ∷ xs) ys m = asked_append l xs ys (with_place m (place_now l x).0 (place_now l x).1)

pub both_asked : {T E : Type 0} (r : Result T E) (l : List Learnt) (xs ys : List Address) (m n p : Entries) → n ≡ asked l xs m → OnOk r (p ≡ asked l ys n) → OnOk r (p ≡ asked l (xs ++ ys) m)
both_asked r l xs ys m n p first second = subst (λ (q : Entries). OnOk r (p ≡ q)) (ap (asked l ys) first ∙ sym (asked_append l xs ys m)) second

-- one more item of a list whose items each have addresses
pub one_asked : {A : Type 0} (l : List Learnt) (f : A → List Address) (m n : Entries) (items : List A) (i : ℕ) (d : A) → i < length items → n ≡ asked l (f (get_or items i d)) m
    → asked l (flat_map f (drop (i + 1) items)) n ≡ asked l (flat_map f (drop i items)) m
one_asked l f m n items i d lt e =
    ap (asked l (flat_map f (drop (i + 1) items))) e ∙ sym (asked_append l (f (get_or items i d)) (flat_map f (drop (i + 1) items)) m)
    ∙ sym (ap (λ ys. asked l (flat_map f ys) m) (drop_more items i d lt))

-- ---- the addresses of the rows that differ

host_asked : (row : Contents) (o : Option Remote) → remote_of row ≡ o → (y : Entry) → IsIn y (remote_entries o) → (s a : ℕ) → host s a ≡ y.0 → IsIn (s, a) (remote_address (Some row))
host_asked row None known y h s a is = absurd h
host_asked row (Some x) known y (inr h) s a is = absurd h
host_asked row (Some x) known y (inl e) s a is =
    let same = host_same s a x.switch x.mac (is ∙ ap (λ (z : Entry). z.0) e) in
    subst (λ (o : Option Remote). IsIn {A = Address} (s, a) (option_to_list (option_map (λ (z : Remote). (z.switch, z.mac)) o))) (sym known) (inl (λ i. (same.0 i, same.1 i)))

row_asked : (own : ℕ) (t : Table) (id : ℕ) (o : Option Contents) (y : Entry) → IsIn y (entries_if own t id o) → (s a : ℕ) → host s a ≡ y.0 → (same_table t UcastMacsRemote ≡ true) × IsIn (s, a) (remote_address o)
row_asked own t id None y h s a is = absurd h
row_asked own t id (Some row) y h s a is =
    let there = at_home own t (id, row) y h in
    let table : t ≡ UcastMacsRemote = there.0 ∙ ap home (sym is) in
    (ap (λ u. same_table u UcastMacsRemote) table ∙ same_table_itself UcastMacsRemote, host_asked row (remote_of row) refl y (subst (λ u. IsIn y (row_entries own u (id, row))) table h) s a is)

module _ (own : ℕ) (change : List RowChange) (s a : ℕ) where
  of_change : (c : RowChange) → same_table c.table UcastMacsRemote ≡ true → IsIn (s, a) (remote_address c.old ++ remote_address c.new) → IsIn c change → IsIn (s, a) (flat_map remote_addresses change)
  of_change c table h is =
      flat_in remote_addresses (s, a) c change is (subst (λ b. IsIn (s, a) (cond b (remote_address c.old ++ remote_address c.new) [])) (sym table) h)

  before_asked : IsIn (host s a) (places (entries_before own change)) → IsIn (s, a) (flat_map remote_addresses change)
  before_asked h =
      let y = in_map (λ (e : Entry). e.0) (host s a) (entries_before own change) h in
      let c = in_flat (λ (z : RowChange). entries_if own z.table z.id z.old) y.0 change y.1 in
      let x = row_asked own c.0.table c.0.id c.0.old y.0 c.2 s a y.2 in
      of_change c.0 x.0 (in_front (s, a) (remote_address c.0.old) (remote_address c.0.new) x.1) c.1

  after_asked : IsIn (host s a) (places (entries_after own change)) → IsIn (s, a) (flat_map remote_addresses change)
  after_asked h =
      let y = in_map (λ (e : Entry). e.0) (host s a) (entries_after own change) h in
      let c = in_flat (λ (z : RowChange). entries_if own z.table z.id z.new) y.0 change y.1 in
      let x = row_asked own c.0.table c.0.id c.0.new y.0 c.2 s a y.2 in
      of_change c.0 x.0 (in_back (s, a) (remote_address c.0.old) (remote_address c.0.new) x.1) c.1

  pub touched_asked : IsIn (host s a) (places (entries_before own change)) ⊎ IsIn (host s a) (places (entries_after own change)) → IsIn (s, a) (flat_map remote_addresses change)
  touched_asked (inl h) = before_asked h
  touched_asked (inr h) = after_asked h

-- ---- what is asked for is right

-- what the rows say at the place of an address
abbrev pub IsRemote : Option Held → Type 0
IsRemote x = (x ≡ None) ⊎ ((locator : ℕ) × (x ≡ Some (held.Host None (Some locator))))

unlearnt : (x : Option Held) → IsRemote x → unset x ≡ x
unlearnt x (inl e) = ap unset e ∙ sym e
unlearnt x (inr (locator, e)) = ap unset e ∙ sym e

no_place : (p : Port) (x : Option Held) → IsRemote x → unset (Some (held.Host (Some p) (there_in x))) ≡ x
no_place p x (inl e) = ap (λ y. unset (Some (held.Host (Some p) (there_in y)))) e ∙ sym e
no_place p x (inr (locator, e)) = ap (λ y. unset (Some (held.Host (Some p) (there_in y)))) e ∙ sym e

right : (old new : Option Port) (x : Option Held) → IsRemote x → put_right new (merged old x) ≡ merged new x
right None (Some q) x bare = refl
right (Some p) (Some q) x bare = refl
right None None x bare = unlearnt x bare
right (Some p) None x bare = no_place p x bare

module _ (l : List Learnt) (addresses : List Address) where
  listed : (s a : ℕ) → IsIn (s, a) addresses → IsIn (host s a) (spots (map (place_now l) addresses))
  listed s a h = map_in (λ (x : Spot × Option Port). x.0) (place_now l (s, a)) (map (place_now l) addresses) (map_in (place_now l) (s, a) addresses h)

  at_listed : (s a : ℕ) (x : Spot × Option Port) → IsIn x (map (place_now l) addresses) → x.0 ≡ host s a → x.1 ≡ learnt_port l s a
  at_listed s a x is at =
      let b = in_map (place_now l) x addresses is in
      let same = host_same b.0.0 b.0.1 s a (ap (λ (y : Spot × Option Port). y.0) (sym b.2) ∙ at) in
      ap (λ (y : Spot × Option Port). y.1) b.2 ∙ (λ i. learnt_port l (same.0 i) (same.1 i))

  pub asked_plain : (m : Entries) (k : Spot) → is_host k ≡ false → maps.get (asked l addresses m) k ≡ maps.get m k
  asked_plain m k out = places_out (map (place_now l) addresses) m k (λ h. let clash : false ≡ true = sym out ∙ all_hosts (place_now l) (λ x. refl) addresses k h in cc)

  pub asked_host : (m : Entries) (s a : ℕ) → IsIn (host s a) (spots (map (place_now l) addresses)) → maps.get (asked l addresses m) (host s a) ≡ put_right (learnt_port l s a) (maps.get m (host s a))
  asked_host m s a h = places_in (map (place_now l) addresses) m (host s a) (learnt_port l s a) (at_listed s a) h

-- the places after the rows are followed, and the addresses that are asked for
module _ (before now : List Learnt) (once_before : IsOnce before) (once_now : IsOnce now) (addresses : List Address) (old_rows new_rows m p q : Entries) (Touched : Spot → Type 0)
    (was : m ≡ with_learnt before old_rows) (is : q ≡ asked now addresses p)
    (followed : (k : Spot) → (Touched k × (maps.get p k ≡ maps.get new_rows k)) ⊎ ((maps.get p k ≡ maps.get m k) × (maps.get old_rows k ≡ maps.get new_rows k)))
    (remote : (s a : ℕ) → IsRemote (maps.get new_rows (host s a)))
    (touched : (s a : ℕ) → Touched (host s a) → IsIn (s, a) addresses)
    (moved : (s a : ℕ) → IsIn (s, a) addresses ⊎ (learnt_port before s a ≡ learnt_port now s a)) where
  plain_right : (k : Spot) → is_host k ≡ false → maps.get q k ≡ maps.get (with_learnt now new_rows) k
  plain_right k out = ap (λ (n : Entries). maps.get n k) is ∙ asked_plain now addresses p k out ∙ by (followed k) ∙ sym (with_plain now once_now new_rows k out)
    where
      by : (Touched k × (maps.get p k ≡ maps.get new_rows k)) ⊎ ((maps.get p k ≡ maps.get m k) × (maps.get old_rows k ≡ maps.get new_rows k)) → maps.get p k ≡ maps.get new_rows k
      by (inl (t, e)) = e
      by (inr (e, same)) = e ∙ ap (λ (n : Entries). maps.get n k) was ∙ with_plain before once_before old_rows k out ∙ same

  module _ (s a : ℕ) where
    -- what was learnt, beside what the rows say now
    kept : maps.get p (host s a) ≡ maps.get m (host s a) → maps.get old_rows (host s a) ≡ maps.get new_rows (host s a) → maps.get p (host s a) ≡ merged (learnt_port before s a) (maps.get new_rows (host s a))
    kept e same = e ∙ ap (λ (n : Entries). maps.get n (host s a)) was ∙ with_host before once_before old_rows s a ∙ ap (merged (learnt_port before s a)) same

    asked_right : IsIn (host s a) (spots (map (place_now now) addresses)) → maps.get q (host s a) ≡ merged (learnt_port now s a) (maps.get new_rows (host s a))
    asked_right h = ap (λ (n : Entries). maps.get n (host s a)) is ∙ asked_host now addresses p s a h ∙ by (followed (host s a))
      where
        by : (Touched (host s a) × (maps.get p (host s a) ≡ maps.get new_rows (host s a))) ⊎ ((maps.get p (host s a) ≡ maps.get m (host s a)) × (maps.get old_rows (host s a) ≡ maps.get new_rows (host s a)))
            → put_right (learnt_port now s a) (maps.get p (host s a)) ≡ merged (learnt_port now s a) (maps.get new_rows (host s a))
        by (inl (t, e)) = ap (put_right (learnt_port now s a)) e ∙ right None (learnt_port now s a) (maps.get new_rows (host s a)) (remote s a)
        by (inr (e, same)) = ap (put_right (learnt_port now s a)) (kept e same) ∙ right (learnt_port before s a) (learnt_port now s a) (maps.get new_rows (host s a)) (remote s a)

    left_right : (IsIn (host s a) (spots (map (place_now now) addresses)) → ⊥) → maps.get q (host s a) ≡ merged (learnt_port now s a) (maps.get new_rows (host s a))
    left_right never = ap (λ (n : Entries). maps.get n (host s a)) is ∙ places_out (map (place_now now) addresses) p (host s a) never ∙ by (followed (host s a)) (moved s a)
      where
        by : (Touched (host s a) × (maps.get p (host s a) ≡ maps.get new_rows (host s a))) ⊎ ((maps.get p (host s a) ≡ maps.get m (host s a)) × (maps.get old_rows (host s a) ≡ maps.get new_rows (host s a)))
            → IsIn (s, a) addresses ⊎ (learnt_port before s a ≡ learnt_port now s a) → maps.get p (host s a) ≡ merged (learnt_port now s a) (maps.get new_rows (host s a))
        by f (inl h) = absurd (never (listed now addresses s a h))
        by (inl (t, e)) (inr same_port) = absurd (never (listed now addresses s a (touched s a t)))
        by (inr (e, same)) (inr same_port) = kept e same ∙ ap (λ o. merged o (maps.get new_rows (host s a))) same_port

    host_right : maps.get q (host s a) ≡ maps.get (with_learnt now new_rows) (host s a)
    host_right = by (in_or_not spot_total spot_exact (host s a) (spots (map (place_now now) addresses))) ∙ sym (with_host now once_now new_rows s a)
      where
        by : IsIn (host s a) (spots (map (place_now now) addresses)) ⊎ (IsIn (host s a) (spots (map (place_now now) addresses)) → ⊥) → maps.get q (host s a) ≡ merged (learnt_port now s a) (maps.get new_rows (host s a))
        by (inl h) = asked_right h
        by (inr never) = left_right never

  at_spot : (k : Spot) → maps.get q k ≡ maps.get (with_learnt now new_rows) k
  at_spot (spot.Switch s (part.Host a)) = host_right s a
  at_spot (spot.Switch s part.Itself) = plain_right (spot.Switch s part.Itself) refl
  at_spot (spot.Switch s (part.Member x v)) = plain_right (spot.Switch s (part.Member x v)) refl
  at_spot (spot.Switch s (part.Group g)) = plain_right (spot.Switch s (part.Group g)) refl
  at_spot (spot.Port x v) = plain_right (spot.Port x v) refl
  at_spot (spot.Vni n) = plain_right (spot.Vni n) refl
  at_spot (spot.Set i) = plain_right (spot.Set i) refl
  at_spot (spot.Locator i) = plain_right (spot.Locator i) refl
  at_spot (spot.Acl i) = plain_right (spot.Acl i) refl

  pub all_right : q ≡ with_learnt now new_rows
  all_right = maps.same_map spot_total spot_exact q (with_learnt now new_rows) at_spot
