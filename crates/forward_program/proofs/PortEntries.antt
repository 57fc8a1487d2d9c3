-- The entries of a port, pair by pair of its vlan_bindings.
use Rattle.std.proofs.Common.{◌≡◌, Result, OnOk, ℕ, pos, negsuc, Bool, true, false, cond, ◌&&◌, List, [], ◌∷◌, ◌++◌, map, Option, Some, None, refl, sym, ap, ◌∙◌, arith}
use Rattle.std.proofs.lemmas.Bool.Decides.{nat_tests}
use Rattle.std.specs.Prelude.{◌==◌, int_lt}
use Rattle.std.specs.List.{list_all, filter_map, flat_map, cons_option, AllByRecursion}
use Rattle.std.specs.Option.{unwrap_or}
use Rattle.std.specs.List.Sorted.{IsStrictlySortedBy}
use Rattle.std.specs.Map.{keys_of}
use Rattle.std.specs.Cmp.{first_so, second_so, nat_cmp_total}
use Rattle.std.specs.Ordering.{nat_cmp, ordering_then}
use Rattle.std.specs.declared.cmp.Ordering.TheVariants.{Less, Equal, Greater}
use Rattle.vtep_base.specs.Reading.{Bytes}
use Rattle.vtep_base.specs.declared.answers.Mode.{Mode}
use Rattle.vtep_base.specs.declared.answers.OutOfMemory.{OutOfMemory}
use Rattle.vtep_base.specs.Maps as maps
use Rattle.vtep_base.proofs.Held.{list-of_list}
use Rattle.ovsdb_values.specs.Atoms.{atom_cmp}
use Rattle.ovsdb_values.specs.declared.atoms.Atom.{Atom}
use Rattle.ovsdb_values.specs.declared.atoms.Atom.TheVariants.{Integer, Text, Id, Named}
use Rattle.ovsdb_values.specs.declared.datums.Datum.{Datum}
use Rattle.ovsdb_values.specs.declared.datums.Datum.TheVariants as datum
use Rattle.vtep_schema.specs.declared.Table.TheVariants.{LogicalSwitch}
use Rattle.vtep_schema.specs.declared.rules.Domain.TheVariants as domain
use Rattle.vtep_schema.specs.declared.Column.TheVariants.{PortVlanBindings, LogicalTunnelKey}
use Rattle.vtep_rows.specs.Row.{Contents, allowed, atom_allowed, is_row, pairs_at, map_in, number_at, put_all}
use Rattle.vtep_rows.proofs.Entries.{all_so}
use Rattle.vtep_rows.proofs.RowLaws.{value_allowed}
use Rattle.forward_program.specs.Readings.{number_and_id, is_vlan, is_vlan_key, port_name, vlan_bindings, lists_at, mode_of}
use Rattle.forward_program.specs.Built.{binding, bindings_with, bindings_of}
use Rattle.forward_program.proofs.Puts.{ok_so}
use Rattle.forward_program.specs.declared.held.Lists.{Lists}
use Rattle.forward_program.specs.declared.spots.Spot.TheVariants as spot
use Rattle.forward_program.specs.declared.spots.Part.TheVariants as part
use Rattle.forward_program.specs.declared.held.Held.TheVariants as held
use Rattle.forward_program.specs.Spots.{Entries}
use Rattle.forward_program.specs.Shown.{binding_entries, pair_entries, vni_entries, switch_entries}

-- ---- numbers in a column of VLANs

small_key : (a : Atom) → atom_allowed (domain.Whole 0 4095) a ≡ true → is_vlan_key a ≡ true
small_key (Integer (pos n)) h = grind (arith, nat_tests, h)
small_key (Integer (negsuc n)) h = refl
small_key (Text t) h = refl
small_key (Id u) h = refl
small_key (Named t) h = refl

all_small : (ps : List (Atom × Atom)) → allowed PortVlanBindings (datum.Map ps) ≡ true → list_all is_vlan ps ≡ true
all_small ps h =
    all_so (λ p. atom_allowed (domain.Whole 0 4095) p.0 && atom_allowed (domain.Row LogicalSwitch) p.1) is_vlan
    (λ p pass. small_key p.0 (first_so (atom_allowed (domain.Whole 0 4095) p.0) (atom_allowed (domain.Row LogicalSwitch) p.1) pass)) ps
    (second_so _ _ h)

pub vlans : (row : Contents) (ps : List (Atom × Atom)) → is_row row ≡ true → ps ≡ pairs_at row PortVlanBindings → list_all is_vlan ps ≡ true
vlans row ps is same = ap (list_all is_vlan) same ∙ by (maps.get row.values PortVlanBindings) refl
  where
    by : (o : Option Datum) → maps.get row.values PortVlanBindings ≡ o → list_all is_vlan (map_in (unwrap_or o (datum.Set []))) ≡ true
    by None e = refl
    by (Some (datum.Set xs)) e = refl
    by (Some (datum.Map qs)) e = all_small qs (value_allowed row PortVlanBindings (datum.Map qs) is e)

-- ---- pairs in the order of their keys

less : (b c : Bool) → ordering_then (ordering_then (cond b Less (cond c Greater Equal)) Equal) Equal ≡ Less → b ≡ true
less true c e = refl
less false true e = cc
less false false e = cc

all_below : (n : ℕ) (ps : List (Atom × Atom)) → AllByRecursion (λ a. atom_cmp (Integer (pos n)) a ≡ Less) (keys_of ps) → AllByRecursion (λ m. nat_cmp n m ≡ Less) (keys_of (filter_map number_and_id ps))
all_below n [] h = tt
all_below n ((Integer (pos m), Id u) ∷ ps) h =
    (ap (λ b. cond b Less (cond (n == m) Equal Greater)) (less (int_lt (pos n) (pos m)) (int_lt (pos m) (pos n)) h.0), all_below n ps h.1)
all_below n (p ∷ ps) h = all_below n ps h.1

numbers_sorted : (ps : List (Atom × Atom)) → IsStrictlySortedBy atom_cmp (keys_of ps) → IsStrictlySortedBy nat_cmp (keys_of (filter_map number_and_id ps))
unfolding IsStrictlySortedBy
numbers_sorted [] h = tt
numbers_sorted ((Integer (pos m), Id u) ∷ ps) h = (all_below m ps h.0, numbers_sorted ps h.1)
numbers_sorted (p ∷ ps) h = numbers_sorted ps h.1

-- ---- the entries

pair_is : (port : Bytes) (row : Contents) (o : Option (ℕ × ℕ)) (bs : List (ℕ × ℕ)) → pair_entries port row o ++ flat_map binding_entries (map (binding port row) bs) ≡ flat_map binding_entries (map (binding port row) (cons_option o bs))
pair_is port row None bs = refl
pair_is port row (Some b) bs = refl

pairs_are : (port : Bytes) (row : Contents) (ps : List (Atom × Atom)) → flat_map (λ p. pair_entries port row (number_and_id p)) ps ≡ flat_map binding_entries (map (binding port row) (filter_map number_and_id ps))
pairs_are port row [] = refl
pairs_are port row (p ∷ ps) =
    ap (λ es. pair_entries port row (number_and_id p) ++ es) (pairs_are port row ps) ∙ pair_is port row (number_and_id p) (filter_map number_and_id ps)

pub port_is : (row : Contents) (port : Bytes) (qs : List (Atom × Atom)) → Some port ≡ port_name row → qs ≡ pairs_at row PortVlanBindings → IsStrictlySortedBy atom_cmp (keys_of qs)
    → flat_map (λ p. pair_entries port row (number_and_id p)) qs ≡ flat_map binding_entries (bindings_of row)
port_is row port qs named all sorted =
    let kept : vlan_bindings row ≡ filter_map number_and_id qs =
    ap (λ xs. (maps.map_by nat_cmp (filter_map number_and_id xs)).list) (sym all) ∙ list-of_list nat_cmp_total (filter_map number_and_id qs) (numbers_sorted qs sorted) in
    pairs_are port row qs ∙ ap (λ bs. flat_map binding_entries (map (binding port row) bs)) (sym kept) ∙ ap (λ o. flat_map binding_entries (bindings_with row o)) named

pub pair_put : (r : Result (Unit {0}) OutOfMemory) (m n : Entries) (port : Bytes) (row : Contents) (bound : ℕ × ℕ) (lists : Lists) (o : Option (ℕ × ℕ))
    → lists ≡ lists_at row bound.0 → Some bound ≡ o
    → OnOk r (n ≡ put_all m (binding_entries (record { port = port; vlan = bound.0; switch = bound.1; lists = lists }))) → OnOk r (n ≡ put_all m (pair_entries port row o))
pair_put r m n port row bound lists o same given ok =
    ok_so r (λ e. e ∙ ap (λ ls. put_all m (binding_entries (record { port = port; vlan = bound.0; switch = bound.1; lists = ls }))) same ∙ ap (λ p. put_all m (pair_entries port row p)) given) ok

-- ---- the entries of a switch

pub switch_put : (r : Result (Unit {0}) OutOfMemory) (m n k : Entries) (id : ℕ) (row : Contents) (vni again : Option ℕ) (mode : Mode) → vni ≡ number_at row LogicalTunnelKey → again ≡ number_at row LogicalTunnelKey → mode ≡ mode_of row
    → n ≡ maps.insert m (spot.Switch id part.Itself) (held.Switch vni mode) → OnOk r (k ≡ put_all n (vni_entries id again)) → OnOk r (k ≡ put_all m (switch_entries (id, row)))
switch_put r m n k id row vni again mode is is_again is_mode e ok = ok_so r (λ f.
    f ∙ (λ i. put_all (e i) (vni_entries id (is_again i)))
    ∙ (λ i. put_all (maps.insert m (spot.Switch id part.Itself) (held.Switch (is i) (is_mode i))) (vni_entries id (number_at row LogicalTunnelKey)))) ok
