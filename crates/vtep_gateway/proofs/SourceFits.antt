-- The source of a frame that is bound may be learnt.
use Rattle.std.proofs.Common.{◌≡◌, ℕ, pos, ◌+◌, ◌*◌, ◌%◌, ◌^◌, ◌<◌, ◌≤◌, zero, suc, Bool, true, false, not, cond, ◌&&◌, nat_lt, List, [], ◌∷◌, ◌++◌, fold, length, take, drop, is_some, Option, Some, None, Ok, refl, sym, ap, ◌∙◌, subst, true≢false, arith}
use Rattle.std.proofs.lemmas.Bool.Decides.{nat_tests}
use Rattle.std.proofs.lemmas.List.{length-take}
use Rattle.std.proofs.lemmas.List.Folds.{list_all-append}
use Rattle.std.proofs.lemmas.Map.Entries.{lookup_head, lookup_tail}
use Rattle.std.specs.List.{filter_map, cons_option, list_all}
use Rattle.std.specs.Option.{option_and_then, unwrap_or}
use Rattle.std.specs.Ordering.{nat_cmp}
use Rattle.std.specs.FinMap.{find}
use Rattle.std.specs.Cmp.{first_so, second_so, nat_cmp_total}
use Rattle.vtep_base.specs.Reading.{Bytes}
use Rattle.vtep_base.specs.Addresses.{be, is_group}
use Rattle.vtep_base.specs.Maps as maps
use Rattle.ovsdb_values.specs.declared.atoms.Atom.{Atom}
use Rattle.ovsdb_values.specs.declared.atoms.Atom.TheVariants.{Integer, Text, Id, Named}
use Rattle.ovsdb_values.specs.declared.datums.Datum.{Datum}
use Rattle.ovsdb_values.specs.declared.datums.Datum.TheVariants as datum
use Rattle.ovsdb_values.specs.Atoms.{same_atom}
use Rattle.ovsdb_values.specs.Exact.{same_atom_exact}
use Rattle.ovsdb_values.specs.Sets.{value_in}
use Rattle.vtep_schema.specs.declared.Table.TheVariants.{PhysicalPort, LogicalSwitch}
use Rattle.vtep_schema.specs.declared.Column.TheVariants.{PortName, PortVlanBindings}
use Rattle.vtep_schema.specs.declared.rules.Domain.TheVariants as domain
use Rattle.vtep_schema.specs.Tables.{column_rule}
use Rattle.vtep_rows.specs.Row.{Contents, is_row, allowed, atom_allowed, size_allowed, atoms_at, pairs_at, map_in, id_in}
use Rattle.vtep_rows.specs.Rows.{Rows, row_at}
use Rattle.vtep_rows.specs.Keyed.{holds_only}
use Rattle.vtep_rows.proofs.Entries.{both}
use Rattle.vtep_rows.proofs.Kept.{its_contents}
use Rattle.vtep_rows.proofs.RowLaws.{value_allowed}
use Rattle.mac_learning.specs.Learning.{entry}
use Rattle.ether_frames.specs.declared.FrameKind.TheVariants.{Short, SecondTag, Long}
use Rattle.ether_frames.specs.Frames.{begins_tag, two_bytes, fault, untagged_frame, tagged_frame, frame_of}
use Rattle.forward_program.specs.Readings.{number_and_id, vlan_bindings, id_at_key}
use Rattle.forward_program.specs.Built.{IsIn, Binding, bindings}
use Rattle.forward_program.specs.Same.{same_number}
use Rattle.forward_program.specs.Hop.{source}
use Rattle.forward_program.proofs.Columns.{text_alone}
use Rattle.forward_program.proofs.MapLists.{in_get}
use Rattle.forward_program.proofs.PortAt.{pair_is, tie, no_tie}
use Rattle.forward_program.proofs.Unique.{BindingOf, binding_of, port_text}
use Rattle.forward_program.proofs.HopLaws.{bound_agrees, number_itself}
use Rattle.forward_program.proofs.WayLaws.{port_binding}
use Rattle.local_tables.specs.LocalRows.{row_with, is_individual}
use Rattle.local_tables.specs.Followed.{switch_at, is_bound_there}
use Rattle.local_tables.proofs.Keyed.{HasKey, first_has, has_first, sound_keyed}
use Rattle.vtep_gateway.specs.Vtep.{Vtep}
use Rattle.vtep_gateway.specs.Frames.{ways}
use Rattle.vtep_gateway.specs.Learning.{learns_in, unseen, seen_by, with_source}
use Rattle.vtep_gateway.specs.Good.{IsGood}

-- ---- the bindings of a port's row

abbrev is_pair : Atom × Atom → Bool
is_pair p = atom_allowed (column_rule PortVlanBindings).key p.0 && atom_allowed (domain.Row LogicalSwitch) p.1

named_switch : (x : Atom) → atom_allowed (domain.Row LogicalSwitch) x ≡ true → (u : ℕ) × (x ≡ Id u)
named_switch (Id u) h = (u, refl)
named_switch (Integer z) h = absurd (true≢false (sym h))
named_switch (Text t) h = absurd (true≢false (sym h))
named_switch (Named t) h = absurd (true≢false (sym h))

-- what is found at a number is the value of its key
value_found : (n u : ℕ) (ps : List (Atom × Atom)) → list_all is_pair ps ≡ true → find nat_cmp n (filter_map number_and_id ps) ≡ Some u → option_and_then id_in (value_in ps (Integer (pos n))) ≡ Some u
value_found n u [] fits h = cc
value_found n u (p ∷ ps) fits h = by (same_atom (Integer (pos n)) p.0) refl (value_found n u ps (second_so (is_pair p) (list_all is_pair ps) fits))
  where
    rest : List (ℕ × ℕ)
    rest = filter_map number_and_id ps

    later : (o : Option (ℕ × ℕ)) → number_and_id p ≡ o → same_atom (Integer (pos n)) p.0 ≡ false → find nat_cmp n (cons_option o rest) ≡ Some u → find nat_cmp n rest ≡ Some u
    later None e apart g = g
    later (Some x) e apart g = sym (ap (λ b. cond b (Some x.1) (find nat_cmp n rest)) (no_tie n x.0 p apart (pair_is p x.0 x.1 e))) ∙ g

    by : (b : Bool) → same_atom (Integer (pos n)) p.0 ≡ b → (find nat_cmp n rest ≡ Some u → option_and_then id_in (value_in ps (Integer (pos n))) ≡ Some u) → option_and_then id_in (value_in (p ∷ ps) (Integer (pos n))) ≡ Some u
    by true e more =
        let key : p.0 ≡ Integer (pos n) = sym ((same_atom_exact (Integer (pos n)) p.0).0 e) in
        let v = named_switch p.1 (second_so (atom_allowed (column_rule PortVlanBindings).key p.0) (atom_allowed (domain.Row LogicalSwitch) p.1) (first_so (is_pair p) (list_all is_pair ps) fits)) in
        let here : Some v.0 ≡ Some u =
        sym ((λ i. find nat_cmp n (cons_option (number_and_id (key i, v.1 i)) rest)) ∙ ap (λ b. cond b (Some v.0) (find nat_cmp n rest)) (tie n)) ∙ h in
        ap (option_and_then id_in) (lookup_head (same_atom (Integer (pos n))) p ps e) ∙ ap id_in v.1 ∙ here
    by false e more = ap (option_and_then id_in) (lookup_tail (same_atom (Integer (pos n))) p ps e) ∙ more (later (number_and_id p) refl e h)

pairs_fit : (row : Contents) → is_row row ≡ true → list_all is_pair (pairs_at row PortVlanBindings) ≡ true
pairs_fit row is = by (maps.get row.values PortVlanBindings) refl
  where
    fit : (d : Datum) → allowed PortVlanBindings d ≡ true → list_all is_pair (map_in d) ≡ true
    fit (datum.Set xs) h = absurd (true≢false (sym h))
    fit (datum.Map ps) h = second_so (size_allowed (column_rule PortVlanBindings) (length ps)) (list_all is_pair ps) h

    by : (o : Option Datum) → maps.get row.values PortVlanBindings ≡ o → list_all is_pair (map_in (unwrap_or o (datum.Set []))) ≡ true
    by None e = refl
    by (Some d) e = fit d (value_allowed row PortVlanBindings d is e)

bound_value : (row : Contents) (vlan switch : ℕ) → is_row row ≡ true → IsIn (vlan, switch) (vlan_bindings row) → id_at_key row PortVlanBindings vlan ≡ Some switch
bound_value row vlan switch is h =
    let pairs = filter_map number_and_id (pairs_at row PortVlanBindings) in
    value_found vlan switch (pairs_at row PortVlanBindings) (pairs_fit row is) (sym (maps.get-of_list nat_cmp_total pairs vlan) ∙ in_get nat_cmp_total (maps.map_by nat_cmp pairs) vlan switch h)

-- ---- the port of a binding

module _ (v : Vtep) (good : IsGood v.rows v.learned) where
  abbrev r : Rows
  r = v.rows

  port_row : (b : Binding) (x : BindingOf r good.settled.rows good.settled.sound b) → row_with PhysicalPort (Text b.port ∷ []) r ≡ Some x.id
  port_row b x = by (row_with PhysicalPort (Text b.port ∷ []) r) refl
    where
      its_row : is_row x.row ≡ true
      its_row = its_contents r PhysicalPort x.id x.row good.settled.rows x.at

      alone : atoms_at x.row PortName ≡ Text b.port ∷ []
      alone = text_alone x.row PortName its_row refl b.port (port_text x.row b.port x.named)

      named : HasKey r PhysicalPort (Text b.port ∷ []) x.id
      named = record {
        row = x.row;
        there = x.at;
        held = ap (λ xs. holds_only xs (Text b.port) && true) alone ∙ ap (λ c. c && true) ((same_atom_exact (Text b.port) (Text b.port)).1 refl);
      }

      by : (o : Option ℕ) → row_with PhysicalPort (Text b.port ∷ []) r ≡ o → row_with PhysicalPort (Text b.port ∷ []) r ≡ Some x.id
      by None e = absurd (true≢false (sym (has_first r PhysicalPort (Text b.port ∷ []) x.id named) ∙ ap is_some e))
      by (Some j) e = e ∙ ap Some (sound_keyed r PhysicalPort good.settled.sound (Text b.port ∷ []) j x.id (first_has r PhysicalPort (Text b.port ∷ []) j e) named)

  switch_there : (b : Binding) → IsIn b (bindings r) → switch_at r b.port b.vlan ≡ Some b.switch
  switch_there b h =
      let x = binding_of r good.settled.rows good.settled.sound b h in
      ap (option_and_then (λ id. option_and_then (λ row. id_at_key row PortVlanBindings b.vlan) (row_at r (PhysicalPort, id)))) (port_row b x)
      ∙ ap (option_and_then (λ row. id_at_key row PortVlanBindings b.vlan)) x.at
      ∙ bound_value x.row b.vlan b.switch (its_contents r PhysicalPort x.id x.row good.settled.rows x.at) x.bound

  -- what the facts bind is bound there
  pub bound_there : (switch mac : ℕ) (port : Bytes) (vlan now : ℕ) → (ways v).bound (port, vlan) ≡ Some switch → is_bound_there r (entry switch mac port vlan now) ≡ true
  bound_there switch mac port vlan now e =
      let agrees = bound_agrees r v.learned good.settled.rows good.settled.sound good.local.once (port, vlan) in
      let b = port_binding r v.learned good.settled.rows good.settled.sound good.local.once (port, vlan) switch (agrees ∙ e) in
      let at : switch_at r port vlan ≡ Some switch = (λ i. switch_at r (sym b.2 i) (sym b.3 i)) ∙ switch_there b.0 b.1 ∙ ap Some b.4 in
      ap (λ o. same_number o (Some switch)) at ∙ number_itself switch

-- ---- the address that a frame comes from

abbrev pub are_bytes : Bytes → Bool
are_bytes bytes = list_all (λ b. nat_lt b 256) bytes

abbrev times_256 : ℕ → ℕ → ℕ
times_256 zero m = m
times_256 (suc k) m = times_256 k (256 * m)

below : (bytes : Bytes) (n m : ℕ) → are_bytes bytes ≡ true → n < m → fold (λ n b. 256 * n + b) n bytes < times_256 (length bytes) m
below [] n m h lt = lt
below (b ∷ bytes) n m h lt = below bytes (256 * n + b) (256 * m) (second_so (nat_lt b 256) (are_bytes bytes) h) (one b (first_so (nat_lt b 256) (are_bytes bytes) h))
  where
    one : (b : ℕ) → nat_lt b 256 ≡ true → 256 * n + b < 256 * m
    one b small = grind (arith, nat_tests, small, lt)

six_at_most : (k : ℕ) → k ≤ 6 → times_256 k 1 ≤ 2 ^ 48
six_at_most zero h = omega arith
six_at_most (suc zero) h = omega arith
six_at_most (suc (suc zero)) h = omega arith
six_at_most (suc (suc (suc zero))) h = omega arith
six_at_most (suc (suc (suc (suc zero)))) h = omega arith
six_at_most (suc (suc (suc (suc (suc zero))))) h = omega arith
six_at_most (suc (suc (suc (suc (suc (suc zero)))))) h = omega arith
six_at_most (suc (suc (suc (suc (suc (suc (suc k))))))) h = absurd (omega arith)

take_bytes : (n : ℕ) (bytes : Bytes) → are_bytes bytes ≡ true → are_bytes (take n bytes) ≡ true
take_bytes zero bytes h = refl
take_bytes (suc n) [] h = refl
take_bytes (suc n) (b ∷ bytes) h = both (nat_lt b 256) (are_bytes (take n bytes)) (first_so (nat_lt b 256) (are_bytes bytes) h) (take_bytes n bytes (second_so (nat_lt b 256) (are_bytes bytes) h))

drop_bytes : (n : ℕ) (bytes : Bytes) → are_bytes bytes ≡ true → are_bytes (drop n bytes) ≡ true
drop_bytes zero bytes h = h
drop_bytes (suc n) [] h = refl
drop_bytes (suc n) (b ∷ bytes) h = drop_bytes n bytes (second_so (nat_lt b 256) (are_bytes bytes) h)

source_small : (inner : Bytes) → are_bytes inner ≡ true → source inner < 2 ^ 48
source_small inner h =
    let xs : Bytes = take 6 (drop 6 inner) in
    let small : be xs < times_256 (length xs) 1 = below xs 0 1 (take_bytes 6 (drop 6 inner) (drop_bytes 6 inner h)) (omega arith) in
    let most : times_256 (length xs) 1 ≤ 2 ^ 48 = six_at_most (length xs) (omega (arith, length-take 6 (drop 6 inner))) in
    omega (arith, small, most)

-- it is individual, where it is not that of a group
pub source_single : (inner : Bytes) → are_bytes inner ≡ true → is_group (source inner) ≡ false → is_individual (source inner) ≡ true
source_single inner h none = both (nat_lt (source inner) (2 ^ 48)) (not (is_group (source inner))) (so (source inner) (2 ^ 48) (source_small inner h)) (ap not none)
  where
    so : (m n : ℕ) → m < n → nat_lt m n ≡ true
    so m n h = grind (arith, nat_tests, h)

untagged_bytes : (bytes : Bytes) (f : ℕ × Bytes) → untagged_frame bytes ≡ Ok f → are_bytes bytes ≡ true → are_bytes f.1 ≡ true
untagged_bytes bytes f e h = by (nat_lt 9216 (length bytes)) e
  where
    by : (b : Bool) → cond b (fault 9216 Long) (Ok (0, bytes)) ≡ Ok f → are_bytes f.1 ≡ true
    by true is = cc
    by false is = let same : (0, bytes) ≡ f = cc in subst (λ (x : ℕ × Bytes). are_bytes x.1 ≡ true) same h

tagged_bytes : (bytes : Bytes) (f : ℕ × Bytes) → tagged_frame bytes ≡ Ok f → are_bytes bytes ≡ true → are_bytes f.1 ≡ true
tagged_bytes bytes f e h = by (nat_lt (length bytes) 18) (begins_tag (drop 16 bytes)) (nat_lt 9220 (length bytes)) e
  where
    inner : ℕ × Bytes
    inner = (two_bytes (drop 14 bytes) % 2 ^ 12, take 12 bytes ++ drop 16 bytes)

    by : (short again long : Bool) → cond short (fault (length bytes) Short) (cond again (fault 16 SecondTag) (cond long (fault 9220 Long) (Ok inner))) ≡ Ok f → are_bytes f.1 ≡ true
    by true again long is = cc
    by false true long is = cc
    by false false true is = cc
    by false false false is =
        let same : inner ≡ f = cc in
        subst (λ (x : ℕ × Bytes). are_bytes x.1 ≡ true) same
        (list_all-append (λ b. nat_lt b 256) (take 12 bytes) (drop 16 bytes) ∙ both (are_bytes (take 12 bytes)) (are_bytes (drop 16 bytes)) (take_bytes 12 bytes h) (drop_bytes 16 bytes h))

-- a frame is made of the bytes that carry it
pub frame_bytes : (bytes : Bytes) (f : ℕ × Bytes) → frame_of bytes ≡ Ok f → are_bytes bytes ≡ true → are_bytes f.1 ≡ true
frame_bytes bytes f e h = by (nat_lt (length bytes) 14) (begins_tag (drop 12 bytes)) e
  where
    by : (short tag : Bool) → cond short (fault (length bytes) Short) (cond tag (tagged_frame bytes) (untagged_frame bytes)) ≡ Ok f → are_bytes f.1 ≡ true
    by true tag is = cc
    by false true is = tagged_bytes bytes f is h
    by false false is = untagged_bytes bytes f is h

-- ---- what is learnt of it

-- an address that is not that of a group is seen
pub source_seen : (v : Vtep) (switch mac : ℕ) (port : Bytes) (vlan : ℕ) (inner : Bytes) (now : ℕ) → mac ≡ source inner → now ≡ v.clock → is_group mac ≡ false
    → seen_by v (entry switch mac port vlan now) (learns_in v (entry switch mac port vlan now)) ≡ with_source v switch port vlan inner
source_seen v switch mac port vlan inner now is at none =
    (λ i. seen_by v (entry switch (is i) port vlan (at i)) (learns_in v (entry switch (is i) port vlan (at i))))
    ∙ sym (ap (λ b. cond b (unseen v false) (seen_by v (entry switch (source inner) port vlan v.clock) (learns_in v (entry switch (source inner) port vlan v.clock)))) (sym (ap is_group is) ∙ none))
