-- Where addresses are after a frame, in a fabric of one gateway.
use Rattle.std.proofs.Common.{◌≡◌, ◌⊎◌, inl, inr, ℕ, Bool, true, false, cond, List, [], ◌∷◌, ◌++◌, map, refl, sym, ap, subst, ◌∙◌}
use Rattle.std.specs.Prelude.{◌↔◌}
use Rattle.std.specs.List.{flat_map}
use Rattle.std.specs.Option.{option_map, unwrap_or}
use Rattle.vtep_base.specs.Reading.{Bytes}
use Rattle.vtep_base.specs.Addresses as addresses
use Rattle.vtep_base.specs.Addresses.{be}
use Rattle.vtep_base.specs.declared.bindings.Binding.{Binding}
use Rattle.vtep_schema.specs.declared.Column.TheVariants.{LogicalName}
use Rattle.vtep_rows.specs.Row.{Contents, text_at}
use Rattle.vtep_rows.specs.Rows.{Rows}
use Rattle.vtep_rows.proofs.Entries.{same_some}
use Rattle.mac_learning.specs.declared.Learnt.{Learnt}
use Rattle.mac_learning.specs.Learning.{same_address, entry, found, put}
use Rattle.mac_learning.proofs.KeptLemmas.{of_address}
use Rattle.forward_program.specs.Built as built
use Rattle.forward_program.specs.Built.{IsIn, acl_rows, bindings}
use Rattle.forward_program.proofs.HostLaws.{entry_found}
use Rattle.vtep_gateway.specs.Gateway.{Gateway}
use Rattle.vtep_gateway.specs.Learning.{Seen}
use Rattle.fabric_world.specs.Happenings.{Gateways}
use Rattle.fabric_world.specs.World.{World}
use Rattle.fabric_world.specs.Logical.{logical_of, Owns, Teaches, switch_of, place, members, learnt_at, owners, entries_of, lists, is_group}
use Rattle.fabric_world.proofs.Alone.{Owner, in_owner, owner_in}
use Rattle.fabric_world.proofs.SameRows.{bindings_same, entries_same}
use Rattle.fabric_world.proofs.Taught.{IsTaught}

-- ---- an entry that is put into the list

module _ (new : Learnt) where
  put_new : (l : List Learnt) → IsIn new (put new l)
  put_new [] = inl refl
  put_new (e ∷ l) = by (same_address new e) (put_new l)
    where
      by : (b : Bool) → IsIn new (put new l) → IsIn new (cond b (new ∷ l) (e ∷ put new l))
      by true rest = inl refl
      by false rest = inr rest

  put_only : (l : List Learnt) (d : Learnt) → IsIn d (put new l) → (d ≡ new) ⊎ IsIn d l
  put_only [] d (inl is) = inl is
  put_only [] d (inr never) = absurd never
  put_only (e ∷ l) d h = by (same_address new e) (put_only l d) h
    where
      by : (b : Bool) → (IsIn d (put new l) → (d ≡ new) ⊎ IsIn d l) → IsIn d (cond b (new ∷ l) (e ∷ put new l)) → (d ≡ new) ⊎ IsIn d (e ∷ l)
      by true rest (inl is) = inl is
      by true rest (inr h) = inr (inr h)
      by false rest (inl is) = inr (inl is)
      by false rest (inr h) = elim (rest h) [ inl is ↦ inl is | inr there ↦ inr (inr there) ]

  put_keeps : (l : List Learnt) (d : Learnt) → ((d.switch ≡ new.switch) × (d.mac ≡ new.mac) → ⊥) → IsIn d l → IsIn d (put new l)
  put_keeps [] d other h = absurd h
  put_keeps (e ∷ l) d other h = by (same_address new e) refl (put_keeps l d other) h
    where
      by : (b : Bool) → same_address new e ≡ b → (IsIn d l → IsIn d (put new l)) → IsIn d (e ∷ l) → IsIn d (cond b (new ∷ l) (e ∷ put new l))
      by true t rest (inl is) = (let a = of_address new.switch new.mac e t in absurd (other (ap (λ (x : Learnt). x.switch) is ∙ sym a.0, ap (λ (x : Learnt). x.mac) is ∙ sym a.1)))
      by true t rest (inr h) = inr h
      by false t rest (inl is) = inl is
      by false t rest (inr h) = inr (rest h)

-- ---- the fabric after it

module _ (w : World) (g : Bytes) (gateway : Gateway) (only : w.gateways.list ≡ (g, gateway) ∷ []) (c : built.Binding) (now : ℕ) (address : Bytes) (group_is : addresses.is_group (be address) ≡ is_group address) where
  abbrev r : Rows
  r = gateway.vtep.rows

  abbrev l : List Learnt
  l = gateway.vtep.learned

  abbrev new : Learnt
  new = entry c.switch (be address) c.port c.vlan now

  abbrev s : Bytes
  s = switch_of r c.switch

  module _ (seen : Seen) (taught : IsTaught gateway.vtep new seen) (after : Gateways) (only_after : after.list ≡ (g, record gateway { vtep = seen.vtep }) ∷ []) (one_row : (e : Learnt) → IsIn e l → switch_of r e.switch ≡ s → e.switch ≡ c.switch) where
    abbrev later : List Learnt
    later = seen.vtep.learned

    abbrev w2 : World
    w2 = record w { gateways = after }

    switch_same : (id : ℕ) → switch_of seen.vtep.rows id ≡ switch_of r id
    switch_same id = ap (λ o. unwrap_or (option_map (λ (row : Contents). text_at row LogicalName) o) []) (taught.same.switches id)

    bindings_stay : (logical_of w2).bindings ≡ (logical_of w).bindings
    bindings_stay =
        ap (flat_map members) only_after
        ∙ (λ i. map (λ (d : built.Binding). (switch_same d.switch i, place g d)) (bindings_same seen.vtep.rows r taught.same i) ++ [])
        ∙ sym (ap (flat_map members) only)

    entries_stay : (acl : ℕ) → entries_of seen.vtep.rows acl ≡ entries_of r acl
    entries_stay acl = λ i. unwrap_or (option_map (λ row. entries_same seen.vtep.rows r taught.same row i) (taught.same.acls acl i)) []

    lists_stay : (logical_of w2).lists ≡ (logical_of w).lists
    lists_stay =
        ap (flat_map lists) only_after
        ∙ (λ i. flat_map (λ (d : built.Binding). map (λ acl. (place g d, entries_stay acl i)) (acl_rows d.lists)) (bindings_same seen.vtep.rows r taught.same i) ++ [])
        ∙ sym (ap (flat_map lists) only)

    owners_stay : later ≡ l → (logical_of w2).owners ≡ (logical_of w).owners
    owners_stay same =
        ap (flat_map owners) only_after
        ∙ (λ i. map (λ (e : Learnt). (switch_same e.switch i, e.mac, learnt_at g e)) (same i) ++ [])
        ∙ sym (ap (flat_map owners) only)

    in_later : (t : Bytes) (a : ℕ) (d : Binding) → IsIn (t, a, d) (logical_of w2).owners → (e : Learnt) × IsIn e later × (t ≡ switch_of r e.switch) × (a ≡ e.mac) × (d ≡ learnt_at g e)
    in_later t a d is = let e = in_owner w2 g (record gateway { vtep = seen.vtep }) only_after t a d is in (e.0, e.1, e.2 ∙ switch_same e.0.switch, e.3, e.4)

    later_in : (e : Learnt) → IsIn e later → IsIn (switch_of r e.switch, e.mac, learnt_at g e) (logical_of w2).owners
    later_in e e_in = subst (λ (t : Bytes). IsIn (t, e.mac, learnt_at g e) (logical_of w2).owners) (switch_same e.switch) (owner_in w2 g (record gateway { vtep = seen.vtep }) only_after e e_in)

    -- ---- the source is learnt

    module _ (put_is : later ≡ put new l) where
      new_later : IsIn new later
      new_later = subst (IsIn new) (sym put_is) (put_new new l)

      -- an entry of its address is that
      its_entry : (e : Learnt) → IsIn e later → s ≡ switch_of r e.switch → be address ≡ e.mac → e ≡ new
      its_entry e e_in of_switch of_mac = elim (put_only new l e (subst (IsIn e) put_is e_in)) [
        | inl is ↦ is
        | inr old ↦
            same_some e new
            (sym (entry_found later taught.once e e_in) ∙ (λ i. found (one_row e old (sym of_switch) i) (sym of_mac i) later) ∙ entry_found later taught.once new new_later)
      ]

      at_source : is_group address ≡ false → (d : Binding) → Owns (logical_of w2) s address d ↔ (d ≡ place g c)
      at_source alone d = (
        λ o. let e = in_later s (be address) d o.1 in e.4 ∙ ap (learnt_at g) (its_entry e.0 e.1 e.2 e.3),
        λ is. (alone, subst (λ (b : Binding). IsIn (s, be address, b) (logical_of w2).owners) (sym is) (later_in new new_later)),
      )

      beside : (t : Bytes) (a : ℕ) (d : Binding) → ((t ≡ s) × (a ≡ be address) → ⊥) → IsIn (t, a, d) (logical_of w2).owners ↔ IsIn (t, a, d) (logical_of w).owners
      beside t a d other = (
        λ is.
            let e = in_later t a d is in
            elim (put_only new l e.0 (subst (IsIn e.0) put_is e.1)) [
              | inl its ↦ absurd (other (e.2 ∙ ap (λ (x : Learnt). switch_of r x.switch) its, e.3 ∙ ap (λ (x : Learnt). x.mac) its))
              | inr old ↦ subst (λ (o : Owner). IsIn o (logical_of w).owners) (λ i. (sym e.2 i, sym e.3 i, sym e.4 i)) (owner_in w g gateway only e.0 old)
            ],
        λ is.
            let e = in_owner w g gateway only t a d is in
            let kept : IsIn e.0 later = subst (IsIn e.0) (sym put_is) (put_keeps new l e.0 (λ its. other (e.2 ∙ ap (switch_of r) its.0, e.3 ∙ its.1)) e.1) in
            subst (λ (o : Owner). IsIn o (logical_of w2).owners) (λ i. (sym e.2 i, sym e.3 i, sym e.4 i)) (later_in e.0 kept),
      )

    -- ---- all of it

    as_before : (logical_of w2).owners ≡ (logical_of w).owners → (t : Bytes) (a : ℕ) (d : Binding) → IsIn (t, a, d) (logical_of w2).owners ↔ IsIn (t, a, d) (logical_of w).owners
    as_before same t a d = (λ is. subst (IsIn (t, a, d)) same is, λ is. subst (IsIn (t, a, d)) (sym same) is)

    others : (b : Bool) → addresses.is_group (be address) ≡ b → (full : Bool) → seen.full ≡ full → (t : Bytes) (a : ℕ) (d : Binding) → ((t ≡ s) × (a ≡ be address) → ⊥)
        → IsIn (t, a, d) (logical_of w2).owners ↔ IsIn (t, a, d) (logical_of w).owners
    others true group full is t a d other = as_before (owners_stay (taught.nothing (inl group))) t a d
    others false alone true full t a d other = as_before (owners_stay (taught.nothing (inr full))) t a d
    others false alone false room t a d other = beside (taught.learnt alone room) t a d other

    pub teaches : Teaches (logical_of w) (logical_of w2) s (place g c) address seen.full
    teaches = record {
      bindings = bindings_stay;
      lists = lists_stay;
      nothing = λ why. owners_stay (taught.nothing (elim why [ inl group ↦ inl (group_is ∙ group) | inr full ↦ inr full ]));
      there = λ alone room. at_source (taught.learnt (group_is ∙ alone) room) alone;
      others = others (addresses.is_group (be address)) refl seen.full refl;
    }
