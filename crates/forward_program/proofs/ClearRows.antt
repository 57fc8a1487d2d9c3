-- The places of rows, emptied one by one.
use Rattle.std.proofs.Common.{◌≡◌, ◌+◌, ◌<◌, ◌≤◌, ◌&&◌, inl, inr, ℕ, zero, suc, Bool, true, List, [], ◌∷◌, ◌++◌, length, get_or, drop, is_some, Option, Some, None, refl, sym, ap, ◌∙◌, subst, arith}
use Rattle.std.proofs.lemmas.List.{drop_more, drop_all}
use Rattle.std.specs.Prelude.{IfSome}
use Rattle.std.specs.List.{flat_map, list_all}
use Rattle.std.specs.Cmp.{second_so}
use Rattle.std.specs.Option.{option_to_list}
use Rattle.vtep_base.specs.Reading.{Bytes}
use Rattle.vtep_rows.specs.Row.{Contents}
use Rattle.vtep_schema.specs.declared.Table.{Table}
use Rattle.vtep_schema.specs.declared.Table.TheVariants.{PhysicalPort}
use Rattle.vtep_schema.specs.Tables.{same_table}
use Rattle.vtep_rows.proofs.Kept.{same_table_exact}
use Rattle.forward_program.specs.declared.spots.Spot.{Spot}
use Rattle.forward_program.specs.declared.spots.Spot.TheVariants as spot
use Rattle.forward_program.specs.declared.spots.Part.TheVariants as part
use Rattle.forward_program.specs.Built.{IsIn, Binding, binding, bindings_of}
use Rattle.forward_program.specs.Spots.{Entries}
use Rattle.forward_program.specs.Shown.{Entry, binding_entries, pair_entries, row_entries}
use Rattle.forward_program.specs.Follows.{entries_if, places, both_of, port_places, IsBound, IsCleared}
use Rattle.forward_program.proofs.InLists.{flat_in, in_map, map_in}
use Rattle.forward_program.proofs.Clearing.{none_cleared, both_cleared}

places_append : (xs ys : List Entry) → places (xs ++ ys) ≡ places xs ++ places ys
places_append [] ys = refl
places_append (x ∷ xs) ys = ap (λ ks. x.0 ∷ ks) (places_append xs ys)

-- an item of a list
item_in : {A : Type 0} (items : List A) (i : ℕ) (d : A) → i < length items → IsIn (get_or items i d) items
item_in [] i d lt = absurd (omega arith)
item_in (x ∷ items) zero d lt = inl refl
item_in (x ∷ items) (suc i) d lt = inr (item_in items i d (omega arith))

-- ---- a list whose items each have entries, item by item

module _ {A : Type 0} (items : List A) (i : ℕ) (x : A) (lt : i < length items) (at : x ≡ get_or items i x) where
  pub one_left : drop i items ≡ x ∷ drop (i + 1) items
  one_left = drop_more items i x lt ∙ ap (λ y. y ∷ drop (i + 1) items) (sym at)

  pub one_cleared : (f : A → List Entry) (m n p : Entries) (staying : List Spot) → IsCleared m n (places (f x)) staying → IsCleared n p (places (flat_map f (drop (i + 1) items))) staying
      → IsCleared m p (places (flat_map f (drop i items))) staying
  one_cleared f m n p staying here later =
      subst (λ ks. IsCleared m p ks staying) (sym (ap (λ xs. places (flat_map f xs)) one_left ∙ places_append (f x) (flat_map f (drop (i + 1) items))))
      (both_cleared m n p (places (f x)) (places (flat_map f (drop (i + 1) items))) staying here later)

  pub still_pass : (p : A → Bool) → list_all p (drop i items) ≡ true → list_all p (drop (i + 1) items) ≡ true
  still_pass p h = second_so (p x) (list_all p (drop (i + 1) items)) (ap (list_all p) (sym one_left) ∙ h)

  pub one_passes : (p : A → Bool) → p x ≡ true → list_all p (drop (i + 1) items) ≡ list_all p (drop i items)
  one_passes p h = sym (ap (list_all p) one_left ∙ ap (λ b. b && list_all p (drop (i + 1) items)) h)

  pub is_item : IsIn x items
  is_item = subst (λ y. IsIn y items) (sym at) (item_in items i x lt)

pub none_left : {A : Type 0} (f : A → List Entry) (m : Entries) (items : List A) (i : ℕ) (staying : List Spot) → length items ≤ i → IsCleared m m (places (flat_map f (drop i items))) staying
none_left {A} f m items i staying le = subst (λ (xs : List A). IsCleared m m (places (flat_map f xs)) staying) (sym (drop_all i items le)) (none_cleared m staying)

-- the places of one item are places of all
pub part_of : {A : Type 0} (f : A → List Entry) (x : A) (items : List A) → IsIn x items → (k : Spot) → IsIn k (places (f x)) → IsIn k (places (flat_map f items))
part_of f x items is k h =
    let e = in_map (λ (y : Entry). y.0) k (f x) h in
    subst (λ q. IsIn q (places (flat_map f items))) (sym e.2) (map_in (λ (y : Entry). y.0) e.0 (flat_map f items) (flat_in f e.0 x items is e.1))

-- the places of a port
pub of_port : (own id : ℕ) (o : Option Contents) → places (entries_if own PhysicalPort id o) ≡ port_places o
of_port own id None = refl
of_port own id (Some row) = refl

pub port_bound : (row : Contents) (port : List ℕ) (vlan switch : ℕ) → IsIn (binding port row (vlan, switch)) (bindings_of row) → IsBound (Some row) (spot.Port port vlan) (spot.Switch switch (part.Member port vlan))
port_bound row port vlan switch h =
    let b : Binding = binding port row (vlan, switch) in (
      part_of binding_entries b (bindings_of row) h (spot.Port port vlan) (inl refl),
      part_of binding_entries b (bindings_of row) h (spot.Switch switch (part.Member port vlan)) (inr (inl refl)),
    )

pub alone : (o : Option Spot) → both_of (o, None) ≡ option_to_list o
alone None = refl
alone (Some k) = refl

-- the places of a binding that the row after has
pub if_bound : (o : Option Contents) (row : Contents) (port : Bytes) (vlan : ℕ) (bound : Option ℕ) → o ≡ Some row → IfSome bound (λ switch. IsIn (binding port row (vlan, switch)) (bindings_of row))
    → IfSome bound (λ switch. IsBound o (spot.Port port vlan) (spot.Switch switch (part.Member port vlan)))
if_bound o row port vlan None is h = tt
if_bound o row port vlan (Some switch) is h = subst (λ p. IsBound p (spot.Port port vlan) (spot.Switch switch (part.Member port vlan))) (sym is) (port_bound row port vlan switch h)

some_bound : (staying : List Spot) (k : Spot) (l : ℕ → Spot) (bound : Option ℕ) → IfSome bound (λ switch. IsIn k staying × IsIn (l switch) staying) → is_some bound ≡ true → IsIn k staying
some_bound staying k l None h e = cc
some_bound staying k l (Some switch) h e = h.0

that_bound : (staying : List Spot) (k : Spot) (l : ℕ → Spot) (bound : Option ℕ) (switch : ℕ) → IfSome bound (λ s. IsIn k staying × IsIn (l s) staying) → bound ≡ Some switch → IsIn (l switch) staying
that_bound staying k l bound switch h e = let g = subst (λ o. IfSome o (λ s. IsIn k staying × IsIn (l s) staying)) e h in g.1

-- a pair of vlan_bindings
pub pair_cleared : (m n p : Entries) (port : Bytes) (row : Contents) (vlan switch : ℕ) (o : Option (ℕ × ℕ)) (bound : Option ℕ) (some that : Bool) (staying : List Spot) → Some (vlan, switch) ≡ o
    → IfSome bound (λ s. IsIn (spot.Port port vlan) staying × IsIn (spot.Switch s (part.Member port vlan)) staying) → some ≡ is_some bound → (that ≡ true → bound ≡ Some switch)
    → ((some ≡ true → IsIn (spot.Port port vlan) staying) → IsCleared m n (spot.Port port vlan ∷ []) staying)
    → ((that ≡ true → IsIn (spot.Switch switch (part.Member port vlan)) staying) → IsCleared n p (spot.Switch switch (part.Member port vlan) ∷ []) staying)
    → IsCleared m p (places (pair_entries port row o)) staying
pair_cleared m n p port row vlan switch o bound some that staying given has is_some_bound is_that first second =
    subst (λ q. IsCleared m p (places (pair_entries port row q)) staying) given
    (both_cleared m n p (spot.Port port vlan ∷ []) (spot.Switch switch (part.Member port vlan) ∷ []) staying
    (first (λ e. some_bound staying (spot.Port port vlan) (λ s. spot.Switch s (part.Member port vlan)) bound has (sym is_some_bound ∙ e)))
    (second (λ e. that_bound staying (spot.Port port vlan) (λ s. spot.Switch s (part.Member port vlan)) bound switch has (is_that e))))

-- a row of Physical_Port
pub port_cleared : (m n : Entries) (own : ℕ) (t : Table) (id : ℕ) (o p q : Option Contents) (old : Contents) → same_table t PhysicalPort ≡ true → o ≡ Some old → q ≡ p
    → IsCleared m n (places (row_entries own PhysicalPort (id, old))) (port_places q) → IsCleared m n (places (entries_if own t id o)) (places (entries_if own t id p))
port_cleared m n own t id o p q old tie was is h =
    let table : t ≡ PhysicalPort = same_table_exact t PhysicalPort tie in
    subst (λ ks. IsCleared m n ks (places (entries_if own t id p))) (λ i. places (entries_if own (sym table i) id (sym was i)))
    (subst (λ ks. IsCleared m n (places (row_entries own PhysicalPort (id, old))) ks) (ap port_places is ∙ sym (of_port own id p) ∙ ap (λ u. places (entries_if own u id p)) (sym table)) h)
