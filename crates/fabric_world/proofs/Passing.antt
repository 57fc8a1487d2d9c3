-- What the access lists of a binding permit: by the rows, by the facts of any learnt addresses, and in the logical network.
use Rattle.std.proofs.Common.{◌≡◌, ◌↔◌, inl, inr, ℕ, Bool, true, false, cond, ◌&&◌, List, [], ◌∷◌, Option, Some, None, refl, sym, ap, subst, ◌∙◌}
use Rattle.std.specs.Prelude.{◌==◌}
use Rattle.std.specs.List.{list_all, list_any}
use Rattle.std.specs.Option.{option_map, unwrap_or}
use Rattle.vtep_base.specs.Reading.{Bytes}
use Rattle.vtep_base.specs.declared.bindings.Binding.{Binding}
use Rattle.vtep_base.specs.declared.shapes.Direction.{Direction}
use Rattle.ether_frames.specs.declared.fields.Headers.{Headers}
use Rattle.ether_frames.specs.Headers.{headers_of}
use Rattle.acl_rules.specs.declared.entry.Entry.{Entry}
use Rattle.acl_rules.specs.Permits.{Permits, permits}
use Rattle.vtep_schema.specs.declared.Table.TheVariants.{Acl}
use Rattle.vtep_rows.specs.Row.{Contents}
use Rattle.vtep_rows.specs.Rows.{Rows, IsRows, row_at}
use Rattle.vtep_rows.specs.Sound.{Sound}
use Rattle.mac_learning.specs.declared.Learnt.{Learnt}
use Rattle.forward_program.specs.Acls.{entries_at}
use Rattle.forward_program.specs.Built as built
use Rattle.forward_program.specs.Built.{IsIn, bindings, acl_rows, is_listed, names_acl}
use Rattle.forward_program.specs.Hop.{may_pass, ways_of}
use Rattle.forward_program.proofs.HopLaws.{number_itself}
use Rattle.local_tables.proofs.Members.{all_in, in_all, in_any}
use Rattle.vtep_gateway.specs.Gateway.{Gateway}
use Rattle.fabric_world.specs.World.{World}
use Rattle.fabric_world.specs.Logical.{logical_of, entries_of, MayPass, place}
use Rattle.fabric_world.proofs.Alone.{list_in, in_list}
use Rattle.fabric_world.proofs.Facts.{IsQuiet, entries_is, same_lists}
use Rattle.fabric_world.proofs.Weakly.{row_permits, none_permits}

all_same : {A : Type 0} (p q : A → Bool) (xs : List A) → ((x : A) → IsIn x xs → p x ≡ q x) → list_all p xs ≡ list_all q xs
all_same p q [] same = refl
all_same p q (x ∷ xs) same = λ i. same x (inl refl) i && all_same p q xs (λ y h. same y (inr h)) i

module _ (r : Rows) (rows : IsRows r) (sound : Sound r) (quiet : IsQuiet r) where
  -- the lists of a binding are listed
  is_named : (c : built.Binding) → IsIn c (bindings r) → (acl : ℕ) → IsIn acl (acl_rows c.lists) → is_listed r acl ≡ true
  is_named c c_in acl is =
      in_any (λ b. names_acl acl b.lists) (bindings r) c c_in
      (in_any (λ id. id == acl) (acl_rows c.lists) acl is (number_itself acl))

  list_permits : (h : Headers) (direction : Direction) (acl : ℕ) → (permits (entries_of r acl) h direction ≡ true) ↔ Permits (entries_of r acl) h direction
  list_permits h direction acl = by (row_at r (Acl, acl))
    where
      by : (o : Option Contents) → (permits (unwrap_or (option_map (entries_at r) o) []) h direction ≡ true) ↔ Permits (unwrap_or (option_map (entries_at r) o) []) h direction
      by None = none_permits h direction r
      by (Some row) = row_permits h direction r row

  module _ (h : Headers) (direction : Direction) where
    -- by the rows
    abbrev pub passes : List ℕ → Bool
    passes lists = list_all (λ acl. permits (entries_of r acl) h direction) lists

    -- by the facts
    pub may_is : (l : List Learnt) (c : built.Binding) → IsIn c (bindings r) → may_pass (ways_of (built.built r l)) direction h (acl_rows c.lists) ≡ passes (acl_rows c.lists)
    may_is l c c_in =
        all_same (λ acl. permits ((ways_of (built.built r l)).entries acl) h direction) (λ acl. permits (entries_of r acl) h direction) (acl_rows c.lists)
        (λ acl is. ap (λ es. permits es h direction) (entries_is r l quiet acl (is_named c c_in acl is)))

  -- in the logical network of a fabric of one gateway
  module _ (w : World) (g : Bytes) (gateway : Gateway) (only : w.gateways.list ≡ (g, gateway) ∷ []) (its : gateway.vtep.rows ≡ r) (inner : Bytes) (direction : Direction) where
    abbrev headers : Headers
    headers = headers_of inner

    pub passes_so : (c : built.Binding) → IsIn c (bindings r) → passes headers direction (acl_rows c.lists) ≡ true → MayPass (logical_of w) direction inner (place g c)
    passes_so c c_in so entries is =
        let d = in_list w g gateway only (place g c) entries is in
        let d_in : IsIn d.0 (bindings r) = subst (λ rs. IsIn d.0 (bindings rs)) its d.1 in
        let same : d.0.lists ≡ c.lists = same_lists r [] rows sound quiet d.0 c d_in c_in (ap (λ (b : Binding). b.port) (sym d.4)) (ap (λ (b : Binding). b.vlan) (sym d.4)) in
        let at : permits (entries_of r d.2) headers direction ≡ true = all_in (λ acl. permits (entries_of r acl) headers direction) (acl_rows c.lists) d.2 so (subst (λ ls. IsIn d.2 (acl_rows ls)) same d.3) in
        subst (λ es. Permits es headers direction) (sym (d.5 ∙ ap (λ rs. entries_of rs d.2) its)) ((list_permits headers direction d.2).0 at)

    pub so_passes : (c : built.Binding) → IsIn c (bindings r) → MayPass (logical_of w) direction inner (place g c) → passes headers direction (acl_rows c.lists) ≡ true
    so_passes c c_in may =
        in_all (λ acl. permits (entries_of r acl) headers direction) (acl_rows c.lists)
        (λ acl is. (list_permits headers direction acl).1
        (may (entries_of r acl) (subst (λ rs. IsIn (place g c, entries_of rs acl) (logical_of w).lists) its (list_in w g gateway only c (subst (λ rs. IsIn c (bindings rs)) (sym its) c_in) acl is))))
