-- Over the entries of sound rows the joins are what is read of the rows.
use Rattle.std.proofs.Common.{◌≡◌, inl, inr, ℕ, Bool, true, false, not, cond, ◌||◌, List, [], ◌∷◌, Option, Some, None, refl, sym, ap, ◌∙◌}
use Rattle.std.specs.Prelude.{◌==◌}
use Rattle.std.specs.List.{list_any, filter, filter_map, cons_option}
use Rattle.std.specs.Option.{option_and_then, option_map, unwrap_or}
use Rattle.std.proofs.lemmas.Bool.Decides.{Decides-eqb}
use Rattle.vtep_base.specs.Maps as maps
use Rattle.vtep_base.specs.declared.answers.Mode.TheVariants.{Service}
use Rattle.vtep_schema.specs.declared.Table.TheVariants.{LogicalSwitch, PhysicalLocatorSet, PhysicalLocator}
use Rattle.vtep_schema.specs.declared.Column.TheVariants.{LogicalTunnelKey, SetLocators, LocatorDstIp}
use Rattle.vtep_rows.specs.Row.{Contents, number_at, ids_at}
use Rattle.vtep_rows.specs.Rows.{Rows, IsRows, row_at}
use Rattle.vtep_rows.specs.Sound.{Sound}
use Rattle.locator_sets.specs.Locators.{ascending}
use Rattle.mac_learning.specs.declared.Learnt.{Learnt}
use Rattle.mac_learning.specs.Learning.{IsOnce}
use Rattle.forward_program.specs.declared.spots.Spot.TheVariants as spot
use Rattle.forward_program.specs.declared.spots.Part.TheVariants as part
use Rattle.forward_program.specs.declared.held.Held.{Held}
use Rattle.forward_program.specs.declared.held.Held.TheVariants as held
use Rattle.forward_program.specs.declared.held.Lists.{Lists}
use Rattle.forward_program.specs.Readings.{mode_of, ip_at, own_ip, locator_address, other_address, set_locators}
use Rattle.forward_program.specs.Built as built
use Rattle.forward_program.specs.Built.{IsIn, Binding, bindings, is_bound, set_addresses}
use Rattle.forward_program.specs.Spots.{spot_total}
use Rattle.forward_program.specs.Shown.{shown}
use Rattle.forward_program.specs.Joins as joins
use Rattle.forward_program.specs.Joins.{Port, address_in, address_at, locators_in, locators_at, addresses_at, mode_in, vni_in, members_at, is_some_member, is_bound_at}
use Rattle.forward_program.proofs.MapLists.{in_get, get_in}
use Rattle.forward_program.proofs.SpotOrder.{spot_exact}
use Rattle.forward_program.proofs.Walks.{member_there, there_member}
use Rattle.forward_program.proofs.Known.{known_at, at_known}

never : {A : Type 0} (x : Option A) (a : A) → x ≡ None → x ≡ Some a → ⊥
never x a e f = let clash : None ≡ Some a = sym e ∙ f in cc

-- ---- tests that hold together

pub same_test : (b c : Bool) → (b ≡ true → c ≡ true) → (c ≡ true → b ≡ true) → b ≡ c
same_test true c f g = sym (f refl)
same_test false true f g = g refl
same_test false false f g = refl

module _ {A : Type 0} where
  pub some_passes : (p : A → Bool) (xs : List A) → list_any p xs ≡ true → (x : A) × IsIn x xs × (p x ≡ true)
  some_passes p [] h = cc
  some_passes p (x ∷ xs) h = by (p x) refl h (some_passes p xs)
    where
      by : (b : Bool) → p x ≡ b → (b || list_any p xs) ≡ true → (list_any p xs ≡ true → (y : A) × IsIn y xs × (p y ≡ true)) → (y : A) × IsIn y (x ∷ xs) × (p y ≡ true)
      by true e g rest = (x, inl refl, e)
      by false e g rest = let y = rest g in (y.0, inr y.1, y.2)

  pub passes_some : (p : A → Bool) (x : A) (xs : List A) → IsIn x xs → p x ≡ true → list_any p xs ≡ true
  passes_some p x [] h e = absurd h
  passes_some p x (y ∷ xs) (inl is) e = ap (λ b. b || list_any p xs) (ap p (sym is) ∙ e)
  passes_some p x (y ∷ xs) (inr h) e = elim (p y) as (λ b. (b || list_any p xs) ≡ true) [ true ↦ refl | false ↦ passes_some p x xs h e ]

not_empty : (bs : List (Port × Lists)) → is_some_member bs ≡ true → (b : Port × Lists) × IsIn b bs
not_empty [] e = cc
not_empty (b ∷ bs) e = (b, inl refl)

empty_not : (b : Port × Lists) (bs : List (Port × Lists)) → IsIn b bs → is_some_member bs ≡ true
empty_not b [] h = absurd h
empty_not b (c ∷ bs) h = refl

-- ---- addresses that are not the own one

others_only : (own : ℕ) (f g : ℕ → Option ℕ) → ((l : ℕ) → f l ≡ other_address own (g l)) → (ls : List ℕ) → filter_map f ls ≡ filter (λ ip. not (ip == own)) (filter_map g ls)
others_only own f g same [] = refl
others_only own f g same (l ∷ ls) = ap (λ o. cons_option o (filter_map f ls)) (same l) ∙ by (g l) (others_only own f g same ls)
  where
    kept : (ip : ℕ) (b : Bool) (xs ys : List ℕ) → xs ≡ ys → cons_option (cond b None (Some ip)) xs ≡ cond (not b) (ip ∷ ys) ys
    kept ip true xs ys e = e
    kept ip false xs ys e = ap (λ zs. ip ∷ zs) e

    by : (o : Option ℕ) → filter_map f ls ≡ filter (λ ip. not (ip == own)) (filter_map g ls) → cons_option (other_address own o) (filter_map f ls) ≡ filter (λ ip. not (ip == own)) (cons_option o (filter_map g ls))
    by None e = e
    by (Some ip) e = kept ip (ip == own) (filter_map f ls) (filter (λ ip. not (ip == own)) (filter_map g ls)) e

module _ (r : Rows) (learnt : List Learnt) (rows : IsRows r) (sound : Sound r) (once : IsOnce learnt) where
  locator_with : (l : ℕ) (o : Option Contents) → row_at r (PhysicalLocator, l) ≡ o → maps.get (shown r learnt) (spot.Locator l) ≡ None → other_address (own_ip r) (option_and_then (λ row. ip_at row LocatorDstIp) o) ≡ None
  locator_with l None at none = refl
  locator_with l (Some row) at none = by (other_address (own_ip r) (ip_at row LocatorDstIp)) refl
    where
      by : (o : Option ℕ) → other_address (own_ip r) (ip_at row LocatorDstIp) ≡ o → o ≡ None
      by None e = refl
      by (Some ip) e = absurd (never (maps.get (shown r learnt) (spot.Locator l)) (held.Address ip) none (known_at r learnt rows sound once (spot.Locator l) (held.Address ip) (row, at, ip, e, refl)))

  pub address_is : (l : ℕ) → address_at (shown r learnt) l ≡ other_address (own_ip r) (locator_address r l)
  address_is l = by (maps.get (shown r learnt) (spot.Locator l)) refl
    where
      by : (o : Option Held) → maps.get (shown r learnt) (spot.Locator l) ≡ o → address_at (shown r learnt) l ≡ other_address (own_ip r) (locator_address r l)
      by None e = ap address_in e ∙ sym (locator_with l (row_at r (PhysicalLocator, l)) refl e)
      by (Some h) e =
          let x = at_known r learnt rows sound once (spot.Locator l) h e in
          ap address_in (e ∙ ap Some x.4) ∙ sym x.3 ∙ ap (λ o. other_address (own_ip r) (option_and_then (λ row. ip_at row LocatorDstIp) o)) (sym x.1)

  locators_with : (set : ℕ) (o : Option Contents) → row_at r (PhysicalLocatorSet, set) ≡ o → maps.get (shown r learnt) (spot.Set set) ≡ None → unwrap_or (option_map (λ row. ids_at row SetLocators) o) [] ≡ []
  locators_with set None at none = refl
  locators_with set (Some row) at none =
      absurd (never (maps.get (shown r learnt) (spot.Set set)) (held.Members (ids_at row SetLocators)) none (known_at r learnt rows sound once (spot.Set set) (held.Members (ids_at row SetLocators)) (row, at, refl)))

  pub locators_are : (set : ℕ) → locators_at (shown r learnt) set ≡ set_locators r set
  locators_are set = by (maps.get (shown r learnt) (spot.Set set)) refl
    where
      by : (o : Option Held) → maps.get (shown r learnt) (spot.Set set) ≡ o → locators_at (shown r learnt) set ≡ set_locators r set
      by None e = ap locators_in e ∙ sym (locators_with set (row_at r (PhysicalLocatorSet, set)) refl e)
      by (Some h) e =
          let x = at_known r learnt rows sound once (spot.Set set) h e in
          ap locators_in (e ∙ ap Some x.2) ∙ ap (λ o. unwrap_or (option_map (λ row. ids_at row SetLocators) o) []) (sym x.1)

  pub addresses_are : (set : ℕ) → addresses_at (shown r learnt) set ≡ set_addresses r set
  addresses_are set =
      ap (λ ls. ascending (filter_map (address_at (shown r learnt)) ls)) (locators_are set)
      ∙ ap ascending (others_only (own_ip r) (address_at (shown r learnt)) (locator_address r) address_is (set_locators r set))

  switch_with : (s : ℕ) (o : Option Contents) → row_at r (LogicalSwitch, s) ≡ o → maps.get (shown r learnt) (spot.Switch s part.Itself) ≡ None → o ≡ None
  switch_with s None at none = refl
  switch_with s (Some row) at none =
      absurd (never (maps.get (shown r learnt) (spot.Switch s part.Itself)) (held.Switch (number_at row LogicalTunnelKey) (mode_of row)) none
      (known_at r learnt rows sound once (spot.Switch s part.Itself) (held.Switch (number_at row LogicalTunnelKey) (mode_of row)) (row, at, refl)))

  pub mode_is : (s : ℕ) → joins.mode_at (shown r learnt) s ≡ built.mode_at r s
  mode_is s = by (maps.get (shown r learnt) (spot.Switch s part.Itself)) refl
    where
      by : (o : Option Held) → maps.get (shown r learnt) (spot.Switch s part.Itself) ≡ o → joins.mode_at (shown r learnt) s ≡ built.mode_at r s
      by None e = ap mode_in e ∙ ap (λ o. unwrap_or (option_map mode_of o) Service) (sym (switch_with s (row_at r (LogicalSwitch, s)) refl e))
      by (Some h) e =
          let x = at_known r learnt rows sound once (spot.Switch s part.Itself) h e in
          ap mode_in (e ∙ ap Some x.2) ∙ ap (λ o. unwrap_or (option_map mode_of o) Service) (sym x.1)

  -- the VNI of a switch is its tunnel_key
  pub vni_is : (s : ℕ) → joins.vni_at (shown r learnt) s ≡ option_and_then (λ row. number_at row LogicalTunnelKey) (row_at r (LogicalSwitch, s))
  vni_is s = by (maps.get (shown r learnt) (spot.Switch s part.Itself)) refl
    where
      by : (o : Option Held) → maps.get (shown r learnt) (spot.Switch s part.Itself) ≡ o → joins.vni_at (shown r learnt) s ≡ option_and_then (λ row. number_at row LogicalTunnelKey) (row_at r (LogicalSwitch, s))
      by None e = ap vni_in e ∙ ap (option_and_then (λ row. number_at row LogicalTunnelKey)) (sym (switch_with s (row_at r (LogicalSwitch, s)) refl e))
      by (Some h) e =
          let x = at_known r learnt rows sound once (spot.Switch s part.Itself) h e in
          ap vni_in (e ∙ ap Some x.2) ∙ ap (option_and_then (λ row. number_at row LogicalTunnelKey)) (sym x.1)

  -- ---- a switch is bound where a binding stands behind it

  bound_there : (s : ℕ) → is_bound_at (shown r learnt) s ≡ true → is_bound r s ≡ true
  bound_there s e =
      let b = not_empty (members_at (shown r learnt) s) e in
      let h = in_get spot_total (shown r learnt) (spot.Switch s (part.Member b.0.0.0 b.0.0.1)) (held.Lists b.0.1) (member_there s (shown r learnt) b.0.0 b.0.1 b.1) in
      let x = at_known r learnt rows sound once (spot.Switch s (part.Member b.0.0.0 b.0.0.1)) (held.Lists b.0.1) h in
      passes_some (λ (c : Binding). c.switch == s) x.0 (bindings r) x.1 ((Decides-eqb x.0.switch s).1 x.2)

  there_bound : (s : ℕ) → is_bound r s ≡ true → is_bound_at (shown r learnt) s ≡ true
  there_bound s e =
      let b = some_passes (λ (c : Binding). c.switch == s) (bindings r) e in
      let h = known_at r learnt rows sound once (spot.Switch s (part.Member b.0.port b.0.vlan)) (held.Lists b.0.lists) (b.0, b.1, (Decides-eqb b.0.switch s).0 b.2, refl, refl, refl) in
      empty_not ((b.0.port, b.0.vlan), b.0.lists) (members_at (shown r learnt) s) (there_member s (shown r learnt) (b.0.port, b.0.vlan) b.0.lists (get_in spot_exact (shown r learnt) (spot.Switch s (part.Member b.0.port b.0.vlan)) (held.Lists b.0.lists) h))

  pub bound_is : (s : ℕ) → is_bound_at (shown r learnt) s ≡ is_bound r s
  bound_is s = same_test (is_bound_at (shown r learnt) s) (is_bound r s) (bound_there s) (there_bound s)
