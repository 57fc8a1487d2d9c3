-- An ACL is listed by the entries where some binding's lists name it.
use Rattle.std.proofs.Common.{◌≡◌, ℕ, true, List, refl, sym, ap, ◌∙◌}
use Rattle.vtep_rows.specs.Rows.{Rows, IsRows}
use Rattle.vtep_rows.specs.Sound.{Sound}
use Rattle.mac_learning.specs.declared.Learnt.{Learnt}
use Rattle.mac_learning.specs.Learning.{IsOnce}
use Rattle.forward_program.specs.declared.spots.Spot.{Spot}
use Rattle.forward_program.specs.declared.spots.Spot.TheVariants as spot
use Rattle.forward_program.specs.declared.held.Held.{Held}
use Rattle.forward_program.specs.declared.held.Held.TheVariants as held
use Rattle.forward_program.specs.declared.held.Lists.{Lists}
use Rattle.forward_program.specs.Built.{IsIn, Binding, bindings, names_acl, is_listed}
use Rattle.forward_program.specs.Spots.{spot_total}
use Rattle.forward_program.specs.Shown.{shown}
use Rattle.forward_program.specs.Joins.{lists_acl, is_listed_at}
use Rattle.forward_program.proofs.MapLists.{in_get, get_in}
use Rattle.forward_program.proofs.SpotOrder.{spot_exact}
use Rattle.forward_program.proofs.Known.{known_at, at_known}
use Rattle.forward_program.proofs.JoinLaws.{same_test, some_passes, passes_some}

bound_lists : (s t : ℕ) (a b : Lists) → held.Bound s a ≡ held.Bound t b → a ≡ b
bound_lists s t a b e = cc

module _ (r : Rows) (learnt : List Learnt) (rows : IsRows r) (sound : Sound r) (once : IsOnce learnt) (acl : ℕ) where
  -- the binding of an entry that lists it
  its_binding : (k : Spot) (h : Held) → IsIn (k, h) (shown r learnt).list → lists_acl acl (k, h) ≡ true → is_listed r acl ≡ true
  its_binding (spot.Port p v) (held.Bound s lists) is e =
      let x = at_known r learnt rows sound once (spot.Port p v) (held.Bound s lists) (in_get spot_total (shown r learnt) (spot.Port p v) (held.Bound s lists) is) in
      passes_some (λ (b : Binding). names_acl acl b.lists) x.0 (bindings r) x.1 (ap (names_acl acl) (sym (bound_lists s x.0.switch lists x.0.lists x.4)) ∙ e)
  its_binding k h is e = cc

  there : is_listed_at (shown r learnt) acl ≡ true → is_listed r acl ≡ true
  there e = let x = some_passes (lists_acl acl) (shown r learnt).list e in its_binding x.0.0 x.0.1 x.1 x.2

  back : is_listed r acl ≡ true → is_listed_at (shown r learnt) acl ≡ true
  back e =
      let b = some_passes (λ (b : Binding). names_acl acl b.lists) (bindings r) e in
      let h = known_at r learnt rows sound once (spot.Port b.0.port b.0.vlan) (held.Bound b.0.switch b.0.lists) (b.0, b.1, refl, refl, refl) in
      passes_some (lists_acl acl) (spot.Port b.0.port b.0.vlan, held.Bound b.0.switch b.0.lists) (shown r learnt).list
      (get_in spot_exact (shown r learnt) (spot.Port b.0.port b.0.vlan) (held.Bound b.0.switch b.0.lists) h) b.2

  pub listed_is : is_listed_at (shown r learnt) acl ≡ is_listed r acl
  listed_is = same_test (is_listed_at (shown r learnt) acl) (is_listed r acl) there back
