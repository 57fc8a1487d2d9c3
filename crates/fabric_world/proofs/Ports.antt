-- The bindings of a switch in order, but for the one at which a frame enters.
use Rattle.std.proofs.Common.{◌≡◌, inl, inr, ℕ, Bool, true, false, not, cond, T, List, [], ◌∷◌, map, Some, refl, sym, ap, ◌∙◌, subst}
use Rattle.std.specs.List.{filter}
use Rattle.std.specs.Ordering.{nat_cmp, eq_by_cmp, is_lt, ordering_then}
use Rattle.std.specs.Cmp.{IsTotalOrder, nat_cmp_total, eq_by_cmp_equiv}
use Rattle.std.specs.Cmp.Lexicographic.{slice_cmp, nat_list_cmp_total}
use Rattle.std.specs.declared.cmp.Ordering.{Ordering}
use Rattle.std.specs.declared.cmp.Ordering.TheVariants.{Less, Equal, Greater}
use Rattle.std.specs.FinMap.{find, is_sorted, IsAntisymmetric}
use Rattle.std.specs.FinMap.Entries.{below_all}
use Rattle.std.proofs.lemmas.Cmp.{on_total, then_total, tied_itself}
use Rattle.std.proofs.lemmas.Map.Lookups.{exact_pairs, exact_bytes, exact_unsigned}
use Rattle.vtep_base.specs.Reading.{Bytes}
use Rattle.vtep_base.specs.Maps as maps
use Rattle.vtep_base.specs.declared.bindings.Binding.{Binding}
use Rattle.vlan_bindings.specs.Places.{place_cmp}
use Rattle.vtep_rows.proofs.Entries.{t_first, t_second}
use Rattle.ether_frames.specs.Frames.{tagged}
use Rattle.forward_program.specs.Built.{IsIn, AreApart}
use Rattle.forward_program.specs.Joins.{Port}
use Rattle.forward_program.specs.Hop.{Listed, same_port, but, in_order}
use Rattle.forward_program.proofs.MapLists.{in_get, get_in, found_in}
use Rattle.fabric_world.specs.Intentions.{binding_cmp}
use Rattle.fabric_world.specs.Delivery.{IsBelow, InOrder}

place_total : IsTotalOrder place_cmp
place_total = then_total (on_total (λ (p : Port). p.0) nat_list_cmp_total) (on_total (λ (p : Port). p.1) nat_cmp_total)

place_exact : IsAntisymmetric place_cmp
place_exact = exact_pairs (slice_cmp nat_cmp) nat_cmp exact_bytes exact_unsigned

abbrev Lists : Type 0
Lists = List ℕ

in_find : (q : Listed) (es : List Listed) → IsIn q es → (y : Lists) × (find place_cmp q.0 es ≡ Some y)
in_find q [] h = absurd h
in_find q (e ∷ es) (inl is) =
    subst (λ (d : Listed). (y : Lists) × (cond (eq_by_cmp place_cmp q.0 d.0) (Some d.1) (find place_cmp q.0 es) ≡ Some y)) is (q.1, ap (λ b. cond b (Some q.1) (find place_cmp q.0 es)) ((eq_by_cmp_equiv place_total).refl q.0))
in_find q (e ∷ es) (inr h) =
    let rest = in_find q es h in
    elim (eq_by_cmp place_cmp q.0 e.0) as (λ b. (y : Lists) × (cond b (Some e.1) (find place_cmp q.0 es) ≡ Some y)) [ true ↦ (e.1, refl) | false ↦ rest ]

-- in order are those that are there
pub ordered_is : (q : Listed) (bs : List Listed) → IsIn q (in_order bs) → IsIn q bs
ordered_is q bs h =
    let m : maps.Map place_cmp Lists = maps.of_list {R = place_cmp} bs in
    found_in place_exact q.0 q.1 bs (sym (maps.get-of_list place_total bs q.0) ∙ in_get place_total m q.0 q.1 h)

-- and each of them, where a port has one pair of lists
pub is_ordered : (q : Listed) (bs : List Listed) → ((x : Listed) → IsIn x bs → x.0 ≡ q.0 → x.1 ≡ q.1) → IsIn q bs → IsIn q (in_order bs)
is_ordered q bs one h =
    let m : maps.Map place_cmp Lists = maps.of_list {R = place_cmp} bs in
    let f = in_find q bs h in
    let same : f.0 ≡ q.1 = one (q.0, f.0) (found_in place_exact q.0 f.0 bs f.1) refl in
    subst (λ ls. IsIn (q.0, ls) m.list) same (get_in place_exact m q.0 f.0 (maps.get-of_list place_total bs q.0 ∙ f.1))

-- ---- order

abbrev AreBelow : Port → List Port → Type 0
AreBelow p [] = Unit {0}
AreBelow p (q ∷ qs) = (place_cmp p q ≡ Less) × AreBelow p qs

abbrev pub AreSorted : List Port → Type 0
AreSorted [] = Unit {0}
AreSorted (p ∷ ps) = AreBelow p ps × AreSorted ps

is_less : (o : Ordering) → T (is_lt o) → o ≡ Less
is_less Less t = refl
is_less Equal t = absurd t
is_less Greater t = absurd t

abbrev pub ports_of : List Listed → List Port
ports_of bs = map (λ b. b.0) bs

below_keys : (p : Port) (es : List Listed) → T (below_all place_cmp p es) → AreBelow p (ports_of es)
below_keys p [] t = tt
below_keys p (e ∷ es) t = (is_less (place_cmp p e.0) (t_first (is_lt (place_cmp p e.0)) (below_all place_cmp p es) t), below_keys p es (t_second (is_lt (place_cmp p e.0)) (below_all place_cmp p es) t))

sorted_keys : (es : List Listed) → T (is_sorted place_cmp es) → AreSorted (ports_of es)
sorted_keys [] t = tt
sorted_keys (e ∷ es) t = (below_keys e.0 es (t_first (below_all place_cmp e.0 es) (is_sorted place_cmp es) t), sorted_keys es (t_second (below_all place_cmp e.0 es) (is_sorted place_cmp es) t))

pub ordered_sorted : (bs : List Listed) → AreSorted (ports_of (in_order bs))
ordered_sorted bs = let m : maps.Map place_cmp Lists = maps.of_list {R = place_cmp} bs in sorted_keys m.list m.sorted

module _ (test : Listed → Bool) where
  below_let : (p : Port) (bs : List Listed) → AreBelow p (ports_of bs) → AreBelow p (ports_of (filter test bs))
  below_let p [] h = tt
  below_let p (b ∷ bs) h = elim (test b) as (λ t. AreBelow p (ports_of (cond t (b ∷ filter test bs) (filter test bs)))) [ true ↦ (h.0, below_let p bs h.1) | false ↦ below_let p bs h.1 ]

  -- those that are let out stay in order
  pub let_sorted : (bs : List Listed) → AreSorted (ports_of bs) → AreSorted (ports_of (filter test bs))
  let_sorted [] h = tt
  let_sorted (b ∷ bs) h = elim (test b) as (λ t. AreSorted (ports_of (cond t (b ∷ filter test bs) (filter test bs)))) [ true ↦ (below_let b.0 bs h.0, let_sorted bs h.1) | false ↦ let_sorted bs h.1 ]

module _ (test : Port → Bool) where
  below_filter : (p : Port) (qs : List Port) → AreBelow p qs → AreBelow p (filter test qs)
  below_filter p [] h = tt
  below_filter p (q ∷ qs) h = elim (test q) as (λ b. AreBelow p (cond b (q ∷ filter test qs) (filter test qs))) [ true ↦ (h.0, below_filter p qs h.1) | false ↦ below_filter p qs h.1 ]

  sorted_filter : (ps : List Port) → AreSorted ps → AreSorted (filter test ps)
  sorted_filter [] h = tt
  sorted_filter (p ∷ ps) h = elim (test p) as (λ b. AreSorted (cond b (p ∷ filter test ps) (filter test ps))) [ true ↦ (below_filter p ps h.0, sorted_filter ps h.1) | false ↦ sorted_filter ps h.1 ]

pub but_sorted : (q : Port) (ps : List Port) → AreSorted ps → AreSorted (but (Some q) ps)
but_sorted q ps h = sorted_filter (λ p. not (same_port p q)) ps h

pub if_sorted : (b : Bool) (ps : List Port) → AreSorted ps → AreSorted (cond b [] ps)
if_sorted true ps h = tt
if_sorted false ps h = h

-- ---- frames that leave there

abbrev pub at_port : Bytes → Port → Binding
at_port g q = record { gateway = g; port = q.0; vlan = q.1 }

abbrev pub as_out : Bytes → Bytes → Port → Binding × Bytes
as_out g inner q = (at_port g q, tagged q.1 inner)

module _ (g inner : Bytes) where
  below_outs : (p : Port) (qs : List Port) → AreBelow p qs → IsBelow (at_port g p) (map (as_out g inner) qs)
  below_outs p [] h = tt
  below_outs p (q ∷ qs) h = (ap (λ o. ordering_then o (place_cmp p q)) (tied_itself nat_list_cmp_total g) ∙ h.0, below_outs p qs h.1)

  pub outs_in_order : (ps : List Port) → AreSorted ps → InOrder (map (as_out g inner) ps)
  outs_in_order [] h = tt
  outs_in_order (p ∷ ps) h = (below_outs p ps h.0, outs_in_order ps h.1)

-- ---- each once

binding_total : IsTotalOrder binding_cmp
binding_total = then_total (on_total (λ (b : Binding). b.gateway) nat_list_cmp_total) (then_total (on_total (λ (b : Binding). b.port) nat_list_cmp_total) (on_total (λ (b : Binding). b.vlan) nat_cmp_total))

not_below_itself : (b : Binding) → binding_cmp b b ≡ Less → ⊥
not_below_itself b e = let t : Less ≡ Equal = sym e ∙ tied_itself binding_total b in cc

not_among_below : (b : Binding) (x : Bytes) (os : List (Binding × Bytes)) → IsBelow b os → IsIn (b, x) os → ⊥
not_among_below b x [] h i = absurd i
not_among_below b x (o ∷ os) h (inl is) = not_below_itself b (ap (λ (y : Binding × Bytes). binding_cmp b y.0) is ∙ h.0)
not_among_below b x (o ∷ os) h (inr i) = not_among_below b x os h.1 i

pub once_in_order : (os : List (Binding × Bytes)) → InOrder os → AreApart os
once_in_order [] h = tt
once_in_order (o ∷ os) h = (not_among_below o.0 o.1 os h.0, once_in_order os h.1)
