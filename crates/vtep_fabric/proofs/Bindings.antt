-- The bindings of a port are those with which the walk from its first VLAN begins.
use Rattle.std.proofs.Common.{◌≡◌, ℕ, Bool, true, false, cond, T, ◌&&◌, List, [], ◌∷◌, map, Some, refl, sym, ap, ◌∙◌}
use Rattle.std.specs.Prelude.{if◌then◌else◌, nat_eq}
use Rattle.std.specs.List.{filter}
use Rattle.std.specs.Ordering.{nat_cmp, ordering_then, is_eq, is_lt, is_le}
use Rattle.std.specs.declared.cmp.Ordering.{Ordering}
use Rattle.std.specs.declared.cmp.Ordering.TheVariants.{Less, Equal, Greater}
use Rattle.std.specs.Cmp.{IsTotalOrder, alike_right, then_total, on_total}
use Rattle.std.specs.Cmp.Lexicographic.{nat_list_cmp_total}
use Rattle.std.specs.FinMap.{is_sorted}
use Rattle.std.specs.FinMap.Entries.{below_all}
use Rattle.std.proofs.lemmas.Bool.Decides.{nat_tests}
use Rattle.std.proofs.Common.{arith}
use Rattle.vtep_base.specs.Reading.{Bytes, same_bytes}
use Rattle.vtep_base.specs.Maps as maps
use Rattle.vtep_base.specs.Maps.{Map}
use Rattle.vtep_base.specs.declared.bindings.Binding.{Binding}
use Rattle.fabric_world.specs.Intentions.{bytes_cmp, binding_cmp}
use Rattle.fabric_world.specs.Installer.{is_at_port, Bound, bound, Host, host_cmp}

-- the bindings of a port at the front
abbrev pub leading : Bytes → Bytes → List (Binding × Bytes) → List Bound
leading g p [] = []
leading g p (e ∷ es) = if is_at_port g p e then bound e ∷ leading g p es else []

host_total : IsTotalOrder host_cmp
host_total = then_total (on_total (λ a. a.0) nat_list_cmp_total) (on_total (λ a. a.1) nat_list_cmp_total)

both_equal : (a b : Ordering) → is_eq (ordering_then a b) ≡ (is_eq a && is_eq b)
both_equal Less b = refl
both_equal Equal b = refl
both_equal Greater b = refl

head_equal : (x y : ℕ) → is_eq (nat_cmp x y) ≡ nat_eq y x
head_equal x y = grind (arith, nat_tests)

pub equal_is_same : (a b : Bytes) → is_eq (bytes_cmp a b) ≡ same_bytes b a
equal_is_same [] [] = refl
equal_is_same [] (y ∷ ys) = refl
equal_is_same (x ∷ xs) [] = refl
equal_is_same (x ∷ xs) (y ∷ ys) = both_equal (nat_cmp x y) (bytes_cmp xs ys) ∙ ap (λ t. t && is_eq (bytes_cmp xs ys)) (head_equal x y) ∙ ap (λ t. nat_eq y x && t) (equal_is_same xs ys)

then_then : (a b c : Ordering) → ordering_then a (ordering_then b c) ≡ ordering_then (ordering_then a b) c
then_then Less b c = refl
then_then Equal b c = refl
then_then Greater b c = refl

abbrev place : Binding → Host
place b = (b.gateway, b.port)

by_place : (a b : Binding) → binding_cmp a b ≡ ordering_then (host_cmp (place a) (place b)) (nat_cmp a.vlan b.vlan)
by_place a b = then_then (bytes_cmp a.gateway b.gateway) (bytes_cmp a.port b.port) (nat_cmp a.vlan b.vlan)

t_first : (a b : Bool) → T (a && b) → T a
t_first true b h = tt
t_first false b h = h

t_second : (a b : Bool) → T (a && b) → T b
t_second true b h = h
t_second false b h = absurd h

least : (n : ℕ) → is_le (nat_cmp 0 n) ≡ true
least n = grind (arith, nat_tests)

module _ (g p : Bytes) where
  abbrev first : Binding
  first = record { gateway = g; port = p; vlan = 0 }

  at : (e : Binding × Bytes) → is_at_port g p e ≡ is_eq (host_cmp (g, p) (place e.0))
  at e = sym (both_equal (bytes_cmp g e.0.gateway) (bytes_cmp p e.0.port)
      ∙ (λ i. equal_is_same g e.0.gateway i && equal_is_same p e.0.port i))

  -- what stands behind a place that is behind the port's is no binding of the port
  behind : (x y : Host) (c r : Ordering) → host_cmp (g, p) x ≡ Less → host_cmp x y ≡ r → T (is_lt (ordering_then r c)) → host_cmp (g, p) y ≡ Less
  behind x y c Less h e t = host_total.trans (g, p) x y h e
  behind x y c Equal h e t = sym (alike_right host_total x y (g, p) e) ∙ h
  behind x y c Greater h e t = absurd t

  none_behind : (e : Binding × Bytes) (es : List (Binding × Bytes)) → host_cmp (g, p) (place e.0) ≡ Less → T (below_all binding_cmp e.0 es) → filter (is_at_port g p) es ≡ []
  none_behind e [] h below = refl
  none_behind e (f ∷ fs) h below =
      let lower : T (is_lt (binding_cmp e.0 f.0)) = t_first (is_lt (binding_cmp e.0 f.0)) (below_all binding_cmp e.0 fs) below in
      let later : host_cmp (g, p) (place f.0) ≡ Less = behind (place e.0) (place f.0) (nat_cmp e.0.vlan f.0.vlan) (host_cmp (place e.0) (place f.0)) h refl (rw (by_place e.0 f.0) at lower) in
      let other : is_at_port g p f ≡ false = at f ∙ ap is_eq later in
      ap (λ t. cond t (f ∷ filter (is_at_port g p) fs) (filter (is_at_port g p) fs)) other ∙ none_behind e fs h (t_second (is_lt (binding_cmp e.0 f.0)) (below_all binding_cmp e.0 fs) below)

  abbrev from_first : List (Binding × Bytes) → List (Binding × Bytes)
  from_first es = filter (λ e. is_le (binding_cmp first e.0)) es

  abbrev Leads : List (Binding × Bytes) → Type 0
  Leads es = leading g p (from_first es) ≡ map bound (filter (is_at_port g p) es)

  one_more : (e : Binding × Bytes) (es : List (Binding × Bytes)) (le at_port : Bool) → is_le (binding_cmp first e.0) ≡ le → is_at_port g p e ≡ at_port
      → leading g p (cond le (e ∷ from_first es) (from_first es)) ≡ map bound (cond at_port (e ∷ filter (is_at_port g p) es) (filter (is_at_port g p) es)) → Leads (e ∷ es)
  one_more e es le at_port l a h =
      ap (λ t. leading g p (cond t (e ∷ from_first es) (from_first es))) l ∙ h
      ∙ ap (λ t. map bound (cond t (e ∷ filter (is_at_port g p) es) (filter (is_at_port g p) es))) (sym a)

  leads : (es : List (Binding × Bytes)) → T (is_sorted binding_cmp es) → Leads es
  leads [] sorted = refl
  leads (e ∷ es) sorted =
      by (host_cmp (g, p) (place e.0)) refl (leads es (t_second (below_all binding_cmp e.0 es) (is_sorted binding_cmp es) sorted))
    where
      le_at : (r : Ordering) → host_cmp (g, p) (place e.0) ≡ r → is_le (binding_cmp first e.0) ≡ is_le (ordering_then r (nat_cmp 0 e.0.vlan))
      le_at r is = ap is_le (by_place first e.0) ∙ ap (λ s. is_le (ordering_then s (nat_cmp 0 e.0.vlan))) is

      front : (t : Bool) → is_at_port g p e ≡ t → leading g p (e ∷ from_first es) ≡ cond t (bound e ∷ leading g p (from_first es)) []
      front t a = ap (λ t. cond t (bound e ∷ leading g p (from_first es)) []) a

      by : (r : Ordering) → host_cmp (g, p) (place e.0) ≡ r → Leads es → Leads (e ∷ es)
      by Less is rest =
          let other : is_at_port g p e ≡ false = at e ∙ ap is_eq is in
          one_more e es true false (le_at Less is) other
          (front false other ∙ ap (map bound) (sym (none_behind e es is (t_first (below_all binding_cmp e.0 es) (is_sorted binding_cmp es) sorted))))
      by Equal is rest =
          let this : is_at_port g p e ≡ true = at e ∙ ap is_eq is in
          one_more e es true true (le_at Equal is ∙ least e.0.vlan) this (front true this ∙ ap (λ bs. bound e ∷ bs) rest)
      by Greater is rest =
          let other : is_at_port g p e ≡ false = at e ∙ ap is_eq is in
          one_more e es false false (le_at Greater is) other rest

  -- the walk from the port's first VLAN begins with its bindings
  pub walk_leads : (m : Map binding_cmp Bytes) → leading g p (maps.not_below binding_cmp (Some first) m) ≡ map bound (filter (is_at_port g p) m.list)
  walk_leads m = leads m.list m.sorted
