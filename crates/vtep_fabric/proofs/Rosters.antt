-- The gateways of a fabric: what the map of their states holds.
use Rattle.std.proofs.Common.{◌≡◌, Bool, true, false, cond, ◌||◌, List, [], ◌∷◌, map, Option, Some, None, option_map, find, refl, sym, ap, subst, length, ◌∙◌}
use Rattle.std.specs.Prelude.{is_some}
use Rattle.std.specs.declared.cmp.Ordering.{Ordering}
use Rattle.std.specs.Ordering.{eq_by_cmp}
use Rattle.std.specs.Cmp.{IsTotalOrder, Equal-is}
use Rattle.std.specs.FinMap.{IsAntisymmetric}
use Rattle.std.specs.Map.{keys_of}
use Rattle.std.proofs.lemmas.List.{length-map}
use Rattle.std.specs.BTreeMap.{is_at}
use Rattle.std.specs.List.{list_any}
use Rattle.std.specs.List.Sorted.{IsStrictlySortedBy}
use Rattle.std.specs.Cmp.Lexicographic.{nat_list_cmp_total}
use Rattle.std.proofs.lemmas.Map.Lookups.{exact_bytes}
use Rattle.vtep_base.specs.Reading.{Bytes}
use Rattle.vtep_base.specs.Maps as maps
use Rattle.vtep_base.specs.Maps.{Map}
use Rattle.vtep_base.proofs.Held.{held, get-held, one_given, list-of_list}
use Rattle.vtep_gateway.specs.Gateway.{Gateway, Held}
use Rattle.fabric_world.specs.Intentions.{bytes_cmp}
use Rattle.vtep_fabric.specs.Fabrics.{gateways_of}

abbrev state : Held → Gateway
state h = h.state

abbrev seen : Bytes × Held → Bytes × Gateway
seen e = (e.0, e.1.state)

push : (b : Bool) (h : Held) (o : Option Gateway) (p : Option Held) → o ≡ option_map state p → cond b (Some h.state) o ≡ option_map state (cond b (Some h) p)
push true h o p e = refl
push false h o p e = e

-- looking a name up among the states is looking it up among the gateways
pub held-seen : (es : List (Bytes × Held)) (q : Bytes) → held bytes_cmp (map seen es) q ≡ option_map state (held bytes_cmp es q)
held-seen [] q = refl
held-seen (e ∷ es) q = push (is_at (bytes_cmp q) e.0) e.1 (held bytes_cmp (map seen es) q) (held bytes_cmp es q) (held-seen es q)

pub get-gateways : (es : List (Bytes × Held)) (q : Bytes) → maps.get (gateways_of es) q ≡ option_map state (held bytes_cmp es q)
get-gateways es q = get-held nat_list_cmp_total (map seen es) q ∙ held-seen es q

some-state : (o : Option Held) → is_some (option_map state o) ≡ is_some o
some-state None = refl
some-state (Some h) = refl

pub has-gateways : (es : List (Bytes × Held)) (q : Bytes) → maps.has (gateways_of es) q ≡ is_some (held bytes_cmp es q)
has-gateways es q = ap is_some (get-gateways es q) ∙ some-state (held bytes_cmp es q)

keys-seen : (es : List (Bytes × Held)) → keys_of (map seen es) ≡ keys_of es
keys-seen [] = refl
keys-seen (e ∷ es) = ap (λ ks. e.0 ∷ ks) (keys-seen es)

pub list-gateways : (es : List (Bytes × Held)) → IsStrictlySortedBy bytes_cmp (keys_of es) → (gateways_of es).list ≡ map seen es
list-gateways es ordered = list-of_list nat_list_cmp_total (map seen es) (subst (IsStrictlySortedBy bytes_cmp) (sym (keys-seen es)) ordered)

pub any-seen : (test : Bytes × Gateway → Bool) (es : List (Bytes × Held)) → list_any test (map seen es) ≡ list_any (λ e. test (e.0, e.1.state)) es
any-seen test [] = refl
any-seen test (e ∷ es) = ap (λ b. test (e.0, e.1.state) || b) (any-seen test es)

pub first-seen : (test : Bytes × Gateway → Bool) (es : List (Bytes × Held)) → option_map (λ e. e.0) (find test (map seen es)) ≡ option_map (λ e. e.0) (find (λ e. test (e.0, e.1.state)) es)
first-seen test [] = refl
first-seen test (e ∷ es) = named (test (e.0, e.1.state)) (find test (map seen es)) (find (λ d. test (d.0, d.1.state)) es) (first-seen test es)
  where
    named : (b : Bool) (o : Option (Bytes × Gateway)) (p : Option (Bytes × Held)) → option_map (λ d. d.0) o ≡ option_map (λ d. d.0) p
        → option_map (λ d. d.0) (cond b (Some (seen e)) o) ≡ option_map (λ d. d.0) (cond b (Some e) p)
    named true o p same = refl
    named false o p same = same

pub states-seen : (es : List (Bytes × Held)) → map state (map (λ e. e.1) es) ≡ map (λ e. e.1) (map seen es)
states-seen [] = refl
states-seen (e ∷ es) = ap (λ gs. e.1.state ∷ gs) (states-seen es)

pub size-gateways : (es : List (Bytes × Held)) → IsStrictlySortedBy bytes_cmp (keys_of es) → maps.size (gateways_of es) ≡ length es
size-gateways es ordered = ap length (list-gateways es ordered) ∙ length-map es seen

given : (b : Bool) (h : Held) (o : Option Held) → option_map state (cond b (Some h) o) ≡ cond b (Some h.state) (option_map state o)
given true h o = refl
given false h o = refl

cond-same : {A : Type 0} (b : Bool) (a o : A) → (b ≡ true → o ≡ a) → cond b a o ≡ o
cond-same true a o e = sym (e refl)
cond-same false a o e = refl

-- a value that a key has already
pub insert-same : {K X : Type 0} {R : K → K → Ordering} (o : IsTotalOrder R) (same : IsAntisymmetric R) (m : Map R X) (k : K) (v : X) → maps.get m k ≡ Some v → maps.insert m k v ≡ m
insert-same {R} o same m k v found = maps.same_map o same (maps.insert m k v) m (λ q.
    maps.get-insert o m k v q ∙ cond-same (eq_by_cmp R q k) (Some v) (maps.get m q) (λ e. ap (maps.get m) (same q k ((Equal-is (R q k)).0 e)) ∙ found))

-- a gateway comes, or becomes another
pub one-gateway : (es fs : List (Bytes × Held)) (k : Bytes) (h : Held) → ((q : Bytes) → held bytes_cmp fs q ≡ cond (is_at (bytes_cmp k) q) (Some h) (held bytes_cmp es q))
    → gateways_of fs ≡ maps.insert (gateways_of es) k h.state
one-gateway es fs k h e = one_given nat_list_cmp_total exact_bytes (map seen es) (map seen fs) k h.state
    (λ q. held-seen fs q ∙ ap (option_map state) (e q) ∙ given (is_at (bytes_cmp k) q) h (held bytes_cmp es q) ∙ ap (cond (is_at (bytes_cmp k) q) (Some h.state)) (sym (held-seen es q)))

-- a gateway that stays as it is leaves the others
pub same-gateway : (es fs : List (Bytes × Held)) (k : Bytes) (h : Held) (g : Gateway) → ((q : Bytes) → held bytes_cmp fs q ≡ cond (is_at (bytes_cmp k) q) (Some h) (held bytes_cmp es q))
    → maps.get (gateways_of es) k ≡ Some g → h.state ≡ g → gateways_of fs ≡ gateways_of es
same-gateway es fs k h g e found stays =
    one-gateway es fs k h e ∙ ap (maps.insert (gateways_of es) k) stays ∙ insert-same nat_list_cmp_total exact_bytes (gateways_of es) k g found

pub known-none : {A : Type 0} (o : Option A) → ((a : A) → o ≡ Some a → ⊥) → o ≡ None
known-none None never = refl
known-none (Some a) never = absurd (never a refl)
