-- What stands at the places of addresses with a learnt list.
use Rattle.std.proofs.Common.{◌≡◌, ◌⊎◌, inl, inr, ℕ, Bool, true, false, not, cond, ◌||◌, List, [], ◌∷◌, map, Option, Some, None, refl, sym, ap, ◌∙◌, subst}
use Rattle.std.specs.Prelude.{◌==◌}
use Rattle.std.specs.List.{list_any}
use Rattle.std.specs.Option.{option_map}
use Rattle.std.specs.Ordering.{eq_by_cmp}
use Rattle.std.specs.Cmp.{Equal-is, eq_by_cmp_equiv, first_so, second_so}
use Rattle.std.proofs.lemmas.Bool.Decides.{Decides-eqb}
use Rattle.vtep_base.specs.Maps as maps
use Rattle.vtep_rows.proofs.Entries.{both, same_some}
use Rattle.mac_learning.specs.declared.Learnt.{Learnt}
use Rattle.mac_learning.specs.Learning.{is_of, same_address, is_once, IsOnce, found}
use Rattle.mac_learning.proofs.KeptLemmas.{found_is, of_address}
use Rattle.forward_program.specs.declared.spots.Spot.{Spot}
use Rattle.forward_program.specs.declared.spots.Spot.TheVariants as spot
use Rattle.forward_program.specs.declared.spots.Part.TheVariants as part
use Rattle.forward_program.specs.declared.held.Held.{Held}
use Rattle.forward_program.specs.declared.held.Held.TheVariants as held
use Rattle.forward_program.specs.Built.{IsIn}
use Rattle.forward_program.specs.Spots.{Entries, spot_cmp, spot_total}
use Rattle.forward_program.specs.Joins.{Port}
use Rattle.forward_program.specs.Hosts.{port_of, learnt_port, host, there_in, forgotten_by, with_place, with_places, learnt_place, with_learnt}
use Rattle.forward_program.proofs.InLists.{in_map, map_in}
use Rattle.forward_program.proofs.MapLists.{in_or_not, apart}
use Rattle.forward_program.proofs.SpotOrder.{spot_exact}

-- ---- one address

-- without the place where it is learnt
abbrev pub unset : Option Held → Option Held
unset (Some (held.Host (Some p) None)) = None
unset (Some (held.Host (Some p) (Some locator))) = Some (held.Host None (Some locator))
unset x = x

-- what stands at a place once it is said where the address is learnt
abbrev pub put_right : Option Port → Option Held → Option Held
put_right (Some p) x = Some (held.Host (Some p) (there_in x))
put_right None x = unset x

stays : (m : Entries) (k : Spot) (o : Option Held) → maps.get m k ≡ o → (q : Spot) → maps.get m q ≡ cond (eq_by_cmp spot_cmp q k) o (maps.get m q)
stays m k o is q = by (eq_by_cmp spot_cmp q k) refl
  where
    by : (b : Bool) → eq_by_cmp spot_cmp q k ≡ b → maps.get m q ≡ cond b o (maps.get m q)
    by true tie = ap (maps.get m) (spot_exact q k ((Equal-is (spot_cmp q k)).0 tie)) ∙ is
    by false tie = refl

get-forgotten : (m : Entries) (k : Spot) (o : Option Held) → maps.get m k ≡ o → (q : Spot) → maps.get (forgotten_by m k o) q ≡ cond (eq_by_cmp spot_cmp q k) (unset o) (maps.get m q)
get-forgotten m k (Some (held.Host (Some p) None)) is q = maps.get-remove spot_total m k q
get-forgotten m k (Some (held.Host (Some p) (Some locator))) is q = maps.get-insert spot_total m k (held.Host None (Some locator)) q
get-forgotten m k (Some (held.Host None there)) is q = stays m k (Some (held.Host None there)) is q
get-forgotten m k None is q = stays m k None is q
get-forgotten m k (Some h) is q = stays m k (Some h) is q

get-placed : (m : Entries) (k : Spot) (place : Option Port) (q : Spot) → maps.get (with_place m k place) q ≡ cond (eq_by_cmp spot_cmp q k) (put_right place (maps.get m k)) (maps.get m q)
get-placed m k (Some p) q = maps.get-insert spot_total m k (held.Host (Some p) (there_in (maps.get m k))) q
get-placed m k None q = get-forgotten m k (maps.get m k) refl q

placed_there : (m : Entries) (k : Spot) (place : Option Port) → maps.get (with_place m k place) k ≡ put_right place (maps.get m k)
placed_there m k place = get-placed m k place k ∙ ap (λ b. cond b (put_right place (maps.get m k)) (maps.get m k)) ((eq_by_cmp_equiv spot_total).refl k)

placed_apart : (m : Entries) (k : Spot) (place : Option Port) (q : Spot) → (q ≡ k → ⊥) → maps.get (with_place m k place) q ≡ maps.get m q
placed_apart m k place q other = get-placed m k place q ∙ ap (λ b. cond b (put_right place (maps.get m k)) (maps.get m q)) (apart spot_total spot_exact q k other)

-- ---- several

unset_twice : (x : Option Held) → unset (unset x) ≡ unset x
unset_twice (Some (held.Host (Some p) None)) = refl
unset_twice (Some (held.Host (Some p) (Some locator))) = refl
unset_twice (Some (held.Host None there)) = refl
unset_twice None = refl
unset_twice (Some h) = refl

right_twice : (place : Option Port) (x : Option Held) → put_right place (put_right place x) ≡ put_right place x
right_twice (Some p) x = refl
right_twice None x = unset_twice x

abbrev pub spots : List (Spot × Option Port) → List Spot
spots xs = map (λ x. x.0) xs

pub places_out : (xs : List (Spot × Option Port)) (m : Entries) (k : Spot) → (IsIn k (spots xs) → ⊥) → maps.get (with_places m xs) k ≡ maps.get m k
places_out [] m k h = refl
places_out (x ∷ xs) m k h = places_out xs (with_place m x.0 x.1) k (λ g. h (inr g)) ∙ placed_apart m x.0 x.1 k (λ e. h (inl e))

pub places_in : (xs : List (Spot × Option Port)) (m : Entries) (k : Spot) (place : Option Port) → ((x : Spot × Option Port) → IsIn x xs → x.0 ≡ k → x.1 ≡ place) → IsIn k (spots xs)
    → maps.get (with_places m xs) k ≡ put_right place (maps.get m k)
places_in [] m k place all is = absurd is
places_in (x ∷ xs) m k place all is = by (in_or_not spot_total spot_exact k (spots xs)) (in_or_not spot_total spot_exact k (x.0 ∷ [])) is (places_in xs (with_place m x.0 x.1) k place (λ y h e. all y (inr h) e))
  where
    here : k ≡ x.0 → maps.get (with_place m x.0 x.1) k ≡ put_right place (maps.get m k)
    here e = ap (maps.get (with_place m x.0 x.1)) e ∙ placed_there m x.0 x.1 ∙ (λ i. put_right (all x (inl refl) (sym e) i) (maps.get m (sym e i)))

    by : IsIn k (spots xs) ⊎ (IsIn k (spots xs) → ⊥) → IsIn k (x.0 ∷ []) ⊎ (IsIn k (x.0 ∷ []) → ⊥) → IsIn k (x.0 ∷ spots xs)
        → (IsIn k (spots xs) → maps.get (with_places (with_place m x.0 x.1) xs) k ≡ put_right place (maps.get (with_place m x.0 x.1) k)) → maps.get (with_places (with_place m x.0 x.1) xs) k ≡ put_right place (maps.get m k)
    by (inl later) (inl (inl e)) h rest = rest later ∙ ap (put_right place) (here e) ∙ right_twice place (maps.get m k)
    by (inl later) (inl (inr wrong)) h rest = absurd wrong
    by (inl later) (inr other) h rest = rest later ∙ ap (put_right place) (placed_apart m x.0 x.1 k (λ e. other (inl e)))
    by (inr never) o (inl e) rest = places_out xs (with_place m x.0 x.1) k never ∙ here e
    by (inr never) o (inr later) rest = absurd (never later)

-- ---- the places of addresses

abbrev pub is_host : Spot → Bool
is_host (spot.Switch s (part.Host a)) = true
is_host _ = false

abbrev switch_of : Spot → ℕ
switch_of (spot.Switch s p) = s
switch_of _ = 0

abbrev address_of : Spot → ℕ
address_of (spot.Switch s (part.Host a)) = a
address_of _ = 0

pub host_same : (s a t b : ℕ) → host s a ≡ host t b → (s ≡ t) × (a ≡ b)
host_same s a t b e = (ap switch_of e, ap address_of e)

pub all_hosts : {A : Type 0} (f : A → Spot × Option Port) → ((x : A) → is_host (f x).0 ≡ true) → (xs : List A) (k : Spot) → IsIn k (spots (map f xs)) → is_host k ≡ true
all_hosts f hosts [] k h = absurd h
all_hosts f hosts (x ∷ xs) k (inl e) = ap is_host e ∙ hosts x
all_hosts f hosts (x ∷ xs) k (inr h) = all_hosts f hosts xs k h

-- ---- the learnt list

pub found_entry : (s a : ℕ) (l : List Learnt) (e : Learnt) → found s a l ≡ Some e → IsIn e l
found_entry s a [] e is = cc
found_entry s a (x ∷ l) e is = by (is_of s a x) is (found_entry s a l e)
  where
    by : (b : Bool) → cond b (Some x) (found s a l) ≡ Some e → (found s a l ≡ Some e → IsIn e l) → IsIn e (x ∷ l)
    by true h rest = inl (sym (same_some x e h))
    by false h rest = inr (rest h)

pub found_address : (s a : ℕ) (l : List Learnt) (e : Learnt) → found s a l ≡ Some e → (e.switch ≡ s) × (e.mac ≡ a)
found_address s a l e is = let x = of_address s a e (found_is s a l e is) in (sym x.0, sym x.1)

of_itself : (e : Learnt) → is_of e.switch e.mac e ≡ true
of_itself e = both (e.switch == e.switch) (e.mac == e.mac) ((Decides-eqb e.switch e.switch).1 refl) ((Decides-eqb e.mac e.mac).1 refl)

none_of : {A : Type 0} (p : A → Bool) (x : A) (xs : List A) → list_any p xs ≡ false → IsIn x xs → p x ≡ true → ⊥
none_of p x [] h is e = is
none_of p x (y ∷ xs) h is e = by (p y) refl h is (λ g later. none_of p x xs g later e)
  where
    by : (b : Bool) → p y ≡ b → (b || list_any p xs) ≡ false → IsIn x (y ∷ xs) → (list_any p xs ≡ false → IsIn x xs → ⊥) → ⊥
    by true t g i rest = cc
    by false t g (inl same) rest = let clash : false ≡ true = sym t ∙ ap p (sym same) ∙ e in cc
    by false t g (inr later) rest = rest g later

not_so : (b : Bool) → not b ≡ true → b ≡ false
not_so true e = sym e
not_so false e = refl

pub entry_found : (l : List Learnt) → IsOnce l → (e : Learnt) → IsIn e l → found e.switch e.mac l ≡ Some e
entry_found [] once e is = absurd is
entry_found (x ∷ l) once e is = by (is_of e.switch e.mac x) refl is (entry_found l (second_so (not (list_any (same_address x) l)) (is_once l) once) e)
  where
    by : (b : Bool) → is_of e.switch e.mac x ≡ b → IsIn e (x ∷ l) → (IsIn e l → found e.switch e.mac l ≡ Some e) → cond b (Some x) (found e.switch e.mac l) ≡ Some e
    by b t (inl same) rest = ap (λ c. cond c (Some x) (found e.switch e.mac l)) (sym t ∙ ap (is_of e.switch e.mac) (sym same) ∙ of_itself e) ∙ ap Some (sym same)
    by true t (inr later) rest =
        let a = of_address e.switch e.mac x t in
        absurd (none_of (same_address x) e l (not_so (list_any (same_address x) l) (first_so (not (list_any (same_address x) l)) (is_once l) once)) later ((λ i. is_of (sym a.0 i) (sym a.1 i) e) ∙ of_itself e))
    by false t (inr later) rest = rest later

-- ---- with the whole list

-- beside what the rows say
abbrev pub merged : Option Port → Option Held → Option Held
merged None x = x
merged (Some p) x = Some (held.Host (Some p) (there_in x))

module _ (l : List Learnt) (once : IsOnce l) (m : Entries) where
  pub with_plain : (k : Spot) → is_host k ≡ false → maps.get (with_learnt l m) k ≡ maps.get m k
  with_plain k out = places_out (map learnt_place l) m k (λ h. let clash : false ≡ true = sym out ∙ all_hosts learnt_place (λ e. refl) l k h in cc)

  entry_at : (s a : ℕ) (x : Spot × Option Port) → IsIn x (map learnt_place l) → x.0 ≡ host s a → (e : Learnt) × (found s a l ≡ Some e) × (x.1 ≡ Some (port_of e))
  entry_at s a x is at =
      let e = in_map learnt_place x l is in
      let same = host_same e.0.switch e.0.mac s a (ap (λ (y : Spot × Option Port). y.0) (sym e.2) ∙ at) in
      (e.0, (λ i. found (sym same.0 i) (sym same.1 i) l) ∙ entry_found l once e.0 e.1, ap (λ (y : Spot × Option Port). y.1) e.2)

  listed_at : (s a : ℕ) → IsIn (host s a) (spots (map learnt_place l)) → (e : Learnt) × (found s a l ≡ Some e)
  listed_at s a h =
      let x = in_map (λ (y : Spot × Option Port). y.0) (host s a) (map learnt_place l) h in
      let e = entry_at s a x.0 x.1 (sym x.2) in
      (e.0, e.1)

  pub with_host : (s a : ℕ) → maps.get (with_learnt l m) (host s a) ≡ merged (learnt_port l s a) (maps.get m (host s a))
  with_host s a = by (found s a l) refl
    where
      by : (o : Option Learnt) → found s a l ≡ o → maps.get (with_learnt l m) (host s a) ≡ merged (option_map port_of o) (maps.get m (host s a))
      by None none = places_out (map learnt_place l) m (host s a) (λ h. let e = listed_at s a h in let clash : None ≡ Some e.0 = sym none ∙ e.1 in cc)
      by (Some e) is =
          let same = found_address s a l e is in
          places_in (map learnt_place l) m (host s a) (Some (port_of e))
          (λ x h at. let d = entry_at s a x h at in d.2 ∙ ap (option_map port_of) (sym d.1 ∙ is))
          (map_in (λ (y : Spot × Option Port). y.0) (host s a, Some (port_of e)) (map learnt_place l)
          (subst (λ (k : Spot). IsIn (k, Some (port_of e)) (map learnt_place l)) (λ i. host (same.0 i) (same.1 i)) (map_in learnt_place e l (found_entry s a l e is))))
