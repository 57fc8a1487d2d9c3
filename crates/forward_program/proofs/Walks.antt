-- The bindings of a switch stand behind it.
use Rattle.std.proofs.Common.{◌≡◌, ◌⊎◌, inl, inr, ℕ, Bool, true, false, cond, T, List, [], ◌∷◌, map, refl, sym, ap, ◌∙◌, subst, nat_lt, arith}
use Rattle.std.specs.Prelude.{◌==◌}
use Rattle.std.specs.List.{filter}
use Rattle.std.specs.Ordering.{nat_cmp, ordering_then, is_le, is_lt}
use Rattle.std.specs.Cmp.{nat_cmp_total, Equal-is, eq_by_cmp_equiv}
use Rattle.std.specs.declared.cmp.Ordering.{Ordering}
use Rattle.std.specs.declared.cmp.Ordering.TheVariants.{Less, Equal, Greater}
use Rattle.std.specs.FinMap.{is_sorted}
use Rattle.std.specs.FinMap.Entries.{below_all}
use Rattle.std.proofs.lemmas.Bool.Decides.{Decides-eqb, nat_tests}
use Rattle.vtep_base.specs.Reading.{Bytes}
use Rattle.vlan_bindings.specs.Places.{place_cmp}
use Rattle.vtep_rows.proofs.Entries.{t_first, t_second, t_both, less}
use Rattle.forward_program.specs.declared.spots.Spot.{Spot}
use Rattle.forward_program.specs.declared.spots.Spot.TheVariants as spot
use Rattle.forward_program.specs.declared.spots.Part.{Part}
use Rattle.forward_program.specs.declared.spots.Part.TheVariants as part
use Rattle.forward_program.specs.declared.held.Held.{Held}
use Rattle.forward_program.specs.declared.held.Held.TheVariants as held
use Rattle.forward_program.specs.declared.held.Lists.{Lists}
use Rattle.forward_program.specs.declared.looks.Step.{Step}
use Rattle.forward_program.specs.declared.looks.Step.TheVariants as step
use Rattle.forward_program.specs.Built.{IsIn, acl_rows}
use Rattle.forward_program.specs.contracts.spots.PartOrd.TheImpl as part_order
use Rattle.forward_program.specs.Spots.{spot_cmp, Entries}
use Rattle.forward_program.specs.Joins.{Port, step_of, part_step, after_step, members_from, members_at}
use Rattle.forward_program.specs.Hop.{Listed}

abbrev part_cmp : Part → Part → Ordering
part_cmp = (part_order.ghosts).cmp

-- what is in order below all is below each
module _ {K X : Type 0} (R : K → K → Ordering) where
  pub below_in : (k : K) (es : List (K × X)) → T (below_all R k es) → (e : K × X) → IsIn e es → R k e.0 ≡ Less
  below_in k [] h e is = absurd is
  below_in k (d ∷ es) h e (inl is) = ap (λ (x : K × X). R k x.0) is ∙ less (R k d.0) (t_first (is_lt (R k d.0)) (below_all R k es) h)
  below_in k (d ∷ es) h e (inr is) = below_in k es (t_second (is_lt (R k d.0)) (below_all R k es) h) e is

module _ (s : ℕ) where
  abbrev member : Port → Lists → Spot × Held
  member p lists = (spot.Switch s (part.Member p.0 p.1), held.Lists lists)

  same_number : (t : ℕ) → (t == s) ≡ true → t ≡ s
  same_number t e = (Decides-eqb t s).0 e

  itself : (s == s) ≡ true
  itself = (Decides-eqb s s).1 refl

  -- ---- what the walk finds is there

  part_found : (q : Part) (h : Held) (p : Port) (lists : Lists) (rest : List (Port × Lists)) → IsIn (p, lists) (after_step (part_step q h) rest)
      → (◌≡◌ {A = Part × Held} (part.Member p.0 p.1, held.Lists lists) (q, h)) ⊎ IsIn (p, lists) rest
  part_found (part.Member a b) (held.Lists l) p lists rest (inl is) = inl (λ i. (part.Member ((is i).0).0 ((is i).0).1, held.Lists (is i).1))
  part_found (part.Member a b) (held.Lists l) p lists rest (inr h) = inr h
  part_found (part.Member a b) (held.Bound x l) p lists rest h = inr h
  part_found (part.Member a b) (held.Switch x l) p lists rest h = inr h
  part_found (part.Member a b) (held.Set x) p lists rest h = inr h
  part_found (part.Member a b) (held.Host x y) p lists rest h = inr h
  part_found (part.Member a b) (held.Of x) p lists rest h = inr h
  part_found (part.Member a b) (held.Members x) p lists rest h = inr h
  part_found (part.Member a b) (held.Address x) p lists rest h = inr h
  part_found (part.Member a b) (held.Rules x) p lists rest h = inr h
  part_found part.Itself x p lists rest h = inr h
  part_found (part.Group g) x p lists rest h = absurd h
  part_found (part.Host m) x p lists rest h = absurd h

  switch_found : (t : ℕ) (q : Part) (h : Held) (p : Port) (lists : Lists) (rest : List (Port × Lists)) (b : Bool) → (t == s) ≡ b → IsIn (p, lists) (after_step (cond b (part_step q h) step.Other) rest)
      → (◌≡◌ {A = Spot × Held} (member p lists) (spot.Switch t q, h)) ⊎ IsIn (p, lists) rest
  switch_found t q h p lists rest false e is = absurd is
  switch_found t q h p lists rest true e is = elim (part_found q h p lists rest is) [
    | inl same ↦ inl (λ i. (spot.Switch (sym (same_number t e) i) (same i).0, (same i).1))
    | inr later ↦ inr later
  ]

  step_found : (e : Spot × Held) (p : Port) (lists : Lists) (rest : List (Port × Lists)) → IsIn (p, lists) (after_step (step_of s e) rest) → (◌≡◌ {A = Spot × Held} (member p lists) e) ⊎ IsIn (p, lists) rest
  step_found (spot.Switch t q, h) p lists rest is = switch_found t q h p lists rest (t == s) refl is
  step_found (spot.Port a b, h) p lists rest is = absurd is
  step_found (spot.Vni n, h) p lists rest is = absurd is
  step_found (spot.Set n, h) p lists rest is = absurd is
  step_found (spot.Locator n, h) p lists rest is = absurd is
  step_found (spot.Acl n, h) p lists rest is = absurd is

  found : (es : List (Spot × Held)) (p : Port) (lists : Lists) → IsIn (p, lists) (members_from s es) → IsIn (member p lists) es
  found [] p lists is = absurd is
  found (e ∷ es) p lists is = elim (step_found e p lists (members_from s es) is) [ inl here ↦ inl here | inr later ↦ inr (found es p lists later) ]

  from_filter : {A : Type 0} (f : A → Bool) (x : A) (xs : List A) → IsIn x (filter f xs) → IsIn x xs
  from_filter f x [] h = absurd h
  from_filter f x (y ∷ xs) h = by (f y) h (from_filter f x xs)
    where
      by : (b : Bool) → IsIn x (cond b (y ∷ filter f xs) (filter f xs)) → (IsIn x (filter f xs) → IsIn x xs) → IsIn x (y ∷ xs)
      by true (inl e) rest = inl e
      by true (inr g) rest = inr (rest g)
      by false g rest = inr (rest g)

  pub member_there : (m : Entries) (p : Port) (lists : Lists) → IsIn (p, lists) (members_at m s) → IsIn (member p lists) m.list
  member_there m p lists h = from_filter _ _ m.list (found _ p lists h)

  -- ---- what is there, the walk finds

  abbrev not_before : Spot × Held → Bool
  not_before e = is_le (spot_cmp (spot.Switch s part.Itself) e.0)

  tied : nat_cmp s s ≡ Equal
  tied = (Equal-is (nat_cmp s s)).0 ((eq_by_cmp_equiv nat_cmp_total).refl s)

  same_switch : (t : ℕ) (x y : Ordering) → is_le (ordering_then (nat_cmp s t) x) ≡ true → ordering_then (nat_cmp t s) y ≡ Less → t ≡ s
  same_switch t x y after before = by (t == s) refl
    where
      later : (b : Bool) → nat_lt t s ≡ b → (t == s) ≡ false → t ≡ s
      later false e d =
          let clash : Greater ≡ Less = (λ i. ordering_then (cond (sym e i) Less (cond (sym d i) Equal Greater)) y) ∙ before in
          cc
      later true e d =
          let back : nat_lt s t ≡ false = grind (arith, nat_tests, e) in
          let apart : (s == t) ≡ false = grind (arith, nat_tests, d) in
          let clash : false ≡ true = (λ i. is_le (ordering_then (cond (sym back i) Less (cond (sym apart i) Equal Greater)) x)) ∙ after in
          cc

      by : (b : Bool) → (t == s) ≡ b → t ≡ s
      by true e = same_number t e
      by false e = later (nat_lt t s) refl e

  abbrev Other : Part → Held → Type 0
  Other q h = part_step q h ≡ step.Other

  between : (q : Part) (h : Held) (p : Port) → part_cmp q (part.Member p.0 p.1) ≡ Less → Other q h → ⊥
  between part.Itself h p e o = cc
  between (part.Member a b) (held.Lists l) p e o = cc
  between (part.Member a b) (held.Bound x l) p e o = cc
  between (part.Member a b) (held.Switch x l) p e o = cc
  between (part.Member a b) (held.Set x) p e o = cc
  between (part.Member a b) (held.Host x y) p e o = cc
  between (part.Member a b) (held.Of x) p e o = cc
  between (part.Member a b) (held.Members x) p e o = cc
  between (part.Member a b) (held.Address x) p e o = cc
  between (part.Member a b) (held.Rules x) p e o = cc
  between (part.Group g) h p e o = cc
  between (part.Host m) h p e o = cc

  not_other : (e : Spot × Held) (p : Port) → not_before e ≡ true → spot_cmp e.0 (spot.Switch s (part.Member p.0 p.1)) ≡ Less → step_of s e ≡ step.Other → ⊥
  not_other (spot.Switch t q, h) p after before o =
      let same : t ≡ s = same_switch t (part_cmp part.Itself q) (part_cmp q (part.Member p.0 p.1)) after before in
      between q h p
      (ap (λ r. ordering_then r (part_cmp q (part.Member p.0 p.1))) (sym tied) ∙ ap (λ n. ordering_then (nat_cmp n s) (part_cmp q (part.Member p.0 p.1))) (sym same) ∙ before)
      (ap (λ b. cond b (part_step q h) step.Other) (sym itself) ∙ ap (λ n. cond (n == s) (part_step q h) step.Other) (sym same) ∙ o)
  not_other (spot.Port a b, h) p after before o = cc
  not_other (spot.Vni n, h) p after before o = cc
  not_other (spot.Set n, h) p after before o = cc
  not_other (spot.Locator n, h) p after before o = cc
  not_other (spot.Acl n, h) p after before o = cc

  member_after : (p : Port) (lists : Lists) → not_before (member p lists) ≡ true
  member_after p lists = ap (λ r. is_le (ordering_then r Less)) tied

  here : (p : Port) (lists : Lists) (rest : List (Port × Lists)) → IsIn (p, lists) (after_step (step_of s (member p lists)) rest)
  here p lists rest = subst (λ b. IsIn (p, lists) (after_step (cond b (step.Member p.0 p.1 lists) step.Other) rest)) (sym itself) (inl refl)

  goes_on : (p : Port) (lists : Lists) (st : Step) (rest : List (Port × Lists)) → (st ≡ step.Other → ⊥) → IsIn (p, lists) rest → IsIn (p, lists) (after_step st rest)
  goes_on p lists step.Itself rest o h = h
  goes_on p lists (step.Member a b l) rest o h = inr h
  goes_on p lists step.Other rest o h = absurd (o refl)

  walked : (es : List (Spot × Held)) (p : Port) (lists : Lists) → T (is_sorted spot_cmp es) → IsIn (member p lists) es → IsIn (p, lists) (members_from s (filter not_before es))
  walked [] p lists sorted h = absurd h
  walked (e ∷ es) p lists sorted (inl is) =
      subst (λ (d : Spot × Held). IsIn (p, lists) (members_from s (cond (not_before d) (d ∷ filter not_before es) (filter not_before es)))) is
      (subst (λ b. IsIn (p, lists) (members_from s (cond b (member p lists ∷ filter not_before es) (filter not_before es)))) (sym (member_after p lists)) (here p lists (members_from s (filter not_before es))))
  walked (e ∷ es) p lists sorted (inr h) = by (not_before e) refl (walked es p lists (t_second (below_all spot_cmp e.0 es) (is_sorted spot_cmp es) sorted) h)
    where
      by : (b : Bool) → not_before e ≡ b → IsIn (p, lists) (members_from s (filter not_before es)) → IsIn (p, lists) (members_from s (cond b (e ∷ filter not_before es) (filter not_before es)))
      by false after rest = rest
      by true after rest =
          goes_on p lists (step_of s e) (members_from s (filter not_before es))
          (not_other e p after (below_in spot_cmp e.0 es (t_first (below_all spot_cmp e.0 es) (is_sorted spot_cmp es) sorted) (member p lists) h)) rest

  pub there_member : (m : Entries) (p : Port) (lists : Lists) → IsIn (member p lists) m.list → IsIn (p, lists) (members_at m s)
  there_member m p lists h = walked m.list p lists m.sorted h

  -- ---- the walk is in order

  abbrev pub marked : List (Port × Lists) → List Listed
  marked bs = map (λ (b : Port × Lists). (b.0, acl_rows b.1)) bs

  so_less : (r : Ordering) → r ≡ Less → T (is_lt r)
  so_less r e = subst (λ q. T (is_lt q)) (sym e) tt

  all_above : (p : Port) (bs : List (Port × Lists)) → ((b : Port × Lists) → IsIn b bs → place_cmp p b.0 ≡ Less) → T (below_all place_cmp p (marked bs))
  all_above p [] h = tt
  all_above p (b ∷ bs) h = t_both (is_lt (place_cmp p b.0)) (below_all place_cmp p (marked bs)) (so_less (place_cmp p b.0) (h b (inl refl))) (all_above p bs (λ c g. h c (inr g)))

  part_order_is : (p q : Port) → spot_cmp (spot.Switch s (part.Member p.0 p.1)) (spot.Switch s (part.Member q.0 q.1)) ≡ Less → place_cmp p q ≡ Less
  part_order_is p q e = ap (λ r. ordering_then r (place_cmp p q)) (sym tied) ∙ e

  goes_in_order : (st : Step) (rest : List (Port × Lists)) → ((port : Bytes) (vlan : ℕ) (lists : Lists) → st ≡ step.Member port vlan lists → T (below_all place_cmp (port, vlan) (marked rest))) → T (is_sorted place_cmp (marked rest))
      → T (is_sorted place_cmp (marked (after_step st rest)))
  goes_in_order step.Itself rest above sorted = sorted
  goes_in_order (step.Member port vlan lists) rest above sorted = t_both (below_all place_cmp (port, vlan) (marked rest)) (is_sorted place_cmp (marked rest)) (above port vlan lists refl) sorted
  goes_in_order step.Other rest above sorted = tt

  walked_in_order : (es : List (Spot × Held)) → T (is_sorted spot_cmp es) → T (is_sorted place_cmp (marked (members_from s (filter not_before es))))
  walked_in_order [] sorted = tt
  walked_in_order (e ∷ es) sorted = by (not_before e) (walked_in_order es (t_second (below_all spot_cmp e.0 es) (is_sorted spot_cmp es) sorted))
    where
      above : (port : Bytes) (vlan : ℕ) (lists : Lists) → step_of s e ≡ step.Member port vlan lists → (b : Port × Lists) → IsIn b (members_from s (filter not_before es)) → place_cmp (port, vlan) b.0 ≡ Less
      above port vlan lists is b h =
          let here : ◌≡◌ {A = Spot × Held} (member (port, vlan) lists) e = alone (step_found e (port, vlan) lists [] (subst (λ st. IsIn ((port, vlan), lists) (after_step st [])) (sym is) (inl refl))) in
          let less_than : spot_cmp e.0 (spot.Switch s (part.Member b.0.0 b.0.1)) ≡ Less =
          below_in spot_cmp e.0 es (t_first (below_all spot_cmp e.0 es) (is_sorted spot_cmp es) sorted) (member b.0 b.1) (from_filter not_before (member b.0 b.1) es (found (filter not_before es) b.0 b.1 h)) in
          part_order_is (port, vlan) b.0 (ap (λ (x : Spot × Held). spot_cmp x.0 (spot.Switch s (part.Member b.0.0 b.0.1))) here ∙ less_than)
        where
          alone : {A : Type 0} → A ⊎ ⊥ → A
          alone (inl x) = x
          alone (inr h) = absurd h

      by : (b : Bool) → T (is_sorted place_cmp (marked (members_from s (filter not_before es)))) → T (is_sorted place_cmp (marked (members_from s (cond b (e ∷ filter not_before es) (filter not_before es)))))
      by false rest = rest
      by true rest = goes_in_order (step_of s e) (members_from s (filter not_before es)) (λ port vlan lists is. all_above (port, vlan) (members_from s (filter not_before es)) (above port vlan lists is)) rest

  pub members_in_order : (m : Entries) → T (is_sorted place_cmp (marked (members_at m s)))
  members_in_order m = walked_in_order m.list m.sorted
