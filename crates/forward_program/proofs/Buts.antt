-- Bindings but for the one at which a frame entered, and of those the ones whose lists let it out, one by one.
use Rattle.std.proofs.Common.{◌≡◌, ◌≤◌, ◌+◌, ℕ, length, length-append, arith, map, Bool, true, false, not, cond, List, [], ◌∷◌, ◌++◌, Option, Some, None, refl, sym, ap, ◌∙◌, append_assoc}
use Rattle.std.specs.List.{filter}
use Rattle.vtep_base.specs.Reading.{Bytes}
use Rattle.vtep_base.specs.declared.shapes.Direction.TheVariants.{Egress}
use Rattle.ether_frames.specs.declared.fields.Headers.{Headers}
use Rattle.forward_program.specs.declared.spots.Spot.{Spot}
use Rattle.forward_program.specs.declared.held.Held.{Held}
use Rattle.forward_program.specs.declared.held.Lists.{Lists}
use Rattle.forward_program.specs.declared.looks.Step.{Step}
use Rattle.forward_program.specs.declared.looks.Step.TheVariants as step
use Rattle.forward_program.specs.Built.{acl_rows}
use Rattle.forward_program.specs.Joins.{Port, step_of, after_step, members_from}
use Rattle.forward_program.specs.Hop.{Ways, Listed, may_pass, let_out, but, same_port}

but-append : (from : Option Port) (ps qs : List Port) → but from (ps ++ qs) ≡ but from ps ++ but from qs
but-append None ps qs = refl
but-append (Some q) [] qs = refl
but-append (Some q) (p ∷ ps) qs = by (not (same_port p q)) (but-append (Some q) ps qs)
  where
    by : (b : Bool) → but (Some q) (ps ++ qs) ≡ but (Some q) ps ++ but (Some q) qs → cond b (p ∷ but (Some q) (ps ++ qs)) (but (Some q) (ps ++ qs)) ≡ cond b (p ∷ but (Some q) ps) (but (Some q) ps) ++ but (Some q) qs
    by true e = ap (λ xs. p ∷ xs) e
    by false e = e

-- the bindings that a walk finds, with the rows of the ACLs of each
abbrev pub listed : List (Port × Lists) → List Listed
listed bs = map (λ (b : Port × Lists). (b.0, acl_rows b.1)) bs

-- a binding that is walked over
abbrev IsMember : ℕ → List (Spot × Held) → List (Spot × Held) → Port → Lists → Type 0
IsMember switch left rest p lists = members_from switch left ≡ (p, lists) ∷ members_from switch rest

is_member : (switch : ℕ) (left rest : List (Spot × Held)) (e : Spot × Held) (st : Step) (port : Bytes) (vlan : ℕ) (lists : Lists) → left ≡ e ∷ rest → st ≡ step_of switch e → st ≡ step.Member port vlan lists → IsMember switch left rest (port, vlan) lists
is_member switch left rest e st port vlan lists is known member = ap (members_from switch) is ∙ ap (λ s. after_step s (members_from switch rest)) (sym known ∙ member)

module _ (w : Ways) (h : Headers) (from : Option Port) where
  abbrev pub goes : List Listed → List Port
  goes bs = but from (let_out w h bs)

  let-cons : (b : Listed) (bs : List Listed) → let_out w h (b ∷ bs) ≡ let_out w h (b ∷ []) ++ let_out w h bs
  let-cons b bs = by (may_pass w Egress h b.1) (filter (λ (c : Listed). may_pass w Egress h c.1) bs)
    where
      by : (t : Bool) (kept : List Listed) → map (λ (c : Listed). c.0) (cond t (b ∷ kept) kept) ≡ map (λ (c : Listed). c.0) (cond t (b ∷ []) []) ++ map (λ (c : Listed). c.0) kept
      by true kept = refl
      by false kept = refl

  goes-cons : (b : Listed) (bs : List Listed) → goes (b ∷ bs) ≡ goes (b ∷ []) ++ goes bs
  goes-cons b bs = ap (but from) (let-cons b bs) ∙ but-append from (let_out w h (b ∷ [])) (let_out w h bs)

  -- one more of a list of which the rest is left
  one_other : (done now all : List Port) (b : Listed) (rest : List Listed) → done ++ goes (b ∷ rest) ≡ all → now ≡ done ++ goes (b ∷ []) → now ++ goes rest ≡ all
  one_other done now all b rest is e =
      ap (λ xs. xs ++ goes rest) e ∙ append_assoc done (goes (b ∷ [])) (goes rest) ∙ ap (λ xs. done ++ xs) (sym (goes-cons b rest)) ∙ is

  -- one more binding of a walk
  pub one_member : (switch : ℕ) (left rest : List (Spot × Held)) (e : Spot × Held) (st : Step) (port : Bytes) (vlan : ℕ) (lists : Lists) (done now all : List Port)
      → left ≡ e ∷ rest → st ≡ step_of switch e → st ≡ step.Member port vlan lists
      → done ++ goes (listed (members_from switch left)) ≡ all → now ≡ done ++ goes (((port, vlan), acl_rows lists) ∷ [])
      → now ++ goes (listed (members_from switch rest)) ≡ all
  one_member switch left rest e st port vlan lists done now all is known member before more =
      one_other done now all ((port, vlan), acl_rows lists) (listed (members_from switch rest))
      (ap (λ (bs : List (Port × Lists)). done ++ goes (listed bs)) (sym (is_member switch left rest e st port vlan lists is known member)) ∙ before) more

  -- ---- how many there are

  goes_one : (b : Listed) → length (goes (b ∷ [])) ≤ 1
  goes_one b = by (may_pass w Egress h b.1) from
    where
      by : (t : Bool) (q : Option Port) → length (but q (map (λ (c : Listed). c.0) (cond t (b ∷ []) []))) ≤ 1
      by true None = omega arith
      by false None = omega arith
      by false (Some q) = omega arith
      by true (Some q) = elim (same_port b.0 q) as (λ t. length (cond (not t) (b.0 ∷ []) []) ≤ 1) [ true ↦ omega arith | false ↦ omega arith ]

  pub one_counted : (switch : ℕ) (left rest : List (Spot × Held)) (e : Spot × Held) (st : Step) (port : Bytes) (vlan : ℕ) (lists : Lists) (done now : List Port) (n : ℕ)
      → left ≡ e ∷ rest → st ≡ step_of switch e → st ≡ step.Member port vlan lists → now ≡ done ++ goes (((port, vlan), acl_rows lists) ∷ [])
      → length done + length (members_from switch left) ≤ n → length now + length (members_from switch rest) ≤ n
  one_counted switch left rest e st port vlan lists done now n is known member more few =
      let counted : length (members_from switch left) ≡ length (members_from switch rest) + 1 = ap length (is_member switch left rest e st port vlan lists is known member) ∙ omega arith in
      let longer : length now ≡ length done + length (goes (((port, vlan), acl_rows lists) ∷ [])) = ap length more ∙ length-append done (goes (((port, vlan), acl_rows lists) ∷ [])) in
      omega (arith, goes_one ((port, vlan), acl_rows lists))

-- one binding at least is left
pub one_left : (switch : ℕ) (left rest : List (Spot × Held)) (e : Spot × Held) (st : Step) (port : Bytes) (vlan : ℕ) (lists : Lists)
    → left ≡ e ∷ rest → st ≡ step_of switch e → st ≡ step.Member port vlan lists → 1 ≤ length (members_from switch left)
one_left switch left rest e st port vlan lists is known member =
    let counted : length (members_from switch left) ≡ length (members_from switch rest) + 1 = ap length (is_member switch left rest e st port vlan lists is known member) ∙ omega arith in
    omega arith
