-- How much room the bindings of a switch take.
use Rattle.std.proofs.Common.{◌≡◌, inl, ◌≤◌, ◌<◌, ◌+◌, ℕ, Bool, true, false, cond, List, [], ◌∷◌, length, ap, arith}
use Rattle.std.specs.Prelude.{◌==◌, if◌then◌else◌}
use Rattle.std.specs.Ordering.{is_le}
use Rattle.std.specs.List.{count_by, filter}
use Rattle.std.proofs.lemmas.List.Sums.{sum_by-cons}
use Rattle.std.proofs.lemmas.List.{length-map}
use Rattle.forward_program.specs.declared.spots.Spot.{Spot}
use Rattle.forward_program.specs.declared.spots.Spot.TheVariants as spot
use Rattle.forward_program.specs.declared.spots.Part.{Part}
use Rattle.forward_program.specs.declared.spots.Part.TheVariants as part
use Rattle.forward_program.specs.declared.held.Held.{Held}
use Rattle.forward_program.specs.declared.held.Lists.{Lists}
use Rattle.forward_program.specs.declared.looks.Step.{Step}
use Rattle.forward_program.specs.declared.looks.Step.TheVariants as step
use Rattle.forward_program.specs.Built.{acl_rows}
use Rattle.forward_program.specs.Spots.{spot_cmp, Entries}
use Rattle.forward_program.specs.Joins.{Port, part_step, step_of, after_step, members_from, members_at}
use Rattle.forward_program.specs.Hop.{Listed, ways_at}
use Rattle.forward_program.specs.Hops.{Hops}
use Rattle.forward_program.specs.Rooms.{is_binding, Lacks}

module _ {A : Type 0} (p : A → Bool) where
  counted : (x : A) (xs : List A) → count_by p (x ∷ xs) ≡ cond (p x) 1 0 + count_by p xs
  counted x xs = sum_by-cons (λ y. cond (p y) 1 0) x xs

  fewer : (q : A → Bool) (xs : List A) → count_by p (filter q xs) ≤ count_by p xs
  fewer q [] = omega arith
  fewer q (x ∷ xs) =
      let rest = fewer q xs in
      let all = counted x xs in
      let kept = counted x (filter q xs) in
      elim (q x) as (λ b. count_by p (cond b (x ∷ filter q xs) (filter q xs)) ≤ count_by p (x ∷ xs)) [ true ↦ omega arith | false ↦ omega arith ]

abbrev told : Step → ℕ
told step.Itself = 0
told (step.Member port vlan lists) = 1
told step.Other = 0

none : (n : ℕ) → 0 ≤ n
none n = omega arith

same : (n : ℕ) → n ≤ n
same n = omega arith

one_told : (s : Step) → told s ≤ 1
one_told step.Itself = none 1
one_told (step.Member port vlan lists) = same 1
one_told step.Other = none 1

part_told : (switch : ℕ) (p : Part) (h : Held) → told (part_step p h) ≤ cond (is_binding (spot.Switch switch p, h)) 1 0
part_told switch part.Itself h = none 0
part_told switch (part.Member port vlan) h = one_told (part_step (part.Member port vlan) h)
part_told switch (part.Group group) h = none 0
part_told switch (part.Host mac) h = none 0

step_told : (switch : ℕ) (e : Spot × Held) → told (step_of switch e) ≤ cond (is_binding e) 1 0
step_told switch (spot.Port port vlan, h) = none 1
step_told switch (spot.Switch s p, h) =
    elim (s == switch) as (λ b. told (if b then part_step p h else step.Other) ≤ cond (is_binding (spot.Switch s p, h)) 1 0) [
      | true ↦ part_told s p h
      | false ↦ none _
    ]
step_told switch (spot.Vni vni, h) = none 0
step_told switch (spot.Set set, h) = none 0
step_told switch (spot.Locator locator, h) = none 0
step_told switch (spot.Acl acl, h) = none 0

after_few : (s : Step) (bs : List (Port × Lists)) → length (after_step s bs) ≤ told s + length bs
after_few step.Itself bs = omega arith
after_few (step.Member port vlan lists) bs = omega arith
after_few step.Other bs = omega arith

few_from : (switch : ℕ) (es : List (Spot × Held)) → length (members_from switch es) ≤ count_by is_binding es
few_from switch [] = omega arith
few_from switch (e ∷ es) = omega (arith, few_from switch es, after_few (step_of switch e) (members_from switch es), step_told switch e, counted is_binding e es)

few_at : (m : Entries) (switch : ℕ) → length (members_at m switch) ≤ count_by is_binding m.list
few_at m switch =
    omega (
      arith,
      few_from switch (filter (λ e. is_le (spot_cmp (spot.Switch switch part.Itself) e.0)) m.list),
      fewer is_binding (λ e. is_le (spot_cmp (spot.Switch switch part.Itself) e.0)) m.list,
    )

pub few_ports : (m : Entries) (switch : ℕ) → length ((ways_at m).ports switch) ≤ count_by is_binding m.list
few_ports m switch = omega (arith, few_at m switch, length-map {B = Listed} (members_at m switch) (λ (b : Port × Lists). (b.0, acl_rows b.1)))

pub lacks_ports : (m : Entries) (switch : ℕ) (out : Hops) → out.ports ≡ [] → out.port_room < length out.ports + length ((ways_at m).ports switch) → Lacks m out
lacks_ports m switch out none full =
    let empty : length out.ports ≡ 0 = ap length none in
    let few = few_ports m switch in
    inl (omega arith)
