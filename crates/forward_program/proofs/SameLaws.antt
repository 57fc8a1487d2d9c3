-- What is the same at the places of a binding is equal.
use Rattle.std.proofs.Common.{◌≡◌, ℕ, true, Option, Some, None, refl, ap}
use Rattle.std.specs.Prelude.{◌==◌}
use Rattle.std.proofs.lemmas.Bool.Decides.{Decides-eqb}
use Rattle.std.specs.Cmp.{first_so, second_so}
use Rattle.forward_program.specs.declared.held.Lists.{Lists}
use Rattle.forward_program.specs.declared.held.Held.{Held}
use Rattle.forward_program.specs.declared.held.Held.TheVariants as held
use Rattle.forward_program.specs.Same.{same_number, same_lists, same_binding}

pub number_same : (a b : Option ℕ) → same_number a b ≡ true → a ≡ b
number_same None None e = refl
number_same None (Some b) e = cc
number_same (Some a) None e = cc
number_same (Some a) (Some b) e = ap Some ((Decides-eqb a b).0 e)

lists_same : (a b : Lists) → same_lists a b ≡ true → a ≡ b
lists_same a b e =
    let all = number_same a.all b.all (first_so (same_number a.all b.all) (same_number a.own b.own) e) in
    let own = number_same a.own b.own (second_so (same_number a.all b.all) (same_number a.own b.own) e) in
    λ i. record { all = all i; own = own i }

pub binding_same : (a b : Held) → same_binding a b ≡ true → a ≡ b
binding_same (held.Bound s a) (held.Bound t b) e =
    let switch = (Decides-eqb s t).0 (first_so (s == t) (same_lists a b) e) in
    let lists = lists_same a b (second_so (s == t) (same_lists a b) e) in
    λ i. held.Bound (switch i) (lists i)
binding_same (held.Lists a) (held.Lists b) e = ap held.Lists (lists_same a b e)
binding_same a b e = cc
