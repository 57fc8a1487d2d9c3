-- What the calls tell, by the laws of the joins.
use Rattle.std.proofs.Common.{◌≡◌, Result, Ok, Err, Option, Some, ℕ, List, sym, ap, ◌∙◌, subst}
use Rattle.std.specs.Prelude.{IfOk, ◌↔◌}
use Rattle.vtep_base.specs.declared.answers.OutOfMemory.{OutOfMemory}
use Rattle.vtep_rows.specs.Rows.{Rows, IsRows}
use Rattle.vtep_rows.specs.Sound.{Sound}
use Rattle.mac_learning.specs.declared.Learnt.{Learnt}
use Rattle.mac_learning.specs.Learning.{IsOnce}
use Rattle.forward_program.specs.declared.facts.Fact.{Fact}
use Rattle.forward_program.specs.declared.facts.Fact.TheVariants as fact
use Rattle.forward_program.specs.declared.facts.Place.{Place}
use Rattle.forward_program.specs.Built.{IsIn, AreApart, built}
use Rattle.forward_program.specs.Spots.{Entries}
use Rattle.forward_program.specs.Shown.{shown}
use Rattle.forward_program.specs.Joins.{found_at, facts_of}
use Rattle.forward_program.proofs.FactLaws.{facts_built, built_facts}
use Rattle.forward_program.proofs.Once.{facts_apart, found_built, built_found}

pub once_told : (a : Result (List Fact) OutOfMemory) (m : Entries) → IfOk a (λ facts. facts ≡ facts_of m) → IfOk a AreApart
once_told (Ok facts) m is = subst AreApart (sym is) (facts_apart m)
once_told (Err e) m is = tt

pub state_told : (r : Rows) (learnt : List Learnt) → IsRows r → Sound r → IsOnce learnt → (m : Entries) → m ≡ shown r learnt → (f : Fact) → IsIn f (facts_of m) ↔ IsIn f (built r learnt)
state_told r learnt rows sound once m is f = subst (λ (n : Entries). IsIn f (facts_of n) ↔ IsIn f (built r learnt)) (sym is) (facts_built r learnt rows sound once f, built_facts r learnt rows sound once f)

pub built_told : (a : Result (List Fact) OutOfMemory) (m : Entries) (r : Rows) (learnt : List Learnt) → IsRows r → Sound r → IsOnce learnt → m ≡ shown r learnt → IfOk a (λ facts. facts ≡ facts_of m)
    → IfOk a (λ facts. (f : Fact) → IsIn f facts ↔ IsIn f (built r learnt))
built_told (Ok facts) m r learnt rows sound once is told = λ f. subst (λ (fs : List Fact). IsIn f fs ↔ IsIn f (built r learnt)) (sym told) (state_told r learnt rows sound once m is f)
built_told (Err e) m r learnt rows sound once is told = tt

pub found_told : (m : Entries) (s a : ℕ) (o : Option Place) (r : Rows) (learnt : List Learnt) → IsRows r → Sound r → IsOnce learnt → m ≡ shown r learnt → o ≡ found_at m s a → (place : Place) → (o ≡ Some place) ↔ IsIn (fact.Mac s a place) (built r learnt)
found_told m s a o r learnt rows sound once is found place =
    let same : o ≡ found_at (shown r learnt) s a = found ∙ ap (λ (n : Entries). found_at n s a) is in
    (λ e. found_built r learnt rows sound once s a place (sym same ∙ e), λ h. same ∙ built_found r learnt rows sound once s a place h)
