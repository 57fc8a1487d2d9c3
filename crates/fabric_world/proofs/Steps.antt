-- What steps that may refuse give, where they do not.
use Rattle.std.proofs.Common.{◌≡◌, ℕ, Bool, true, false, ap, Option, Some, None, Result, Ok, Err, refl}
use Rattle.std.specs.Prelude.{⊤}
use Rattle.vtep_base.specs.Chains.{◌>>=◌, or_refuse}
use Rattle.vtep_base.specs.declared.answers.LineReason.{LineReason}
use Rattle.vtep_gateway.specs.declared.EventRefused.{EventRefused}
use Rattle.vtep_gateway.specs.Gateway.{Step}
use Rattle.fabric_world.specs.declared.Fault.{Fault}
use Rattle.fabric_world.specs.Intentions.{refuse_if}
use Rattle.fabric_world.specs.Happenings.{unless_refused}

pub same_ok : {A E : Type 0} (x y : A) → ◌≡◌ {A = Result A E} (Ok x) (Ok y) → x ≡ y
same_ok x y e = cc

-- the two of a chain
pub bind_ok : {A B E : Type 0} (r : Result A E) (f : A → Result B E) (y : B) → (r >>= f) ≡ Ok y → (x : A) × (r ≡ Ok x) × (f x ≡ Ok y)
bind_ok (Ok x) f y e = (x, refl, e)
bind_ok (Err why) f y e = absurd (cc)

pub is_there : {A E : Type 0} (why : E) (o : Option A) (x : A) → or_refuse why o ≡ Ok x → o ≡ Some x
is_there why None x e = absurd (cc)
is_there why (Some y) x e = ap Some (same_ok y x e)

-- a test that refuses was passed
pub past : {A : Type 0} (b : Bool) (place : ℕ) (why : LineReason) (f : ⊤ → Result A Fault) (y : A) → (refuse_if b place why >>= f) ≡ Ok y → f tt ≡ Ok y
past true place why f y e = absurd (cc)
past false place why f y e = e

pub is_accepted : (o : Option EventRefused) (s t : Step) → unless_refused o s ≡ Ok t → s ≡ t
is_accepted None s t e = same_ok s t e
is_accepted (Some why) s t e = absurd (cc)
