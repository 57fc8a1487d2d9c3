-- Each front of a form can be completed.
use Rattle.std.proofs.Common.{◌≡◌, ℕ, zero, suc, ◌+◌, ◌-◌, ◌*◌, ◌%◌, Bool, true, false, ◌==◌, if◌then◌else◌, [], ◌∷◌, Option, Some, None, refl, codes, arith}
use Rattle.std.proofs.lemmas.Bool.Decides.{nat_tests}
use Rattle.vtep_base.specs.Reading.{Bytes}
use Rattle.vtep_base.specs.Texts.{number_step, number_done, dotted_step, dotted_done, name_step, name_done}
use Rattle.vtep_base.specs.Addresses.{mac_step, mac_done}
use Rattle.vtep_base.specs.declared.numbers.Octets.{Octets}
use Rattle.vtep_base.specs.declared.numbers.Octets.TheVariants.{Zero, One, Two, Three}
use Rattle.vtep_base.proofs.LongestFront.{Completes, Reads}

with_zero : (most j : ℕ) → Reads number_step number_done (record { most = most; value = None }) (48 ∷ []) j
with_zero most j = grind (arith, nat_tests)

number_by : (most : ℕ) (o : Option ℕ) → (more : Bytes) × ((j : ℕ) → Reads number_step number_done (record { most = most; value = o }) more j)
number_by most None = (48 ∷ [], with_zero most)
number_by most (Some v) = ([], λ j. refl)

pub number_completes : Completes number_step number_done
number_completes s = number_by s.most s.value

dotted_by : (finished : Octets) (octet : Option ℕ) → (more : Bytes) × ((j : ℕ) → Reads dotted_step dotted_done (record { finished = finished; octet = octet }) more j)
dotted_by Zero None = (codes "0.0.0.0", λ j. refl)
dotted_by Zero (Some a) = (codes ".0.0.0", λ j. refl)
dotted_by (One a) None = (codes "0.0.0", λ j. refl)
dotted_by (One a) (Some b) = (codes ".0.0", λ j. refl)
dotted_by (Two a b) None = (codes "0.0", λ j. refl)
dotted_by (Two a b) (Some c) = (codes ".0", λ j. refl)
dotted_by (Three a b c) None = (codes "0", λ j. refl)
dotted_by (Three a b c) (Some d) = ([], λ j. refl)

pub dotted_completes : Completes dotted_step dotted_done
dotted_completes s = dotted_by s.finished s.octet

pub name_completes : Completes name_step name_done
name_completes [] = (codes "a", λ j. refl)
name_completes (c ∷ cs) = ([], λ j. grind (arith, nat_tests))

-- zeros, and colons at every third place
abbrev rest : ℕ → Bytes
rest zero = []
rest (suc left) = (if suc left % 3 == 0 then 58 else 48) ∷ rest left

mac_more : (left number j : ℕ) (b : Bool) → (suc left % 3 == 0) ≡ b → ((n i : ℕ) → Reads mac_step mac_done (left, n) (rest left) i) → Reads mac_step mac_done (suc left, number) ((if b then 58 else 48) ∷ rest left) j
mac_more left number j b e ih =
    let some : (suc left == 0) ≡ false = grind (arith, nat_tests) in
    let fewer : suc left - 1 ≡ left = omega arith in
    by b some fewer e
  where
    by : (b : Bool) → (suc left == 0) ≡ false → suc left - 1 ≡ left → (suc left % 3 == 0) ≡ b → Reads mac_step mac_done (suc left, number) ((if b then 58 else 48) ∷ rest left) j
    by true some fewer e = rw (some, e, fewer) (ih number (j + 1))
    by false some fewer e = rw (some, e, fewer) (ih (16 * number + 0) (j + 1))

mac_by : (left number j : ℕ) → Reads mac_step mac_done (left, number) (rest left) j
mac_by zero number j = refl
mac_by (suc left) number j = mac_more left number j _ refl (mac_by left)

pub mac_completes : Completes mac_step mac_done
mac_completes s = (rest s.0, mac_by s.0 s.1)
