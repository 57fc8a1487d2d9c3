-- A number that is read is within its bound.
use Rattle.std.proofs.Common.{◌≡◌, ℕ, ◌+◌, ◌≤◌, List, [], ◌∷◌, Option, Some, None, Result, Ok, Err, IfSome, IfOk, MatchResult, arith}
use Rattle.std.proofs.lemmas.Result.{IfOk-at_ok}
use Rattle.std.proofs.lemmas.Bool.Decides.{nat_tests}
use Rattle.vtep_base.specs.Reading.{read_on, go_on, value_or}
use Rattle.vtep_base.specs.Texts.{digit_after, with_value, number_step, number_done}

digit_within : (most : ℕ) (o : Option ℕ) (c : ℕ) → IfSome (digit_after most o c) (λ v. v ≤ most)
digit_within most None c = grind (arith, nat_tests)
digit_within most (Some v) c = grind (arith, nat_tests)

at_end : (most n : ℕ) (o : Option ℕ) → IfSome o (λ v. v ≤ most) → IfOk (value_or n o) (λ v. v ≤ most)
at_end most n None h = tt
at_end most n (Some v) h = h

then_within : (most n : ℕ) (o : Option ℕ) (text : List ℕ) → IfSome o (λ v. v ≤ most) → ((v : ℕ) → v ≤ most → IfOk (read_on number_step number_done (n + 1) (record { most = most; value = Some v }) text) (λ v. v ≤ most))
    → (old : Option ℕ) → IfOk (go_on n (with_value (record { most = most; value = old }) o) (λ t. read_on number_step number_done (n + 1) t text)) (λ v. v ≤ most)
then_within most n None text h f old = tt
then_within most n (Some v) text h f old = f v h

pub number_within : (most n : ℕ) (o : Option ℕ) (text : List ℕ) → IfSome o (λ v. v ≤ most) → IfOk (read_on number_step number_done n (record { most = most; value = o }) text) (λ v. v ≤ most)
number_within most n o [] h = at_end most n o h
number_within most n o (c ∷ cs) h = then_within most n (digit_after most o c) cs (digit_within most o c) (λ v k. number_within most (n + 1) (Some v) cs k) o

-- what holds of the meaning holds of the answer
pub answered : {F : Type 0} (P : ℕ → Type 0) (offset : F → ℕ) (r : Result ℕ F) (m : Result ℕ ℕ) → MatchResult r (λ v. m ≡ Ok v) (λ f. m ≡ Err (offset f)) → IfOk m P → IfOk r P
answered P offset (Ok v) m e h = IfOk-at_ok P e h
answered P offset (Err f) m e h = tt
