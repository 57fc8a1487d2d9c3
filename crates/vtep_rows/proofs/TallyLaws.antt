-- Counts under one more and one less.
use Rattle.std.proofs.Common.{◌≡◌, ℕ, ◌+◌, ◌-◌, ◌<◌, ◌≤◌, nat_le, Bool, true, false, cond, Option, Some, None, Result, Ok, Err, OnOk, OnErr, is_ok, refl, sym, ap, ◌∙◌, arith}
use Rattle.std.proofs.lemmas.Bool.Decides.{nat_tests}
use Rattle.std.specs.Option.{unwrap_or}
use Rattle.std.specs.Ordering.{eq_by_cmp}
use Rattle.std.specs.Cmp.{IsTotalOrder, Equal-is}
use Rattle.std.specs.declared.cmp.Ordering.{Ordering}
use Rattle.std.specs.FinMap.{IsAntisymmetric}
use Rattle.vtep_base.specs.Maps as maps
use Rattle.vtep_base.specs.Maps.{Map}
use Rattle.vtep_rows.specs.Tallies.{count_at, raised, lowered}

unwrapped : (b : Bool) (n : ℕ) (o : Option ℕ) → unwrap_or (cond b (Some n) o) 0 ≡ cond b n (unwrap_or o 0)
unwrapped true n o = refl
unwrapped false n o = refl

gone_unwrapped : (b : Bool) (o : Option ℕ) → unwrap_or (cond b None o) 0 ≡ cond b 0 (unwrap_or o 0)
gone_unwrapped true o = refl
gone_unwrapped false o = refl

pub never : (o : Option ℕ) (n : ℕ) → n ≡ unwrap_or o 0 → 1 < n → o ≡ None → ⊥
never None n is many e = omega arith
never (Some x) n is many e = cc

-- what holds of each Ok, where no Err can be
pub sure : {A E : Type 0} {P Q : Type 0} (r : Result A E) → OnOk r P → OnErr r Q → (Q → ⊥) → P
sure (Ok x) p q denied = p
sure (Err e) p q denied = absurd (denied q)

pub if_ok : {A E P : Type 0} (r : Result A E) → is_ok r ≡ true → OnOk r P → P
if_ok (Ok x) h p = p
if_ok (Err e) h p = cc

pub up : (b : Bool) (n : ℕ) → cond b (n + 1) n ≡ n + cond b 1 0
up true n = refl
up false n = omega arith

pub down : (b : Bool) (n : ℕ) → cond b (n - 1) n ≡ n - cond b 1 0
down true n = refl
down false n = omega arith

pub ok_so : {A E P Q : Type 0} (r : Result A E) → (P → Q) → OnOk r P → OnOk r Q
ok_so (Ok x) so p = so p
ok_so (Err e) so p = tt

pub if_err : {A E P : Type 0} (r : Result A E) → P → OnErr r P
if_err (Ok x) p = tt
if_err (Err e) p = p

module _ {K : Type 0} {R : K → K → Ordering} where
  pub lowered_gone : (m : Map R ℕ) (k : K) (n : ℕ) → n ≡ count_at m k → n ≤ 1 → maps.remove m k ≡ lowered m k
  lowered_gone m k n is few =
      let b : nat_le (count_at m k) 1 ≡ true = grind (arith, nat_tests, is, few) in
      ap (λ c. cond c (maps.remove m k) (maps.insert m k (count_at m k - 1))) (sym b)

  pub lowered_left : (m : Map R ℕ) (k : K) (n : ℕ) → n ≡ count_at m k → 1 < n → maps.insert m k (n - 1) ≡ lowered m k
  lowered_left m k n is many =
      let b : nat_le (count_at m k) 1 ≡ false = grind (arith, nat_tests, is, many) in
      ap (λ x. maps.insert m k (x - 1)) is ∙ ap (λ c. cond c (maps.remove m k) (maps.insert m k (count_at m k - 1))) (sym b)

module _ {K : Type 0} {R : K → K → Ordering} (o : IsTotalOrder R) (exact : IsAntisymmetric R) where
  at_one : (b : Bool) (m : Map R ℕ) (q k : K) (f : ℕ → ℕ) → eq_by_cmp R q k ≡ b → cond b (f (count_at m k)) (count_at m q) ≡ cond b (f (count_at m q)) (count_at m q)
  at_one true m q k f e = ap (λ x. f (count_at m x)) (sym (exact q k ((Equal-is (R q k)).0 e)))
  at_one false m q k f e = refl

  pub count-raised : (m : Map R ℕ) (k q : K) → count_at (raised m k) q ≡ cond (eq_by_cmp R q k) (count_at m q + 1) (count_at m q)
  count-raised m k q =
      ap (λ x. unwrap_or x 0) (maps.get-insert o m k (count_at m k + 1) q) ∙ unwrapped (eq_by_cmp R q k) (count_at m k + 1) (maps.get m q)
      ∙ at_one (eq_by_cmp R q k) m q k (λ n. n + 1) refl

  lowered_by : (b : Bool) (m : Map R ℕ) (k q : K) → nat_le (count_at m k) 1 ≡ b → count_at (cond b (maps.remove m k) (maps.insert m k (count_at m k - 1))) q ≡ cond (eq_by_cmp R q k) (count_at m k - 1) (count_at m q)
  lowered_by true m k q e =
      let few : count_at m k - 1 ≡ 0 = grind (arith, nat_tests, e) in
      ap (λ x. unwrap_or x 0) (maps.get-remove o m k q) ∙ gone_unwrapped (eq_by_cmp R q k) (maps.get m q) ∙ ap (λ n. cond (eq_by_cmp R q k) n (count_at m q)) (sym few)
  lowered_by false m k q e = ap (λ x. unwrap_or x 0) (maps.get-insert o m k (count_at m k - 1) q) ∙ unwrapped (eq_by_cmp R q k) (count_at m k - 1) (maps.get m q)

  pub count-lowered : (m : Map R ℕ) (k q : K) → count_at (lowered m k) q ≡ cond (eq_by_cmp R q k) (count_at m q - 1) (count_at m q)
  count-lowered m k q = lowered_by (nat_le (count_at m k) 1) m k q refl ∙ at_one (eq_by_cmp R q k) m q k (λ n. n - 1) refl
