-- A reading without its places: the front that the steps lead to.
use Rattle.std.proofs.Common.{◌≡◌, ℕ, ◌+◌, [], ◌∷◌, ◌++◌, Option, Some, None, refl, sym, ap, ◌∙◌, append_assoc, append-nil}
use Rattle.std.specs.Option.{option_and_then}
use Rattle.std.specs.Result.{result_ok}
use Rattle.std.proofs.lemmas.Option.{option_and_then_some}
use Rattle.vtep_base.specs.Reading.{Bytes, read_on, go_on, value_or}

module _ {S : Type 0} (step : S → ℕ → Option S) where
  abbrev pub runs : S → Bytes → Option S
  runs s [] = Some s
  runs s (c ∷ cs) = option_and_then (λ t. runs t cs) (step s c)

  pub runs_one : (s t u : S) (c : ℕ) (cs : Bytes) → step s c ≡ Some t → runs t cs ≡ Some u → runs s (c ∷ cs) ≡ Some u
  runs_one s t u c cs e f = ap (option_and_then (λ r. runs r cs)) e ∙ f

  pub runs_more : (s t u : S) (xs ys : Bytes) → runs s xs ≡ Some t → runs t ys ≡ Some u → runs s (xs ++ ys) ≡ Some u
  runs_more s t u [] ys e f = let same : s ≡ t = cc in rw same f
  runs_more s t u (c ∷ cs) ys e f = option_and_then_some (λ r. runs r cs) (step s c) t e (λ r is more. runs_one s r u c (cs ++ ys) is (runs_more r t u cs ys more f))

  -- where each step spells its byte, a run spells its bytes
  module _ (spelled : S → Bytes) (Sound : S → Type 0) (each : (s t : S) (c : ℕ) → step s c ≡ Some t → Sound s → Sound t × (spelled t ≡ spelled s ++ c ∷ [])) where
    pub runs_spelled : (s t : S) (cs : Bytes) → runs s cs ≡ Some t → Sound s → Sound t × (spelled t ≡ spelled s ++ cs)
    runs_spelled s t [] e sound = let same : s ≡ t = cc in rw (sym same, append-nil) (sound, refl)
    runs_spelled s t (c ∷ cs) e sound = option_and_then_some (λ r. runs r cs) (step s c) t e (λ r is more.
        let one = each s r c is sound in
        let rest = runs_spelled r t cs more one.0 in
        (rest.0, rest.1 ∙ ap (λ x. x ++ cs) one.1 ∙ append_assoc (spelled s) (c ∷ []) cs))

module _ {S V : Type 0} (step : S → ℕ → Option S) (done : S → Option V) where
  read_end : (j : ℕ) (o : Option V) → result_ok (value_or j o) ≡ o
  read_end j None = refl
  read_end j (Some v) = refl

  read_more : (j : ℕ) (cs : Bytes) (o : Option S) → ((t : S) → result_ok (read_on step done (j + 1) t cs) ≡ option_and_then done (runs step t cs))
      → result_ok (go_on j o (λ t. read_on step done (j + 1) t cs)) ≡ option_and_then done (option_and_then (λ t. runs step t cs) o)
  read_more j cs None more = refl
  read_more j cs (Some t) more = more t

  pub read_runs : (j : ℕ) (s : S) (text : Bytes) → result_ok (read_on step done j s text) ≡ option_and_then done (runs step s text)
  read_runs j s [] = read_end j (done s)
  read_runs j s (c ∷ cs) = read_more j cs (step s c) (λ t. read_runs (j + 1) t cs)
