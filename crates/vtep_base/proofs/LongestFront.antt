-- Where a reading stops, the bytes before are the longest front of a text of the form.
use Rattle.std.proofs.Common.{◌≡◌, ℕ, zero, suc, ◌+◌, ◌<◌, ◌≤◌, [], ◌∷◌, ◌++◌, length, take, Option, Some, None, IsSome, Result, Ok, Err, MatchResult, IfErr, refl, sym, ap, ◌∙◌, subst, arith, zero-add, add-zero}
use Rattle.std.specs.Result.{result_ok}
use Rattle.vtep_base.specs.Reading.{Bytes, read_on, go_on, value_or, IsLongestFront}

module _ {S V : Type 0} (step : S → ℕ → Option S) (done : S → Option V) where
  abbrev pub Reads : S → Bytes → ℕ → Type 0
  Reads s text j = IsSome (result_ok (read_on step done j s text))

  -- each front can be completed
  abbrev pub Completes : Type 0
  Completes = (s : S) → (more : Bytes) × ((j : ℕ) → Reads s more j)

  pub record Stops (s : S) (text : Bytes) (k : ℕ) : Type 0 where
    pub within : k ≤ length text
    pub begins : (more : Bytes) × ((j : ℕ) → Reads s (take k text ++ more) j)
    pub longest : (i : ℕ) → k < i → i ≤ length text → (more : Bytes) (j : ℕ) → Reads s (take i text ++ more) j → ⊥

  at_end : (n m : ℕ) (o : Option V) → value_or n o ≡ Err m → m ≡ n
  at_end n m None e = cc
  at_end n m (Some v) e = absurd (cc)

  no_step : (s : S) (c : ℕ) (cs : Bytes) → step s c ≡ None → (j : ℕ) → Reads s (c ∷ cs) j → ⊥
  no_step s c cs e j h = let h2 = rw e at h in cc

  one_step : (s t : S) (c : ℕ) (cs : Bytes) → step s c ≡ Some t → (j : ℕ) → read_on step done j s (c ∷ cs) ≡ read_on step done (j + 1) t cs
  one_step s t c cs e j = ap (λ o. go_on j o (λ u. read_on step done (j + 1) u cs)) e

  no_longer : (s : S) (c : ℕ) (cs : Bytes) → step s c ≡ None → (i : ℕ) → 0 < i → (more : Bytes) (j : ℕ) → Reads s (take i (c ∷ cs) ++ more) j → ⊥
  no_longer s c cs e zero h more j r = absurd (omega arith)
  no_longer s c cs e (suc i) h more j r = no_step s c (take i cs ++ more) e j r

  longer : (s t : S) (c : ℕ) (cs : Bytes) (k : ℕ) → step s c ≡ Some t → Stops t cs k → (i : ℕ) → suc k < i → i ≤ length (c ∷ cs) → (more : Bytes) (j : ℕ) → Reads s (take i (c ∷ cs) ++ more) j → ⊥
  longer s t c cs k e st zero h w more j r = absurd (omega arith)
  longer s t c cs k e st (suc i) h w more j r = st.longest i (omega arith) (omega arith) more (j + 1) (subst (λ x. IsSome (result_ok x)) (one_step s t c (take i cs ++ more) e j) r)

  more_stops : (completes : Completes) (c : ℕ) (cs : Bytes) (n m : ℕ) (s : S) (o : Option S) → step s c ≡ o → go_on n o (λ t. read_on step done (n + 1) t cs) ≡ Err m
      → ((t : S) → read_on step done (n + 1) t cs ≡ Err m → (k : ℕ) × (m ≡ n + 1 + k) × Stops t cs k) → (k : ℕ) × (m ≡ n + k) × Stops s (c ∷ cs) k
  more_stops completes c cs n m s None is e ih = (
    0,
    at_end n m None e ∙ sym (add-zero n),
    record {
      within = omega arith;
      begins = completes s;
      longest = λ i h w. no_longer s c cs is i h;
    },
  )
  more_stops completes c cs n m s (Some t) is e ih =
      let r = ih t e in (
        suc r.0,
        (let same : m ≡ n + suc r.0 = omega (arith, r.1) in same),
        record {
          within = omega (arith, r.2.within);
          begins = (r.2.begins.0, λ j. subst (λ x. IsSome (result_ok x)) (sym (one_step s t c (take r.0 cs ++ r.2.begins.0) is j)) (r.2.begins.1 (j + 1)));
          longest = longer s t c cs r.0 is r.2;
        },
      )

  pub stops : Completes → (text : Bytes) (n m : ℕ) (s : S) → read_on step done n s text ≡ Err m → (k : ℕ) × (m ≡ n + k) × Stops s text k
  stops completes [] n m s e = (
    0,
    at_end n m (done s) e ∙ sym (add-zero n),
    record {
      within = omega arith;
      begins = completes s;
      longest = λ i h w more j r. absurd (omega arith);
    },
  )
  stops completes (c ∷ cs) n m s e = more_stops completes c cs n m s (step s c) refl e (λ t. stops completes cs (n + 1) m t)

  pub is_longest : Completes → (text : Bytes) (m : ℕ) (s : S) → read_on step done 0 s text ≡ Err m → IsLongestFront (λ x. result_ok (read_on step done 0 s x)) text m
  is_longest completes text m s e =
      let r = stops completes text 0 m s e in
      let k : r.0 ≡ m = sym (r.1 ∙ zero-add r.0) in
      subst (IsLongestFront (λ x. result_ok (read_on step done 0 s x)) text) k (record {
        within = r.2.within;
        begins = (r.2.begins.0, r.2.begins.1 0);
        longest = λ i h w b. r.2.longest i h w b.0 0 b.1;
      })

-- the same of a call's answer
pub longest_on_err : {A V F : Type 0} (offset : F → ℕ) (meaning : Bytes → Option V) (text : Bytes) (r : Result A F) (read : Result V ℕ) (P : A → Type 0)
    → ((m : ℕ) → read ≡ Err m → IsLongestFront meaning text m) → MatchResult r P (λ f. read ≡ Err (offset f)) → IfErr r (λ f. IsLongestFront meaning text (offset f))
longest_on_err offset meaning text (Ok v) read P law e = tt
longest_on_err offset meaning text (Err f) read P law e = law (offset f) e
