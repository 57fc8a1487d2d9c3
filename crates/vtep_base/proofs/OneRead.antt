-- Steps of a reading.
use Rattle.std.proofs.Common.{◌≡◌, ℕ, ◌+◌, ◌<◌, ◌≤◌, List, length, drop, get_or, Option, Some, None, Err, ap, ◌∙◌}
use Rattle.std.proofs.lemmas.List.{at_drop_more, at_drop_all}
use Rattle.vtep_base.specs.Reading.{read_on, go_on, value_or}

module _ {S V : Type 0} (step : S → ℕ → Option S) (done : S → Option V) where
  pub one_more : (s t : S) (text : List ℕ) (i : ℕ) → i < length text → step s (get_or text i 0) ≡ Some t → read_on step done i s (drop i text) ≡ read_on step done (i + 1) t (drop (i + 1) text)
  one_more s t text i h e = at_drop_more (read_on step done i s) text i 0 h ∙ ap (λ o. go_on i o (λ u. read_on step done (i + 1) u (drop (i + 1) text))) e

  pub stops : (s : S) (text : List ℕ) (i : ℕ) → i < length text → step s (get_or text i 0) ≡ None → read_on step done i s (drop i text) ≡ Err i
  stops s text i h e = at_drop_more (read_on step done i s) text i 0 h ∙ ap (λ o. go_on i o (λ u. read_on step done (i + 1) u (drop (i + 1) text))) e

  pub ends : (s : S) (text : List ℕ) (i : ℕ) → length text ≤ i → read_on step done i s (drop i text) ≡ value_or i (done s)
  ends s text i h = at_drop_all (read_on step done i s) text i h
