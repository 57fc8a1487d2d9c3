-- Results that are added at the end.
use Rattle.std.proofs.Common.{◌≡◌, ℕ, zero, suc, ◌+◌, ◌-◌, ◌<◌, List, [], ◌∷◌, ◌++◌, map, length, sym, ap, ◌∙◌, arith, append_assoc, length-append, sub-one}
use Rattle.std.specs.Prelude.{replicate}
use Rattle.std.proofs.lemmas.List.{map-append, length-map}
use Rattle.vtep_base.specs.declared.words.Word.{Word}
use Rattle.transact_profile.specs.declared.outcomes.OpResult.{OpResult}
use Rattle.transact_profile.specs.declared.outcomes.OpResult.TheVariants as held
use Rattle.transact_profile.specs.Meaning.{Reply, Null, Fault, failed_results}
use Rattle.transact_profile.specs.Finish.{seen}

pub null_pushed : (rs : List OpResult) (n : ℕ) (whole : List Reply) → 0 < n → map seen rs ++ replicate n Null ≡ whole
    → map seen (rs ++ held.Null ∷ []) ++ replicate (n - 1) Null ≡ whole
null_pushed rs zero whole h e = absurd (omega arith)
null_pushed rs (suc k) whole h e =
    ap (λ m. m ++ replicate (suc k - 1) Null) (map-append seen rs (held.Null ∷ [])) ∙ ap (λ m. (map seen rs ++ Null ∷ []) ++ replicate m Null) (sub-one (suc k))
    ∙ append_assoc (map seen rs) (Null ∷ []) (replicate k Null) ∙ e

pub failure_pushed : (rs : List OpResult) (w : Word) (count : ℕ)
    → map seen (rs ++ held.Fault w ∷ []) ++ replicate (count - length (rs ++ held.Fault w ∷ [])) Null ≡ failed_results count w (map seen rs)
failure_pushed rs w count =
    let size : length (rs ++ held.Fault w ∷ []) ≡ length (map seen rs) + 1 = length-append rs (held.Fault w ∷ []) ∙ ap (λ n. n + 1) (sym (length-map rs seen)) in
    ap (λ m. m ++ replicate (count - length (rs ++ held.Fault w ∷ [])) Null) (map-append seen rs (held.Fault w ∷ [])) ∙ ap (λ n. (map seen rs ++ Fault w ∷ []) ++ replicate (count - n) Null) size
