-- The streams of the open sessions, of which one was out.
use Rattle.std.proofs.Common.{◌≡◌, ℕ, cond, Bool, true, false, Option, Some, None, is_some, Ordering, Less, Equal, Greater, refl, sym, ap, ◌∙◌}
use Rattle.std.specs.Ordering.{nat_cmp, eq_by_cmp, is_eq}
use Rattle.std.specs.Cmp.{nat_cmp_total}
use Rattle.std.proofs.lemmas.Map.Lookups.{exact_unsigned}
use Rattle.vtep_base.specs.Maps as maps
use Rattle.vtep_base.specs.Maps.{Map}

same_key : (q k : ℕ) → eq_by_cmp nat_cmp q k ≡ true → q ≡ k
same_key q k e = by (nat_cmp q k) refl e
  where
    by : (o : Ordering) → nat_cmp q k ≡ o → is_eq o ≡ true → q ≡ k
    by Less is e = absurd (cc)
    by Equal is e = exact_unsigned q k is
    by Greater is e = absurd (cc)

module _ {X : Type 0} where
  hidden : (b : Bool) (x : Option X) (o : Option X) → cond b x (cond b None o) ≡ cond b x o
  hidden true x o = refl
  hidden false x o = refl

  pub put_back : (m : Map nat_cmp X) (k : ℕ) (x : X) → maps.insert (maps.remove m k) k x ≡ maps.insert m k x
  put_back m k x = maps.same_map nat_cmp_total exact_unsigned _ _ (λ q.
      maps.get-insert nat_cmp_total (maps.remove m k) k x q ∙ ap (cond (eq_by_cmp nat_cmp q k) (Some x)) (maps.get-remove nat_cmp_total m k q) ∙ hidden (eq_by_cmp nat_cmp q k) (Some x) (maps.get m q)
      ∙ sym (maps.get-insert nat_cmp_total m k x q))

  none_gone : (m : Map nat_cmp X) (k q : ℕ) → maps.get m k ≡ None → cond (eq_by_cmp nat_cmp q k) None (maps.get m q) ≡ maps.get m q
  none_gone m k q e = by (eq_by_cmp nat_cmp q k) refl
    where
      by : (b : Bool) → eq_by_cmp nat_cmp q k ≡ b → cond b None (maps.get m q) ≡ maps.get m q
      by true is = sym (ap (maps.get m) (same_key q k is) ∙ e)
      by false is = refl

  pub not_there : (m : Map nat_cmp X) (k : ℕ) → maps.has m k ≡ false → maps.remove m k ≡ m
  not_there m k e = maps.same_map nat_cmp_total exact_unsigned _ _ (λ q. maps.get-remove nat_cmp_total m k q ∙ none_gone m k q (absent (maps.get m k) e))
    where
      absent : (o : Option X) → is_some o ≡ false → o ≡ None
      absent None e = refl
      absent (Some x) e = absurd (cc)
