-- The test that no two entries have one identifier decides it.
use Rattle.std.proofs.Common.{◌≡◌, ℕ, Bool, true, false, not, ◌&&◌, ◌||◌, List, [], ◌∷◌, map, refl, ap, ◌∙◌, nat_eq, ◌↔◌}
use Rattle.std.specs.Prelude.{◌==◌}
use Rattle.std.specs.List.{list_any, IsDistinct, AllByRecursion}
use Rattle.acl_rules.specs.declared.entry.Entry.{Entry}
use Rattle.acl_rules.specs.Permits.{repeat_no_id}
use Rattle.acl_rules.proofs.Placed.{both}

not_true : (b : Bool) → not b ≡ true → b ≡ false
not_true true e = absurd (cc)
not_true false e = refl

neither : (a b : Bool) → a || b ≡ false → (a ≡ false) × (b ≡ false)
neither true b e = absurd (cc)
neither false b e = (refl, e)

none : (id : ℕ) (es : List Entry) → list_any (λ x. id == x.id) es ≡ false → AllByRecursion (λ y. nat_eq id y ≡ false) (map (λ e. e.id) es)
none id [] h = tt
none id (e ∷ es) h = let t = neither _ _ h in (t.0, none id es t.1)

none_back : (id : ℕ) (es : List Entry) → AllByRecursion (λ y. nat_eq id y ≡ false) (map (λ e. e.id) es) → list_any (λ x. id == x.id) es ≡ false
none_back id [] h = refl
none_back id (e ∷ es) h = ap (λ b. b || list_any (λ x. id == x.id) es) h.0 ∙ none_back id es h.1

distinct : (es : List Entry) → repeat_no_id es ≡ true → IsDistinct nat_eq (map (λ e. e.id) es)
unfolding IsDistinct
distinct [] h = tt
distinct (e ∷ es) h = let t = both _ _ h in (none e.id es (not_true _ t.0), distinct es t.1)

distinct_back : (es : List Entry) → IsDistinct nat_eq (map (λ e. e.id) es) → repeat_no_id es ≡ true
unfolding IsDistinct
distinct_back [] d = refl
distinct_back (e ∷ es) d = ap (λ b. not b && repeat_no_id es) (none_back e.id es d.0) ∙ distinct_back es d.1

pub test_decides : (es : List Entry) → (repeat_no_id es ≡ true) ↔ IsDistinct nat_eq (map (λ e. e.id) es)
test_decides es = (distinct es, distinct_back es)
