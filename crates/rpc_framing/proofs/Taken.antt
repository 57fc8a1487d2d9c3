-- An object of which members were taken out.
use Rattle.std.proofs.Common.{◌≡◌, ℕ, List, [], ◌∷◌, Bool, true, false, cond, Some, is_eq, string_bytes, refl, sym, ap, ◌∙◌}
use Rattle.std.specs.Cmp.Lexicographic.{slice_cmp}
use Rattle.std.specs.Ordering.{nat_cmp, match_ordering}
use Rattle.std.specs.BTreeMap.{is_at}
use Rattle.std.specs.Map.{remove_entry}
use Rattle.std.proofs.lemmas.Map.Text.{is_eq-slice_cmp}
use Rattle.std.proofs.lemmas.Slice.Eq.{bytes_eq-Decides}
use Rattle.serde_json.specs.Find.{get_member}
use Rattle.serde_json.specs.View.{view, members_view}
use Rattle.serde_json.proofs.Views.{Entry, member_later}

abbrev without : List ℕ → List Entry → List Entry
without name = remove_entry (is_at (λ k. slice_cmp nat_cmp name (string_bytes k)))

named : (name text : List ℕ) → is_eq (slice_cmp nat_cmp name text) ≡ true → name ≡ text
named name text at = (bytes_eq-Decides name text).0 (sym (is_eq-slice_cmp name text) ∙ at)

pub others_stay : (name other : List ℕ) (es : List Entry) → (other ≡ name → ⊥) → get_member other (members_view (without name es)) ≡ get_member other (members_view es)
others_stay name other [] apart = refl
others_stay name other (e ∷ es) apart = by (is_eq (slice_cmp nat_cmp name (string_bytes e.0))) refl (others_stay name other es apart)
  where
    by : (t : Bool) → is_eq (slice_cmp nat_cmp name (string_bytes e.0)) ≡ t → get_member other (members_view (without name es)) ≡ get_member other (members_view es)
        → get_member other (members_view (cond t es (e ∷ without name es))) ≡ get_member other (members_view (e ∷ es))
    by true at rest = sym (member_later other e es (λ h. apart (h ∙ sym (named name (string_bytes e.0) at))))
    by false at rest = ap (λ r. match_ordering (slice_cmp nat_cmp other (string_bytes e.0)) r (Some (view e.1)) r) rest
