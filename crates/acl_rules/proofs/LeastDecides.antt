-- In entries that stand in order, the first that matches is the least.
use Rattle.std.proofs.Common.{◌≡◌, ◌⊎◌, inl, inr, Bool, true, false, cond, List, [], ◌∷◌, find, Option, Some, None, refl, sym, ap, subst, ◌∙◌, arith, suc, zero, ◌↔◌, Contains, IsPermutation, true≢false}
use Rattle.std.specs.List.{list_all}
use Rattle.std.proofs.lemmas.List.Sorted.{IsPermutation-sym, Contains-permutation}
use Rattle.vtep_base.specs.declared.shapes.Action.{Action}
use Rattle.vtep_base.specs.declared.shapes.Action.TheVariants.{Permit, Deny}
use Rattle.vtep_base.specs.declared.shapes.Direction.{Direction}
use Rattle.ether_frames.specs.declared.fields.Headers.{Headers}
use Rattle.acl_rules.specs.declared.entry.Entry.{Entry}
use Rattle.acl_rules.specs.Matching.{matches}
use Rattle.acl_rules.specs.Permits.{before, IsOrdered, Decides, Permits, permits, says, is_permit}
use Rattle.acl_rules.proofs.Placed.{both, before-asym, before-irrefl}

head_or_tail : (x y : Entry) (xs : List Entry) → Contains (x ∷ xs) y → (x ≡ y) ⊎ Contains xs y
head_or_tail x y xs (zero, within, is) = inl is
head_or_tail x y xs (suc k, within, is) = inr (k, omega (arith, within), is)

in_head : (x : Entry) (xs : List Entry) → Contains (x ∷ xs) x
in_head x xs = (0, omega arith, refl)

in_tail : (x y : Entry) (xs : List Entry) → Contains xs y → Contains (x ∷ xs) y
in_tail x y xs (k, within, is) = (suc k, omega (arith, within), is)

all_contained : (x y : Entry) (xs : List Entry) → list_all (before x) xs ≡ true → Contains xs y → before x y ≡ true
all_contained x y [] h (k, within, is) = absurd (omega (arith, within))
all_contained x y (z ∷ zs) h c =
    let t = both _ _ h in
    elim (head_or_tail z y zs c) [ inl e ↦ subst (λ w. before x w ≡ true) e t.0 | inr r ↦ all_contained x y zs t.1 r ]

module _ (headers : Headers) (direction : Direction) where
  abbrev fits : Entry → Bool
  fits e = matches e direction headers

  -- what a search finds: the least that matches, or that none does
  abbrev Finds : List Entry → Option Entry → Type 0
  Finds list None = (e : Entry) → Contains list e → fits e ≡ false
  Finds list (Some e) = Decides list headers direction e

  more : (x : Entry) (xs : List Entry) → fits x ≡ false → (o : Option Entry) → Finds xs o → Finds (x ∷ xs) o
  more x xs h None f = λ e c. elim (head_or_tail x e xs c) [ inl is ↦ subst (λ w. fits w ≡ false) is h | inr r ↦ f e r ]
  more x xs h (Some e) f = record {
    listed = in_tail x e xs f.listed;
    fits = f.fits;
    least = λ other c m. elim (head_or_tail x other xs c) [
      | inl is ↦ absurd (true≢false (sym m ∙ subst (λ w. fits w ≡ false) is h))
      | inr r ↦ f.least other r m
    ];
  }

  finds : (list : List Entry) → IsOrdered list → Finds list (find fits list)
  finds [] o = λ e c. absurd (omega (arith, c.1))
  finds (x ∷ xs) o = by (fits x) refl (finds xs (both _ _ o).1)
    where
      by : (b : Bool) → fits x ≡ b → Finds xs (find fits xs) → Finds (x ∷ xs) (cond b (Some x) (find fits xs))
      by true h rest = record {
        listed = in_head x xs;
        fits = h;
        least = λ other c m. elim (head_or_tail x other xs c) [
          | inl is ↦ subst (λ w. before w x ≡ false) is (before-irrefl x)
          | inr r ↦ before-asym x other (all_contained x other xs (both _ _ o).0 r)
        ];
      }
      by false h rest = more x xs h (find fits xs) rest

  -- two entries of an ordered list are one, or one is before the other
  apart : (list : List Entry) (a b : Entry) → IsOrdered list → Contains list a → Contains list b → (a ≡ b) ⊎ ((before a b ≡ true) ⊎ (before b a ≡ true))
  apart [] a b o c d = absurd (omega (arith, c.1))
  apart (x ∷ xs) a b o c d = by (head_or_tail x a xs c) (head_or_tail x b xs d) (apart xs a b (both _ _ o).1)
    where
      by : (x ≡ a) ⊎ Contains xs a → (x ≡ b) ⊎ Contains xs b → (Contains xs a → Contains xs b → (a ≡ b) ⊎ ((before a b ≡ true) ⊎ (before b a ≡ true)))
          → (a ≡ b) ⊎ ((before a b ≡ true) ⊎ (before b a ≡ true))
      by (inl e) (inl f) rest = inl (sym e ∙ f)
      by (inl e) (inr f) rest = inr (inl (subst (λ w. before w b ≡ true) e (all_contained x b xs (both _ _ o).0 f)))
      by (inr e) (inl f) rest = inr (inr (subst (λ w. before w a ≡ true) f (all_contained x a xs (both _ _ o).0 e)))
      by (inr e) (inr f) rest = rest e f

  one_decides : (list : List Entry) (a b : Entry) → IsOrdered list → Decides list headers direction a → Decides list headers direction b → a ≡ b
  one_decides list a b o c d =
      elim (apart list a b o c.listed d.listed) [
        | inl e ↦ e
        | inr r ↦ elim r [
          | inl h ↦ absurd (true≢false (sym h ∙ d.least a c.listed c.fits))
          | inr h ↦ absurd (true≢false (sym h ∙ c.least b d.listed d.fits))
        ]
      ]

  permit_is : (a : Action) → is_permit a ≡ true → a ≡ Permit
  permit_is Permit h = refl
  permit_is Deny h = absurd (cc)

  says_permits : (list : List Entry) (o : Option Entry) → Finds list o → says o ≡ true → Permits list headers direction
  says_permits list None f h = inl f
  says_permits list (Some e) f h = inr (e, f, permit_is e.action h)

  permits_says : (list : List Entry) (o : Option Entry) → IsOrdered list → Finds list o → Permits list headers direction → says o ≡ true
  permits_says list None ordered f p = refl
  permits_says list (Some e) ordered f (inl none) = absurd (true≢false (sym f.fits ∙ none e f.listed))
  permits_says list (Some e) ordered f (inr (d, decides, permit)) = ap is_permit (ap (λ w. w.action) (one_decides list e d ordered f decides) ∙ permit)

  pub permits_least : (list : List Entry) → IsOrdered list → (permits list headers direction ≡ true) ↔ Permits list headers direction
  permits_least list o = (says_permits list (find fits list) (finds list o), permits_says list (find fits list) o (finds list o))

  -- what is permitted does not turn on the order of the list
  pub Permits-permutation : (xs ys : List Entry) → IsPermutation xs ys → Permits xs headers direction → Permits ys headers direction
  Permits-permutation xs ys moves (inl none) = inl (λ e c. none e (Contains-permutation ys xs e (IsPermutation-sym xs ys moves) c))
  Permits-permutation xs ys moves (inr (e, decides, permit)) = inr (
    e,
    record {
      listed = Contains-permutation xs ys e moves decides.listed;
      fits = decides.fits;
      least = λ other c m. decides.least other (Contains-permutation ys xs other (IsPermutation-sym xs ys moves) c) m;
    },
    permit,
  )
