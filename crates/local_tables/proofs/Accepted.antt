-- What a commit that is accepted leaves, and which commits always are.
use Rattle.std.proofs.Common.{◌≡◌, ℕ, ◌+◌, ◌<◌, ◌≤◌, ◌^◌, Bool, true, false, not, nat_lt, List, [], ◌∷◌, ◌++◌, length, Option, Some, None, Result, Ok, refl, sym, ap, ◌∙◌, subst, true≢false, arith}
use Rattle.std.specs.Prelude.{if◌then◌else◌, is_some, is_ok, IsOk}
use Rattle.std.proofs.lemmas.Bool.Decides.{nat_tests}
use Rattle.std.specs.List.{list_any}
use Rattle.vtep_schema.specs.declared.Table.TheVariants.{PhysicalPort}
use Rattle.vtep_rows.specs.declared.soundness.Rule.{Rule}
use Rattle.vtep_rows.specs.declared.soundness.Rule.TheVariants.{Limit}
use Rattle.vtep_rows.specs.Rows.{Rows, last_number}
use Rattle.vtep_rows.specs.Sound.{Sound, broken}
use Rattle.vtep_rows.proofs.TouchedBreaches.{unbroken_sound}
use Rattle.mac_learning.specs.declared.Learnt.{Learnt}
use Rattle.mac_learning.specs.Learning.{IsOnce, same_address, found, put, is_old, old_at, kept_at}
use Rattle.forward_program.specs.Built.{IsIn}
use Rattle.local_tables.specs.Followed.{Committed, is_bound_there, is_spent, own_locator, located, judged, followed, commit}
use Rattle.local_tables.specs.Following.{without_all}
use Rattle.local_tables.specs.Local.{IsLocal, IsChanged, IsFixed, IsLearning}
use Rattle.local_tables.proofs.Members.{any_in, in_any, filter_same, in_filter, filter_in}
use Rattle.local_tables.proofs.Same.{SameTable}
use Rattle.local_tables.proofs.LocalLaws.{same_self}
use Rattle.local_tables.proofs.LeavingLaws.{once_is}
use Rattle.local_tables.proofs.Unchanged.{all_stay}
use Rattle.local_tables.proofs.Forgetting.{still_bound}
use Rattle.local_tables.proofs.LearningLaws.{all_bound, locator_there, learning_is}
use Rattle.local_tables.proofs.Grown.{followed_local}
use Rattle.local_tables.proofs.LearntLocal.{learnt_local}
use Rattle.local_tables.proofs.MovedLocal.{moved_rows, moved_list}
use Rattle.local_tables.proofs.AgedLocal.{aged_local}
use Rattle.local_tables.proofs.Ageing.{sound_kept, ageing_kept}
use Rattle.local_tables.proofs.Learns.{learning_kept, learnt_rows}

-- ---- accepted

pub record IsAccepted (c : Committed) : Type 0 where
  pub few : c.rows.counter ≤ last_number
  pub sound : Sound c.rows

few_so : (a b : ℕ) → nat_lt a b ≡ false → b ≤ a
few_so a b h = grind (arith, nat_tests, h)

pub accepted : (own : ℕ) (old r : Rows) (l : List Learnt) (c : Committed) → commit own old r l ≡ Ok c → (followed own old r l ≡ c) × IsAccepted c
accepted own old r l c is = by (is_spent f.rows) refl (broken f.rows) refl is
  where
    f : Committed
    f = followed own old r l

    by : (b : Bool) → is_spent (followed own old r l).rows ≡ b → (o : Option Rule) → broken (followed own old r l).rows ≡ o → judged (followed own old r l) (if b then Some Limit else o) ≡ Ok c → (followed own old r l ≡ c) × IsAccepted c
    by true e o g h = absurd (cc)
    by false e (Some rule) g h = absurd (cc)
    by false e None g h =
        let same : followed own old r l ≡ c = cc in (
          same,
          subst IsAccepted same (record { few = few_so last_number (followed own old r l).rows.counter e; sound = unbroken_sound (followed own old r l).rows g }),
        )

kept_ok : {A B : Type 0} {x : Result A B} {a : A} → x ≡ Ok a → IsOk x
kept_ok same = ap is_ok same

-- a change that is accepted keeps the Local tables
pub change_local : (own : ℕ) (old r : Rows) (l : List Learnt) (c : Committed) → own < 2 ^ 32 → IsChanged own old r l → IsFixed old r → SameTable PhysicalPort c.rows r → commit own old r l ≡ Ok c → IsLocal own c.rows c.learned
change_local own old r l c small changed fixed ports is =
    let a = accepted own old r l c is in
    subst (λ (x : Committed). IsLocal own x.rows x.learned) a.0
    (followed_local own old r l changed small (subst (λ (x : Committed). x.rows.counter ≤ last_number) (sym a.0) a.1.few) (subst (λ (x : Committed). Sound x.rows) (sym a.0) a.1.sound) (subst (λ (x : Committed). SameTable PhysicalPort x.rows r) (sym a.0) ports) fixed)

-- ---- an address that is learnt

-- it is never refused, where there is room and a row number
pub learnt_kept : (own : ℕ) (r : Rows) (l : List Learnt) (new : Learnt) → IsLearning own r l new → r.counter < last_number → length l < 2048 → IsOk (commit own r r (l ++ new ∷ []))
learnt_kept own r l new is room few = kept_ok (learning_kept own r l new is room few)

-- a row number was left
learnt_room : (own : ℕ) (r : Rows) (l : List Learnt) (new : Learnt) (c : Committed) → IsLearning own r l new → commit own r r (l ++ new ∷ []) ≡ Ok c → r.counter < last_number
learnt_room own r l new c is told = by (own_locator own r) refl (locator_there own r l new is)
  where
    few : (followed own r r (l ++ new ∷ [])).rows.counter ≤ last_number
    few = let a = accepted own r r (l ++ new ∷ []) c told in subst (λ (x : Committed). x.rows.counter ≤ last_number) (sym a.0) a.1.few

    by : (o : Option ℕ) → own_locator own r ≡ o → is_some o ≡ true → r.counter < last_number
    by (Some locator) there _ =
        let one : r.counter + 1 ≤ last_number = subst (λ (o : Option ℕ). (located own o r).counter + 1 ≤ last_number) there (subst (λ (x : Rows). x.counter ≤ last_number) (sym (learning_is own r l new is)) few) in
        omega (arith, one)
    by None _ h = absurd (true≢false (sym h))

pub learnt_follows : (own : ℕ) (r : Rows) (l : List Learnt) (new : Learnt) (c : Committed) → IsLearning own r l new → commit own r r (l ++ new ∷ []) ≡ Ok c → (c.learned ≡ l ++ new ∷ []) × IsLocal own c.rows c.learned
learnt_follows own r l new c is told =
    let room = learnt_room own r l new c is told in
    let a = accepted own r r (l ++ new ∷ []) c told in
    let list : (followed own r r (l ++ new ∷ [])).learned ≡ l ++ new ∷ [] = all_stay r (l ++ new ∷ []) (all_bound own r l new is) in (
      ap (λ x. x.learned) (sym a.0) ∙ list,
      subst (λ (x : Committed). IsLocal own x.rows x.learned) a.0 (by room (own_locator own r) refl (locator_there own r l new is)),
    )
  where
    by : r.counter < last_number → (o : Option ℕ) → own_locator own r ≡ o → is_some o ≡ true → IsLocal own (followed own r r (l ++ new ∷ [])).rows (followed own r r (l ++ new ∷ [])).learned
    by room (Some locator) there _ =
        subst (λ x. IsLocal own (followed own r r (l ++ new ∷ [])).rows x) (sym (all_stay r (l ++ new ∷ []) (all_bound own r l new is)))
        (subst (λ x. IsLocal own x (l ++ new ∷ [])) (sym (learnt_rows own r l new is room locator there)) (learnt_local own r l new locator is there room))
    by room None _ h = absurd (true≢false (sym h))

-- ---- one that moves

pub moved_kept : (own : ℕ) (r : Rows) (l : List Learnt) (old new : Learnt) → IsChanged own r r l → found new.switch new.mac l ≡ Some old → is_bound_there r new ≡ true → commit own r r (put new l) ≡ Ok (record { rows = r; learned = put new l })
moved_kept own r l old new is known bound =
    let rows = moved_rows own r l new old is known bound in
    let list = moved_list own r l new old is known bound in
    sound_kept (followed own r r (put new l)) (subst Sound (sym rows) is.sound) (subst (λ (x : Rows). x.counter ≤ last_number) (sym rows) is.after.count)
    ∙ (λ i. Ok (record { rows = rows i; learned = list i }))

-- ---- ageing

-- those that are kept are those without the addresses of the others
pub kept_without : (l : List Learnt) (now : ℕ) → IsOnce l → kept_at now l ≡ without_all (old_at now l) l
kept_without l now once = filter_same (λ e. not (is_old now e)) (λ e. not (list_any (same_address e) (old_at now l))) l (λ e h. ap not (by e h (is_old now e) refl))
  where
    by : (e : Learnt) → IsIn e l → (b : Bool) → is_old now e ≡ b → b ≡ list_any (same_address e) (old_at now l)
    by e h true old = sym (in_any (same_address e) (old_at now l) e (filter_in (is_old now) l e h old) (same_self e))
    by e h false young = sym (none (list_any (same_address e) (old_at now l)) refl)
      where
        none : (b : Bool) → list_any (same_address e) (old_at now l) ≡ b → b ≡ false
        none false _ = refl
        none true some =
            let d = any_in (same_address e) (old_at now l) some in
            let picked = in_filter (is_old now) l d.0 d.1 in
            absurd (true≢false (sym picked.1 ∙ ap (is_old now) (sym (once_is l once e d.0 h picked.0 d.2)) ∙ young))

old_in : (l : List Learnt) (now : ℕ) (e : Learnt) → IsIn e (old_at now l) → IsIn e l
old_in l now e h = (in_filter (is_old now) l e h).0

-- it is never refused
pub aged_kept : (own : ℕ) (r : Rows) (l : List Learnt) (now : ℕ) → IsChanged own r r l → IsOk (commit own r r (kept_at now l))
aged_kept own r l now is = kept_ok (ap (commit own r r) (kept_without l now is.local.once) ∙ ageing_kept own r l is (old_at now l) (old_in l now))

pub aged_follows : (own : ℕ) (r : Rows) (l : List Learnt) (now : ℕ) (c : Committed) → own < 2 ^ 32 → IsChanged own r r l → SameTable PhysicalPort c.rows r → commit own r r (kept_at now l) ≡ Ok c → (c.learned ≡ kept_at now l) × IsLocal own c.rows c.learned
aged_follows own r l now c small is ports told =
    let same = kept_without l now is.local.once in
    let a = accepted own r r (without_all (old_at now l) l) c (sym (ap (commit own r r) same) ∙ told) in
    let list : (followed own r r (without_all (old_at now l) l)).learned ≡ without_all (old_at now l) l = all_stay r (without_all (old_at now l) l) (still_bound own r l is (old_at now l) (old_in l now)) in (
      ap (λ x. x.learned) (sym a.0) ∙ list ∙ sym same,
      subst (λ (x : Committed). IsLocal own x.rows x.learned) a.0 (subst (λ x. IsLocal own (followed own r r (without_all (old_at now l) l)).rows x) (sym list)
          (aged_local own r l is (old_at now l) (old_in l now) small (subst (λ (x : Committed). Sound x.rows) (sym a.0) a.1.sound) (subst (λ (x : Committed). SameTable PhysicalPort x.rows r) (sym a.0) ports))),
    )
