-- What it comes to that an address is seen, and that time goes on.
use Rattle.std.proofs.Common.{◌≡◌, ℕ, ◌<◌, ◌≤◌, Bool, true, false, cond, ◌&&◌, nat_lt, List, [], ◌∷◌, ◌++◌, length, Option, Some, None, Ok, refl, sym, ap, subst, ◌∙◌, arith}
use Rattle.std.proofs.lemmas.Bool.Decides.{nat_tests}
use Rattle.std.specs.Prelude.{◌==◌, not, is_some}
use Rattle.vtep_base.specs.Texts.{is_name}
use Rattle.vtep_rows.specs.Rows.{Rows, last_number}
use Rattle.mac_learning.specs.declared.Learn.{Learn}
use Rattle.mac_learning.specs.declared.Learn.TheVariants as learn
use Rattle.mac_learning.specs.declared.Learnt.{Learnt}
use Rattle.mac_learning.specs.Learning.{Learning, found, same_place, learns_by, learns, after_by, after, put, is_old, old_at, kept_at}
use Rattle.forward_program.specs.Readings.{own_ip}
use Rattle.forward_program.specs.Built.{IsIn}
use Rattle.forward_program.specs.Follows.{AreMoved}
use Rattle.local_tables.specs.LocalRows.{is_individual}
use Rattle.local_tables.specs.Followed.{is_bound_there, followed}
use Rattle.local_tables.specs.Following.{without_all}
use Rattle.local_tables.specs.Local.{IsChanged, IsLearning}
use Rattle.local_tables.proofs.Members.{in_filter}
use Rattle.local_tables.proofs.Unchanged.{all_stay}
use Rattle.local_tables.proofs.Forgetting.{still_bound}
use Rattle.local_tables.proofs.LearningLaws.{all_bound}
use Rattle.local_tables.proofs.Learns.{learning_kept}
use Rattle.local_tables.proofs.Ageing.{ageing_kept}
use Rattle.local_tables.proofs.Accepted.{moved_kept, kept_without}
use Rattle.vtep_gateway.specs.declared.Outgoing.{Outgoing}
use Rattle.vtep_gateway.specs.Vtep.{Vtep}
use Rattle.vtep_gateway.specs.Monitors.{told_all}
use Rattle.vtep_gateway.specs.Commit.{commit_of, changed}
use Rattle.vtep_gateway.specs.Learning.{most_learnt, has_room, learns_in, Seen, unseen, taught, seen_by, later, aged}
use Rattle.vtep_gateway.specs.Good.{IsGood}
use Rattle.vtep_gateway.proofs.ToldNothing.{unchanged_told}
use Rattle.vtep_gateway.proofs.Changing.{unchanged_changes}
use Rattle.vtep_gateway.proofs.GoodKept.{learns_good, moves_good, ages_good}
use Rattle.vtep_gateway.proofs.Moved.{put_last, aged_moved}
use Rattle.vtep_gateway.proofs.Kept.{changed_is}

-- ---- what becomes of an address tells whether it was known, and where

-- it was known at this place, or at another
pub record IsKnown (new : Learnt) (o : Option Learnt) (there : Bool) : Type 0 where
  pub entry : Learnt
  pub known : o ≡ Some entry
  pub place : same_place entry new ≡ there

by_place : (new e : Learnt) (b : Bool) → same_place e new ≡ b → (did : Learn) → cond b learn.Same learn.Moved ≡ did → (did ≡ learn.Same → IsKnown new (Some e) true) × (did ≡ learn.Moved → IsKnown new (Some e) false) × (did ≡ learn.Full → ⊥) × (did ≡ learn.Learnt → ⊥)
by_place new e true p did is = (λ h. record { entry = e; known = refl; place = p }, λ h. absurd (cc), λ h. cc, λ h. cc)
by_place new e false p did is = (λ h. absurd (cc), λ h. record { entry = e; known = refl; place = p }, λ h. cc, λ h. cc)

pub did_same : (room : Bool) (new : Learnt) (o : Option Learnt) → learns_by room new o ≡ learn.Same → IsKnown new o true
did_same true new None h = absurd (cc)
did_same false new None h = absurd (cc)
did_same room new (Some e) h = (by_place new e (same_place e new) refl (learns_by room new (Some e)) refl).0 h

pub did_moved : (room : Bool) (new : Learnt) (o : Option Learnt) → learns_by room new o ≡ learn.Moved → IsKnown new o false
did_moved true new None h = absurd (cc)
did_moved false new None h = absurd (cc)
did_moved room new (Some e) h = (by_place new e (same_place e new) refl (learns_by room new (Some e)) refl).1 h

pub did_full : (room : Bool) (new : Learnt) (o : Option Learnt) → learns_by room new o ≡ learn.Full → (o ≡ None) × (room ≡ false)
did_full true new None h = absurd (cc)
did_full false new None h = (refl, refl)
did_full room new (Some e) h = absurd ((by_place new e (same_place e new) refl (learns_by room new (Some e)) refl).2 h)

pub did_learn : (room : Bool) (new : Learnt) (o : Option Learnt) → learns_by room new o ≡ learn.Learnt → (o ≡ None) × (room ≡ true)
did_learn true new None h = (refl, refl)
did_learn false new None h = absurd (cc)
did_learn room new (Some e) h = absurd ((by_place new e (same_place e new) refl (learns_by room new (Some e)) refl).3 h)

-- the list after it
pub entries_after : (l n : Learning) (new : Learnt) (did x : Learn) → did ≡ learns l new → n ≡ after l new → did ≡ x → n.entries ≡ (after_by x l new).entries
entries_after l n new did x answer ok is = ap (λ (k : Learning). k.entries) (ok ∙ ap (λ d. after_by d l new) (sym answer ∙ is))

-- ---- what is seen then

-- no number is left for the row of a new address, or one is
pub spent_new : (o : Option Learnt) (n : ℕ) → (not (is_some o) && (n == last_number)) ≡ true → (n ≡ last_number) × (o ≡ None)
spent_new None n h = (same n last_number h, refl)
  where
    same : (m k : ℕ) → (m == k) ≡ true → m ≡ k
    same m k e = grind (arith, nat_tests, e)
spent_new (Some e) n h = absurd (cc)

pub number_left : (o : Option Learnt) (n : ℕ) → (not (is_some o) && (n == last_number)) ≡ false → o ≡ None → n ≤ last_number → n < last_number
number_left None n h none most = less n last_number h most
  where
    less : (m k : ℕ) → (m == k) ≡ false → m ≤ k → m < k
    less m k e lt = grind (arith, nat_tests, e, lt)
number_left (Some e) n h none most = absurd (cc)

so_lt : (m n : ℕ) → nat_lt m n ≡ true → m < n
so_lt m n h = grind (arith, nat_tests, h)

lt_so : (m n : ℕ) → m < n → nat_lt m n ≡ true
lt_so m n h = grind (arith, nat_tests, h)

no_lt : (n : ℕ) → nat_lt n n ≡ false
no_lt n = grind (arith, nat_tests)

no_room : (b : Bool) → (b && false) ≡ false
no_room true = refl
no_room false = refl

module _ (v : Vtep) (new : Learnt) where
  unseen_by : has_room v ≡ false → found new.switch new.mac v.learned ≡ None → seen_by v new (learns_in v new) ≡ unseen v true
  unseen_by full none = λ i. seen_by v new (learns_by (full i) new (none i))

  -- there is no room for one more
  pub full_seen : nat_lt (length v.learned) most_learnt ≡ false → found new.switch new.mac v.learned ≡ None → seen_by v new (learns_in v new) ≡ unseen v true
  full_seen full none = unseen_by (ap (λ b. b && nat_lt v.rows.counter last_number) full) none

  -- no number is left
  pub spent_seen : v.rows.counter ≡ last_number → found new.switch new.mac v.learned ≡ None → seen_by v new (learns_in v new) ≡ unseen v true
  spent_seen spent none = unseen_by (ap (λ b. nat_lt (length v.learned) most_learnt && b) (ap (λ n. nat_lt n last_number) spent ∙ no_lt last_number) ∙ no_room (nat_lt (length v.learned) most_learnt)) none

  module _ (good : IsGood v.rows v.learned) (bound : is_bound_there v.rows new ≡ true) where
    abbrev placed : Vtep
    placed = record v { learned = put new v.learned }

    known_seen : (there : Bool) (know : IsKnown new (found new.switch new.mac v.learned) there) → seen_by v new (learns_in v new) ≡ record { vtep = placed; sends = told_all v.rows v.rows v.monitors; full = false }
    known_seen there know =
        ap (λ o. seen_by v new (learns_by (has_room v) new o)) know.known ∙ at (same_place know.entry new)
        ∙ ap taught (changed_is v v.rows (put new v.learned) (record { rows = v.rows; learned = put new v.learned }) placed (told_all v.rows v.rows v.monitors)
        (moved_kept (own_ip v.rows) v.rows v.learned know.entry new (unchanged_changes v.rows v.learned good) know.known bound) refl refl)
      where
        at : (b : Bool) → seen_by v new (cond b learn.Same learn.Moved) ≡ seen_by v new learn.Moved
        at true = refl
        at false = refl

    pub known_good : is_name new.port ≡ true → (there : Bool) → IsKnown new (found new.switch new.mac v.learned) there → IsGood v.rows (put new v.learned)
    known_good named there know =
        moves_good v.rows v.learned know.entry new (record { rows = v.rows; learned = put new v.learned }) good know.known bound named
        (moved_kept (own_ip v.rows) v.rows v.learned know.entry new (unchanged_changes v.rows v.learned good) know.known bound)

    -- it was known at another place
    pub moved_seen : IsKnown new (found new.switch new.mac v.learned) false → seen_by v new (learns_in v new) ≡ record { vtep = placed; sends = told_all v.rows v.rows v.monitors; full = false }
    moved_seen know = known_seen false know

    -- it was known there
    pub same_seen : IsKnown new (found new.switch new.mac v.learned) true → seen_by v new (learns_in v new) ≡ record { vtep = placed; sends = []; full = false }
    same_seen know = known_seen true know ∙ (λ i. let s : Seen = record { vtep = placed; sends = unchanged_told v.rows v.monitors i; full = false } in s)

    module _ (single : is_individual new.mac ≡ true) (none : found new.switch new.mac v.learned ≡ None) where
      pub is_learning : IsLearning (own_ip v.rows) v.rows v.learned new
      is_learning = record { unchanged = unchanged_changes v.rows v.learned good; unknown = none; individual = single; bound = bound }

      abbrev all : List Learnt
      all = v.learned ++ new ∷ []

      abbrev pub learnt_rows : Rows
      learnt_rows = (followed (own_ip v.rows) v.rows v.rows all).rows

      module _ (few : nat_lt (length v.learned) most_learnt ≡ true) (left : v.rows.counter < last_number) where
        learnt_kept : commit_of v v.rows (put new v.learned) ≡ Ok (record { rows = learnt_rows; learned = put new v.learned })
        learnt_kept =
            ap (commit_of v v.rows) (put_last new v.learned none) ∙ learning_kept (own_ip v.rows) v.rows v.learned new is_learning left (so_lt (length v.learned) most_learnt few)
            ∙ (λ i. Ok (record { rows = learnt_rows; learned = (all_stay v.rows all (all_bound (own_ip v.rows) v.rows v.learned new is_learning) ∙ sym (put_last new v.learned none)) i }))

        pub learnt_good : is_name new.port ≡ true → IsGood learnt_rows (put new v.learned)
        learnt_good named =
            learns_good v.rows v.learned new (record { rows = learnt_rows; learned = put new v.learned }) good is_learning named (sym (ap (commit_of v v.rows) (put_last new v.learned none)) ∙ learnt_kept)

        -- it is new, and learnt
        pub learnt_seen : seen_by v new (learns_in v new) ≡ record { vtep = record v { rows = learnt_rows; learned = put new v.learned }; sends = told_all v.rows learnt_rows v.monitors; full = false }
        learnt_seen =
            (λ i. seen_by v new (learns_by (few i && lt_so v.rows.counter last_number left i) new (none i)))
            ∙ ap taught (changed_is v v.rows (put new v.learned) (record { rows = learnt_rows; learned = put new v.learned }) (record v { rows = learnt_rows; learned = put new v.learned }) (told_all v.rows learnt_rows v.monitors) learnt_kept refl refl)

-- ---- ageing

module _ (v : Vtep) (good : IsGood v.rows v.learned) (now : ℕ) where
  abbrev gone : List Learnt
  gone = old_at now v.learned

  old_in : (e : Learnt) → IsIn e gone → IsIn e v.learned
  old_in e h = (in_filter (is_old now) v.learned e h).0

  abbrev pub aged_rows : Rows
  aged_rows = (followed (own_ip v.rows) v.rows v.rows (without_all gone v.learned)).rows

  aged_commit : commit_of v v.rows (kept_at now v.learned) ≡ Ok (record { rows = aged_rows; learned = kept_at now v.learned })
  aged_commit =
      let is = unchanged_changes v.rows v.learned good in
      let same = kept_without v.learned now good.local.once in
      ap (commit_of v v.rows) same ∙ ageing_kept (own_ip v.rows) v.rows v.learned is gone old_in
      ∙ (λ i. Ok (record { rows = aged_rows; learned = (all_stay v.rows (without_all gone v.learned) (still_bound (own_ip v.rows) v.rows v.learned is gone old_in) ∙ sym same) i }))

  pub rows_aged : (slice : List Learnt) (r : Rows) → slice ≡ gone → (IsChanged (own_ip v.rows) v.rows v.rows v.learned → ((e : Learnt) → IsIn e slice → IsIn e v.learned) → r ≡ (followed (own_ip v.rows) v.rows v.rows (without_all slice v.learned)).rows) → r ≡ aged_rows
  rows_aged slice r is led =
      led (unchanged_changes v.rows v.learned good) (λ e h. old_in e (subst (IsIn e) is h)) ∙ ap (λ es. (followed (own_ip v.rows) v.rows v.rows (without_all es v.learned)).rows) is

  pub change_aged : (slice : List Learnt) (P : Type 0) → slice ≡ gone → (IsChanged (own_ip v.rows) v.rows v.rows v.learned → ((e : Learnt) → IsIn e slice → IsIn e v.learned) → P) → P
  change_aged slice P is led = led (unchanged_changes v.rows v.learned good) (λ e h. old_in e (subst (IsIn e) is h))

  pub good_aged : (r : Rows) (l : List Learnt) → r ≡ aged_rows → l ≡ kept_at now v.learned → IsGood r l
  good_aged r l rows list =
      subst (λ (p : Rows × List Learnt). IsGood p.0 p.1) (λ i. (sym rows i, sym list i)) (ages_good v.rows v.learned now (record { rows = aged_rows; learned = kept_at now v.learned }) good aged_commit)

  pub aged_is : (seconds : ℕ) (w : Vtep) (sends : List Outgoing) → now ≡ later v.clock seconds → w ≡ record v { rows = aged_rows; learned = kept_at now v.learned; clock = now } → sends ≡ told_all v.rows aged_rows v.monitors
      → aged v seconds ≡ record { vtep = w; sends = sends }
  aged_is seconds w sends at is_w is_sends =
      ap (λ n. changed (record v { clock = n }) v.rows (kept_at n v.learned)) (sym at)
      ∙ changed_is (record v { clock = now }) v.rows (kept_at now v.learned) (record { rows = aged_rows; learned = kept_at now v.learned }) w sends aged_commit is_w is_sends

  pub moves_aged : (l slice : List Learnt) → l ≡ kept_at now v.learned → slice ≡ gone → AreMoved v.learned l slice
  moves_aged l slice list is = subst (λ (p : List Learnt × List Learnt). AreMoved v.learned p.0 p.1) (λ i. (sym list i, sym is i)) (aged_moved v.learned now good.local.once)
