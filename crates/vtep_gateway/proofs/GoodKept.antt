-- Every commit that is accepted keeps what a gateway always has.
use Rattle.std.proofs.Common.{◌≡◌, ℕ, ◌≤◌, Bool, true, false, cond, List, [], ◌∷◌, ◌++◌, length, Some, None, Result, Ok, refl, sym, ap, subst, ◌∙◌}
use Rattle.std.proofs.lemmas.List.Folds.{list_all-append}
use Rattle.std.specs.Prelude.{not}
use Rattle.std.specs.List.{list_all}
use Rattle.std.specs.Cmp.{first_so, second_so}
use Rattle.serde_json.specs.Data.{Data}
use Rattle.vtep_base.specs.Reading.{Bytes}
use Rattle.vtep_base.specs.Texts.{is_name}
use Rattle.vtep_rows.specs.declared.soundness.Rule.{Rule}
use Rattle.vtep_rows.specs.Rows.{Rows}
use Rattle.vtep_rows.proofs.Entries.{both, all_filter}
use Rattle.mac_learning.specs.declared.Learnt.{Learnt}
use Rattle.mac_learning.specs.Learning.{same_address, found, put, is_old, kept_at}
use Rattle.forward_program.specs.Readings.{own_ip}
use Rattle.local_tables.specs.LocalRows.{is_individual}
use Rattle.local_tables.specs.Followed.{Committed, is_bound_there, stays, commit}
use Rattle.local_tables.specs.Local.{IsLocal, IsChanged, IsFixed, IsLearning}
use Rattle.local_tables.proofs.MovedLocal.{moved_local}
use Rattle.local_tables.proofs.Accepted.{accepted, change_local, learnt_follows, moved_kept, aged_follows}
use Rattle.transact_profile.specs.Meaning.{means}
use Rattle.transact_profile.specs.Transaction.{ops_in}
use Rattle.vtep_gateway.specs.Ports.{port_refusal, with_port, without_port}
use Rattle.vtep_gateway.specs.Good.{IsGood}
use Rattle.vtep_gateway.proofs.Fixed.{operations_fix}
use Rattle.vtep_gateway.proofs.Changing.{unchanged_changes, operations_change, joins_change, joins_fix, leaves_change, leaves_fix}
use Rattle.vtep_gateway.proofs.FollowedSettled.{own_small, IsSwitched, IsFollowed, commit_followed, good_switched, operations_switched, joins_switched, leaves_switched}

abbrev are_named : List Learnt → Bool
are_named l = list_all (λ e. is_name e.port) l

followed_good : (own : ℕ) (r : Rows) (c : Committed) → IsFollowed own r c → IsLocal own c.rows c.learned → are_named c.learned ≡ true → IsGood c.rows c.learned
followed_good own r c is local named = record { settled = is.settled; local = subst (λ n. IsLocal n c.rows c.learned) (sym is.address) local; named = named }

-- ---- a change of the rows

change_good : (old r : Rows) (l : List Learnt) (c : Committed) → IsGood old l → IsChanged (own_ip old) old r l → IsFixed old r → IsSwitched (own_ip old) r → commit (own_ip old) old r l ≡ Ok c → IsGood c.rows c.learned
change_good old r l c good changed fixed switched told =
    let small = own_small old good.settled in
    let after = commit_followed (own_ip old) old r l small good.local.individual switched c told in
    followed_good (own_ip old) r c after (change_local (own_ip old) old r l c small changed fixed after.ports told)
    (ap (λ (x : Committed). are_named x.learned) (sym (accepted (own_ip old) old r l c told).0) ∙ all_filter (λ e. is_name e.port) (stays old r) l good.named)

pub transact_good : (params : Data) (r : Rows) (l : List Learnt) (c : Committed) → IsGood r l → commit (own_ip r) r (means (ops_in params) r).rows l ≡ Ok c → IsGood c.rows c.learned
transact_good params r l c good told =
    change_good r (means (ops_in params) r).rows l c good (operations_change params r l good) (operations_fix params r good.settled.rows) (operations_switched params r good.settled) told

pub joins_good : (r : Rows) (name : Bytes) (l : List Learnt) (c : Committed) → IsGood r l → length name ≤ 64 → port_refusal r name ≡ None → commit (own_ip r) r (with_port r name) l ≡ Ok c → IsGood c.rows c.learned
joins_good r name l c good short free told = change_good r (with_port r name) l c good (joins_change r name l good short free) (joins_fix r name) (joins_switched r name good.settled short free) told

pub leaves_good : (r : Rows) (id : ℕ) (l : List Learnt) (c : Committed) → IsGood r l → commit (own_ip r) r (without_port r id) l ≡ Ok c → IsGood c.rows c.learned
leaves_good r id l c good told = change_good r (without_port r id) l c good (leaves_change r id l good) (leaves_fix r id) (leaves_switched r id good.settled) told

-- ---- learning and ageing

pub learns_good : (r : Rows) (l : List Learnt) (new : Learnt) (c : Committed) → IsGood r l → IsLearning (own_ip r) r l new → is_name new.port ≡ true → commit (own_ip r) r r (l ++ new ∷ []) ≡ Ok c → IsGood c.rows c.learned
learns_good r l new c good is named told =
    let single : list_all (λ e. is_individual e.mac) (l ++ new ∷ []) ≡ true =
    list_all-append (λ e. is_individual e.mac) l (new ∷ []) ∙ both (list_all (λ e. is_individual e.mac) l) _ good.local.individual (both (is_individual new.mac) true is.individual refl) in
    let follows = learnt_follows (own_ip r) r l new c is told in
    followed_good (own_ip r) r c (commit_followed (own_ip r) r r (l ++ new ∷ []) (own_small r good.settled) single (good_switched r good.settled) c told) follows.1
    (ap are_named follows.0 ∙ list_all-append (λ e. is_name e.port) l (new ∷ []) ∙ both (are_named l) _ good.named (both (is_name new.port) true named refl))

put_named : (new : Learnt) (l : List Learnt) → is_name new.port ≡ true → are_named l ≡ true → are_named (put new l) ≡ true
put_named new [] named h = both (is_name new.port) true named refl
put_named new (e ∷ l) named h =
    let here = first_so (is_name e.port) (are_named l) h in
    let rest = second_so (is_name e.port) (are_named l) h in
    elim (same_address new e) as (λ b. are_named (cond b (new ∷ l) (e ∷ put new l)) ≡ true) [
      | true ↦ both (is_name new.port) (are_named l) named rest
      | false ↦ both (is_name e.port) (are_named (put new l)) here (put_named new l named rest)
    ]

same_ok : (c d : Committed) → ◌≡◌ {A = Result Committed Rule} (Ok c) (Ok d) → c ≡ d
same_ok c d e = cc

pub moves_good : (r : Rows) (l : List Learnt) (e new : Learnt) (c : Committed) → IsGood r l → found new.switch new.mac l ≡ Some e → is_bound_there r new ≡ true → is_name new.port ≡ true → commit (own_ip r) r r (put new l) ≡ Ok c → IsGood c.rows c.learned
moves_good r l e new c good known bound named told =
    let unchanged = unchanged_changes r l good in
    let kept : Committed = record { rows = r; learned = put new l } in
    let same : kept ≡ c = same_ok kept c (sym (moved_kept (own_ip r) r l e new unchanged known bound) ∙ told) in
    subst (λ (x : Committed). IsGood x.rows x.learned) same
    (record { settled = good.settled; local = moved_local (own_ip r) r l new e unchanged known bound; named = put_named new l named good.named })

pub ages_good : (r : Rows) (l : List Learnt) (now : ℕ) (c : Committed) → IsGood r l → commit (own_ip r) r r (kept_at now l) ≡ Ok c → IsGood c.rows c.learned
ages_good r l now c good told =
    let small = own_small r good.settled in
    let after =
    commit_followed (own_ip r) r r (kept_at now l) small (all_filter (λ e. is_individual e.mac) (λ e. not (is_old now e)) l good.local.individual) (good_switched r good.settled) c told in
    let follows = aged_follows (own_ip r) r l now c small (unchanged_changes r l good) after.ports told in
    followed_good (own_ip r) r c after follows.1 (ap are_named follows.0 ∙ all_filter (λ e. is_name e.port) (λ e. not (is_old now e)) l good.named)
