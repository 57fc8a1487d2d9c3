use Rattle.std.proofs.Common.{rules, ◌≡◌, ◌<◌, Bool, true, false, ◌&&◌, nat_lt, List, [], ◌∷◌, ◌++◌, length, Option, sym, ap, subst, ◌∙◌, append-nil}
use Rattle.std.specs.Prelude.{◌==◌, not, is_some}
use Rattle.vtep_rows.specs.Rows.{Rows, last_number}
use Rattle.vtep_rows.specs.Changes.{changes}
use Rattle.mac_learning.specs.declared.Learn.TheVariants as learn
use Rattle.mac_learning.specs.declared.Learnt.{Learnt}
use Rattle.mac_learning.specs.Learning.{found, put}
use Rattle.forward_program.specs.Readings.{own_ip}
use Rattle.forward_program.specs.Follows.{AreMoved}
use Rattle.local_tables.specs.Followed.{is_bound_there, followed}
use Rattle.local_tables.specs.Local.{IsLearning}
use Rattle.vtep_gateway.specs.Vtep.{Vtep}
use Rattle.vtep_gateway.specs.Monitors.{told_all}
use Rattle.vtep_gateway.specs.Learning.{most_learnt, learns_in, Seen, seen_by}
use Rattle.vtep_gateway.specs.Good.{IsGood}
use Rattle.vtep_gateway.specs.Ready.{fib_of}
use Rattle.vtep_gateway.specs.contracts.vtep.Vtep.{the_view}
use Rattle.vtep_gateway.proofs.Moved.{put_moved, shown_same}
use Rattle.vtep_gateway.proofs.Seeing.{IsKnown, did_same, did_moved, did_learn, entries_after, number_left, same_seen, moved_seen, known_good, is_learning, learnt_rows, learnt_good, learnt_seen}
use Rattle.vtep_gateway.proofs.vtep.Vtep.see.Goals as goal

pub returns-in-Full-clause-fib : goal.returns-in-Full-clause-fib
returns-in-Full-clause-fib g c =
    let v : Vtep = the_view c.self.inside in
    let list : c.learn.new.self.entries ≡ v.learned = entries_after c.self.inside.learned c.learn.new.self c.args.new c.in_ok-learn.field-0 learn.Full c.in_ok-learn.ensures.answer c.in_ok-learn.ensures.ok c.in-Full.is in
    c.requires.fib ∙ ap (λ (w : Vtep). fib_of w.rows w.learned) (sym c.self.view_is) ∙ ap (fib_of v.rows) (sym list)

pub returns-in-Same-clause-left : goal.returns-in-Same-clause-left
returns-in-Same-clause-left g c =
    let v : Vtep = the_view c.self.inside in
    let good : IsGood v.rows v.learned = subst (λ (w : Vtep). IsGood w.rows w.learned) (sym c.self.view_is) c.requires.good in
    let new : Learnt = c.args.new in
    let bound : is_bound_there v.rows new ≡ true = subst (λ (w : Vtep). is_bound_there w.rows new ≡ true) (sym c.self.view_is) c.requires.bound in
    let known : Option Learnt = found new.switch new.mac v.learned in
    let room : Bool = nat_lt (length v.learned) c.self.inside.learned.limit in
    let list : c.learn.new.self.entries ≡ put new v.learned = entries_after c.self.inside.learned c.learn.new.self new c.in_ok-learn.field-0 learn.Same c.in_ok-learn.ensures.answer c.in_ok-learn.ensures.ok c.in-Same.is in
    let know : IsKnown new known true = did_same room new known (sym c.in_ok-learn.ensures.answer ∙ c.in-Same.is) in
    (λ i. record v { learned = list i }) ∙ sym (ap (λ (s : Seen). s.vtep) (same_seen v new good bound know)) ∙ ap (λ (w : Vtep). (seen_by w new (learns_in w new)).vtep) c.self.view_is

pub returns-in-Same-clause-told : goal.returns-in-Same-clause-told
returns-in-Same-clause-told g c =
    let v : Vtep = the_view c.self.inside in
    let good : IsGood v.rows v.learned = subst (λ (w : Vtep). IsGood w.rows w.learned) (sym c.self.view_is) c.requires.good in
    let new : Learnt = c.args.new in
    let bound : is_bound_there v.rows new ≡ true = subst (λ (w : Vtep). is_bound_there w.rows new ≡ true) (sym c.self.view_is) c.requires.bound in
    let known : Option Learnt = found new.switch new.mac v.learned in
    let room : Bool = nat_lt (length v.learned) c.self.inside.learned.limit in
    let list : c.learn.new.self.entries ≡ put new v.learned = entries_after c.self.inside.learned c.learn.new.self new c.in_ok-learn.field-0 learn.Same c.in_ok-learn.ensures.answer c.in_ok-learn.ensures.ok c.in-Same.is in
    let know : IsKnown new known true = did_same room new known (sym c.in_ok-learn.ensures.answer ∙ c.in-Same.is) in
    sym (append-nil c.args.sends.now)
    ∙ ap (λ (s : Seen). c.args.sends.now ++ s.sends) (sym (same_seen v new good bound know)) ∙ ap (λ (w : Vtep). c.args.sends.now ++ (seen_by w new (learns_in w new)).sends) c.self.view_is

pub returns-in-Same-clause-good : goal.returns-in-Same-clause-good
returns-in-Same-clause-good g c =
    let v : Vtep = the_view c.self.inside in
    let good : IsGood v.rows v.learned = subst (λ (w : Vtep). IsGood w.rows w.learned) (sym c.self.view_is) c.requires.good in
    let new : Learnt = c.args.new in
    let bound : is_bound_there v.rows new ≡ true = subst (λ (w : Vtep). is_bound_there w.rows new ≡ true) (sym c.self.view_is) c.requires.bound in
    let known : Option Learnt = found new.switch new.mac v.learned in
    let room : Bool = nat_lt (length v.learned) c.self.inside.learned.limit in
    let list : c.learn.new.self.entries ≡ put new v.learned = entries_after c.self.inside.learned c.learn.new.self new c.in_ok-learn.field-0 learn.Same c.in_ok-learn.ensures.answer c.in_ok-learn.ensures.ok c.in-Same.is in
    let know : IsKnown new known true = did_same room new known (sym c.in_ok-learn.ensures.answer ∙ c.in-Same.is) in
    subst (λ (l : List Learnt). IsGood v.rows l) (sym list) (known_good v new good bound c.requires.named true know)

pub returns-in-Same-clause-fib : goal.returns-in-Same-clause-fib
returns-in-Same-clause-fib g c =
    let v : Vtep = the_view c.self.inside in
    let good : IsGood v.rows v.learned = subst (λ (w : Vtep). IsGood w.rows w.learned) (sym c.self.view_is) c.requires.good in
    let new : Learnt = c.args.new in
    let bound : is_bound_there v.rows new ≡ true = subst (λ (w : Vtep). is_bound_there w.rows new ≡ true) (sym c.self.view_is) c.requires.bound in
    let known : Option Learnt = found new.switch new.mac v.learned in
    let room : Bool = nat_lt (length v.learned) c.self.inside.learned.limit in
    let list : c.learn.new.self.entries ≡ put new v.learned = entries_after c.self.inside.learned c.learn.new.self new c.in_ok-learn.field-0 learn.Same c.in_ok-learn.ensures.answer c.in_ok-learn.ensures.ok c.in-Same.is in
    let know : IsKnown new known true = did_same room new known (sym c.in_ok-learn.ensures.answer ∙ c.in-Same.is) in
    c.requires.fib ∙ ap (λ (w : Vtep). fib_of w.rows w.learned) (sym c.self.view_is)
    ∙ (λ i. record { entries = sym (shown_same new v.rows v.learned know.entry know.known know.place) i; broken = false }) ∙ ap (fib_of v.rows) (sym list)

pub returns-in_ok-publish-in-Moved-clause-left : goal.returns-in_ok-publish-in-Moved-clause-left
returns-in_ok-publish-in-Moved-clause-left g c =
    let v : Vtep = the_view c.self.inside in
    let good : IsGood v.rows v.learned = subst (λ (w : Vtep). IsGood w.rows w.learned) (sym c.self.view_is) c.requires.good in
    let new : Learnt = c.args.new in
    let bound : is_bound_there v.rows new ≡ true = subst (λ (w : Vtep). is_bound_there w.rows new ≡ true) (sym c.self.view_is) c.requires.bound in
    let known : Option Learnt = found new.switch new.mac v.learned in
    let room : Bool = nat_lt (length v.learned) c.self.inside.learned.limit in
    let list : c.learn.new.self.entries ≡ put new v.learned = entries_after c.self.inside.learned c.learn.new.self new c.in_ok-learn.field-0 learn.Moved c.in_ok-learn.ensures.answer c.in_ok-learn.ensures.ok c.in-Moved.is in
    let know : IsKnown new known false = did_moved room new known (sym c.in_ok-learn.ensures.answer ∙ c.in-Moved.is) in
    let rows : c.commit_nothing.new.database.current ≡ v.rows = c.in_ok-change-in-Moved.ensures.rows in
    (λ i. record v { rows = rows i; learned = list i }) ∙ sym (ap (λ (s : Seen). s.vtep) (moved_seen v new good bound know)) ∙ ap (λ (w : Vtep). (seen_by w new (learns_in w new)).vtep) c.self.view_is

pub returns-in_ok-publish-in-Moved-clause-told : goal.returns-in_ok-publish-in-Moved-clause-told
returns-in_ok-publish-in-Moved-clause-told g c =
    let v : Vtep = the_view c.self.inside in
    let good : IsGood v.rows v.learned = subst (λ (w : Vtep). IsGood w.rows w.learned) (sym c.self.view_is) c.requires.good in
    let new : Learnt = c.args.new in
    let bound : is_bound_there v.rows new ≡ true = subst (λ (w : Vtep). is_bound_there w.rows new ≡ true) (sym c.self.view_is) c.requires.bound in
    let known : Option Learnt = found new.switch new.mac v.learned in
    let room : Bool = nat_lt (length v.learned) c.self.inside.learned.limit in
    let list : c.learn.new.self.entries ≡ put new v.learned = entries_after c.self.inside.learned c.learn.new.self new c.in_ok-learn.field-0 learn.Moved c.in_ok-learn.ensures.answer c.in_ok-learn.ensures.ok c.in-Moved.is in
    let know : IsKnown new known false = did_moved room new known (sym c.in_ok-learn.ensures.answer ∙ c.in-Moved.is) in
    let rows : c.commit_nothing.new.database.current ≡ v.rows = c.in_ok-change-in-Moved.ensures.rows in
    c.in_ok-publish-in-Moved.ensures.told v.rows (c.in_ok-change-in-Moved.ensures.change ∙ ap (changes v.rows) (sym rows)) ∙ ap (λ r. c.args.sends.now ++ told_all v.rows r v.monitors) rows
    ∙ ap (λ (s : Seen). c.args.sends.now ++ s.sends) (sym (moved_seen v new good bound know)) ∙ ap (λ (w : Vtep). c.args.sends.now ++ (seen_by w new (learns_in w new)).sends) c.self.view_is

pub returns-in_ok-publish-in-Moved-clause-good : goal.returns-in_ok-publish-in-Moved-clause-good
returns-in_ok-publish-in-Moved-clause-good g c =
    let v : Vtep = the_view c.self.inside in
    let good : IsGood v.rows v.learned = subst (λ (w : Vtep). IsGood w.rows w.learned) (sym c.self.view_is) c.requires.good in
    let new : Learnt = c.args.new in
    let bound : is_bound_there v.rows new ≡ true = subst (λ (w : Vtep). is_bound_there w.rows new ≡ true) (sym c.self.view_is) c.requires.bound in
    let known : Option Learnt = found new.switch new.mac v.learned in
    let room : Bool = nat_lt (length v.learned) c.self.inside.learned.limit in
    let list : c.learn.new.self.entries ≡ put new v.learned = entries_after c.self.inside.learned c.learn.new.self new c.in_ok-learn.field-0 learn.Moved c.in_ok-learn.ensures.answer c.in_ok-learn.ensures.ok c.in-Moved.is in
    let know : IsKnown new known false = did_moved room new known (sym c.in_ok-learn.ensures.answer ∙ c.in-Moved.is) in
    let rows : c.commit_nothing.new.database.current ≡ v.rows = c.in_ok-change-in-Moved.ensures.rows in
    subst (λ (p : Rows × List Learnt). IsGood p.0 p.1) (λ i. (sym rows i, sym list i)) (known_good v new good bound c.requires.named false know)

pub returns-in_ok-publish-in-Moved-clause-fib : goal.returns-in_ok-publish-in-Moved-clause-fib
returns-in_ok-publish-in-Moved-clause-fib g c =
    let v : Vtep = the_view c.self.inside in
    let good : IsGood v.rows v.learned = subst (λ (w : Vtep). IsGood w.rows w.learned) (sym c.self.view_is) c.requires.good in
    let new : Learnt = c.args.new in
    let bound : is_bound_there v.rows new ≡ true = subst (λ (w : Vtep). is_bound_there w.rows new ≡ true) (sym c.self.view_is) c.requires.bound in
    let known : Option Learnt = found new.switch new.mac v.learned in
    let room : Bool = nat_lt (length v.learned) c.self.inside.learned.limit in
    let list : c.learn.new.self.entries ≡ put new v.learned = entries_after c.self.inside.learned c.learn.new.self new c.in_ok-learn.field-0 learn.Moved c.in_ok-learn.ensures.answer c.in_ok-learn.ensures.ok c.in-Moved.is in
    let know : IsKnown new known false = did_moved room new known (sym c.in_ok-learn.ensures.answer ∙ c.in-Moved.is) in
    let rows : c.commit_nothing.new.database.current ≡ v.rows = c.in_ok-change-in-Moved.ensures.rows in
    c.in_ok-publish-in-Moved.ensures.fib v.rows v.learned good (c.in_ok-change-in-Moved.ensures.change ∙ ap (changes v.rows) (sym rows))
    (subst (λ (l : List Learnt). AreMoved v.learned l (new ∷ [])) (sym list) (put_moved new v.learned)) (c.requires.fib ∙ ap (λ (w : Vtep). fib_of w.rows w.learned) (sym c.self.view_is))

pub returns-in_ok-publish-in-Learnt-clause-left : goal.returns-in_ok-publish-in-Learnt-clause-left
returns-in_ok-publish-in-Learnt-clause-left g c =
    let v : Vtep = the_view c.self.inside in
    let good : IsGood v.rows v.learned = subst (λ (w : Vtep). IsGood w.rows w.learned) (sym c.self.view_is) c.requires.good in
    let new : Learnt = c.args.new in
    let bound : is_bound_there v.rows new ≡ true = subst (λ (w : Vtep). is_bound_there w.rows new ≡ true) (sym c.self.view_is) c.requires.bound in
    let known : Option Learnt = found new.switch new.mac v.learned in
    let room : Bool = nat_lt (length v.learned) c.self.inside.learned.limit in
    let list : c.learn.new.self.entries ≡ put new v.learned = entries_after c.self.inside.learned c.learn.new.self new c.in_ok-learn.field-0 learn.Learnt c.in_ok-learn.ensures.answer c.in_ok-learn.ensures.ok c.in-Learnt.is in
    let is = did_learn room new known (sym c.in_ok-learn.ensures.answer ∙ c.in-Learnt.is) in
    let spent : (not (is_some known) && (v.rows.counter == last_number)) ≡ false = search rules in
    let left : v.rows.counter < last_number = number_left known v.rows.counter spent is.0 good.settled.rows.count in
    let few : nat_lt (length v.learned) most_learnt ≡ true = ap (λ n. nat_lt (length v.learned) n) (sym c.self.invariant) ∙ is.1 in
    let own : c.own_address-own.result ≡ own_ip v.rows = search rules in
    let learning : IsLearning c.own_address-own.result v.rows v.learned new = subst (λ n. IsLearning n v.rows v.learned new) (sym own) (is_learning v new good bound c.requires.individual is.0) in
    let rows : c.commit_new.new.database.current ≡ learnt_rows v new good bound c.requires.individual is.0 =
    c.in_ok-change-in-Learnt.ensures.rows v.learned learning ∙ ap (λ n. (followed n v.rows v.rows (v.learned ++ new ∷ [])).rows) own in
    (λ i. record v { rows = rows i; learned = list i }) ∙ sym (ap (λ (s : Seen). s.vtep) (learnt_seen v new good bound c.requires.individual is.0 few left)) ∙ ap (λ (w : Vtep). (seen_by w new (learns_in w new)).vtep) c.self.view_is

pub returns-in_ok-publish-in-Learnt-clause-told : goal.returns-in_ok-publish-in-Learnt-clause-told
returns-in_ok-publish-in-Learnt-clause-told g c =
    let v : Vtep = the_view c.self.inside in
    let good : IsGood v.rows v.learned = subst (λ (w : Vtep). IsGood w.rows w.learned) (sym c.self.view_is) c.requires.good in
    let new : Learnt = c.args.new in
    let bound : is_bound_there v.rows new ≡ true = subst (λ (w : Vtep). is_bound_there w.rows new ≡ true) (sym c.self.view_is) c.requires.bound in
    let known : Option Learnt = found new.switch new.mac v.learned in
    let room : Bool = nat_lt (length v.learned) c.self.inside.learned.limit in
    let list : c.learn.new.self.entries ≡ put new v.learned = entries_after c.self.inside.learned c.learn.new.self new c.in_ok-learn.field-0 learn.Learnt c.in_ok-learn.ensures.answer c.in_ok-learn.ensures.ok c.in-Learnt.is in
    let is = did_learn room new known (sym c.in_ok-learn.ensures.answer ∙ c.in-Learnt.is) in
    let spent : (not (is_some known) && (v.rows.counter == last_number)) ≡ false = search rules in
    let left : v.rows.counter < last_number = number_left known v.rows.counter spent is.0 good.settled.rows.count in
    let few : nat_lt (length v.learned) most_learnt ≡ true = ap (λ n. nat_lt (length v.learned) n) (sym c.self.invariant) ∙ is.1 in
    let own : c.own_address-own.result ≡ own_ip v.rows = search rules in
    let learning : IsLearning c.own_address-own.result v.rows v.learned new = subst (λ n. IsLearning n v.rows v.learned new) (sym own) (is_learning v new good bound c.requires.individual is.0) in
    let rows : c.commit_new.new.database.current ≡ learnt_rows v new good bound c.requires.individual is.0 =
    c.in_ok-change-in-Learnt.ensures.rows v.learned learning ∙ ap (λ n. (followed n v.rows v.rows (v.learned ++ new ∷ [])).rows) own in
    c.in_ok-publish-in-Learnt.ensures.told v.rows (c.in_ok-change-in-Learnt.ensures.change v.learned learning) ∙ ap (λ r. c.args.sends.now ++ told_all v.rows r v.monitors) rows
    ∙ ap (λ (s : Seen). c.args.sends.now ++ s.sends) (sym (learnt_seen v new good bound c.requires.individual is.0 few left)) ∙ ap (λ (w : Vtep). c.args.sends.now ++ (seen_by w new (learns_in w new)).sends) c.self.view_is

pub returns-in_ok-publish-in-Learnt-clause-good : goal.returns-in_ok-publish-in-Learnt-clause-good
returns-in_ok-publish-in-Learnt-clause-good g c =
    let v : Vtep = the_view c.self.inside in
    let good : IsGood v.rows v.learned = subst (λ (w : Vtep). IsGood w.rows w.learned) (sym c.self.view_is) c.requires.good in
    let new : Learnt = c.args.new in
    let bound : is_bound_there v.rows new ≡ true = subst (λ (w : Vtep). is_bound_there w.rows new ≡ true) (sym c.self.view_is) c.requires.bound in
    let known : Option Learnt = found new.switch new.mac v.learned in
    let room : Bool = nat_lt (length v.learned) c.self.inside.learned.limit in
    let list : c.learn.new.self.entries ≡ put new v.learned = entries_after c.self.inside.learned c.learn.new.self new c.in_ok-learn.field-0 learn.Learnt c.in_ok-learn.ensures.answer c.in_ok-learn.ensures.ok c.in-Learnt.is in
    let is = did_learn room new known (sym c.in_ok-learn.ensures.answer ∙ c.in-Learnt.is) in
    let spent : (not (is_some known) && (v.rows.counter == last_number)) ≡ false = search rules in
    let left : v.rows.counter < last_number = number_left known v.rows.counter spent is.0 good.settled.rows.count in
    let few : nat_lt (length v.learned) most_learnt ≡ true = ap (λ n. nat_lt (length v.learned) n) (sym c.self.invariant) ∙ is.1 in
    let own : c.own_address-own.result ≡ own_ip v.rows = search rules in
    let learning : IsLearning c.own_address-own.result v.rows v.learned new = subst (λ n. IsLearning n v.rows v.learned new) (sym own) (is_learning v new good bound c.requires.individual is.0) in
    let rows : c.commit_new.new.database.current ≡ learnt_rows v new good bound c.requires.individual is.0 =
    c.in_ok-change-in-Learnt.ensures.rows v.learned learning ∙ ap (λ n. (followed n v.rows v.rows (v.learned ++ new ∷ [])).rows) own in
    subst (λ (p : Rows × List Learnt). IsGood p.0 p.1) (λ i. (sym rows i, sym list i)) (learnt_good v new good bound c.requires.individual is.0 few left c.requires.named)

pub returns-in_ok-publish-in-Learnt-clause-fib : goal.returns-in_ok-publish-in-Learnt-clause-fib
returns-in_ok-publish-in-Learnt-clause-fib g c =
    let v : Vtep = the_view c.self.inside in
    let good : IsGood v.rows v.learned = subst (λ (w : Vtep). IsGood w.rows w.learned) (sym c.self.view_is) c.requires.good in
    let new : Learnt = c.args.new in
    let bound : is_bound_there v.rows new ≡ true = subst (λ (w : Vtep). is_bound_there w.rows new ≡ true) (sym c.self.view_is) c.requires.bound in
    let known : Option Learnt = found new.switch new.mac v.learned in
    let room : Bool = nat_lt (length v.learned) c.self.inside.learned.limit in
    let list : c.learn.new.self.entries ≡ put new v.learned = entries_after c.self.inside.learned c.learn.new.self new c.in_ok-learn.field-0 learn.Learnt c.in_ok-learn.ensures.answer c.in_ok-learn.ensures.ok c.in-Learnt.is in
    let is = did_learn room new known (sym c.in_ok-learn.ensures.answer ∙ c.in-Learnt.is) in
    let spent : (not (is_some known) && (v.rows.counter == last_number)) ≡ false = search rules in
    let left : v.rows.counter < last_number = number_left known v.rows.counter spent is.0 good.settled.rows.count in
    let few : nat_lt (length v.learned) most_learnt ≡ true = ap (λ n. nat_lt (length v.learned) n) (sym c.self.invariant) ∙ is.1 in
    let own : c.own_address-own.result ≡ own_ip v.rows = search rules in
    let learning : IsLearning c.own_address-own.result v.rows v.learned new = subst (λ n. IsLearning n v.rows v.learned new) (sym own) (is_learning v new good bound c.requires.individual is.0) in
    let rows : c.commit_new.new.database.current ≡ learnt_rows v new good bound c.requires.individual is.0 =
    c.in_ok-change-in-Learnt.ensures.rows v.learned learning ∙ ap (λ n. (followed n v.rows v.rows (v.learned ++ new ∷ [])).rows) own in
    c.in_ok-publish-in-Learnt.ensures.fib v.rows v.learned good (c.in_ok-change-in-Learnt.ensures.change v.learned learning)
    (subst (λ (l : List Learnt). AreMoved v.learned l (new ∷ [])) (sym list) (put_moved new v.learned)) (c.requires.fib ∙ ap (λ (w : Vtep). fib_of w.rows w.learned) (sym c.self.view_is))

pub publish-requires-clause-good : goal.publish-requires-clause-good
publish-requires-clause-good g c =
    let v : Vtep = the_view c.self.inside in
    let good : IsGood v.rows v.learned = subst (λ (w : Vtep). IsGood w.rows w.learned) (sym c.self.view_is) c.requires.good in
    let new : Learnt = c.args.new in
    let bound : is_bound_there v.rows new ≡ true = subst (λ (w : Vtep). is_bound_there w.rows new ≡ true) (sym c.self.view_is) c.requires.bound in
    let known : Option Learnt = found new.switch new.mac v.learned in
    let room : Bool = nat_lt (length v.learned) c.self.inside.learned.limit in
    let list : c.learn.new.self.entries ≡ put new v.learned = entries_after c.self.inside.learned c.learn.new.self new c.in_ok-learn.field-0 learn.Moved c.in_ok-learn.ensures.answer c.in_ok-learn.ensures.ok c.in-Moved.is in
    let know : IsKnown new known false = did_moved room new known (sym c.in_ok-learn.ensures.answer ∙ c.in-Moved.is) in
    let rows : c.commit_nothing.new.database.current ≡ v.rows = c.in_ok-change-in-Moved.ensures.rows in
    subst (λ (p : Rows × List Learnt). IsGood p.0 p.1) (λ i. (sym rows i, sym list i)) (known_good v new good bound c.requires.named false know)

pub publish-requires-in-Learnt-clause-good : goal.publish-requires-in-Learnt-clause-good
publish-requires-in-Learnt-clause-good g c =
    let v : Vtep = the_view c.self.inside in
    let good : IsGood v.rows v.learned = subst (λ (w : Vtep). IsGood w.rows w.learned) (sym c.self.view_is) c.requires.good in
    let new : Learnt = c.args.new in
    let bound : is_bound_there v.rows new ≡ true = subst (λ (w : Vtep). is_bound_there w.rows new ≡ true) (sym c.self.view_is) c.requires.bound in
    let known : Option Learnt = found new.switch new.mac v.learned in
    let room : Bool = nat_lt (length v.learned) c.self.inside.learned.limit in
    let list : c.learn.new.self.entries ≡ put new v.learned = entries_after c.self.inside.learned c.learn.new.self new c.in_ok-learn.field-0 learn.Learnt c.in_ok-learn.ensures.answer c.in_ok-learn.ensures.ok c.in-Learnt.is in
    let is = did_learn room new known (sym c.in_ok-learn.ensures.answer ∙ c.in-Learnt.is) in
    let spent : (not (is_some known) && (v.rows.counter == last_number)) ≡ false = search rules in
    let left : v.rows.counter < last_number = number_left known v.rows.counter spent is.0 good.settled.rows.count in
    let few : nat_lt (length v.learned) most_learnt ≡ true = ap (λ n. nat_lt (length v.learned) n) (sym c.self.invariant) ∙ is.1 in
    let own : c.own_address-own.result ≡ own_ip v.rows = search rules in
    let learning : IsLearning c.own_address-own.result v.rows v.learned new = subst (λ n. IsLearning n v.rows v.learned new) (sym own) (is_learning v new good bound c.requires.individual is.0) in
    let rows : c.commit_new.new.database.current ≡ learnt_rows v new good bound c.requires.individual is.0 =
    c.in_ok-change-in-Learnt.ensures.rows v.learned learning ∙ ap (λ n. (followed n v.rows v.rows (v.learned ++ new ∷ [])).rows) own in
    subst (λ (p : Rows × List Learnt). IsGood p.0 p.1) (λ i. (sym rows i, sym list i)) (learnt_good v new good bound c.requires.individual is.0 few left c.requires.named)
