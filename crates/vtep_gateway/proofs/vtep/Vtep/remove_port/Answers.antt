use Rattle.std.proofs.Common.{rules, ◌≡◌, ℕ, ◌++◌, Option, Some, is_some, IfErr, IfSome, sym, ap, subst, ◌∙◌}
use Rattle.vtep_rows.specs.Rows.{Rows}
use Rattle.vtep_rows.specs.Changes.{changes}
use Rattle.vtep_rows.specs.Database.{Versions}
use Rattle.forward_program.specs.Readings.{own_ip}
use Rattle.local_tables.specs.Followed.{Committed}
use Rattle.local_tables.specs.Following.{without_all}
use Rattle.vtep_gateway.specs.declared.ports.PortFault.TheVariants as port
use Rattle.vtep_gateway.specs.Vtep.{Vtep}
use Rattle.vtep_gateway.specs.Monitors.{told_all}
use Rattle.vtep_gateway.specs.Commit.{changed}
use Rattle.vtep_gateway.specs.Ports.{port_named, without_port}
use Rattle.vtep_gateway.specs.Good.{IsGood}
use Rattle.vtep_gateway.specs.Ready.{fib_of}
use Rattle.vtep_gateway.specs.contracts.vtep.Vtep.{the_view}
use Rattle.vtep_gateway.proofs.Kept.{changed_is}
use Rattle.vtep_gateway.proofs.PortCommits.{IsKept, the_port, leave_kept, changed_by, kept_by, told_by, good_by, memory_err}
use Rattle.vtep_gateway.proofs.vtep.Vtep.remove_port.Goals as goal

pub commit_unchecked-requires-clause-changed : goal.commit_unchecked-requires-clause-changed
commit_unchecked-requires-clause-changed g c =
    let v : Vtep = the_view c.self.inside in
    let good : IsGood v.rows v.learned = subst (λ (w : Vtep). IsGood w.rows w.learned) (sym c.self.view_is) c.requires.good in
    let own : c.own_address-own.result ≡ own_ip v.rows = search rules in
    let name = c.args.name.now in
    let b : Versions = c.begin.new.self in
    let d : Versions = c.remove_port.new.database in
    let found = the_port (λ id. d ≡ record b { current = without_port b.current id }) (port_named b.current name) c.in_ok-remove_port.ensures.found c.in_ok-remove_port.ensures.removed in
    let named : port_named v.rows name ≡ Some found.0 = sym (ap (λ (x : Versions). port_named x.current name) c.begin.ensures) ∙ found.1 in
    let r : Rows = without_port v.rows found.0 in
    let same : d ≡ record { committed = v.rows; current = r } = found.2 ∙ ap (λ (x : Versions). let w : Versions = record x { current = without_port x.current found.0 } in w) c.begin.ensures in
    let is : IsKept v r = leave_kept v found.0 good in
    changed_by v r is c.own_address-own.result d own same

pub commit_unchecked-requires-clause-kept : goal.commit_unchecked-requires-clause-kept
commit_unchecked-requires-clause-kept g c =
    let v : Vtep = the_view c.self.inside in
    let good : IsGood v.rows v.learned = subst (λ (w : Vtep). IsGood w.rows w.learned) (sym c.self.view_is) c.requires.good in
    let own : c.own_address-own.result ≡ own_ip v.rows = search rules in
    let name = c.args.name.now in
    let b : Versions = c.begin.new.self in
    let d : Versions = c.remove_port.new.database in
    let found = the_port (λ id. d ≡ record b { current = without_port b.current id }) (port_named b.current name) c.in_ok-remove_port.ensures.found c.in_ok-remove_port.ensures.removed in
    let named : port_named v.rows name ≡ Some found.0 = sym (ap (λ (x : Versions). port_named x.current name) c.begin.ensures) ∙ found.1 in
    let r : Rows = without_port v.rows found.0 in
    let same : d ≡ record { committed = v.rows; current = r } = found.2 ∙ ap (λ (x : Versions). let w : Versions = record x { current = without_port x.current found.0 } in w) c.begin.ensures in
    let is : IsKept v r = leave_kept v found.0 good in
    kept_by v r is c.own_address-own.result d own same

pub conclude-requires-clause-good : goal.conclude-requires-clause-good
conclude-requires-clause-good g c =
    let v : Vtep = the_view c.self.inside in
    let good : IsGood v.rows v.learned = subst (λ (w : Vtep). IsGood w.rows w.learned) (sym c.self.view_is) c.requires.good in
    let own : c.own_address-own.result ≡ own_ip v.rows = search rules in
    let name = c.args.name.now in
    let b : Versions = c.begin.new.self in
    let d : Versions = c.remove_port.new.database in
    let found = the_port (λ id. d ≡ record b { current = without_port b.current id }) (port_named b.current name) c.in_ok-remove_port.ensures.found c.in_ok-remove_port.ensures.removed in
    let named : port_named v.rows name ≡ Some found.0 = sym (ap (λ (x : Versions). port_named x.current name) c.begin.ensures) ∙ found.1 in
    let r : Rows = without_port v.rows found.0 in
    let same : d ≡ record { committed = v.rows; current = r } = found.2 ∙ ap (λ (x : Versions). let w : Versions = record x { current = without_port x.current found.0 } in w) c.begin.ensures in
    let is : IsKept v r = leave_kept v found.0 good in
    let k : Committed = record { rows = c.commit_unchecked.new.database.current; learned = without_all c.in_ok-kept.kept.gone v.learned } in
    good_by v r is c.own_address-own.result d own same k c.in_ok-kept.ensures.kept

pub returns-in_err-conclude-clause-refused : goal.returns-in_err-conclude-clause-refused
returns-in_err-conclude-clause-refused g c =
    let told : IfErr c.from_residual-in_err-conclude.result (λ fault. fault ≡ port.OutOfMemory) = search rules in
    memory_err _ c.from_residual-in_err-conclude.result told

pub returns-clause-good : goal.returns-clause-good
returns-clause-good g c =
    let v : Vtep = the_view c.self.inside in
    let good : IsGood v.rows v.learned = subst (λ (w : Vtep). IsGood w.rows w.learned) (sym c.self.view_is) c.requires.good in
    let own : c.own_address-own.result ≡ own_ip v.rows = search rules in
    let name = c.args.name.now in
    let b : Versions = c.begin.new.self in
    let d : Versions = c.remove_port.new.database in
    let found = the_port (λ id. d ≡ record b { current = without_port b.current id }) (port_named b.current name) c.in_ok-remove_port.ensures.found c.in_ok-remove_port.ensures.removed in
    let named : port_named v.rows name ≡ Some found.0 = sym (ap (λ (x : Versions). port_named x.current name) c.begin.ensures) ∙ found.1 in
    let r : Rows = without_port v.rows found.0 in
    let same : d ≡ record { committed = v.rows; current = r } = found.2 ∙ ap (λ (x : Versions). let w : Versions = record x { current = without_port x.current found.0 } in w) c.begin.ensures in
    let is : IsKept v r = leave_kept v found.0 good in
    let k : Committed = record { rows = c.commit_unchecked.new.database.current; learned = without_all c.in_ok-kept.kept.gone v.learned } in
    subst (λ (w : Vtep). IsGood w.rows w.learned) (sym c.in_ok-conclude.ensures.left) (good_by v r is c.own_address-own.result d own same k c.in_ok-kept.ensures.kept)

pub returns-clause-fib : goal.returns-clause-fib
returns-clause-fib g c =
    let v : Vtep = the_view c.self.inside in
    let good : IsGood v.rows v.learned = subst (λ (w : Vtep). IsGood w.rows w.learned) (sym c.self.view_is) c.requires.good in
    let own : c.own_address-own.result ≡ own_ip v.rows = search rules in
    let name = c.args.name.now in
    let b : Versions = c.begin.new.self in
    let d : Versions = c.remove_port.new.database in
    let found = the_port (λ id. d ≡ record b { current = without_port b.current id }) (port_named b.current name) c.in_ok-remove_port.ensures.found c.in_ok-remove_port.ensures.removed in
    let named : port_named v.rows name ≡ Some found.0 = sym (ap (λ (x : Versions). port_named x.current name) c.begin.ensures) ∙ found.1 in
    let r : Rows = without_port v.rows found.0 in
    let same : d ≡ record { committed = v.rows; current = r } = found.2 ∙ ap (λ (x : Versions). let w : Versions = record x { current = without_port x.current found.0 } in w) c.begin.ensures in
    let is : IsKept v r = leave_kept v found.0 good in
    let k : Committed = record { rows = c.commit_unchecked.new.database.current; learned = without_all c.in_ok-kept.kept.gone v.learned } in
    let change : c.in_ok-kept.kept.change ≡ changes v.rows k.rows = c.in_ok-kept.ensures.change ∙ ap (λ (x : Versions). changes x.committed k.rows) same in
    c.in_ok-conclude.ensures.fib v.rows good change (c.requires.fib ∙ ap (λ (w : Vtep). fib_of w.rows w.learned) (sym c.self.view_is))

pub returns-clause-left : goal.returns-clause-left
returns-clause-left g c =
    let v : Vtep = the_view c.self.inside in
    let good : IsGood v.rows v.learned = subst (λ (w : Vtep). IsGood w.rows w.learned) (sym c.self.view_is) c.requires.good in
    let own : c.own_address-own.result ≡ own_ip v.rows = search rules in
    let name = c.args.name.now in
    let b : Versions = c.begin.new.self in
    let d : Versions = c.remove_port.new.database in
    let found = the_port (λ id. d ≡ record b { current = without_port b.current id }) (port_named b.current name) c.in_ok-remove_port.ensures.found c.in_ok-remove_port.ensures.removed in
    let named : port_named v.rows name ≡ Some found.0 = sym (ap (λ (x : Versions). port_named x.current name) c.begin.ensures) ∙ found.1 in
    let r : Rows = without_port v.rows found.0 in
    let same : d ≡ record { committed = v.rows; current = r } = found.2 ∙ ap (λ (x : Versions). let w : Versions = record x { current = without_port x.current found.0 } in w) c.begin.ensures in
    let is : IsKept v r = leave_kept v found.0 good in
    let k : Committed = record { rows = c.commit_unchecked.new.database.current; learned = without_all c.in_ok-kept.kept.gone v.learned } in
    let change : c.in_ok-kept.kept.change ≡ changes v.rows k.rows = c.in_ok-kept.ensures.change ∙ ap (λ (x : Versions). changes x.committed k.rows) same in
    let sends = c.conclude.new.sends in
    subst (λ (w : Vtep). IfSome (port_named w.rows name) (λ id. changed w (without_port w.rows id) w.learned ≡ record { vtep = c.conclude.new.self; sends = sends })) c.self.view_is
    (subst (λ (o : Option ℕ). IfSome o (λ id. changed v (without_port v.rows id) v.learned ≡ record { vtep = c.conclude.new.self; sends = sends })) (sym named)
    (changed_is v r v.learned k c.conclude.new.self sends (told_by v r is c.own_address-own.result d own same k c.in_ok-kept.ensures.kept) c.in_ok-conclude.ensures.left
    (c.in_ok-conclude.ensures.told v.rows change ∙ ap (λ sends. sends ++ told_all v.rows k.rows v.monitors) c.new-sends.ensures)))

pub returns-clause-found : goal.returns-clause-found
returns-clause-found g c =
    ap (λ (w : Vtep). is_some (port_named w.rows c.args.name.now)) (sym c.self.view_is) ∙ sym (ap (λ (b : Versions). is_some (port_named b.current c.args.name.now)) c.begin.ensures) ∙ c.in_ok-remove_port.ensures.found
