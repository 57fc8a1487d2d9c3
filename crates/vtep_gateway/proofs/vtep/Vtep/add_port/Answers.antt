use Rattle.std.proofs.Common.{rules, ◌≡◌, ◌++◌, None, IfErr, sym, ap, subst, ◌∙◌}
use Rattle.vtep_rows.specs.Rows.{Rows}
use Rattle.vtep_rows.specs.Changes.{changes}
use Rattle.vtep_rows.specs.Database.{Versions}
use Rattle.forward_program.specs.Readings.{own_ip}
use Rattle.local_tables.specs.Followed.{Committed}
use Rattle.local_tables.specs.Following.{without_all}
use Rattle.vtep_gateway.specs.declared.ports.PortFault.TheVariants as port
use Rattle.vtep_gateway.specs.Vtep.{Vtep}
use Rattle.vtep_gateway.specs.Monitors.{told_all}
use Rattle.vtep_gateway.specs.Commit.{changed}
use Rattle.vtep_gateway.specs.Ports.{port_refusal, with_port}
use Rattle.vtep_gateway.specs.Good.{IsGood}
use Rattle.vtep_gateway.specs.Ready.{fib_of}
use Rattle.vtep_gateway.specs.contracts.vtep.Vtep.{the_view}
use Rattle.vtep_gateway.proofs.Kept.{changed_is}
use Rattle.vtep_gateway.proofs.PortCommits.{IsKept, join_kept, changed_by, kept_by, told_by, good_by, memory_err}
use Rattle.vtep_gateway.proofs.vtep.Vtep.add_port.Goals as goal

pub commit_unchecked-requires-clause-changed : goal.commit_unchecked-requires-clause-changed
commit_unchecked-requires-clause-changed g c =
    let v : Vtep = the_view c.self.inside in
    let good : IsGood v.rows v.learned = subst (λ (w : Vtep). IsGood w.rows w.learned) (sym c.self.view_is) c.requires.good in
    let own : c.own_address-own.result ≡ own_ip v.rows = search rules in
    let name = c.args.name.now in
    let free : port_refusal v.rows name ≡ None = sym (ap (λ (b : Versions). port_refusal b.current name) c.begin.ensures) ∙ c.in_ok-add_port.ensures.free in
    let r : Rows = with_port v.rows name in
    let d : Versions = c.add_port.new.database in
    let same : d ≡ record { committed = v.rows; current = r } = c.in_ok-add_port.ensures.added ∙ ap (λ (b : Versions). let w : Versions = record b { current = with_port b.current name } in w) c.begin.ensures in
    let is : IsKept v r = join_kept v name good c.in_ok-add_port.ensures.form free in
    changed_by v r is c.own_address-own.result d own same

pub commit_unchecked-requires-clause-kept : goal.commit_unchecked-requires-clause-kept
commit_unchecked-requires-clause-kept g c =
    let v : Vtep = the_view c.self.inside in
    let good : IsGood v.rows v.learned = subst (λ (w : Vtep). IsGood w.rows w.learned) (sym c.self.view_is) c.requires.good in
    let own : c.own_address-own.result ≡ own_ip v.rows = search rules in
    let name = c.args.name.now in
    let free : port_refusal v.rows name ≡ None = sym (ap (λ (b : Versions). port_refusal b.current name) c.begin.ensures) ∙ c.in_ok-add_port.ensures.free in
    let r : Rows = with_port v.rows name in
    let d : Versions = c.add_port.new.database in
    let same : d ≡ record { committed = v.rows; current = r } = c.in_ok-add_port.ensures.added ∙ ap (λ (b : Versions). let w : Versions = record b { current = with_port b.current name } in w) c.begin.ensures in
    let is : IsKept v r = join_kept v name good c.in_ok-add_port.ensures.form free in
    kept_by v r is c.own_address-own.result d own same

pub conclude-requires-clause-good : goal.conclude-requires-clause-good
conclude-requires-clause-good g c =
    let v : Vtep = the_view c.self.inside in
    let good : IsGood v.rows v.learned = subst (λ (w : Vtep). IsGood w.rows w.learned) (sym c.self.view_is) c.requires.good in
    let own : c.own_address-own.result ≡ own_ip v.rows = search rules in
    let name = c.args.name.now in
    let free : port_refusal v.rows name ≡ None = sym (ap (λ (b : Versions). port_refusal b.current name) c.begin.ensures) ∙ c.in_ok-add_port.ensures.free in
    let r : Rows = with_port v.rows name in
    let d : Versions = c.add_port.new.database in
    let same : d ≡ record { committed = v.rows; current = r } = c.in_ok-add_port.ensures.added ∙ ap (λ (b : Versions). let w : Versions = record b { current = with_port b.current name } in w) c.begin.ensures in
    let is : IsKept v r = join_kept v name good c.in_ok-add_port.ensures.form free in
    let k : Committed = record { rows = c.commit_unchecked.new.database.current; learned = without_all c.in_ok-kept.kept.gone v.learned } in
    good_by v r is c.own_address-own.result d own same k c.in_ok-kept.ensures.kept

pub returns-in_err-conclude-clause-refused : goal.returns-in_err-conclude-clause-refused
returns-in_err-conclude-clause-refused g c =
    let told : IfErr c.from_residual-in_err-conclude.result (λ fault. fault ≡ port.OutOfMemory) = search rules in
    memory_err _ c.from_residual-in_err-conclude.result told

pub returns-clause-good : goal.returns-clause-good
returns-clause-good g c =
    let v : Vtep = the_view c.self.inside in
    let good : IsGood v.rows v.learned = subst (λ (w : Vtep). IsGood w.rows w.learned) (sym c.self.view_is) c.requires.good in
    let own : c.own_address-own.result ≡ own_ip v.rows = search rules in
    let name = c.args.name.now in
    let free : port_refusal v.rows name ≡ None = sym (ap (λ (b : Versions). port_refusal b.current name) c.begin.ensures) ∙ c.in_ok-add_port.ensures.free in
    let r : Rows = with_port v.rows name in
    let d : Versions = c.add_port.new.database in
    let same : d ≡ record { committed = v.rows; current = r } = c.in_ok-add_port.ensures.added ∙ ap (λ (b : Versions). let w : Versions = record b { current = with_port b.current name } in w) c.begin.ensures in
    let is : IsKept v r = join_kept v name good c.in_ok-add_port.ensures.form free in
    let k : Committed = record { rows = c.commit_unchecked.new.database.current; learned = without_all c.in_ok-kept.kept.gone v.learned } in
    subst (λ (w : Vtep). IsGood w.rows w.learned) (sym c.in_ok-conclude.ensures.left) (good_by v r is c.own_address-own.result d own same k c.in_ok-kept.ensures.kept)

pub returns-clause-fib : goal.returns-clause-fib
returns-clause-fib g c =
    let v : Vtep = the_view c.self.inside in
    let good : IsGood v.rows v.learned = subst (λ (w : Vtep). IsGood w.rows w.learned) (sym c.self.view_is) c.requires.good in
    let own : c.own_address-own.result ≡ own_ip v.rows = search rules in
    let name = c.args.name.now in
    let free : port_refusal v.rows name ≡ None = sym (ap (λ (b : Versions). port_refusal b.current name) c.begin.ensures) ∙ c.in_ok-add_port.ensures.free in
    let r : Rows = with_port v.rows name in
    let d : Versions = c.add_port.new.database in
    let same : d ≡ record { committed = v.rows; current = r } = c.in_ok-add_port.ensures.added ∙ ap (λ (b : Versions). let w : Versions = record b { current = with_port b.current name } in w) c.begin.ensures in
    let is : IsKept v r = join_kept v name good c.in_ok-add_port.ensures.form free in
    let k : Committed = record { rows = c.commit_unchecked.new.database.current; learned = without_all c.in_ok-kept.kept.gone v.learned } in
    let change : c.in_ok-kept.kept.change ≡ changes v.rows k.rows = c.in_ok-kept.ensures.change ∙ ap (λ (x : Versions). changes x.committed k.rows) same in
    c.in_ok-conclude.ensures.fib v.rows good change (c.requires.fib ∙ ap (λ (w : Vtep). fib_of w.rows w.learned) (sym c.self.view_is))

pub returns-clause-left : goal.returns-clause-left
returns-clause-left g c =
    let v : Vtep = the_view c.self.inside in
    let good : IsGood v.rows v.learned = subst (λ (w : Vtep). IsGood w.rows w.learned) (sym c.self.view_is) c.requires.good in
    let own : c.own_address-own.result ≡ own_ip v.rows = search rules in
    let name = c.args.name.now in
    let free : port_refusal v.rows name ≡ None = sym (ap (λ (b : Versions). port_refusal b.current name) c.begin.ensures) ∙ c.in_ok-add_port.ensures.free in
    let r : Rows = with_port v.rows name in
    let d : Versions = c.add_port.new.database in
    let same : d ≡ record { committed = v.rows; current = r } = c.in_ok-add_port.ensures.added ∙ ap (λ (b : Versions). let w : Versions = record b { current = with_port b.current name } in w) c.begin.ensures in
    let is : IsKept v r = join_kept v name good c.in_ok-add_port.ensures.form free in
    let k : Committed = record { rows = c.commit_unchecked.new.database.current; learned = without_all c.in_ok-kept.kept.gone v.learned } in
    let change : c.in_ok-kept.kept.change ≡ changes v.rows k.rows = c.in_ok-kept.ensures.change ∙ ap (λ (x : Versions). changes x.committed k.rows) same in
    ap (λ (w : Vtep). changed w (with_port w.rows name) w.learned) (sym c.self.view_is)
    ∙ changed_is v r v.learned k c.conclude.new.self c.conclude.new.sends (told_by v r is c.own_address-own.result d own same k c.in_ok-kept.ensures.kept) c.in_ok-conclude.ensures.left
    (c.in_ok-conclude.ensures.told v.rows change ∙ ap (λ sends. sends ++ told_all v.rows k.rows v.monitors) c.new-sends.ensures)

pub returns-clause-free : goal.returns-clause-free
returns-clause-free g c =
    ap (λ (w : Vtep). port_refusal w.rows c.args.name.now) (sym c.self.view_is) ∙ sym (ap (λ (b : Versions). port_refusal b.current c.args.name.now) c.begin.ensures) ∙ c.in_ok-add_port.ensures.free
