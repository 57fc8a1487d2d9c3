use Rattle.std.proofs.Common.{◌≡◌, ◌≤◌, Err, sym, ap, subst, ◌∙◌}
use Rattle.vtep_rows.specs.Rows.{Rows, last_number}
use Rattle.vtep_rows.specs.Sound.{broken}
use Rattle.local_tables.specs.Followed.{commit}
use Rattle.local_tables.proofs.Versioned.{err_so, or_so}
use Rattle.vtep_gateway.specs.CommitFaults.{rule_of}
use Rattle.vtep_gateway.proofs.Collecting.{unbroken}
use Rattle.vtep_gateway.proofs.Kept.{broken_commits}
use Rattle.vtep_gateway.proofs.commit.commit.Goals as goal

pub broken-requires : goal.broken-requires
broken-requires c = ap (λ v. broken v.committed) c.in-Ok.ensures.rows ∙ unbroken c.args.database.now.committed c.requires.changed.sound

pub returns-in-Some-clause-broken : goal.returns-in-Some-clause-broken
returns-in-Some-clause-broken c =
    let d = c.args.database.now in
    let few : c.follow.new.database.current.counter ≤ last_number = subst (λ n. n ≤ last_number) (c.counter.ensures.value ∙ ap (λ (r : Rows). r.counter) c.rows.ensures) c.counter.ensures.most in
    err_so c.take_back.result
    (λ fault. or_so (rule_of fault)
    (λ why h. (
      subst (λ rule. commit c.args.own d.committed d.current c.args.learned.now.entries ≡ Err rule) (sym h.0)
          (broken_commits c.args.own d c.follow.new.database c.args.learned.now.entries c.in-Some.rule c.in-Ok.ensures.rows few (sym c.broken.ensures ∙ c.in-Some.is)),
      h.1 ∙ ap (λ v. v.committed) c.in-Ok.ensures.rows,
    )))
    c.take_back.ensures.back
