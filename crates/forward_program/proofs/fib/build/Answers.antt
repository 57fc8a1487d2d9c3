use Rattle.std.proofs.Common.{ap, ◌∙◌}
use Rattle.vtep_rows.specs.Row.{put_all}
use Rattle.forward_program.specs.Spots.{State}
use Rattle.forward_program.specs.Hosts.{with_learnt}
use Rattle.forward_program.specs.Shown.{all_entries, with_acls}
use Rattle.forward_program.proofs.Told.{state_told}
use Rattle.forward_program.proofs.fib.build.Goals as goal

pub returns-clause-built : goal.returns-clause-built
returns-clause-built g c =
    state_told c.args.rows.now c.args.learned.now.entries c.counter.ensures.rows c.requires.sound c.entries.ensures.once _
    (c.in_ok-fill_all.ensures.ok ∙ ap (λ (s : State). with_learnt c.args.learned.now.entries (with_acls c.args.rows.now (put_all s.entries (all_entries c.args.rows.now)))) c.new-fib.ensures)
