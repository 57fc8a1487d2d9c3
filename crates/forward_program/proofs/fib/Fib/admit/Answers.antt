use Rattle.std.proofs.Common.{ap, ◌∙◌}
use Rattle.ether_frames.specs.declared.fields.Headers.{Headers}
use Rattle.forward_program.specs.Hop.{admitted, ways_at}
use Rattle.forward_program.proofs.WayLaws.{admission_told}
use Rattle.forward_program.proofs.fib.Fib.admit.Goals as goal

pub returns-clause-built : goal.returns-clause-built
returns-clause-built g c r l rows sound once is = admission_told c.args.self.now.entries (c.args.port, c.args.vlan) c.args.inner.now c.enter.result r l rows sound once is (c.enter.ensures ∙ ap (λ (h : Headers). admitted (ways_at c.args.self.now.entries) (c.args.port, c.args.vlan) h ((ways_at c.args.self.now.entries).bound (c.args.port, c.args.vlan))) c.headers.ensures)
