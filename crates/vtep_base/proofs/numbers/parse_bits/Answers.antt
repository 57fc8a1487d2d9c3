use Rattle.std.proofs.Common.{None, ◌≡◌, Ok}
use Rattle.vtep_base.specs.Texts.{read_ipv4, ipv4_of, dotted_step, dotted_done}
use Rattle.vtep_base.specs.declared.numbers.Octets.TheVariants.{Zero}
use Rattle.vtep_base.proofs.LongestFront.{is_longest, longest_on_err}
use Rattle.vtep_base.proofs.Completed.{dotted_completes}
use Rattle.vtep_base.proofs.numbers.parse_bits.Goals as goal

pub returns-clause-longest : goal.returns-clause-longest
returns-clause-longest c = longest_on_err (λ f. f.offset) ipv4_of c.args.text.now c.read.result (read_ipv4 c.args.text.now) (λ n. read_ipv4 c.args.text.now ≡ Ok n)
    (λ m. is_longest dotted_step dotted_done dotted_completes c.args.text.now m (record { finished = Zero; octet = None })) c.read.ensures
