use Rattle.std.proofs.Common.{◌≡◌, Ok}
use Rattle.vtep_base.specs.Addresses.{read_mac, mac_of, mac_step, mac_done}
use Rattle.vtep_base.proofs.LongestFront.{is_longest, longest_on_err}
use Rattle.vtep_base.proofs.Completed.{mac_completes}
use Rattle.vtep_base.proofs.addresses.Mac.parse.Goals as goal

pub returns-clause-longest : goal.returns-clause-longest
returns-clause-longest c = longest_on_err (λ f. f.offset) mac_of c.args.text.now c.read.result (read_mac c.args.text.now) (λ m. read_mac c.args.text.now ≡ Ok m)
    (λ m. is_longest mac_step mac_done mac_completes c.args.text.now m (17, 0)) c.read.ensures
