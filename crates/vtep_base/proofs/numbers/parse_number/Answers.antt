use Rattle.std.proofs.Common.{None, ◌≤◌, ◌≡◌, Ok}
use Rattle.vtep_base.specs.Texts.{read_number, number_upto, number_step, number_done}
use Rattle.vtep_base.proofs.Within.{number_within, answered}
use Rattle.vtep_base.proofs.LongestFront.{is_longest, longest_on_err}
use Rattle.vtep_base.proofs.Completed.{number_completes}
use Rattle.vtep_base.proofs.numbers.parse_number.Goals as goal

pub returns-clause-longest : goal.returns-clause-longest
returns-clause-longest c = longest_on_err (λ f. f.offset) (number_upto c.args.most) c.args.text.now c.read.result (read_number c.args.most c.args.text.now) (λ n. read_number c.args.most c.args.text.now ≡ Ok n)
    (λ m. is_longest number_step number_done number_completes c.args.text.now m (record { most = c.args.most; value = None })) c.read.ensures

pub returns-clause-within : goal.returns-clause-within
returns-clause-within c = answered (λ n. n ≤ c.args.most) (λ f. f.offset) c.read.result (read_number c.args.most c.args.text.now) c.read.ensures (number_within c.args.most 0 None c.args.text.now tt)
