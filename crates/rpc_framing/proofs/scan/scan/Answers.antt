use Rattle.std.proofs.Common.{sym, arith}
use Rattle.rpc_framing.proofs.Scanned.{goes_on, too_deep, too_long, closes, one_more, all_open, all_scanned}
use Rattle.rpc_framing.proofs.scan.scan.Goals as goal

pub bytes-init : goal.bytes-init
bytes-init c = record { so_far = goes_on c.args.limit c.args.text.now c.args.count c.args.cursor c.requires.scanned; shallow = c.requires.scanned.shallow }

pub returns-then-next-gt-DEEPEST-clause-value : goal.returns-then-next-gt-DEEPEST-clause-value
returns-then-next-gt-DEEPEST-clause-value c =
    too_deep c.args.limit c.args.text.now c.bytes.place c.bytes.cursor c.after-next.result _ c.bytes.invariant.so_far c.bytes-test.true c.after-next.ensures.value (omega (arith, c.after-next.ensures.shallow, c.if-next-gt-DEEPEST.true))

pub returns-then-place-limit-clause-value : goal.returns-then-place-limit-clause-value
returns-then-place-limit-clause-value c =
    too_long c.args.limit c.args.text.now c.bytes.place c.bytes.cursor c.after-next.result _ c.bytes.invariant.so_far c.bytes-test.true c.after-next.ensures.value (λ e. omega (arith, e, c.if-next-gt-DEEPEST.false)) c.if-place-limit.true

pub returns-then-next-eq0-clause-value : goal.returns-then-next-eq0-clause-value
returns-then-next-eq0-clause-value c =
    closes c.args.limit c.args.text.now c.bytes.place c.bytes.cursor c.after-next.result _ c.bytes.invariant.so_far c.bytes-test.true c.after-next.ensures.value (λ e. omega (arith, e, c.if-next-gt-DEEPEST.false)) c.if-place-limit.false c.if-next-eq0.true

pub bytes-preserved : goal.bytes-preserved
bytes-preserved c = record {
  so_far = one_more c.args.limit c.args.text.now c.bytes.place c.bytes.cursor c.after-next.result _ c.bytes.invariant.so_far c.bytes-test.true c.after-next.ensures.value (λ e. omega (arith, e, c.if-next-gt-DEEPEST.false)) c.if-place-limit.false c.if-next-eq0.false;
  shallow = omega (arith, c.if-next-gt-DEEPEST.false);
}

pub returns-clause-value : goal.returns-clause-value
returns-clause-value c = all_open c.args.limit c.args.text.now c.bytes.place c.bytes.cursor _ c.bytes.invariant.so_far (omega (arith, c.bytes-test.false))

pub returns-clause-open : goal.returns-clause-open
returns-clause-open c = all_scanned c.args.limit c.args.text.now c.bytes.cursor c.bytes.invariant.shallow (sym (returns-clause-value c))
