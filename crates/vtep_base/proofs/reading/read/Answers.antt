use Rattle.std.proofs.Common.{◌≡◌, Err, sym, ap, ◌∙◌, arith, length}
use Rattle.vtep_base.specs.Reading.{value_or}
use Rattle.vtep_base.proofs.OneRead.{one_more, stops, ends}
use Rattle.vtep_base.proofs.reading.read.Goals as goal

pub returns-in_default : goal.returns-in_default
returns-in_default g c = sym c.bytes.invariant ∙ stops g.F.Front.step g.F.Front.done _ c.args.text.now _ c.bytes-test.true (sym c.step.ensures ∙ c.in_default.is)

pub bytes-preserved : goal.bytes-preserved
bytes-preserved g c = sym (one_more g.F.Front.step g.F.Front.done _ c.in-Some.next c.args.text.now _ c.bytes-test.true (sym c.step.ensures ∙ c.in-Some.is)) ∙ c.bytes.invariant

pub returns-in-Some-done : goal.returns-in-Some-done
returns-in-Some-done g c = sym c.bytes.invariant ∙ ends g.F.Front.step g.F.Front.done _ c.args.text.now _ c.bytes-test.false ∙ ap (value_or c.bytes.offset) (sym c.done.ensures ∙ c.in-Some-done.is)

pub returns-in-None : goal.returns-in-None
returns-in-None g c = let e : c.bytes.offset ≡ length c.args.text.now = omega arith in
    sym c.bytes.invariant ∙ ends g.F.Front.step g.F.Front.done _ c.args.text.now _ c.bytes-test.false ∙ ap (value_or c.bytes.offset) (sym c.done.ensures ∙ c.in-None.is) ∙ ap Err e
