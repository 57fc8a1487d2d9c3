use Rattle.std.proofs.Common.{inl, inr, arith}
use Rattle.vtep_base.proofs.NameLaws.{not_read_longest}
use Rattle.vtep_base.proofs.names.Name.parse.Goals as goal
use Rattle.vtep_base.proofs.names.Name.parse.Goals.{then-offset-eq0-via-then-offset-eq0, then-offset-eq0-via-else-offset-eq0+then-offset-text}

pub returns-then-offset-eq0-clause-longest : goal.returns-then-offset-eq0-clause-longest
returns-then-offset-eq0-clause-longest c = not_read_longest c.args.text.now c.front_length-offset.result c.front_length-offset.ensures
    (elim c.then-offset-eq0.branch [ then-offset-eq0-via-then-offset-eq0 w ↦ inl (omega (arith, w.if-offset-eq0)) | then-offset-eq0-via-else-offset-eq0+then-offset-text w ↦ inr (omega (arith, w.if-offset-text)) ])
