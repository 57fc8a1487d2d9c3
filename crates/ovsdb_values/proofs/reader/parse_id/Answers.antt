use Rattle.std.proofs.Common.{true≢false, sym}
use Rattle.ovsdb_values.proofs.Ids.{spells_none}
use Rattle.ovsdb_values.proofs.reader.parse_id.Goals as goal

pub returns-in-Err-clause-value : goal.returns-in-Err-clause-value
returns-in-Err-clause-value c = spells_none c.args.text.now (λ u e. true≢false (sym ((rw c.in-Err.is at c.parse_str.ensures.ok).1 (u, e))))
