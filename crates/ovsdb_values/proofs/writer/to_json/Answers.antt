use Rattle.ovsdb_values.proofs.ReadBack.{read_back_on_ok}
use Rattle.ovsdb_values.proofs.writer.to_json.Goals as goal

pub returns-clause-read_back : goal.returns-clause-read_back
returns-clause-read_back c = read_back_on_ok c.args.shape c.args.datum.now c.datum_json.result c.datum_json.ensures
