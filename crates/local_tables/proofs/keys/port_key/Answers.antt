use Rattle.vtep_rows.proofs.Texts.{name_is_text}
use Rattle.local_tables.proofs.keys.port_key.Goals as goal

pub ascii_text-requires : goal.ascii_text-requires
ascii_text-requires c = name_is_text c.as_slice.result.now c.as_slice.ensures.form
