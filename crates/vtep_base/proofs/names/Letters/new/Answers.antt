use Rattle.vtep_base.proofs.NameLaws.{held_text}
use Rattle.vtep_base.proofs.names.Letters.new.Goals as goal

pub invariant_of-result : goal.invariant_of-result
invariant_of-result c = held_text c.args.text.now c.copy_from_slice.new.self c.split_at_mut-front.result.1.now c.requires.short c.requires.bytes c.copy_from_slice.ensures.after c.split_at_mut-front.ensures.back
