use Rattle.std.proofs.Common.{◌≡◌, ◌≤◌, true, take, drop}
use Rattle.std.specs.List.{list_all}
use Rattle.vtep_base.specs.Reading.{read_on}
use Rattle.vtep_base.specs.Texts.{is_name_byte, name_step, name_done, read_name}
use Rattle.vtep_base.proofs.names.front_length.Given as goal

abbrev pub invariant-bytes : goal.invariant-bytes
invariant-bytes l = record {
  short : l.offset ≤ 64;
  bytes : list_all is_name_byte (take l.offset l.text) ≡ true;
  read : read_on name_step name_done l.offset (take l.offset l.text) (drop l.offset l.text) ≡ read_name l.text;
}
