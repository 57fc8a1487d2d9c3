use Rattle.std.proofs.Common.{arith}
use Rattle.vtep_base.proofs.AddressLaws.{mac_read_is_printed}
use Rattle.vtep_base.proofs.NumberLaws.{number_read_is_printed, ipv4_read_is_printed}
use Rattle.vtep_base.proofs.NameLaws.{name_read_is_printed}
use Rattle.vtep_base.proofs.laws.read_is_printed.Goals as goal

pub returns-clause-mac : goal.returns-clause-mac
returns-clause-mac c = mac_read_is_printed

pub returns-clause-ipv4 : goal.returns-clause-ipv4
returns-clause-ipv4 c = ipv4_read_is_printed

pub returns-clause-vni : goal.returns-clause-vni
returns-clause-vni c = number_read_is_printed 16777215 (omega arith)

pub returns-clause-vlan : goal.returns-clause-vlan
returns-clause-vlan c = number_read_is_printed 4095 (omega arith)

pub returns-clause-name : goal.returns-clause-name
returns-clause-name c = name_read_is_printed
