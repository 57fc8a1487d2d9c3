use Rattle.std.proofs.Common.{arith}
use Rattle.vtep_base.proofs.AddressLaws.{mac_printed_is_read}
use Rattle.vtep_base.proofs.NumberLaws.{number_printed_is_read, ipv4_printed_is_read}
use Rattle.vtep_base.proofs.NameLaws.{name_printed_is_read}
use Rattle.vtep_base.proofs.laws.printed_is_read.Goals as goal

pub returns-clause-mac : goal.returns-clause-mac
returns-clause-mac c = mac_printed_is_read

pub returns-clause-ipv4 : goal.returns-clause-ipv4
returns-clause-ipv4 c = ipv4_printed_is_read

pub returns-clause-vni : goal.returns-clause-vni
returns-clause-vni c = λ v fits. number_printed_is_read 16777215 (omega arith) v (omega (arith, fits))

pub returns-clause-vlan : goal.returns-clause-vlan
returns-clause-vlan c = λ v fits. number_printed_is_read 4095 (omega arith) v (omega (arith, fits))

pub returns-clause-name : goal.returns-clause-name
returns-clause-name c = name_printed_is_read
