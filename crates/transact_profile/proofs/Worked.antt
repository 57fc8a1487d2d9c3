-- Worked transactions, by computation: params in, result array out.
use Rattle.std.proofs.Common.{◌≡◌, Option, Some, None, option_map, refl}
use Rattle.std.specs.Prelude.{codes}
use Rattle.serde_json.specs.Data.{Data}
use Rattle.serde_json.specs.Read.{read}
use Rattle.serde_json.specs.Written.{compact_text}
use Rattle.json_notation.specs.Computes.{texts}
use Rattle.vtep_base.specs.Reading.{Bytes}
use Rattle.vtep_rows.specs.Rows.{opening}
use Rattle.transact_profile.specs.Transaction.{ops_in}
use Rattle.transact_profile.specs.Meaning.{means}
use Rattle.transact_profile.specs.Finish.{finished}

abbrev result_of : Data → Bytes
result_of params = compact_text (finished (means (ops_in params) (opening (codes "g1") 0x0a000001)).results None)

abbrev results : Bytes → Option Bytes
results params = option_map result_of (read params)

one_insert : results (codes "[\"hardware_vtep\",{\"op\":\"insert\",\"table\":\"Logical_Switch\",\"row\":{\"name\":\"red\"}}]")
    ≡ Some (codes "[{\"uuid\":[\"uuid\",\"0a000001-0000-8000-8000-000000000003\"]}]")
unfolding texts
one_insert = refl

stops_at_a_fault : results (codes "[\"hardware_vtep\",{\"op\":\"insert\",\"table\":\"Logical_Switch\",\"row\":{\"name\":\"a\"}},{\"op\":\"insert\",\"table\":\"Logical_Switch\",\"row\":{\"name\":\"b\"}},{\"op\":\"select\",\"table\":\"Nope\",\"where\":[]},{\"op\":\"comment\",\"comment\":\"c\"}]")
    ≡ Some (codes "[{\"uuid\":[\"uuid\",\"0a000001-0000-8000-8000-000000000003\"]},{\"uuid\":[\"uuid\",\"0a000001-0000-8000-8000-000000000004\"]},{\"error\":\"unknown table\"},null]")
unfolding texts
stops_at_a_fault = refl

not_permitted : results (codes "[\"hardware_vtep\",{\"op\":\"insert\",\"table\":\"Ucast_Macs_Local\",\"row\":{}}]") ≡ Some (codes "[{\"error\":\"permission error\"}]")
unfolding texts
not_permitted = refl

-- two rows of one name are inserted; that they are not sound is found when they are checked
two_reds : results (codes "[\"hardware_vtep\",{\"op\":\"insert\",\"table\":\"Logical_Switch\",\"row\":{\"name\":\"red\"}},{\"op\":\"insert\",\"table\":\"Logical_Switch\",\"row\":{\"name\":\"red\"}}]")
    ≡ Some (codes "[{\"uuid\":[\"uuid\",\"0a000001-0000-8000-8000-000000000003\"]},{\"uuid\":[\"uuid\",\"0a000001-0000-8000-8000-000000000004\"]}]")
unfolding texts
two_reds = refl

named_rows : results (codes "[\"hardware_vtep\",{\"op\":\"insert\",\"table\":\"Physical_Locator\",\"row\":{\"encapsulation_type\":\"vxlan_over_ipv4\",\"dst_ip\":\"10.0.0.2\"},\"uuid-name\":\"l\"},{\"op\":\"insert\",\"table\":\"Physical_Locator_Set\",\"row\":{\"locators\":[\"named-uuid\",\"l\"]}},{\"op\":\"select\",\"table\":\"Physical_Locator_Set\",\"where\":[[\"locators\",\"includes\",[\"named-uuid\",\"l\"]]],\"columns\":[\"locators\"]},{\"op\":\"delete\",\"table\":\"Physical_Locator\",\"where\":[[\"_uuid\",\"==\",[\"named-uuid\",\"m\"]]]}]")
    ≡ Some (codes "[{\"uuid\":[\"uuid\",\"0a000001-0000-8000-8000-000000000003\"]},{\"uuid\":[\"uuid\",\"0a000001-0000-8000-8000-000000000004\"]},{\"rows\":[{\"locators\":[\"uuid\",\"0a000001-0000-8000-8000-000000000003\"]}]},{\"error\":\"unknown uuid-name\"}]")
unfolding texts
named_rows = refl
