-- The text of `show` by computation: a line of each kind.
use Rattle.std.specs.Prelude.{◌≡◌, List, [], ◌∷◌, ◌++◌, None, Some, codes, refl}
use Rattle.json_notation.specs.Computes.{texts}
use Rattle.ovsdb_values.specs.declared.atoms.Atom.TheVariants.{Text}
use Rattle.ovsdb_values.specs.Sets.{one}
use Rattle.vtep_schema.specs.declared.Table.TheVariants.{LogicalSwitch, Acl}
use Rattle.vtep_schema.specs.declared.Column.TheVariants.{LogicalName, AclName}
use Rattle.vtep_rows.specs.Row.{with_value, default_row}
use Rattle.vtep_rows.specs.Rows.{Rows, opening, replaced}
use Rattle.forward_program.specs.declared.facts.Fact.{Fact}
use Rattle.forward_program.specs.declared.facts.Fact.TheVariants as fact
use Rattle.forward_program.specs.declared.facts.Place.TheVariants.{Here, There}
use Rattle.vtep_gateway.specs.Show.{show_text}

-- a gateway with the switches `red` and `blue` and an ACL
abbrev rows : Rows
rows =
    let red = with_value (default_row LogicalSwitch) LogicalName (one (Text (codes "red"))) in
    let blue = with_value (default_row LogicalSwitch) LogicalName (one (Text (codes "blue"))) in
    let acl = with_value (default_row Acl) AclName (one (Text (codes "no \"telnet\""))) in
    replaced (replaced (replaced (opening (codes "g1") 0x0a000001) (LogicalSwitch, 3) red) (LogicalSwitch, 4) blue) (Acl, 5) acl

abbrev facts : List Fact
facts =
    fact.Flood 3 (Some 0x01005e000001) (0x0a000002 ∷ [])
    ∷ fact.Flood 3 None (0x0a000002 ∷ 0x0a000003 ∷ [])
    ∷ fact.Mac 3 0x020000000001 (Here (codes "p1") 0)
    ∷ fact.Mac 4 0x020000000002 (There 0x0a000002)
    ∷ fact.Bind (codes "p2") 7 4 []
    ∷ fact.Bind (codes "p1") 0 3 (5 ∷ [])
    ∷ fact.Vni 200 4
    ∷ fact.Vni 100 3
    ∷ []

text_of_facts : show_text (codes "g1") rows facts
    ≡ codes "show g1 10.0.0.1\nvni 100 \"red\"\nvni 200 \"blue\"\nbind p1 0 \"red\" acl \"no \\\"telnet\\\"\"\nbind p2 7 \"blue\"\n"
    ++ codes "mac \"blue\" 02:00:00:00:00:02 there 10.0.0.2\nmac \"red\" 02:00:00:00:00:01 here p1 0\n"
    ++ codes "flood \"red\" unknown-dst 10.0.0.2 10.0.0.3\nflood \"red\" 01:00:5e:00:00:01 10.0.0.2\n"
unfolding texts
text_of_facts = refl
