-- What holds of the values of each line that is read.
use Rattle.std.specs.Prelude.{◌≡◌, ◌≤◌, ◌<◌, ◌^◌, ℕ, true, [], ◌∷◌, Ok}
use Rattle.vtep_base.specs.Reading.{Bytes}
use Rattle.vtep_base.specs.Texts.{is_name}
use Rattle.fabric_world.specs.declared.Intent.{Intent}
use Rattle.fabric_world.specs.declared.Intent.TheVariants.{Switch, Bind, Acl, Guard, Unguard}
use Rattle.fabric_world.specs.declared.Line.{Line}
use Rattle.fabric_world.specs.declared.Line.TheVariants.{Gateway, Port, Unport, Intend, Frame, Underlay, Age, Rpc, Hangup, Settle, Show}
use Rattle.fabric_world.specs.declared.Instruction.TheVariants.{Do}
use Rattle.fabric_world.specs.Acls.{AreValues}
use Rattle.fabric_world.specs.Lines.{read_line}

abbrev pub AreBytes : Bytes → Type 0
AreBytes [] = Unit {0}
AreBytes (b ∷ bs) = (b < 256) × AreBytes bs

abbrev pub IsName : Bytes → Type 0
IsName name = is_name name ≡ true

-- session 0 is the controller's
abbrev pub IsSession : ℕ → Type 0
IsSession s = (1 ≤ s) × (s < 2 ^ 32)

abbrev pub IsIntent : Intent → Type 0
IsIntent (Switch s vni mode) = IsName s × (vni < 2 ^ 24)
IsIntent (Bind s g p vlan) = IsName s × IsName g × IsName p × (vlan < 2 ^ 12)
IsIntent (Acl name sequence direction action fields) = IsName name × (sequence < 2 ^ 32) × AreValues fields
IsIntent (Guard g p vlan name) = IsName g × IsName p × (vlan < 2 ^ 12) × IsName name
IsIntent (Unguard g p vlan) = IsName g × IsName p × (vlan < 2 ^ 12)

abbrev pub IsLine : Line → Type 0
IsLine (Gateway l) = IsName l.g × (l.ip < 2 ^ 32)
IsLine (Port l) = IsName l.g × IsName l.p
IsLine (Unport l) = IsName l.g × IsName l.p
IsLine (Intend i) = IsIntent i
IsLine (Frame l) = IsName l.g × IsName l.p × AreBytes l.hex
IsLine (Underlay l) = IsName l.g × AreBytes l.hex
IsLine (Age l) = IsName l.g × (l.seconds < 2 ^ 32)
IsLine (Rpc l) = IsName l.g × IsSession l.session × AreBytes l.hex
IsLine (Hangup l) = IsName l.g × IsSession l.session
IsLine (Settle l) = Unit {0}
IsLine (Show l) = IsName l.g

-- each line that is read of a text is such a line
abbrev pub ReadLinesAreLines : Type 0
ReadLinesAreLines = (text : Bytes) (line : Line) → read_line text ≡ Ok (Do line) → IsLine line
