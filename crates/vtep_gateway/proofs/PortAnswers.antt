-- What a gateway does with a port that comes or goes.
use Rattle.std.proofs.Common.{◌≡◌, ℕ, true, List, Option, Some, None, is_some, IfSome, sym, ap, subst, ◌∙◌, true≢false}
use Rattle.vtep_base.specs.Reading.{Bytes}
use Rattle.vtep_gateway.specs.declared.Outgoing.{Outgoing}
use Rattle.vtep_gateway.specs.declared.EventRefused.{EventRefused}
use Rattle.vtep_gateway.specs.declared.EventRefused.TheVariants.{NoPort}
use Rattle.vtep_gateway.specs.Vtep.{Vtep}
use Rattle.vtep_gateway.specs.Commit.{Taken, changed}
use Rattle.vtep_gateway.specs.Gateway.{Gateway, Answer, Step, nothing}
use Rattle.vtep_gateway.specs.Ports.{port_named, port_refusal, with_port, without_port}
use Rattle.vtep_gateway.specs.Moves.{settled, port_unless, unport_by, on_port, on_unport}

pub some_so : (P Q : ℕ → Type 0) (o p : Option ℕ) → o ≡ p → ((id : ℕ) → P id → Q id) → IfSome o P → IfSome p Q
some_so P Q o p e so h = subst (λ x. IfSome x Q) e (by o h)
  where
    by : (o : Option ℕ) → IfSome o P → IfSome o Q
    by None h = h
    by (Some id) h = so id h

-- a commit is answered
pub settled_answer : (g : Gateway) (t : Taken) (v : Vtep) (sends : List Outgoing) (a : Answer) → t ≡ record { vtep = v; sends = sends } → a ≡ record nothing { sends = sends }
    → settled g t ≡ record { gateway = record { vtep = v; streams = g.streams }; answer = a }
settled_answer g t v sends a left is = ap (settled g) left ∙ ap (λ (x : Answer). let s : Step = record { gateway = record { vtep = v; streams = g.streams }; answer = x } in s) (sym is)

pub joined_answer : (g : Gateway) (name : Bytes) (v : Vtep) (sends : List Outgoing) (a : Answer) → port_refusal g.vtep.rows name ≡ None
    → changed g.vtep (with_port g.vtep.rows name) g.vtep.learned ≡ record { vtep = v; sends = sends } → a ≡ record nothing { sends = sends }
    → on_port g name ≡ record { gateway = record { vtep = v; streams = g.streams }; answer = a }
joined_answer g name v sends a free left is = ap (port_unless g name) free ∙ settled_answer g (changed g.vtep (with_port g.vtep.rows name) g.vtep.learned) v sends a left is

pub not_joined : (g : Gateway) (name : Bytes) (v : Vtep) (why : EventRefused) (a : Answer) → port_refusal g.vtep.rows name ≡ Some why → v ≡ g.vtep → a ≡ record nothing { refused = Some why }
    → on_port g name ≡ record { gateway = record { vtep = v; streams = g.streams }; answer = a }
not_joined g name v why a because is_v is =
    ap (port_unless g name) because ∙ (λ i. let s : Step = record { gateway = record { vtep = sym is_v i; streams = g.streams }; answer = sym is i } in s)

pub left_answer : (g : Gateway) (name : Bytes) (v : Vtep) (sends : List Outgoing) (a : Answer) (o : Option ℕ) → port_named g.vtep.rows name ≡ o → is_some o ≡ true
    → IfSome o (λ id. changed g.vtep (without_port g.vtep.rows id) g.vtep.learned ≡ record { vtep = v; sends = sends })
    → a ≡ record nothing { sends = sends } → on_unport g name ≡ record { gateway = record { vtep = v; streams = g.streams }; answer = a }
left_answer g name v sends a None e found left is = absurd (true≢false (sym found))
left_answer g name v sends a (Some id) e found left is = ap (unport_by g) e ∙ settled_answer g (changed g.vtep (without_port g.vtep.rows id) g.vtep.learned) v sends a left is

pub not_left : (g : Gateway) (name : Bytes) (v : Vtep) (why : EventRefused) (a : Answer) → port_named g.vtep.rows name ≡ None → v ≡ g.vtep → why ≡ NoPort → a ≡ record nothing { refused = Some why }
    → on_unport g name ≡ record { gateway = record { vtep = v; streams = g.streams }; answer = a }
not_left g name v why a because is_v same is =
    ap (unport_by g) because ∙ (λ i. let s : Step = record { gateway = record { vtep = sym is_v i; streams = g.streams }; answer = record nothing { refused = Some (sym same i) } } in s)
    ∙ ap (λ (x : Answer). let s : Step = record { gateway = record { vtep = v; streams = g.streams }; answer = x } in s) (sym is)
