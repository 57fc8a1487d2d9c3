-- What was done of a line, and was finished, is its answer.
use Rattle.std.proofs.Common.{◌≡◌, false, [], ◌++◌, Result, Ok, Err, ap, subst, ◌∙◌}
use Rattle.std.specs.Prelude.{⊤}
use Rattle.vtep_base.specs.Reading.{Bytes}
use Rattle.fabric_world.specs.declared.Line.{Line}
use Rattle.vtep_fabric.specs.Fabrics.{Held, Runs, Answers, Does, Finishes}
use Rattle.vtep_fabric.specs.declared.FabricFault.{FabricFault}
use Rattle.vtep_fabric.specs.declared.FabricFault.TheVariants.{OutOfMemory, Refused}

-- the text of a line behind what was written before
behind : (old mid new : Held) (line : Line) (before after text : Bytes) → new ≡ mid → after ≡ before ++ text → Runs old.world line mid.world [] text → Runs old.world line new.world before after
behind old mid new line before after text same written r = record {
  outcome = r.outcome;
  does = r.does;
  leads = ap (λ h. h.world) same ∙ r.leads;
  writes = written ∙ ap (λ t. before ++ t) r.writes;
}

pub answers : (old mid new : Held) (line : Line) (done : Result ⊤ FabricFault) (text before after : Bytes) (answer : Result ⊤ FabricFault) → old.stopped ≡ false
    → Does old line mid text done → Finishes mid done text new before after answer → Answers old line new before after answer
answers old mid new line done text before after (Ok ended) going does finished =
    let d : Does old line mid text (Ok tt) = subst (Does old line mid text) finished.0 does in
    (behind old mid new line before after text finished.1 finished.2 d.0, ap (λ h. h.stopped) finished.1 ∙ d.1 ∙ going)
answers old mid new line done text before after (Err OutOfMemory) going does finished = finished
answers old mid new line done text before after (Err (Refused word reason)) going does finished =
    let d : Does old line mid text (Err (Refused word reason)) = subst (Does old line mid text) finished.0 does in
    (d.0, finished.1 ∙ d.1, finished.2)
