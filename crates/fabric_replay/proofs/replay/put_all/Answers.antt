use Rattle.std.proofs.Common.{◌≡◌, ℕ, ◌++◌, take, drop, sym, ap, ◌∙◌, append_assoc, arith}
use Rattle.std.proofs.lemmas.List.{take-append-drop}
use Rattle.vtep_base.specs.Reading.{Bytes}
use Rattle.vtep_base.proofs.Told.{grows-more}
use Rattle.fabric_replay.proofs.replay.put_all.Goals as goal

pub rest-preserved : goal.rest-preserved
rest-preserved g c =
    let done = c.rest.invariant.done in
    let n : ℕ = c.in-Put.count in
    let rest : Bytes = c.rest.rest.now in
    let parts : c.args.bytes.now ≡ (done.0 ++ take n rest) ++ c.split_at.result.1.now =
    done.1 ∙ ap (λ r. done.0 ++ r) (sym (take-append-drop n rest)) ∙ sym (append_assoc done.0 (take n rest) (drop n rest)) ∙ ap (λ r. (done.0 ++ take n rest) ++ r) (sym c.split_at.ensures.back) in
    record {
      done = (done.0 ++ take n rest, parts, grows-more (g.K.Sink.written c.args.sink.now) (g.K.Sink.written c.rest.sink) (g.K.Sink.written c.put.new.self) done.0 (take n rest) done.2 c.in-Put.ensures.written);
      faults = omega (arith, c.rest.invariant.faults, c.in-Put.ensures.faults);
    }
