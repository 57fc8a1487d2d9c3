-- A line that settles a fabric.
use Rattle.std.proofs.Common.{◌≡◌, true, false, [], ◌∷◌, ◌++◌, Ok, sym, ap, ◌∙◌, append-nil}
use Rattle.std.specs.Prelude.{not, codes}
use Rattle.std.specs.List.{flat_map}
use Rattle.std.proofs.lemmas.Grind.{flat_map-append}
use Rattle.vtep_base.specs.Chains.{◌>>=◌}
use Rattle.vtep_base.specs.Reading.{Bytes}
use Rattle.vtep_base.specs.declared.answers.LineReason.TheVariants.{Use}
use Rattle.fabric_world.specs.declared.SettleLine.{SettleLine}
use Rattle.fabric_world.specs.declared.Line.TheVariants as lines
use Rattle.fabric_world.specs.Intentions.{refuse_if}
use Rattle.fabric_world.specs.Outputs.{Settled, output_text}
use Rattle.fabric_world.specs.Happenings.{Gateways, settled}
use Rattle.fabric_world.specs.World.{World, Outcome, touched}
use Rattle.vtep_fabric.specs.Fabrics.{Runs, Happens}

-- the state and the text after the line, where no line touched the gateways' tables before
pub settles : (w : World) (line : SettleLine) (gateways : Gateways) (text : Bytes) → w.untouched ≡ true → Happens (settled w.intention w.gateways) gateways [] text
    → Runs w (lines.Settle line) (record w { gateways = gateways; untouched = false }) [] (text ++ codes "settled\n")
settles w line gateways text untouched x =
    let h = settled w.intention w.gateways in
    let o : Outcome = record { world = touched (record w { gateways = h.gateways }); output = h.output ++ (Settled ∷ []) } in
    record {
      outcome = o;
      does = ap (λ b. refuse_if (not b) 0 Use >>= (λ _. Ok o)) untouched;
      leads = ap (λ gs. touched (record w { gateways = gs })) x.leads;
      writes = ap (λ t. t ++ codes "settled\n") x.writes ∙ sym (flat_map-append output_text h.output (Settled ∷ []) ∙ ap (λ t. flat_map output_text h.output ++ t) (append-nil (codes "settled\n")));
    }
