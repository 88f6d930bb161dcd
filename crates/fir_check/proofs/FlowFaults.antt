-- The fault at a leaf that is a source, as the code tells it.
use Rattle.std.proofs.Common.{◌≡◌, ℕ, List, [], ◌∷◌, ◌++◌, flat_map, Bool, true, false, Option, Some, None, sym, ap, ◌∙◌}
use Rattle.std.specs.Prelude.{option_map}
use Rattle.std.proofs.lemmas.Option.{none-some, same_Some}
use Rattle.fir_base.specs.declared.refused.Refused.{Refused}
use Rattle.fir_base.specs.declared.refused.Refused.TheVariants as refused
use Rattle.fir_ast.specs.declared.fault.FirFault.{FirFault}
use Rattle.fir_ast.specs.declared.place.Place.{Place}
use Rattle.fir_ast.specs.Expressions.{Expression, reference}
use Rattle.fir_ast.specs.Statements.{SinkReference}
use Rattle.fir_ast.specs.Faults.{Fault}
use Rattle.fir_meaning.specs.LeafPaths.{LeafPath, step_text}
use Rattle.fir_meaning.specs.KindFaults.{wrong_flow}
use Rattle.fir_check.specs.declared.drives.SourceLeaf.{SourceLeaf}
use Rattle.fir_types.specs.working.Judged.{IsFault, IsFirstOf}
use Rattle.fir_types.specs.working.Seen.{sink_path}
use Rattle.fir_check.specs.working.Driven.{leaf_text, spot_text, flow_faults}
use Rattle.fir_types.specs.working.Spots.{Spot}

pub alone : (g : Fault) (r : Refused FirFault) → IsFault g r → IsFirstOf (g ∷ []) r
alone g (refused.Fault f) h = ap Some (sym h)
alone g refused.Memory h = tt

-- a fault at each leaf of that text
abbrev pub TellsAt : Place → LeafPath → List ℕ → Refused FirFault → Type 0
TellsAt p base text r = (path : LeafPath) → flat_map step_text path ≡ text → IsFault (wrong_flow p (base ++ path)) r

pub told_on_left : (p : Place) (sink : SinkReference) (e : Expression) (leaf : SourceLeaf) (spot : Option Spot) (r : Refused FirFault)
    → Some (leaf_text leaf) ≡ option_map spot_text spot → leaf.flip ≡ false → TellsAt p (sink_path sink) leaf.steps.items r
    → IsFirstOf (flow_faults p sink e spot) r
told_on_left p sink e leaf None r same straight tells = absurd (none-some (leaf_text leaf) (sym same))
told_on_left p sink e leaf (Some s) r same straight tells =
    let alike = same_Some (leaf_text leaf) (spot_text s) same in
    let flip : s.0 ≡ false = ap (λ (x : Bool × List ℕ). x.0) (sym alike) ∙ straight in
    rw flip (alone (wrong_flow p (sink_path sink ++ s.1)) r (tells s.1 (ap (λ (x : Bool × List ℕ). x.1) (sym alike))))

pub told_on_right : (p : Place) (sink source : SinkReference) (leaf : SourceLeaf) (spot : Option Spot) (r : Refused FirFault)
    → Some (leaf_text leaf) ≡ option_map spot_text spot → leaf.flip ≡ true → TellsAt p (sink_path source) leaf.steps.items r
    → IsFirstOf (flow_faults p sink (reference source.place source.name source.parts) spot) r
told_on_right p sink source leaf None r same flipped tells = absurd (none-some (leaf_text leaf) (sym same))
told_on_right p sink source leaf (Some s) r same flipped tells =
    let alike = same_Some (leaf_text leaf) (spot_text s) same in
    let flip : s.0 ≡ true = ap (λ (x : Bool × List ℕ). x.0) (sym alike) ∙ flipped in
    rw flip (alone (wrong_flow p (sink_path source ++ s.1)) r (tells s.1 (ap (λ (x : Bool × List ℕ). x.1) (sym alike))))
