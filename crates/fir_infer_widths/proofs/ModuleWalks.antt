-- The walk over a module: its ports, and then its body.
use Rattle.std.proofs.Common.{List, [], ◌++◌, Result, sym, subst}
use Rattle.std.specs.Prelude.{OnOk}
use Rattle.std.proofs.lemmas.List.{append-nil}
use Rattle.std.proofs.lemmas.Result.{on_ok_weaker}
use Rattle.fir_ast.specs.Circuits.{CircuitTree, PortTree}
use Rattle.fir_ast.specs.Statements.{Block}
use Rattle.fir_meaning.specs.Visibility.{Before, at_head, behind_block, behind_ports, declarations}
use Rattle.fir_meaning.specs.SizedDeclarations.{NumberedModule}
use Rattle.fir_meaning.specs.working.WellTyped.{AreLegal}
use Rattle.fir_meaning.specs.WidthExpressions.{Width, Rule}
use Rattle.fir_meaning.specs.WidthRules.{rules_in_block}
use Rattle.fir_names.proofs.BehindStatements.{adds_block}
use Rattle.fir_types.specs.working.ModuleNotes.{block_notes, module_notes}
use Rattle.fir_types.specs.working.Notes.{Note}
use Rattle.fir_types.specs.working.Walked.{Begins}
use Rattle.fir_types.proofs.KnownScopes.{begins_before}
use Rattle.fir_infer_widths.specs.declared.ground.Ground.{Ground}
use Rattle.fir_infer_widths.specs.declared.walk.Walk.{Walk}
use Rattle.fir_infer_widths.specs.working.Spots.{spots_in_block, spots_in_module, spots_in_ports}
use Rattle.fir_infer_widths.specs.working.Walks.{Comes, ComesBehind, EntersAt}
use Rattle.fir_infer_widths.proofs.PlaceWalks.{at_behind, behind_then}

-- what the walks over ports and over a block promise
abbrev pub PortsWalk : CircuitTree → Ground → NumberedModule → List PortTree → Walk → Walk → Type 0
PortsWalk c g m ports old new =
    (before : Before) (meant : List Width) (rules : List Rule) (rest : List Note) → EntersAt c g m before meant rules rest old
    → Begins (behind_ports before ports).declared (declarations m.inside)
    → ComesBehind c g (behind_ports before ports) meant rules [] rest (spots_in_ports m before ports) old new

abbrev pub BlockWalks : {A E : Type 0} → CircuitTree → Ground → NumberedModule → Block → Walk → Walk → Result A E → Type 0
BlockWalks c g m body old new r =
    (before : Before) (meant : List Width) (rules : List Rule) (rest : List Note) → EntersAt c g m before meant rules (block_notes m.modules before body ++ rest) old
    → Begins (behind_block before body).declared (declarations m.inside) → AreLegal m.modules before body
    → OnOk r (ComesBehind c g (behind_block before body) meant rules (rules_in_block m before body) rest (spots_in_block m before body) old new)

-- nothing is declared behind a module's body
whole_begins : (m : NumberedModule) → Begins (behind_block (behind_ports at_head m.inside.ports) m.inside.body).declared (declarations m.inside)
whole_begins m = ([], sym (append-nil (declarations m.inside)))

head_begins : (m : NumberedModule) → Begins (behind_ports at_head m.inside.ports).declared (declarations m.inside)
head_begins m =
    let head = behind_ports at_head m.inside.ports in
    let a = adds_block head m.inside.body in
    begins_before (declarations m.inside) head.declared a.added (subst (λ ds. Begins ds (declarations m.inside)) a.declared (whole_begins m))

pub module_comes : {A E : Type 0} (c : CircuitTree) (g : Ground) (m : NumberedModule) (meant : List Width) (rules : List Rule) (rest : List Note) (old middle new : Walk) (r : Result A E)
    → EntersAt c g m at_head meant rules (module_notes m.modules m.inside ++ rest) old → AreLegal m.modules (behind_ports at_head m.inside.ports) m.inside.body
    → PortsWalk c g m m.inside.ports old middle → BlockWalks c g m m.inside.body middle new r
    → OnOk r (Comes c g meant rules (rules_in_block m (behind_ports at_head m.inside.ports) m.inside.body) rest (spots_in_module m) old new)
module_comes c g m meant rules rest old middle new r enters legal ports body =
    let head = behind_ports at_head m.inside.ports in
    let notes = module_notes m.modules m.inside ++ rest in
    let asked = rules_in_block m head m.inside.body in
    let one = ports at_head meant rules notes enters (head_begins m) in
    on_ok_weaker r
    (λ two.
    (behind_then c g head (behind_block head m.inside.body) meant rules [] asked notes rest (spots_in_ports m at_head m.inside.ports) (spots_in_block m head m.inside.body) old middle new
    one two).comes)
    (body head (meant ++ one.comes.more) (rules ++ []) rest
    (at_behind c g m at_head head meant rules [] notes notes (spots_in_ports m at_head m.inside.ports) old middle enters one) (whole_begins m) legal)
