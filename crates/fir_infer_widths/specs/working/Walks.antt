-- The walk over a module: what it has read and made so far, and what a form of the text adds.
use Rattle.std.specs.Prelude.{◌≡◌, ℕ, List, [], ◌∷◌, ◌++◌, Some, Result, OnOk, map, length}
use Rattle.std.specs.Str.{bytes_eq}
use Rattle.fir_base.specs.Lists.{In}
use Rattle.fir_ast.specs.Types.{DataType}
use Rattle.fir_ast.specs.Expressions.{Parts}
use Rattle.fir_ast.specs.Statements.{PlacedName, Statement}
use Rattle.fir_ast.specs.Circuits.{ModuleTree, CircuitTree}
use Rattle.fir_meaning.specs.Components.{Component, Declaration, Declarations, instance}
use Rattle.fir_meaning.specs.TypedScopes.{TypedScope}
use Rattle.fir_meaning.specs.Visibility.{Before, behind, declarations, with_declaration}
use Rattle.fir_meaning.specs.ComponentTypes.{component_type, find_module, typed_scope}
use Rattle.fir_meaning.specs.TypeGroup.{scope_at}
use Rattle.fir_meaning.specs.working.WellTyped.{IsLegal}
use Rattle.fir_meaning.specs.WidthRules.{rules_in}
use Rattle.fir_meaning.specs.OverFaults.{with_leaves}
use Rattle.fir_meaning.specs.LegalFaults.{port_faults}
use Rattle.fir_meaning.specs.WidthExpressions.{Width, Rule}
use Rattle.fir_meaning.specs.SizedTypes.{Sized}
use Rattle.fir_meaning.specs.SizedScopes.{SizedScope}
use Rattle.fir_meaning.specs.SizedDeclarations.{NumberedModule, sized_declared}
use Rattle.fir_type_table.specs.working.Tables.{types_of}
use Rattle.fir_types.specs.declared.note.Note.{Note as NoteOfCode}
use Rattle.fir_types.specs.working.Notes.{Note, part_notes}
use Rattle.fir_types.specs.working.Noted.{note_seen, saturated_note}
use Rattle.fir_types.specs.working.ModuleNotes.{statement_notes}
use Rattle.fir_types.specs.working.Seen.{seen}
use Rattle.fir_types.specs.working.Walked.{Begins}
use Rattle.fir_infer_widths.specs.declared.ground.Ground.{Ground}
use Rattle.fir_width.specs.declared.side.Side.{Side}
use Rattle.fir_infer_widths.specs.declared.walk.Walk.{Walk}
use Rattle.fir_infer_widths.specs.working.Numbered.{Keeps}
use Rattle.fir_infer_widths.specs.working.Scenes.{AllStand, StandsInModule}
use Rattle.fir_width.specs.working.Sides.{IsSide}
use Rattle.fir_infer_widths.specs.working.SpotFaults.{Spotted}
use Rattle.fir_infer_widths.specs.working.Spots.{Spot, spot_at, spots_in, spots_within_parts}

abbrev pub types_in : Ground → List DataType
types_in ground = types_of ground.table.now

-- the notes that are not read yet
abbrev pub Ahead : List DataType → List NoteOfCode → List Note → Type 0
Ahead ts notes meant = map (note_seen ts) notes ≡ map saturated_note meant

-- in front of a form of an expression, where such names stand
pub record Enters (ground : Ground) (typed : TypedScope) (sized : SizedScope) (meant : List Width) (rules : List Rule) (notes : List Note) (walk : Walk) : Type 0 where
  pub stand : AllStand meant ground.first_leaves.now typed sized
  pub keeps : Keeps meant rules walk.arena
  pub ahead : Ahead (types_in ground) walk.notes.now notes

-- behind a form: its notes are read, its expressions have numbers, what it asks for has bounds, and its spots have come
pub record Comes (c : CircuitTree) (ground : Ground) (meant : List Width) (rules asked : List Rule) (rest : List Note) (spots : List Spot) (old new : Walk) : Type 0 where
  pub more : List Width
  pub keeps : Keeps (meant ++ more) (rules ++ asked) new.arena
  pub ahead : Ahead (types_in ground) new.notes.now rest
  pub spotted : Spotted c (types_in ground) (meant ++ more) old.spots.items new.spots.items spots

-- and the form of an expression, of that sized type, is this side
pub record ComesTo (c : CircuitTree) (ground : Ground) (meant : List Width) (rules : List Rule) (rest : List Note) (spots : List Spot) (s : Sized) (old new : Walk) (side : Side) : Type 0 where
  pub comes : Comes c ground meant rules [] rest spots old new
  pub is : IsSide (types_in ground) (meant ++ comes.more) side s
  pub stays : new.declared ≡ old.declared

abbrev pub AreSides : List DataType → List Width → List Side → List Sized → Type 0
AreSides ts meant [] [] = Unit {0}
AreSides ts meant (side ∷ sides) (s ∷ ss) = IsSide ts meant side s × AreSides ts meant sides ss
AreSides ts meant _ _ = ⊥

pub record ComesToAll (c : CircuitTree) (ground : Ground) (meant : List Width) (rules : List Rule) (rest : List Note) (spots : List Spot) (ss : List Sized) (old new : Walk) (sides : List Side) : Type 0 where
  pub comes : Comes c ground meant rules [] rest spots old new
  pub are : AreSides (types_in ground) (meant ++ comes.more) sides ss
  pub stays : new.declared ≡ old.declared

-- behind a part of a reference, in front of these parts
pub record ComesPast (c : CircuitTree) (ground : Ground) (typed : TypedScope) (sized : SizedScope) (part : Parts → Parts) (parts : Parts) (meant : List Width) (rules : List Rule) (rest : List Note) (old new : Walk) : Type 0 where
  pub own : List Spot
  pub same : spots_within_parts sized (part parts) ≡ own ++ spots_within_parts sized parts
  pub comes : Comes c ground meant rules [] (part_notes typed parts ++ rest) own old new
  pub stays : new.declared ≡ old.declared

-- behind what declares nothing
pub record ComesStill (c : CircuitTree) (ground : Ground) (meant : List Width) (rules asked : List Rule) (rest : List Note) (spots : List Spot) (old new : Walk) : Type 0 where
  pub comes : Comes c ground meant rules asked rest spots old new
  pub stays : new.declared ≡ old.declared

-- each instance is of a module that is there
abbrev pub InstancesAreThere : List ModuleTree → Declarations → Type 0
InstancesAreThere modules ds =
    (d : Declaration) (name : List ℕ) → In ds d → d.component ≡ instance name → (m : ModuleTree) × (find_module modules name ≡ Some m)

-- in front of a statement of a module, at a place
pub record EntersAt (c : CircuitTree) (ground : Ground) (m : NumberedModule) (before : Before) (meant : List Width) (rules : List Rule) (notes : List Note) (walk : Walk) : Type 0 where
  pub stand : StandsInModule meant ground.first_leaves.now m
  pub types : map (seen (types_in ground)) ground.declared.now ≡ map (λ k. k.data_type) (typed_scope m.modules (declarations m.inside))
  pub there : InstancesAreThere m.modules (declarations m.inside)
  pub main : ground.is_main ≡ bytes_eq m.inside.named.name c.named.name
  pub keeps : Keeps meant rules walk.arena
  pub ahead : Ahead (types_in ground) walk.notes.now notes
  pub declared : walk.declared ≡ length before.declared

-- and behind it
pub record ComesBehind (c : CircuitTree) (ground : Ground) (after : Before) (meant : List Width) (rules asked : List Rule) (rest : List Note) (spots : List Spot) (old new : Walk) : Type 0 where
  pub comes : Comes c ground meant rules asked rest spots old new
  pub declared : new.declared ≡ length after.declared

-- a statement is passed
abbrev pub PassesStatement : {A E : Type 0} → Ground → Statement → Walk → Walk → Result A E → Type 0
PassesStatement ground s old new result =
    (c : CircuitTree) (m : NumberedModule) (before : Before) (meant : List Width) (rules : List Rule) (rest : List Note)
    → EntersAt c ground m before meant rules (statement_notes m.modules before s ++ rest) old → Begins (behind before s).declared (declarations m.inside)
    → IsLegal m.modules before s
    → OnOk result (ComesBehind c ground (behind before s) meant rules (rules_in m before s) rest (spots_in m before s) old new)

-- in front of what is declared, of that type
pub record Declares (c : CircuitTree) (ground : Ground) (m : NumberedModule) (before : Before) (n : PlacedName) (component : Component) (t : DataType) (meant : List Width) (rules : List Rule) (rest : List Note) (walk : Walk) : Type 0 where
  pub enters : EntersAt c ground m before meant rules rest walk
  pub begins : Begins (with_declaration before n component).declared (declarations m.inside)
  pub is : component_type m.modules (scope_at m.modules before) n.place component ≡ Some t

-- it shows faults of its own leaves alone
pub record ShowsLeaves (c : CircuitTree) (m : NumberedModule) (n : PlacedName) (component : Component) (s : Sized) : Type 0 where
  pub leaves : with_leaves component s ≡ s
  pub written : port_faults c m.inside n component s ≡ []

-- and behind it, with its side
pub record ComesDeclared (c : CircuitTree) (ground : Ground) (m : NumberedModule) (before : Before) (n : PlacedName) (component : Component) (meant : List Width) (rules : List Rule) (rest : List Note) (old new : Walk) (side : Side) : Type 0 where
  pub passed : ComesBehind c ground (with_declaration before n component) meant rules [] rest (spot_at m before n component ∷ []) old new
  pub is : IsSide (types_in ground) (meant ++ passed.comes.more) side (sized_declared m before n component)
