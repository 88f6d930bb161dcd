-- The walk over what is declared: its spot comes, and its side is known behind it.
use Rattle.std.proofs.Common.{◌≡◌, ℕ, ◌+◌, List, [], ◌∷◌, ◌++◌, length, Vec, Global, Bor, true, false, Some, refl, sym, ap, ◌∙◌, inl}
use Rattle.std.specs.Prelude.{flat_map, option_map}
use Rattle.std.proofs.lemmas.List.{append-nil, length_push}
use Rattle.fir_base.specs.Lists.{In}
use Rattle.fir_base.specs.declared.direction.Direction.{Direction}
use Rattle.fir_base.proofs.Members.{in_left, in_right}
use Rattle.fir_ast.specs.declared.statements.Ident.{Ident}
use Rattle.fir_ast.specs.Types.{DataType}
use Rattle.fir_ast.specs.Expressions.{Expression}
use Rattle.fir_ast.specs.Statements.{PlacedName, MemoryPart}
use Rattle.fir_ast.specs.working.Views.{named_of}
use Rattle.fir_ast.specs.Circuits.{ModuleTree, CircuitTree}
use Rattle.fir_meaning.specs.Components.{Component, Declarations}
use Rattle.fir_meaning.specs.Components as component
use Rattle.fir_meaning.specs.ComponentTypes.{component_type, instance_bundle}
use Rattle.fir_meaning.specs.MemoryTypes.{depth_of_part, first_one, memory_bundle}
use Rattle.fir_meaning.specs.Checked.{joined}
use Rattle.fir_meaning.specs.TypedScopes.{TypedScope}
use Rattle.fir_meaning.specs.TypeGroup.{scope_at}
use Rattle.fir_meaning.specs.Visibility.{Before, declaration_at, declarations, with_declaration}
use Rattle.fir_meaning.specs.SizedDeclarations.{NumberedModule, numbers_at, sized_at, sized_declared}
use Rattle.fir_meaning.specs.working.WellTyped.{HasType, MemoryIsLegal}
use Rattle.fir_meaning.specs.WidthExpressions.{Rule, Width}
use Rattle.fir_meaning.proofs.FoundTypes.{found_type}
use Rattle.fir_types.specs.working.Notes.{Note}
use Rattle.fir_types.specs.working.Walked.{Begins}
use Rattle.fir_infer_widths.specs.declared.ground.Ground.{Ground}
use Rattle.fir_width.specs.declared.side.Side.{Side}
use Rattle.fir_infer_widths.specs.declared.spot.Spot.{Spot as SpotOfCode}
use Rattle.fir_infer_widths.specs.declared.spot.Spot.TheVariants as code
use Rattle.fir_infer_widths.specs.declared.walk.Walk.{Walk}
use Rattle.fir_width.specs.working.Sides.{IsSide}
use Rattle.fir_infer_widths.specs.working.SpotFaults.{IsSpot}
use Rattle.fir_infer_widths.specs.working.Spots.{Spot, spot_at}
use Rattle.fir_infer_widths.specs.working.Walks.{ComesBehind, ComesDeclared, ComesStill, Declares, Enters, EntersAt, ShowsLeaves, types_in}
use Rattle.fir_infer_widths.proofs.Coming.{come_then, spotted_one}
use Rattle.fir_infer_widths.proofs.ComponentSpots.{declared_spot, port_spot}
use Rattle.fir_infer_widths.proofs.DeclaredSides.{DeclaredSide, declared_side}
use Rattle.fir_infer_widths.proofs.PlaceWalks.{at_behind, enters_place}
use Rattle.fir_types.proofs.KnownScopes.{begins_before}

module _ (c : CircuitTree) (g : Ground) (m : NumberedModule) (before : Before) (n : PlacedName) (component : Component) (t : DataType) (meant : List Width) (rules : List Rule)
    (rest : List Note) (old : Walk) (declares : Declares c g m before n component t meant rules rest old) where
  pub own_side : DeclaredSide c g m before n component t meant
  own_side = declared_side c g m before n component t meant rules rest old declares

  -- it is passed, and a spot has come
  pub spot_comes : (own : SpotOfCode) (middle : Walk) (spots : Vec SpotOfCode Global) → middle ≡ record old { declared = length before.declared + 1 }
      → spots.items ≡ middle.spots.items ++ own ∷ [] → IsSpot c (types_in g) meant own (spot_at m before n component)
      → ComesBehind c g (with_declaration before n component) meant rules [] rest (spot_at m before n component ∷ []) old (record middle { spots = spots })
  spot_comes own middle spots same pushed is =
      rw same record {
        comes = record {
          more = [];
          keeps = rw (append-nil meant, append-nil rules) declares.enters.keeps;
          ahead = declares.enters.ahead;
          spotted =
              rw (append-nil meant)
              (spotted_one c (types_in g) meant old.spots.items spots.items own (spot_at m before n component) (pushed ∙ ap (λ (w : Walk). w.spots.items ++ own ∷ []) same) is);
        };
        declared = sym (length_push before.declared (declaration_at before n component));
      }

-- what shows faults of its leaves alone
pub declared_comes : (c : CircuitTree) (g : Ground) (m : NumberedModule) (before : Before) (n : Bor Ident) (component : Component) (t : DataType) (meant : List Width) (rules : List Rule)
    (rest : List Note) (old : Walk) (h : Declares c g m before (named_of n.now) component t meant rules rest old) (side : Side) (middle : Walk) (spots : Vec SpotOfCode Global)
    → side ≡ record { found = (own_side c g m before (named_of n.now) component t meant rules rest old h).found; first = (own_side c g m before (named_of n.now) component t meant rules rest old h).first }
    → middle ≡ record old { declared = length before.declared + 1 } → spots.items ≡ middle.spots.items ++ code.Declared n side ∷ []
    → ShowsLeaves c m (named_of n.now) component (sized_declared m before (named_of n.now) component)
    → ComesDeclared c g m before (named_of n.now) component meant rules rest old (record middle { spots = spots }) side
unfolding spot_comes
declared_comes c g m before n component t meant rules rest old h side middle spots side_is same pushed shows =
    let own = own_side c g m before (named_of n.now) component t meant rules rest old h in
    let s = sized_declared m before (named_of n.now) component in
    let is : IsSide (types_in g) meant side s = rw side_is own.is in
    record {
      passed =
          spot_comes c g m before (named_of n.now) component t meant rules rest old h (code.Declared n side) middle spots same pushed
          (declared_spot c (types_in g) meant m.inside n component side s is shows.leaves shows.written);
      is = rw (append-nil meant) is;
    }

-- the types of components
pub node_type : (modules : List ModuleTree) (scope : TypedScope) (n : PlacedName) (e : Expression) (t : DataType) → HasType scope e t
    → component_type modules scope n.place (component.node e) ≡ Some t
node_type modules scope n e t h = ap (λ c. c.has) (found_type scope e t h)

pub memory_has : (modules : List ModuleTree) (scope : TypedScope) (n : PlacedName) (parts : List MemoryPart) → (h : MemoryIsLegal parts)
    → component_type modules scope n.place (component.memory parts) ≡ Some (memory_bundle n.place parts h.word_type h.words)
memory_has modules scope n parts h =
    ap (λ ts. joined (memory_bundle n.place parts) (first_one ts) (first_one (flat_map depth_of_part parts))) h.one_data
    ∙ ap (λ ks. joined (memory_bundle n.place parts) (Some h.word_type) (first_one ks)) h.one_depth

pub instance_has : (c : CircuitTree) (g : Ground) (m : NumberedModule) (before : Before) (n : PlacedName) (name : List ℕ) (meant : List Width) (rules : List Rule)
    (rest : List Note) (old : Walk) → EntersAt c g m before meant rules rest old → Begins (with_declaration before n (component.instance name)).declared (declarations m.inside)
    → (t : DataType) × (component_type m.modules (scope_at m.modules before) n.place (component.instance name) ≡ Some t)
instance_has c g m before n name meant rules rest old e b =
    let d = declaration_at before n (component.instance name) in
    let among : In (declarations m.inside) d = rw b.1 (in_left (before.declared ++ d ∷ []) b.0 d (in_right before.declared (d ∷ []) d (inl refl))) in
    let there = e.there d name among refl in
    (instance_bundle there.0, ap (option_map instance_bundle) there.1)

-- and then what declares nothing
pub declared_then : (c : CircuitTree) (g : Ground) (m : NumberedModule) (before : Before) (n : PlacedName) (component : Component) (meant : List Width) (rules asked : List Rule) (next rest : List Note)
    (spots : List Spot) (old middle new : Walk) (side : Side) → (d : ComesDeclared c g m before n component meant rules next old middle side)
    → ComesStill c g (meant ++ d.passed.comes.more) (rules ++ []) asked rest spots middle new
    → ComesBehind c g (with_declaration before n component) meant rules asked rest (spot_at m before n component ∷ spots) old new
declared_then c g m before n component meant rules asked next rest spots old middle new side d k = record {
  comes = come_then c g meant rules [] next (spot_at m before n component ∷ []) old middle d.passed.comes asked rest spots new k.comes;
  declared = k.stays ∙ d.passed.declared;
}

pub declared_enters : (c : CircuitTree) (g : Ground) (m : NumberedModule) (before : Before) (n : PlacedName) (component : Component) (meant : List Width) (rules : List Rule) (next : List Note)
    (old middle : Walk) (side : Side) → EntersAt c g m before meant rules next old → (d : ComesDeclared c g m before n component meant rules next old middle side)
    → (place : Before) → Begins place.declared (declarations m.inside)
    → Enters g (scope_at m.modules place) (sized_at m place) (meant ++ d.passed.comes.more) (rules ++ []) next middle
declared_enters c g m before n component meant rules next old middle side e d place b =
    enters_place c g m (with_declaration before n component) place (meant ++ d.passed.comes.more) (rules ++ []) next middle
    (at_behind c g m before (with_declaration before n component) meant rules [] next next (spot_at m before n component ∷ []) old middle e d.passed) b

pub begins_declared : (before : Before) (n : PlacedName) (component : Component) (whole : Declarations) → Begins (with_declaration before n component).declared whole → Begins before.declared whole
begins_declared before n component whole b = begins_before whole before.declared (declaration_at before n component ∷ []) b

-- a port of the main module, and of another
pub main_port_comes : (c : CircuitTree) (g : Ground) (m : NumberedModule) (before : Before) (n : Bor Ident) (d : Direction) (t : DataType) (meant : List Width) (rules : List Rule)
    (rest : List Note) (old : Walk) (h : Declares c g m before (named_of n.now) (component.port d t) t meant rules rest old) → g.is_main ≡ true → (side : Side) (middle : Walk)
    (spots : Vec SpotOfCode Global)
    → side ≡ record { found = (own_side c g m before (named_of n.now) (component.port d t) t meant rules rest old h).found; first = (own_side c g m before (named_of n.now) (component.port d t) t meant rules rest old h).first }
    → middle ≡ record old { declared = length before.declared + 1 } → spots.items ≡ middle.spots.items ++ code.Port d n side ∷ []
    → ComesBehind c g (with_declaration before (named_of n.now) (component.port d t)) meant rules [] rest (spot_at m before (named_of n.now) (component.port d t) ∷ []) old
    (record middle { spots = spots })
main_port_comes c g m before n d t meant rules rest old h main side middle spots side_is same pushed =
    let own = own_side c g m before (named_of n.now) (component.port d t) t meant rules rest old h in
    spot_comes c g m before (named_of n.now) (component.port d t) t meant rules rest old h (code.Port d n side) middle spots same pushed
    (port_spot c (types_in g) meant m.inside n d t (numbers_at m before).port side (rw side_is own.is) (rw side_is own.type) (sym h.enters.main ∙ main))

pub port_shows : (c : CircuitTree) (g : Ground) (m : NumberedModule) (before : Before) (n : PlacedName) (d : Direction) (t : DataType) (meant : List Width) (rules : List Rule)
    (rest : List Note) (old : Walk) → Declares c g m before n (component.port d t) t meant rules rest old → g.is_main ≡ false
    → ShowsLeaves c m n (component.port d t) (sized_declared m before n (component.port d t))
port_shows c g m before n d t meant rules rest old h main =
    record { leaves = refl; written = rw (sym h.enters.main ∙ main) refl }
