-- The walk from place to place of a module, one statement behind the other.
use Rattle.std.proofs.Common.{◌≡◌, ℕ, ◌+◌, ◌≤◌, List, [], ◌∷◌, ◌++◌, append-nil, Vec, Global, map, length, Result, refl, sym, ap, ◌∙◌, subst, append_assoc, arith}
use Rattle.std.proofs.lemmas.List.{length_push}
use Rattle.fir_ast.specs.declared.place.Place.{Place}
use Rattle.fir_ast.specs.declared.statements.Memory.{Memory}
use Rattle.fir_ast.specs.declared.statements.Stmt.{fold-roll-Stmt}
use Rattle.fir_ast.specs.declared.statements.Stmt.TheVariants as code
use Rattle.fir_ast.specs.declared.statements.Stmt.TheOpen as layer
use Rattle.fir_ast.specs.Statements.{PlacedName, Statement, memory, skip, Block, done, then}
use Rattle.fir_ast.specs.working.Views.{memory_part_of, named_of, stmt_of, stmt_step, when_step}
use Rattle.fir_ast.specs.Circuits.{ModuleTree}
use Rattle.fir_meaning.specs.Components.{Component, Declarations}
use Rattle.fir_meaning.specs.CostGroup.{cost_limit}
use Rattle.fir_meaning.specs.Costs.{ModuleCosts, cost_of, cost_of_block}
use Rattle.fir_meaning.specs.TypeGroup.{scope_at}
use Rattle.fir_meaning.specs.Visibility.{Before, behind, behind_block, declaration_at, with_declaration}
use Rattle.fir_meaning.specs.working.WellTyped.{AreLegal}
use Rattle.fir_names.proofs.BehindStatements.{adds_block, adds_statement}
use Rattle.fir_types.specs.working.ModuleNotes.{block_notes, statement_notes}
use Rattle.fir_types.specs.working.Notes.{Note}
use Rattle.fir_types.specs.working.Walked.{Begins}
use Rattle.fir_types.proofs.KnownScopes.{begins_before}
use Rattle.fir_leaf.specs.declared.node.Node.{Node}
use Rattle.fir_leaf.specs.declared.statement.LeafStmt.{LeafStmt}
use Rattle.fir_meaning.specs.working.LeafBlocks.{LeafBlock, joined}
use Rattle.fir_meaning.specs.working.LeafBlocks as over
use Rattle.fir_meaning.specs.working.LeafedBlocks.{leafed, leafed_all}
use Rattle.fir_leaf.specs.working.NodeBlocks.{Emitted}
use Rattle.fir_leaf.specs.working.Nodes.{Grows}
use Rattle.fir_ground.specs.declared.driver.Driver.{Driver}
use Rattle.fir_ground.specs.declared.frame.Frame.{Frame}
use Rattle.fir_ground.specs.declared.walk.Walk.{Walk}
use Rattle.fir_ground.specs.working.Connects.{ComesStill}
use Rattle.fir_ground.specs.working.DeclarationDrivers.{Declares, DriverMeant, driver_seen, drivers_in, drivers_in_block}
use Rattle.fir_leaf_pairs.specs.working.Drives.{sinks_in}
use Rattle.fir_ground.specs.working.Grounds.{Ahead, Comes, Enters, types_in}
use Rattle.fir_ground.specs.working.Statements.{ComesBehind, EntersAt, PassesStatement, Walks}
use Rattle.fir_ground.proofs.DriversCome.{driven_as, driven_later, driven_none, driven_one, driven_then}
use Rattle.fir_leaf_pairs.proofs.Emitting.{emitted_as, emitted_later, emitted_none, emitted_then, joined_assoc, joined_done}
use Rattle.fir_leaf_pairs.proofs.Entries.{grows_none, grows_on}
use Rattle.fir_ground.proofs.FramedScopes.{frames_stand}

-- what is declared behind a statement is declared behind its block, and before it too
pub statement_begins : (before : Before) (s : Statement) (left : Block) (whole : Declarations) → Begins (behind_block before ((then) s left)).declared whole
    → Begins (behind before s).declared whole
statement_begins before s left whole b =
    let a = adds_block (behind before s) left in begins_before whole (behind before s).declared a.added (subst (λ ds. Begins ds whole) a.declared b)

pub before_begins : (before : Before) (s : Statement) (whole : Declarations) → Begins (behind before s).declared whole → Begins before.declared whole
before_begins before s whole b =
    let a = adds_statement before s in begins_before whole before.declared a.added (subst (λ ds. Begins ds whole) a.declared b)

pub comes_none : (frame : Frame) (rest : List Note) (walk : Walk) → Ahead (types_in frame.ground) walk.notes.now rest → Comes frame.ground rest walk walk
comes_none frame rest walk ahead = record { grows = grows_none walk.nodes.items; ahead = ahead; drivers = refl }

walks : (frame : Frame) (rest : List Note) (old new : Walk) → Comes frame.ground rest old new → Walks frame rest old new
walks frame rest old new c = record { grows = c.grows; ahead = c.ahead }

-- an expression at a place of the module
pub enters_place : (frame : Frame) (modules : List ModuleTree) (whole : Declarations) (before place : Before) (notes : List Note) (is : ℕ) (walk : Walk)
    → EntersAt frame modules whole before notes is walk → Begins place.declared whole → Enters frame.ground (scope_at modules place) notes walk
enters_place frame modules whole before place notes is walk e b = record { stands = frames_stand frame modules whole place e.frames b; ahead = e.ahead }

pub enters_notes : (frame : Frame) (modules : List ModuleTree) (whole : Declarations) (before : Before) (one other : List Note) (is : ℕ) (walk : Walk)
    → one ≡ other
    → EntersAt frame modules whole before one is walk → EntersAt frame modules whole before other is walk
enters_notes frame modules whole before one other is walk same e = subst (λ notes. EntersAt frame modules whole before notes is walk) same e

-- in front of what comes next
pub enters_behind : (frame : Frame) (modules : List ModuleTree) (whole : Declarations) (before after : Before) (notes rest : List Note) (was is : ℕ)
    (old new : Walk)
    → EntersAt frame modules whole before notes was old → Ahead (types_in frame.ground) new.notes.now rest → is ≡ length after.declared
    → EntersAt frame modules whole after rest is new
enters_behind frame modules whole before after notes rest was is old new e ahead counted = record { frames = e.frames; ahead = ahead; counted = counted }

-- one behind the other
pub behind_then : (frame : Frame) (middle after : Before) (next rest : List Note) (x y : LeafBlock) (xs ys : List DriverMeant) (a b c : Walk) (m n : ℕ)
    (front mid out : List LeafStmt)
    → ComesBehind frame middle next x xs a b m front mid → ComesBehind frame after rest y ys b c n mid out
    → ComesBehind frame after rest (joined x y) (xs ++ ys) a c n front out
behind_then frame middle after next rest x y xs ys a b c m n front mid out one two = record {
  comes = record { grows = grows_on a.nodes.items b.nodes.items c.nodes.items one.comes.grows two.comes.grows; ahead = two.comes.ahead };
  counted = two.counted;
  emitted =
      emitted_then c.nodes.items front mid out x y (emitted_later b.nodes.items c.nodes.items front mid x two.comes.grows one.emitted) two.emitted;
  driven =
      driven_then c.nodes.items a.drivers.items b.drivers.items c.drivers.items xs ys
      (driven_later b.nodes.items c.nodes.items a.drivers.items b.drivers.items xs two.comes.grows one.driven) two.driven;
}

-- what declares nothing leaves the place
pub still_behind : (frame : Frame) (modules : List ModuleTree) (whole : Declarations) (before : Before) (notes rest : List Note) (b : LeafBlock) (is : ℕ)
    (old new : Walk) (front out : List LeafStmt)
    → EntersAt frame modules whole before notes is old → ComesStill frame.ground rest old new front out b
    → ComesBehind frame before rest b [] old new is front out
still_behind frame modules whole before notes rest b is old new front out e k = record {
  comes = walks frame rest old new k.comes;
  counted = e.counted;
  emitted = k.emitted;
  driven = driven_none new.nodes.items old.drivers.items new.drivers.items (ap (λ (v : Vec Driver Global). v.items) k.comes.drivers);
}

-- what is declared, behind its expressions
pub passed_behind : (frame : Frame) (after : Before) (rest : List Note) (b : LeafBlock) (was is : ℕ) (old mid new : Walk) (front out : List LeafStmt)
    (driver : Driver) (meant : DriverMeant)
    → Comes frame.ground rest old mid → Declares mid new was is driver
    → ((later : List Node) → Grows mid.nodes.items later → driver_seen later driver ≡ meant) → is ≡ length after.declared
    → Emitted new.nodes.items front out b → ComesBehind frame after rest b (meant ∷ []) old new is front out
passed_behind frame after rest b was is old mid new front out driver meant comes next seen counted emitted =
    let own : old.drivers.items ++ driver ∷ [] ≡ mid.drivers.items ++ driver ∷ [] =
    ap (λ (v : Vec Driver Global). v.items ++ driver ∷ []) (sym comes.drivers) in
    record {
      comes = record {
        grows = subst (λ (ns : List Node). Grows old.nodes.items ns) (sym next.nodes) comes.grows;
        ahead = subst (λ ns. Ahead (types_in frame.ground) ns rest) (sym next.notes) comes.ahead;
      };
      counted = counted;
      emitted = emitted;
      driven =
          driven_one new.nodes.items old.drivers.items new.drivers.items driver meant (next.drivers ∙ sym own)
          (λ later g. seen later (subst (λ (ns : List Node). Grows ns later) next.nodes g));
    }

-- what is declared alone
pub declared_behind : (frame : Frame) (modules : List ModuleTree) (whole : Declarations) (before : Before) (n : PlacedName) (c : Component)
    (notes rest : List Note) (was is : ℕ)
    (old mid new : Walk) (out : List LeafStmt) (driver : Driver) (meant : DriverMeant) → EntersAt frame modules whole before notes was old
    → Comes frame.ground rest old mid
    → ((later : List Node) → Grows mid.nodes.items later → driver_seen later driver ≡ meant) → Declares mid new was is driver
    → ComesBehind frame (with_declaration before n c) rest over.done (meant ∷ []) old new is out out
declared_behind frame modules whole before n c notes rest was is old mid new out driver meant e comes seen next =
    passed_behind frame (with_declaration before n c) rest over.done was is old mid new out out driver meant comes next seen
    (next.counted ∙ ap (λ k. k + 1) e.counted ∙ sym (length_push before.declared (declaration_at before n c))) (emitted_none new.nodes.items out)

-- the same statement
pub passes_by : {A E : Type 0} (frame : Frame) (old new : Walk) (was is : ℕ) (front out : List LeafStmt) (r : Result A E) (s t : Statement) → s ≡ t
    → PassesStatement frame t old new was is front out r → PassesStatement frame s old new was is front out r
passes_by frame old new was is front out r s t same h = subst (λ u. PassesStatement frame u old new was is front out r) (sym same) h

pub memory_view : (p : Place) (m : Memory) → stmt_of (code.Mem p m) ≡ memory p (named_of m.ident) (map memory_part_of m.fields.items)
memory_view p m = ap stmt_of (sym (code.rolls-Mem p m)) ∙ fold-roll-Stmt Statement (Place → Statement) stmt_step when_step (layer.Mem p m)

pub skip_view : (p : Place) → stmt_of (code.Skip p) ≡ skip p
skip_view p = ap stmt_of (sym (code.rolls-Skip p)) ∙ fold-roll-Stmt Statement (Place → Statement) stmt_step when_step (layer.Skip p)

-- how far a walk has come in the statements of a block
pub record AtBlock (frame : Frame) (modules : List ModuleTree) (costs : ModuleCosts) (before : Before) (rest : List Note) (block left : Block)
    (old walk : Walk) (is : ℕ) (front out : List LeafStmt) : Type 0 where
  pub now : Before
  pub made : LeafBlock
  pub drivers : List DriverMeant
  pub comes : ComesBehind frame now (block_notes modules now left ++ rest) made drivers old walk is front out
  pub all : leafed_all modules (sinks_in frame.sinks.now) before block ≡ joined made (leafed_all modules (sinks_in frame.sinks.now) now left)
  pub all_drivers : drivers_in_block modules before block ≡ drivers ++ drivers_in_block modules now left
  pub reached : behind_block now left ≡ behind_block before block
  pub legal : AreLegal modules now left
  pub cost : cost_of_block modules costs now left ≤ cost_limit

module _ (frame : Frame) (modules : List ModuleTree) (costs : ModuleCosts) (whole : Declarations) (before : Before) (rest : List Note) (block : Block)
    (was : ℕ) (old : Walk) (front : List LeafStmt)
    (enters : EntersAt frame modules whole before (block_notes modules before block ++ rest) was old) where
  pub block_begun : AreLegal modules before block → cost_of_block modules costs before block ≤ cost_limit
      → AtBlock frame modules costs before rest block block old old was front front
  block_begun legal cost = record {
    now = before;
    made = over.done;
    drivers = [];
    comes = record {
      comes = walks frame (block_notes modules before block ++ rest) old old (comes_none frame (block_notes modules before block ++ rest) old enters.ahead);
      counted = enters.counted;
      emitted = emitted_none old.nodes.items front;
      driven = driven_none old.nodes.items old.drivers.items old.drivers.items refl;
    };
    all = refl;
    all_drivers = refl;
    reached = refl;
    legal = legal;
    cost = cost;
  }

  pub block_passed : (walk : Walk) (is : ℕ) (out : List LeafStmt) → AtBlock frame modules costs before rest block done old walk is front out
      → ComesBehind frame (behind_block before block) rest (leafed_all modules (sinks_in frame.sinks.now) before block)
      (drivers_in_block modules before block) old walk is front out
  block_passed walk is out a =
      let same : a.made ≡ leafed_all modules (sinks_in frame.sinks.now) before block = sym (a.all ∙ joined_done a.made) in
      record {
        comes = a.comes.comes;
        counted = a.comes.counted ∙ ap (λ (b : Before). length b.declared) a.reached;
        emitted = emitted_as walk.nodes.items front out a.made (leafed_all modules (sinks_in frame.sinks.now) before block) same a.comes.emitted;
        driven =
            driven_as walk.nodes.items old.drivers.items walk.drivers.items a.drivers (drivers_in_block modules before block)
            (sym (a.all_drivers ∙ append-nil a.drivers)) a.comes.driven;
      }

  module _ (walk : Walk) (is : ℕ) (mid : List LeafStmt) (s : Statement) (left : Block)
      (a : AtBlock frame modules costs before rest block ((then) s left) old walk is front mid) where
    abbrev pub later : List Note
    later = block_notes modules (behind a.now s) left ++ rest

    pub next_enters : EntersAt frame modules whole a.now (statement_notes modules a.now s ++ later) is walk
    next_enters =
        enters_notes frame modules whole a.now (block_notes modules a.now ((then) s left) ++ rest) (statement_notes modules a.now s ++ later) is walk
        (append_assoc (statement_notes modules a.now s) (block_notes modules (behind a.now s) left) rest)
        (enters_behind frame modules whole before a.now (block_notes modules before block ++ rest) (block_notes modules a.now ((then) s left) ++ rest) was is
        old walk enters
        a.comes.comes.ahead a.comes.counted)

    pub next_begins : Begins (behind_block before block).declared whole → Begins (behind a.now s).declared whole
    next_begins b = statement_begins a.now s left whole (subst (λ (x : Before). Begins x.declared whole) (sym a.reached) b)

    pub next_cost : cost_of modules costs a.now s ≤ cost_limit
    next_cost = let h : cost_of modules costs a.now s + cost_of_block modules costs (behind a.now s) left ≤ cost_limit = a.cost in omega arith

    pub block_next : (new : Walk) (n : ℕ) (out : List LeafStmt)
        → ComesBehind frame (behind a.now s) later (leafed modules (sinks_in frame.sinks.now) a.now s) (drivers_in modules a.now s) walk new n mid out
        → AtBlock frame modules costs before rest block left old new n front out
    block_next new n out k =
        let may = sinks_in frame.sinks.now in
        let h : cost_of modules costs a.now s + cost_of_block modules costs (behind a.now s) left ≤ cost_limit = a.cost in
        record {
          now = behind a.now s;
          made = joined a.made (leafed modules may a.now s);
          drivers = a.drivers ++ drivers_in modules a.now s;
          comes =
              behind_then frame a.now (behind a.now s) (block_notes modules a.now ((then) s left) ++ rest) later a.made (leafed modules may a.now s) a.drivers
              (drivers_in modules a.now s) old walk
              new is n front mid out
              a.comes k;
          all = a.all ∙ sym (joined_assoc a.made (leafed modules may a.now s) (leafed_all modules may (behind a.now s) left));
          all_drivers =
              a.all_drivers ∙ sym (append_assoc a.drivers (drivers_in modules a.now s) (drivers_in_block modules (behind a.now s) left));
          reached = a.reached;
          legal = a.legal.1;
          cost = omega arith;
        }
