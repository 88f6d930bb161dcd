-- The walk over the statements of a block, and over a when.
use Rattle.std.proofs.Common.{◌≡◌, List, [], ◌++◌, Result, map, refl, sym, ap, subst, ◌∙◌, append_assoc}
use Rattle.std.specs.Prelude.{OnOk}
use Rattle.std.proofs.lemmas.List.{append-nil}
use Rattle.std.proofs.lemmas.Result.{on_ok_weaker}
use Rattle.fir_ast.specs.declared.place.Place.{Place}
use Rattle.fir_ast.specs.declared.statements.Memory.{Memory}
use Rattle.fir_ast.specs.declared.statements.Stmt.{fold-roll-Stmt}
use Rattle.fir_ast.specs.declared.statements.Stmt.TheVariants as code
use Rattle.fir_ast.specs.declared.statements.Stmt.TheOpen as layer
use Rattle.fir_ast.specs.Statements.{SinkReference, Statement, memory, Block, done, then}
use Rattle.fir_ast.specs.Expressions.{Expression}
use Rattle.fir_ast.specs.working.Views.{memory_part_of, named_of, stmt_of, stmt_step, when_step}
use Rattle.fir_ast.specs.Circuits.{CircuitTree}
use Rattle.fir_meaning.specs.Components.{Declarations}
use Rattle.fir_meaning.specs.Visibility.{Before, behind, behind_block, declarations}
use Rattle.fir_meaning.specs.TypeGroup.{scope_at}
use Rattle.fir_meaning.specs.SizedDeclarations.{NumberedModule, sized_at}
use Rattle.fir_meaning.specs.SizedScopes.{sink_expression, sized_type}
use Rattle.fir_meaning.specs.working.WellTyped.{AreLegal}
use Rattle.fir_meaning.specs.WidthExpressions.{Width, Rule}
use Rattle.fir_meaning.specs.WidthRules.{connect_rules, rules_in, rules_in_block}
use Rattle.fir_names.proofs.BehindStatements.{adds_block, adds_statement}
use Rattle.fir_types.specs.working.ModuleNotes.{block_notes, connect_notes, statement_notes}
use Rattle.fir_types.specs.working.Notes.{Note}
use Rattle.fir_types.specs.working.Walked.{Begins}
use Rattle.fir_types.proofs.KnownScopes.{begins_before}
use Rattle.fir_infer_widths.specs.declared.ground.Ground.{Ground}
use Rattle.fir_infer_widths.specs.declared.walk.Walk.{Walk}
use Rattle.fir_infer_widths.specs.working.Spots.{Spot, spots_in, spots_in_block, spots_of_sink, spots_within}
use Rattle.fir_infer_widths.specs.working.Walks.{ComesBehind, ComesStill, Enters, EntersAt, PassesStatement}
use Rattle.fir_infer_widths.proofs.PlaceWalks.{at_behind, behind_none, behind_then, enters_at_notes, enters_place, still_behind}

-- what is declared behind a statement is declared behind its block
pub statement_begins : (before : Before) (s : Statement) (left : Block) (whole : Declarations) → Begins (behind_block before ((then) s left)).declared whole
    → Begins (behind before s).declared whole
statement_begins before s left whole b =
    let a = adds_block (behind before s) left in begins_before whole (behind before s).declared a.added (subst (λ ds. Begins ds whole) a.declared b)

-- and before it too
pub before_begins : (before : Before) (s : Statement) (whole : Declarations) → Begins (behind before s).declared whole → Begins before.declared whole
before_begins before s whole b =
    let a = adds_statement before s in begins_before whole before.declared a.added (subst (λ ds. Begins ds whole) a.declared b)

-- how far a walk has come in the statements of a block
pub record AtBlock (c : CircuitTree) (g : Ground) (m : NumberedModule) (before : Before) (meant : List Width) (rules : List Rule) (rest : List Note) (whole left : Block) (old walk : Walk) : Type 0 where
  pub now : Before
  pub asked : List Rule
  pub spots : List Spot
  pub comes : ComesBehind c g now meant rules asked (block_notes m.modules now left ++ rest) spots old walk
  pub rules_are : rules_in_block m before whole ≡ asked ++ rules_in_block m now left
  pub spots_are : spots_in_block m before whole ≡ spots ++ spots_in_block m now left
  pub reached : behind_block now left ≡ behind_block before whole
  pub legal : AreLegal m.modules now left

module _ (c : CircuitTree) (g : Ground) (m : NumberedModule) (before : Before) (meant : List Width) (rules : List Rule) (rest : List Note) (whole : Block) (old : Walk)
    (enters : EntersAt c g m before meant rules (block_notes m.modules before whole ++ rest) old) where
  pub block_begun : AreLegal m.modules before whole → AtBlock c g m before meant rules rest whole whole old old
  block_begun legal = record {
    now = before;
    asked = [];
    spots = [];
    comes = behind_none c g m before meant rules (block_notes m.modules before whole ++ rest) old enters;
    rules_are = refl;
    spots_are = refl;
    reached = refl;
    legal = legal;
  }

  pub block_passed : (walk : Walk) → AtBlock c g m before meant rules rest whole done old walk
      → ComesBehind c g (behind_block before whole) meant rules (rules_in_block m before whole) rest (spots_in_block m before whole) old walk
  block_passed walk a =
      rw (← a.reached, a.rules_are, a.spots_are, append-nil a.asked, append-nil a.spots) a.comes

  module _ (walk : Walk) (s : Statement) (left : Block) (a : AtBlock c g m before meant rules rest whole ((then) s left) old walk) where
    abbrev pub later : List Note
    later = block_notes m.modules (behind a.now s) left ++ rest

    pub next_enters : EntersAt c g m a.now (meant ++ a.comes.comes.more) (rules ++ a.asked) (statement_notes m.modules a.now s ++ later) walk
    next_enters =
        enters_at_notes c g m a.now (meant ++ a.comes.comes.more) (rules ++ a.asked) (block_notes m.modules a.now ((then) s left) ++ rest) (statement_notes m.modules a.now s ++ later) walk
        (append_assoc (statement_notes m.modules a.now s) (block_notes m.modules (behind a.now s) left) rest)
        (at_behind c g m before a.now meant rules a.asked (block_notes m.modules before whole ++ rest) (block_notes m.modules a.now ((then) s left) ++ rest) a.spots old walk enters a.comes)

    pub next_begins : Begins (behind_block before whole).declared (declarations m.inside) → Begins (behind a.now s).declared (declarations m.inside)
    next_begins b =
        statement_begins a.now s left (declarations m.inside) (subst (λ (x : Before). Begins x.declared (declarations m.inside)) (sym a.reached) b)

    pub block_next : (new : Walk)
        → ComesBehind c g (behind a.now s) (meant ++ a.comes.comes.more) (rules ++ a.asked) (rules_in m a.now s) later (spots_in m a.now s) walk new
        → AtBlock c g m before meant rules rest whole left old new
    block_next new k = record {
      now = behind a.now s;
      asked = a.asked ++ rules_in m a.now s;
      spots = a.spots ++ spots_in m a.now s;
      comes =
          behind_then c g a.now (behind a.now s) meant rules a.asked (rules_in m a.now s) (block_notes m.modules a.now ((then) s left) ++ rest) later a.spots (spots_in m a.now s) old walk new
          a.comes k;
      rules_are = a.rules_are ∙ sym (append_assoc a.asked (rules_in m a.now s) (rules_in_block m (behind a.now s) left));
      spots_are = a.spots_are ∙ sym (append_assoc a.spots (spots_in m a.now s) (spots_in_block m (behind a.now s) left));
      reached = a.reached;
      legal = a.legal.1;
    }

-- the same statement
pub passes_by : {A E : Type 0} (g : Ground) (old new : Walk) (r : Result A E) (s t : Statement) → s ≡ t → PassesStatement g t old new r → PassesStatement g s old new r
passes_by g old new r s t same h = subst (λ u. PassesStatement g u old new r) (sym same) h

pub memory_view : (p : Place) (m : Memory) → stmt_of (code.Mem p m) ≡ memory p (named_of m.ident) (map memory_part_of m.fields.items)
memory_view p m = ap stmt_of (sym (code.rolls-Mem p m)) ∙ fold-roll-Stmt Statement (Place → Statement) stmt_step when_step (layer.Mem p m)

-- a connect, whole or partial
pub connect_passed : {A E : Type 0} (c : CircuitTree) (g : Ground) (m : NumberedModule) (before : Before) (sink : SinkReference) (e : Expression)
    (meant : List Width) (rules : List Rule) (rest : List Note) (old new : Walk) (r : Result A E)
    → EntersAt c g m before meant rules (connect_notes (scope_at m.modules before) sink e ++ rest) old → Begins before.declared (declarations m.inside)
    → (Enters g (scope_at m.modules before) (sized_at m before) meant rules (connect_notes (scope_at m.modules before) sink e ++ rest) old
    → OnOk r
    (ComesStill c g meant rules (connect_rules (sized_type (sized_at m before) (sink_expression sink)) (sized_type (sized_at m before) e)) rest
    (spots_of_sink (sized_at m before) sink ++ spots_within (sized_at m before) e) old new))
    → OnOk r
    (ComesBehind c g before meant rules (connect_rules (sized_type (sized_at m before) (sink_expression sink)) (sized_type (sized_at m before) e)) rest
    (spots_of_sink (sized_at m before) sink ++ spots_within (sized_at m before) e) old new)
connect_passed c g m before sink e meant rules rest old new r enters begins walked =
    let notes = connect_notes (scope_at m.modules before) sink e ++ rest in
    let asked = connect_rules (sized_type (sized_at m before) (sink_expression sink)) (sized_type (sized_at m before) e) in
    on_ok_weaker r (still_behind c g m before meant rules asked notes rest (spots_of_sink (sized_at m before) sink ++ spots_within (sized_at m before) e) old new enters)
    (walked (enters_place c g m before before meant rules notes old enters begins))
