-- The walk over the statements of a block, and over a when.
use Rattle.std.proofs.Common.{◌≡◌, ◌⊎◌, inl, inr, ◌+◌, List, [], ◌++◌, length, map, Option, Result, Ok, Err, refl, sym, ap, ◌∙◌, append_assoc}
use Rattle.std.specs.Prelude.{OnOk}
use Rattle.std.proofs.lemmas.List.{append-nil}
use Rattle.fir_ast.specs.declared.place.Place.{Place}
use Rattle.fir_ast.specs.declared.statements.Ident.{Ident}
use Rattle.fir_ast.specs.declared.statements.Memory.{Memory}
use Rattle.fir_ast.specs.declared.statements.Stmt.{Stmt, fold-roll-Stmt}
use Rattle.fir_ast.specs.declared.statements.Stmt.TheVariants as statement
use Rattle.fir_ast.specs.declared.statements.Stmt.TheOpen as layer
use Rattle.fir_ast.specs.declared.types.Ty.{Ty}
use Rattle.fir_ast.specs.Types.{DataType}
use Rattle.fir_ast.specs.Expressions.{Expression}
use Rattle.fir_ast.specs.Statements.{PlacedName, SinkReference, Statement, wire, memory, when, invalid, Block, done, then}
use Rattle.fir_ast.specs.working.Views.{memory_part_of, named_of, stmt_of, stmt_step, when_step}
use Rattle.fir_ast.specs.working.TypeViews.{type_of}
use Rattle.fir_names.proofs.StatementViews.{wire_view}
use Rattle.fir_meaning.specs.Components as component
use Rattle.fir_meaning.specs.Components.{Component}
use Rattle.fir_meaning.specs.TypeGroup.{scope_at}
use Rattle.fir_meaning.specs.Visibility.{Before, behind, behind_block, opened, reopened, with_declaration}
use Rattle.fir_types.specs.declared.note.LeafRange.{LeafRange as RangeOfCode}
use Rattle.fir_types.specs.working.ModuleNotes.{block_notes, statement_notes}
use Rattle.fir_types.specs.working.Notes.{Note, expression_notes, reference_note}
use Rattle.fir_infer_resets.specs.declared.meets.Walk.{Walk}
use Rattle.fir_meaning.specs.ResetJoins.{ResetModule}
use Rattle.fir_infer_resets.specs.working.Meetings.{Meeting, meetings_in, meetings_in_block}
use Rattle.fir_infer_resets.specs.working.Meets.{Ahead, Meets}
use Rattle.fir_infer_resets.specs.working.Passes.{Passes, PassesRange, PassesStatement}
use Rattle.fir_infer_resets.proofs.NotesPassed.{ahead_behind, ahead_two, passes_none}
use Rattle.fir_infer_resets.proofs.MeetsJoined.{declared_behind, meets_none, meets_passed, meets_then, passes_by}

-- what is declared, and has no expressions
abbrev pub DeclaresAlone : Stmt → Type 0
DeclaresAlone x =
    ((p : Place) × (i : Ident) × (begins : Place) × (t : Ty) × (x ≡ statement.Wire p i begins t)) ⊎ ((p : Place) × (memory : Memory) × (x ≡ statement.Mem p memory))

memory_view : (p : Place) (x : Memory) → stmt_of (statement.Mem p x) ≡ memory p (named_of x.ident) (map memory_part_of x.fields.items)
memory_view p x = ap stmt_of (sym (statement.rolls-Mem p x)) ∙ fold-roll-Stmt Statement (Place → Statement) stmt_step when_step (layer.Mem p x)

alone_passed : {A E : Type 0} (n : PlacedName) (c : Component) (old new : Walk) (r : Result A E) → OnOk r (new ≡ record old { declared = old.declared + 1 })
    → (ts : List DataType) (before : Before) (rest : List Note) → Ahead ts old.notes.now rest → old.declared ≡ length before.declared
    → OnOk r (Meets ts rest (length (with_declaration before n c).declared) [] old new)
alone_passed n c old new r is ts before rest ahead same =
    declared_behind ts rest before n c [] old old new r (meets_none ts rest (length before.declared) old old (passes_none ts rest old ahead) same) is

pub declaration_passed : {A E : Type 0} (x : Stmt) (old new : Walk) (r : Result A E) → DeclaresAlone x → OnOk r (new ≡ record old { declared = old.declared + 1 })
    → PassesStatement (stmt_of x) old new r
declaration_passed x old new r (inl h) is =
    passes_by old new r (stmt_of x) (wire h.0 (named_of h.1) h.2 (type_of h.3)) (ap stmt_of h.4 ∙ wire_view h.0 h.1 h.2 h.3)
    (λ ts m before. alone_passed (named_of h.1) (component.wire (type_of h.3)) old new r is ts before)
declaration_passed x old new r (inr h) is =
    let parts = map memory_part_of h.1.fields.items in
    passes_by old new r (stmt_of x) (memory h.0 (named_of h.1.ident) parts) (ap stmt_of h.2 ∙ memory_view h.0 h.1)
    (λ ts m before. alone_passed (named_of h.1.ident) (component.memory parts) old new r is ts before)

-- what lets nothing meet, and declares nothing
pub invalid_passed : (p : Place) (s : SinkReference) (range : Option RangeOfCode) (old new : Walk) (ts : List DataType) (m : ResetModule) (before : Before) (rest : List Note)
    → PassesRange ts (reference_note (scope_at m.modules before) s) rest range old new → old.declared ≡ length before.declared
    → Meets ts rest (length (behind before (invalid p s)).declared) (meetings_in m before (invalid p s)) old new
invalid_passed p s range old new ts m before rest h same = meets_none ts rest (length before.declared) old new h.passes same

-- a when: its condition, and then its blocks
module _ (ts : List DataType) (m : ResetModule) (before : Before) (rest : List Note) (p : Place) (e : Expression) (a b : Block) (old : Walk) where
  abbrev pub between : Before
  between = reopened before (behind_block (opened before) a)

  abbrev pub first_notes : List Note
  first_notes = block_notes m.modules (opened before) a

  abbrev pub second_notes : List Note
  second_notes = block_notes m.modules between b

  pub condition_ahead : Ahead ts old.notes.now (statement_notes m.modules before (when p e a b) ++ rest)
      → Ahead ts old.notes.now (expression_notes (scope_at m.modules before) e ++ (first_notes ++ (second_notes ++ rest)))
  condition_ahead ahead = ahead_two ts old.notes.now (expression_notes (scope_at m.modules before) e) first_notes second_notes rest ahead

  pub when_passed : {A E : Type 0} (second third last : Walk) (r : Result A E) → Passes ts (first_notes ++ (second_notes ++ rest)) old second
      → Meets ts (second_notes ++ rest) (length (behind_block (opened before) a).declared) (meetings_in_block m (opened before) a) second third
      → OnOk r (Meets ts rest (length (behind_block between b).declared) (meetings_in_block m between b) third last)
      → OnOk r (Meets ts rest (length (behind before (when p e a b)).declared) (meetings_in m before (when p e a b)) old last)
  when_passed second third last (Ok x) passes one two =
      meets_passed ts (first_notes ++ (second_notes ++ rest)) rest (length (behind_block between b).declared) (meetings_in m before (when p e a b)) old second last passes
      (meets_then ts (second_notes ++ rest) rest (length (behind_block (opened before) a).declared) (length (behind_block between b).declared)
      (meetings_in_block m (opened before) a) (meetings_in_block m between b) second third last one two)
  when_passed second third last (Err x) passes one two = tt

-- how far a walk has come in the statements of a block
pub record AtBlock (ts : List DataType) (m : ResetModule) (before : Before) (rest : List Note) (whole left : Block) (old walk : Walk) : Type 0 where
  pub now : Before
  pub met : List Meeting
  pub meets : Meets ts (block_notes m.modules now left ++ rest) (length now.declared) met old walk
  pub same : meetings_in_block m before whole ≡ met ++ meetings_in_block m now left
  pub reached : behind_block now left ≡ behind_block before whole

module _ (ts : List DataType) (m : ResetModule) (before : Before) (rest : List Note) (whole : Block) (old : Walk) where
  pub block_begun : Ahead ts old.notes.now (block_notes m.modules before whole ++ rest) → old.declared ≡ length before.declared
      → AtBlock ts m before rest whole whole old old
  block_begun ahead same = record {
    now = before;
    met = [];
    meets = meets_none ts (block_notes m.modules before whole ++ rest) (length before.declared) old old (record { ahead = ahead; declared = refl; meets = refl }) same;
    same = refl;
    reached = refl;
  }

  pub block_passed : (walk : Walk) → AtBlock ts m before rest whole done old walk
      → Meets ts rest (length (behind_block before whole).declared) (meetings_in_block m before whole) old walk
  block_passed walk a = rw (← a.reached, a.same, append-nil a.met) a.meets

  module _ (walk new : Walk) (s : Statement) (left : Block) (a : AtBlock ts m before rest whole ((then) s left) old walk) where
    abbrev pub later : List Note
    later = block_notes m.modules (behind a.now s) left ++ rest

    pub next_ahead : Ahead ts walk.notes.now (statement_notes m.modules a.now s ++ later)
    next_ahead = ahead_behind ts walk.notes.now (statement_notes m.modules a.now s) (block_notes m.modules (behind a.now s) left) rest a.meets.ahead

    pub block_next : Meets ts later (length (behind a.now s).declared) (meetings_in m a.now s) walk new → AtBlock ts m before rest whole left old new
    block_next k = record {
      now = behind a.now s;
      met = a.met ++ meetings_in m a.now s;
      meets =
          meets_then ts (block_notes m.modules a.now ((then) s left) ++ rest) later (length a.now.declared) (length (behind a.now s).declared) a.met (meetings_in m a.now s) old walk new
          a.meets k;
      same = a.same ∙ sym (append_assoc a.met (meetings_in m a.now s) (meetings_in_block m (behind a.now s) left));
      reached = a.reached;
    }
