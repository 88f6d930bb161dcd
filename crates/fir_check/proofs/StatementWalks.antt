-- The walk over statements and blocks.
use Rattle.std.proofs.Common.{◌≡◌, List, [], ◌++◌, map, Result, Ok, Err, refl, sym, ap, subst, ◌∙◌}
use Rattle.std.specs.Prelude.{OnOk}
use Rattle.fir_base.specs.declared.refused.Refused.{Refused}
use Rattle.fir_ast.specs.declared.fault.FirFault.{FirFault}
use Rattle.fir_ast.specs.declared.place.Place.{Place}
use Rattle.fir_ast.specs.Types.{DataType}
use Rattle.fir_ast.specs.Expressions.{Expression}
use Rattle.fir_ast.specs.Statements.{Statement, when, Block, done, then}
use Rattle.fir_ast.specs.Circuits.{ModuleTree}
use Rattle.fir_ast.specs.Faults.{Fault}
use Rattle.fir_meaning.specs.Components.{Declarations}
use Rattle.fir_meaning.specs.Visibility.{Before, opened, reopened, behind, behind_block}
use Rattle.fir_meaning.specs.ExpressionPlaces.{place_of}
use Rattle.fir_meaning.specs.ExpressionTypes.{condition_form, expression_type}
use Rattle.fir_meaning.specs.ComponentTypes.{typed_scope}
use Rattle.fir_meaning.specs.TypeGroup.{scope_at, type_faults_in, type_faults_in_block}
use Rattle.fir_names.proofs.BehindStatements.{adds_block}
use Rattle.fir_type_table.specs.declared.kind.TypeId.{TypeId}
use Rattle.fir_type_table.specs.working.Tables.{types_of}
use Rattle.fir_types.specs.declared.scope.Scope.{Scope}
use Rattle.fir_types.specs.working.Judged.{IsFirstOf}
use Rattle.fir_types.specs.working.Walked.{Begins, GoesOnWith, Judges, Passes, Walks}
use Rattle.fir_check.proofs.CheckedForms.{first_left, first_right}
use Rattle.fir_types.proofs.KnownScopes.{begins_before}
use Rattle.fir_types.proofs.GrownScopes.{goes_still, goes_twice}
use Rattle.fir_types.specs.declared.note.Note.{Note}
use Rattle.fir_types.specs.working.ModuleNotes.{block_notes, statement_notes}
use Rattle.fir_types.specs.working.Notes.{expression_notes}
use Rattle.fir_types.specs.working.Noted.{Noted}
use Rattle.fir_check.proofs.NotedWalks.{NotesSoFar, noted_later, noted_three, notes_done, notes_first, notes_later, notes_next}
use Rattle.fir_check.proofs.StatementFaults.{both_clear}

-- the same statement
pub passes_by : (modules : List ModuleTree) (bundles : List TypeId) (old new : Scope) (before : Before) (s t : Statement) {A : Type 0} (r : Result A (Refused FirFault)) → s ≡ t
    → Passes modules bundles old new (type_faults_in modules before t) (behind before t) r
    → Passes modules bundles old new (type_faults_in modules before s) (behind before s) r
passes_by modules bundles old new before s t r is p = subst (λ u. Passes modules bundles old new (type_faults_in modules before u) (behind before u) r) (sym is) p

-- a statement that declares nothing
pub judged_passes : (modules : List ModuleTree) (bundles : List TypeId) (scope : Scope) (before : Before) (faults : List Fault) {A : Type 0} (r : Result A (Refused FirFault))
    → Judges faults r → Walks modules bundles scope before → Passes modules bundles scope scope faults before r
judged_passes modules bundles scope before faults (Ok x) h w = (h, w, goes_still scope scope refl)
judged_passes modules bundles scope before faults (Err e) h w = h

-- only what is declared counts
pub walks_at : (modules : List ModuleTree) (bundles : List TypeId) (scope : Scope) (one other : Before) → one.declared ≡ other.declared
    → Walks modules bundles scope one → Walks modules bundles scope other
walks_at modules bundles scope one other same w =
    record { types = w.types ∙ ap (λ ds. map (λ k. k.data_type) (typed_scope modules ds)) same; held = w.held; holds = w.holds }

-- how far a walk has come in the statements of a block
pub record AtBlock (modules : List ModuleTree) (bundles : List TypeId) (start scope : Scope) (before : Before) (whole left : Block) : Type 0 where
  pub now : Before
  pub walks : Walks modules bundles scope now
  pub same : type_faults_in_block modules before whole ≡ type_faults_in_block modules now left
  pub reached : behind_block now left ≡ behind_block before whole
  pub grown : GoesOnWith (types_of start.table) scope

pub block_begun : (modules : List ModuleTree) (bundles : List TypeId) (scope : Scope) (before : Before) (whole : Block) → Walks modules bundles scope before
    → AtBlock modules bundles scope scope before whole whole
block_begun modules bundles scope before whole w = record { now = before; walks = w; same = refl; reached = refl; grown = goes_still scope scope refl }

-- what is declared behind a statement is declared behind its block
statement_begins : (now before : Before) (s : Statement) (left whole : Block) (all : Declarations) → behind_block now ((then) s left) ≡ behind_block before whole
    → Begins (behind_block before whole).declared all → Begins (behind now s).declared all
statement_begins now before s left whole all reached b =
    let a = adds_block (behind now s) left in
    begins_before all (behind now s).declared a.added (subst (λ ds. Begins ds all) (sym (ap (λ x. x.declared) reached) ∙ a.declared) b)

module _ (modules : List ModuleTree) (bundles : List TypeId) (start old new : Scope) (before : Before) (whole left : Block) (s : Statement) (all : Declarations)
    (begins : Begins (behind_block before whole).declared all) (a : AtBlock modules bundles start old before whole ((then) s left)) where
  pub block_next : (type_faults_in modules a.now s ≡ []) × Walks modules bundles new (behind a.now s) × GoesOnWith (types_of old.table) new
      → AtBlock modules bundles start new before whole left
  block_next p = record {
    now = behind a.now s;
    walks = p.1;
    same = a.same ∙ ap (λ fs. fs ++ type_faults_in_block modules (behind a.now s) left) p.0;
    reached = a.reached;
    grown = goes_twice (types_of start.table) old new a.grown p.2;
  }

  pub block_fails : (e : Refused FirFault) → IsFirstOf (type_faults_in modules a.now s) e → IsFirstOf (type_faults_in_block modules before whole) e
  block_fails e h =
      subst (λ fs. IsFirstOf fs e) (sym a.same) (first_left (type_faults_in modules a.now s) (type_faults_in_block modules (behind a.now s) left) e h)

  pub next_begins : Begins (behind a.now s).declared all
  next_begins = statement_begins a.now before s left whole all a.reached begins

-- with the notes so far
pub record NotedBlock (modules : List ModuleTree) (bundles : List TypeId) (start scope : Scope) (first notes : List Note) (before : Before) (whole left : Block) : Type 0 where
  pub at : AtBlock modules bundles start scope before whole left
  pub so_far : NotesSoFar (types_of scope.table) first notes (block_notes modules before whole) (block_notes modules at.now left)

pub noted_block_begun : (modules : List ModuleTree) (bundles : List TypeId) (scope : Scope) (notes : List Note) (before : Before) (whole : Block) → Walks modules bundles scope before
    → NotedBlock modules bundles scope scope notes notes before whole whole
unfolding block_begun
noted_block_begun modules bundles scope notes before whole w =
    record { at = block_begun modules bundles scope before whole w; so_far = notes_first (types_of scope.table) notes (block_notes modules before whole) }

pub noted_block_next : (modules : List ModuleTree) (bundles : List TypeId) (start old new : Scope) (first notes after : List Note) (before : Before) (whole left : Block) (s : Statement)
    (all : Declarations) → Begins (behind_block before whole).declared all → (a : NotedBlock modules bundles start old first notes before whole ((then) s left))
    → (type_faults_in modules a.at.now s ≡ []) × Walks modules bundles new (behind a.at.now s) × GoesOnWith (types_of old.table) new
    → Noted (types_of new.table) notes after (statement_notes modules a.at.now s) → NotedBlock modules bundles start new first after before whole left
unfolding block_next
noted_block_next modules bundles start old new first notes after before whole left s all begins a p noted = record {
  at = block_next modules bundles start old new before whole left s all begins a.at p;
  so_far =
      notes_next (types_of new.table) first notes after (block_notes modules before whole) (block_notes modules a.at.now ((then) s left)) (statement_notes modules a.at.now s)
      (block_notes modules (behind a.at.now s) left) (notes_later (types_of old.table) new first notes _ _ p.2 a.so_far) refl noted;
}

pub noted_block_done : (modules : List ModuleTree) (bundles : List TypeId) (start scope : Scope) (first notes : List Note) (before : Before) (whole : Block)
    → NotedBlock modules bundles start scope first notes before whole done → Noted (types_of scope.table) first notes (block_notes modules before whole)
noted_block_done modules bundles start scope first notes before whole a = notes_done (types_of scope.table) first notes (block_notes modules before whole) [] a.so_far refl

-- the notes of the same statement
pub notes_by : {A E : Type 0} (ts : List DataType) (modules : List ModuleTree) (old new : List Note) (before : Before) (s t : Statement) (r : Result A E) → s ≡ t
    → OnOk r (Noted ts old new (statement_notes modules before t)) → OnOk r (Noted ts old new (statement_notes modules before s))
notes_by ts modules old new before s t r is h = subst (λ u. OnOk r (Noted ts old new (statement_notes modules before u))) (sym is) h

pub block_passed : (modules : List ModuleTree) (bundles : List TypeId) (start scope : Scope) (before : Before) (whole : Block)
    → AtBlock modules bundles start scope before whole done
    → (type_faults_in_block modules before whole ≡ []) × Walks modules bundles scope (behind_block before whole) × GoesOnWith (types_of start.table) scope
block_passed modules bundles start scope before whole a = (a.same, subst (Walks modules bundles scope) a.reached a.walks, a.grown)

-- a when: its condition, and then its blocks
module _ (modules : List ModuleTree) (bundles : List TypeId) (before : Before) (p : Place) (c : Expression) (a b : Block) where
  abbrev condition : List Fault
  condition = (condition_form (place_of c) (expression_type (scope_at modules before) c)).shows

  abbrev one : List Fault
  one = type_faults_in_block modules (opened before) a

  abbrev between : Before
  between = reopened before (behind_block (opened before) a)

  abbrev two : List Fault
  two = type_faults_in_block modules between b

  pub condition_fails : (e : Refused FirFault) → IsFirstOf condition e → IsFirstOf (type_faults_in modules before (when p c a b)) e
  condition_fails e h = first_left (condition ++ one) two e (first_left condition one e h)

  pub first_fails : (e : Refused FirFault) → condition ≡ [] → IsFirstOf one e → IsFirstOf (type_faults_in modules before (when p c a b)) e
  first_fails e none h = first_left (condition ++ one) two e (first_right condition one e none h)

  pub when_passes : (old middle scope : Scope) {A : Type 0} (r : Result A (Refused FirFault)) → condition ≡ [] → one ≡ []
      → GoesOnWith (types_of old.table) middle → Passes modules bundles middle scope two (behind_block between b) r
      → Passes modules bundles old scope (type_faults_in modules before (when p c a b)) (behind before (when p c a b)) r
  when_passes old middle scope (Ok x) none clear g h = (
    both_clear (condition ++ one) two (both_clear condition one none clear) h.0,
    walks_at modules bundles scope (behind_block between b) (behind before (when p c a b)) refl h.1,
    goes_twice (types_of old.table) middle scope g h.2,
  )
  when_passes old middle scope (Err e) none clear g h = first_right (condition ++ one) two e (both_clear condition one none clear) h

  -- and the notes of it
  pub when_noted : {A E : Type 0} (old middle new : Scope) (first second third last : List Note) (r : Result A E)
      → Noted (types_of old.table) first second (expression_notes (scope_at modules before) c) → GoesOnWith (types_of old.table) middle
      → Noted (types_of middle.table) second third (block_notes modules (opened before) a) → OnOk r (GoesOnWith (types_of middle.table) new)
      → OnOk r (Noted (types_of new.table) third last (block_notes modules between b))
      → OnOk r (Noted (types_of new.table) first last (statement_notes modules before (when p c a b)))
  when_noted old middle new first second third last (Ok x) h goes k then_goes l =
      noted_three (types_of new.table) first second third last _ _ _
      (noted_later (types_of middle.table) new first second _ then_goes (noted_later (types_of old.table) middle first second _ goes h))
      (noted_later (types_of middle.table) new second third _ then_goes k) l
  when_noted old middle new first second third last (Err e) h goes k then_goes l = tt

  pub passed_goes : {A : Type 0} (middle scope : Scope) (r : Result A (Refused FirFault)) → Passes modules bundles middle scope two (behind_block between b) r
      → OnOk r (GoesOnWith (types_of middle.table) scope)
  passed_goes middle scope (Ok x) h = h.2
  passed_goes middle scope (Err e) h = tt

  pub opens : (scope : Scope) → Walks modules bundles scope before → Walks modules bundles scope (opened before)
  opens scope w = walks_at modules bundles scope before (opened before) refl w

  pub reopens : (scope : Scope) → Walks modules bundles scope (behind_block (opened before) a) → Walks modules bundles scope between
  reopens scope w = walks_at modules bundles scope (behind_block (opened before) a) between refl w
