-- How far a walk has come in the statements of a block, or in the ports of a module.
-- What is left has the first fault of the whole, behind what stands before it.
use Rattle.std.proofs.Common.{◌≡◌, List, ◌∷◌, Some, None, sym, ◌∙◌, subst}
use Rattle.std.specs.Prelude.{Option}
use Rattle.fir_ast.specs.declared.fault.FirFault.{FirFault}
use Rattle.fir_ast.specs.Statements.{PlacedName, Statement, Block, done, then}
use Rattle.fir_ast.specs.Circuits.{PortTree}
use Rattle.fir_pass.specs.Groups.{first_of}
use Rattle.fir_meaning.specs.Components as component
use Rattle.fir_meaning.specs.Visibility.{Before, with_declaration, behind, behind_block, behind_ports}
use Rattle.fir_meaning.specs.Mentions.{Mention, declares, names_declared, mentions, block_mentions, type_mentions, ports_mentions}
use Rattle.fir_meaning.specs.NameGroups.{faults_in}
use Rattle.fir_resolve.specs.declared.scope.Scope.{Scope}
use Rattle.fir_resolve.specs.working.Scoped.{Passes, Walks}
use Rattle.fir_names.proofs.FirstMentions.{front_silent, front_told}
use Rattle.fir_resolve.proofs.PassedMentions.{passes_silent, passes_told}

-- the same statement
pub passes_by : (modules : List PlacedName) (old new : Scope) (before : Before) (f : Option FirFault) (s t : Statement) → s ≡ t
    → Passes modules old new (mentions modules before t) (behind before t) f → Passes modules old new (mentions modules before s) (behind before s) f
passes_by modules old new before f s t is p = subst (λ u. Passes modules old new (mentions modules before u) (behind before u) f) (sym is) p

pub record AtBlock (modules : List PlacedName) (start scope : Scope) (before : Before) (whole left : Block) : Type 0 where
  pub now : Before
  pub walks : Walks modules scope now
  pub same : first_of (faults_in (block_mentions modules before whole)) ≡ first_of (faults_in (block_mentions modules now left))
  pub reached : behind_block now left ≡ behind_block before whole
  pub still_open : scope.opened.items ≡ start.opened.items

pub block_next : (modules : List PlacedName) (start old new : Scope) (before : Before) (whole left : Block) (s : Statement) (f : Option FirFault) → f ≡ None
    → ((now : Before) → Walks modules old now → Passes modules old new (mentions modules now s) (behind now s) f)
    → AtBlock modules start old before whole ((then) s left) → AtBlock modules start new before whole left
block_next modules start old new before whole left s f none passed a =
    let p = passed a.now a.walks in
    record {
      now = behind a.now s;
      walks = p.walked none;
      same = a.same ∙ front_silent f (mentions modules a.now s) (block_mentions modules (behind a.now s) left) none p.first;
      reached = a.reached;
      still_open = p.still_open none ∙ a.still_open;
    }

pub block_found : (modules : List PlacedName) (start old new late : Scope) (before : Before) (whole left : Block) (s : Statement) (f : Option FirFault)
    (x : FirFault) → f ≡ Some x → ((now : Before) → Walks modules old now → Passes modules old new (mentions modules now s) (behind now s) f)
    → AtBlock modules start old before whole ((then) s left)
    → Passes modules start late (block_mentions modules before whole) (behind_block before whole) (Some x)
block_found modules start old new late before whole left s f x is passed a =
    let p = passed a.now a.walks in
    passes_told modules start late (block_mentions modules before whole) (behind_block before whole) x
    (front_told f x (mentions modules a.now s) (block_mentions modules (behind a.now s) left) is p.first ∙ sym a.same)

pub block_passed : (modules : List PlacedName) (start scope : Scope) (before : Before) (whole : Block) → AtBlock modules start scope before whole done
    → Passes modules start scope (block_mentions modules before whole) (behind_block before whole) None
block_passed modules start scope before whole a =
    passes_silent modules start scope (block_mentions modules before whole) (behind_block before whole) (sym a.same)
    (subst (Walks modules scope) a.reached a.walks) a.still_open

-- the same in ports
pub record AtPorts (modules : List PlacedName) (start scope : Scope) (before : Before) (whole left : List PortTree) : Type 0 where
  pub now : Before
  pub walks : Walks modules scope now
  pub same : first_of (faults_in (ports_mentions before whole)) ≡ first_of (faults_in (ports_mentions now left))
  pub reached : behind_ports now left ≡ behind_ports before whole
  pub still_open : scope.opened.items ≡ start.opened.items

abbrev pub behind_port : Before → PortTree → Before
behind_port before p = with_declaration before p.named (component.port p.direction p.data_type)

-- what a port mentions
abbrev pub mentions_in_port : Before → PortTree → List Mention
mentions_in_port before p = declares (names_declared before) p.named ∷ type_mentions p.data_type

pub ports_next : (modules : List PlacedName) (start old new : Scope) (before : Before) (whole left : List PortTree) (p : PortTree) (f : Option FirFault)
    → f ≡ None → ((now : Before) → Walks modules old now → Passes modules old new (mentions_in_port now p) (behind_port now p) f)
    → AtPorts modules start old before whole (p ∷ left) → AtPorts modules start new before whole left
ports_next modules start old new before whole left p f none passed a =
    let h = passed a.now a.walks in
    record {
      now = behind_port a.now p;
      walks = h.walked none;
      same = a.same ∙ front_silent f (mentions_in_port a.now p) (ports_mentions (behind_port a.now p) left) none h.first;
      reached = a.reached;
      still_open = h.still_open none ∙ a.still_open;
    }

pub ports_found : (modules : List PlacedName) (start old new late : Scope) (before : Before) (whole left : List PortTree) (p : PortTree)
    (f : Option FirFault) (x : FirFault) → f ≡ Some x
    → ((now : Before) → Walks modules old now → Passes modules old new (mentions_in_port now p) (behind_port now p) f)
    → AtPorts modules start old before whole (p ∷ left)
    → Passes modules start late (ports_mentions before whole) (behind_ports before whole) (Some x)
ports_found modules start old new late before whole left p f x is passed a =
    passes_told modules start late (ports_mentions before whole) (behind_ports before whole) x
    (front_told f x (mentions_in_port a.now p) (ports_mentions (behind_port a.now p) left) is (passed a.now a.walks).first ∙ sym a.same)
