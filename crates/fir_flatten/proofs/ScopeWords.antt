-- What a module declares has words, where its text has, and so has all that is known of what it declares.
use Rattle.std.proofs.Common.{ℕ, List, [], ◌∷◌, ◌++◌, Option, Some}
use Rattle.std.specs.Prelude.{IsTrue, IfSome}
use Rattle.std.specs.Str.{bytes_eq}
use Rattle.std.specs.List.{AllByRecursion}
use Rattle.std.proofs.lemmas.Bool.{cond_both}
use Rattle.fir_base.proofs.Each.{all_joined}
use Rattle.fir_ast.specs.declared.place.Place.{Place}
use Rattle.fir_ast.specs.Statements.{PlacedName, Statement, wire, register, node, instance, memory, when, connect, partial_connect, invalid, skip, Block, done, then}
use Rattle.fir_ast.specs.Circuits.{PortTree, ModuleTree}
use Rattle.ver_words.specs.Names.{is_word}
use Rattle.fir_meaning.specs.Components.{Component, Declaration, Declarations}
use Rattle.fir_meaning.specs.Components as component
use Rattle.fir_meaning.specs.ComponentTypes.{port_fields, find_module, instance_bundle, component_type, known_as, typed_behind, typed_scope}
use Rattle.fir_meaning.specs.TypedScopes.{TypedScope}
use Rattle.fir_meaning.specs.Visibility.{Before, declaration_at, with_declaration, opened, reopened, behind, behind_block, behind_ports, at_head, declarations}
use Rattle.fir_flatten.specs.working.Words.{TypeHasWords, FieldsHaveWords, PartHasWords, StatementHasWords, BlockHasWords, ModuleHasWords}
use Rattle.fir_flatten.proofs.WordTexts.{word_bytes}
use Rattle.fir_flatten.proofs.HeldForms.{mapped_holds}
use Rattle.fir_flatten.proofs.ExpressionWords.{KnownHasWords, expression_words}
use Rattle.fir_flatten.proofs.MemoryWords.{memory_words}

-- a node has no names of its own, and an instance those of another module
abbrev ComponentHasWords : Component → Type 0
ComponentHasWords (component.port d t) = TypeHasWords t
ComponentHasWords (component.wire t) = TypeHasWords t
ComponentHasWords (component.register t) = TypeHasWords t
ComponentHasWords (component.memory parts) = AllByRecursion PartHasWords parts
ComponentHasWords _ = Unit {0}

record DeclarationHasWords (d : Declaration) : Type 0 where
  name : IsTrue (is_word d.named.name)
  component : ComponentHasWords d.component

abbrev HaveWords : Declarations → Type 0
HaveWords = AllByRecursion DeclarationHasWords

abbrev PortHasWords : PortTree → Type 0
PortHasWords p = IsTrue (is_word p.named.name) × TypeHasWords p.data_type

-- ---- what is declared

more_words : (before : Before) (n : PlacedName) (c : Component) → HaveWords before.declared → IsTrue (is_word n.name) → ComponentHasWords c
    → HaveWords (with_declaration before n c).declared
more_words before n c all name h =
    all_joined DeclarationHasWords before.declared (declaration_at before n c ∷ []) all (record { name = name; component = h }, tt)

port_words : (ps : List PortTree) (before : Before) → AllByRecursion PortHasWords ps → HaveWords before.declared
    → HaveWords (behind_ports before ps).declared
port_words [] before h all = all
port_words (p ∷ ps) before h all =
    let c = component.port p.direction p.data_type in
    port_words ps (with_declaration before p.named c) h.1 (more_words before p.named c all h.0.0 h.0.1)

mutual
  statement_words : (x : Statement) (before : Before) → StatementHasWords x → HaveWords before.declared → HaveWords (behind before x).declared
  statement_words (wire p n begins t) before h all = more_words before n (component.wire t) all h.0 h.1
  statement_words (register p n begins t c r) before h all = more_words before n (component.register t) all h.0 h.1
  statement_words (node p n e) before h all = more_words before n (component.node e) all h tt
  statement_words (instance p n m) before h all = more_words before n (component.instance m.name) all h tt
  statement_words (memory p n parts) before h all = more_words before n (component.memory parts) all h.0 h.1
  statement_words (when p c a b) before h all =
      let inside = behind_block (opened before) a in
      block_words b (reopened before inside) h.1 (block_words a (opened before) h.0 all)
  statement_words (connect p d e) before h all = all
  statement_words (partial_connect p d e) before h all = all
  statement_words (invalid p d) before h all = all
  statement_words (skip p) before h all = all

  block_words : (b : Block) (before : Before) → BlockHasWords b → HaveWords before.declared → HaveWords (behind_block before b).declared
  block_words done before h all = all
  block_words ((then) x b) before h all = block_words b (behind before x) h.1 (statement_words x before h.0 all)

declared_words : (m : ModuleTree) → ModuleHasWords m → HaveWords (declarations m)
declared_words m h = block_words m.body (behind_ports at_head m.ports) h.body (port_words m.ports at_head h.ports tt)

-- ---- what is known of it

instance_words : (ps : List PortTree) → AllByRecursion PortHasWords ps → FieldsHaveWords (port_fields ps)
instance_words [] h = tt
instance_words (p ∷ ps) h = (word_bytes p.named.name h.0.0, h.0.1, instance_words ps h.1)

module_words : (ms : List ModuleTree) (name : List ℕ) → AllByRecursion ModuleHasWords ms → IfSome (find_module ms name) ModuleHasWords
module_words [] name h = tt
module_words (m ∷ ms) name h =
    cond_both (bytes_eq m.named.name name) (Some m) (find_module ms name) (λ (o : Option ModuleTree). IfSome o ModuleHasWords) (λ e. h.0)
    (λ e. module_words ms name h.1)

module _ (modules : List ModuleTree) (words : AllByRecursion ModuleHasWords modules) where
  component_words : (scope : TypedScope) (p : Place) (c : Component) → AllByRecursion KnownHasWords scope → ComponentHasWords c
      → IfSome (component_type modules scope p c) TypeHasWords
  component_words scope p (component.port d t) all h = h
  component_words scope p (component.wire t) all h = h
  component_words scope p (component.register t) all h = h
  component_words scope p (component.node e) all h = expression_words scope all e
  component_words scope p (component.instance name) all h =
      mapped_holds ModuleHasWords TypeHasWords instance_bundle (find_module modules name) (module_words modules name words)
      (λ m k. instance_words m.ports k.ports)
  component_words scope p (component.memory parts) all h = memory_words p parts h

  behind_words : (scope : TypedScope) (ds : Declarations) → AllByRecursion KnownHasWords scope → HaveWords ds
      → AllByRecursion KnownHasWords (typed_behind modules scope ds)
  behind_words scope [] all h = all
  behind_words scope (d ∷ ds) all h =
      let k = known_as modules scope d in
      behind_words (scope ++ k ∷ []) ds
      (all_joined KnownHasWords scope (k ∷ []) all
      (record { name = h.0.name; data_type = component_words scope d.named.place d.component all h.0.component }, tt))
      h.1

  pub scope_words : (m : ModuleTree) → ModuleHasWords m → AllByRecursion KnownHasWords (typed_scope modules (declarations m))
  scope_words m h = behind_words [] (declarations m) tt (declared_words m h)
