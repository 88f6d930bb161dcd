-- What a module declares, one by one: with its type and with its numbers.
use Rattle.std.proofs.Common.{◌≡◌, ℕ, ◌+◌, List, [], ◌∷◌, ◌++◌, Bool, true, false, if◌then◌else◌, Option, Some, None, refl, sym, ap, ◌∙◌, subst, append_assoc, append-nil}
use Rattle.std.specs.Prelude.{option_map}
use Rattle.std.specs.Str.{bytes_eq}
use Rattle.fir_base.specs.Lists.{In}
use Rattle.fir_ast.specs.declared.place.Place.{Place}
use Rattle.fir_ast.specs.Types.{DataType}
use Rattle.fir_ast.specs.Expressions.{Expression}
use Rattle.fir_ast.specs.Statements.{PlacedName, Statement, Block, wire, register, node, instance, memory, when, connect, partial_connect, invalid, skip, done, then}
use Rattle.fir_ast.specs.Circuits.{PortTree, ModuleTree, CircuitTree}
use Rattle.fir_meaning.specs.Components.{Component, Declaration, Declarations}
use Rattle.fir_meaning.specs.Components as component
use Rattle.fir_meaning.specs.TypeKinds.{bare}
use Rattle.fir_meaning.specs.MemoryTypes.{memory_type}
use Rattle.fir_meaning.specs.working.NameGroups.{HasNames}
use Rattle.fir_meaning.specs.TypeGroup.{type_faults}
use Rattle.fir_meaning.specs.TypedScopes.{TypedScope}
use Rattle.fir_meaning.specs.ExpressionTypes.{expression_type}
use Rattle.fir_meaning.specs.ComponentTypes.{component_type, find_module, instance_bundle, instance_type, known_as, typed_behind, typed_scope}
use Rattle.fir_meaning.specs.Visibility.{Before, at_head, behind, behind_block, behind_ports, declaration_at, declarations, opened, reopened, with_declaration}
use Rattle.fir_meaning.specs.SizedTypes.{bare_type, numbered, renumbered}
use Rattle.fir_meaning.specs.SizedScopes.{SizedName, SizedScope, sized_type}
use Rattle.fir_meaning.specs.SizedMemories.{as_written}
use Rattle.fir_meaning.specs.SizedDeclarations.{Numbering, instance_from, numbered_behind, numbered_with, port_numbers, sized_component}
use Rattle.fir_meaning.specs.working.InferredTypes.{inferred}
use Rattle.fir_meaning.specs.working.WellTyped.{AreLegal, IsLegal}
use Rattle.fir_meaning.proofs.FoundTypes.{found_type}
use Rattle.fir_meaning.proofs.InferredNodes.{nodes_as_inferred}
use Rattle.fir_meaning.proofs.SizedExpressions.{sized_as_typed}
use Rattle.fir_meaning.proofs.SizedShapes.{numbered_bare, renumbered_bare}
use Rattle.fir_meaning.proofs.WellTypedCircuits.{well_typed}
use Rattle.fir_types.proofs.GrownScopes.{scope_more}

-- what is known behind such names
abbrev pub known_behind : List ModuleTree → TypedScope → Declarations → TypedScope
known_behind modules ks [] = []
known_behind modules ks (d ∷ ds) = known_as modules ks d ∷ known_behind modules (ks ++ known_as modules ks d ∷ []) ds

behind_known : (modules : List ModuleTree) (ks : TypedScope) (ds : Declarations) → typed_behind modules ks ds ≡ ks ++ known_behind modules ks ds
behind_known modules ks [] = sym (append-nil ks)
behind_known modules ks (d ∷ ds) =
    behind_known modules (ks ++ known_as modules ks d ∷ []) ds
    ∙ append_assoc ks (known_as modules ks d ∷ []) (known_behind modules (ks ++ known_as modules ks d ∷ []) ds)

pub scope_known : (modules : List ModuleTree) (ds : Declarations) → typed_scope modules ds ≡ known_behind modules [] ds
scope_known modules ds = behind_known modules [] ds

-- and with its numbers
abbrev pub sized_as : List ModuleTree → Numbering → Declaration → SizedName
sized_as modules numbers d = record { name = d.named.name; sized = sized_component modules numbers d.named.place d.component }

abbrev pub sized_behind : List ModuleTree → Numbering → Declarations → SizedScope
sized_behind modules numbers [] = []
sized_behind modules numbers (d ∷ ds) = sized_as modules numbers d ∷ sized_behind modules (numbered_with modules numbers d) ds

pub behind_sized : (modules : List ModuleTree) (numbers : Numbering) (ds : Declarations)
    → (numbered_behind modules numbers ds).scope ≡ numbers.scope ++ sized_behind modules numbers ds
behind_sized modules numbers [] = sym (append-nil numbers.scope)
behind_sized modules numbers (d ∷ ds) =
    behind_sized modules (numbered_with modules numbers d) ds
    ∙ append_assoc numbers.scope (sized_as modules numbers d ∷ []) (sized_behind modules (numbered_with modules numbers d) ds)

-- the same is declared on both sides
pub record Met (modules : List ModuleTree) (start : Numbering) (ks : TypedScope) (numbers : Numbering) : Type 0 where
  pub front : Declarations
  pub typed : ks ≡ typed_scope modules front
  pub sized : numbers ≡ numbered_behind modules start front

pub met_none : (modules : List ModuleTree) (start : Numbering) → Met modules start [] start
met_none modules start = record { front = []; typed = refl; sized = refl }

pub numbered_more : (modules : List ModuleTree) (numbers : Numbering) (ds : Declarations) (d : Declaration)
    → numbered_behind modules numbers (ds ++ d ∷ []) ≡ numbered_with modules (numbered_behind modules numbers ds) d
numbered_more modules numbers [] d = refl
numbered_more modules numbers (e ∷ ds) d = numbered_more modules (numbered_with modules numbers e) ds d

pub met_more : (modules : List ModuleTree) (start : Numbering) (ks : TypedScope) (numbers : Numbering) (d : Declaration) → Met modules start ks numbers
    → Met modules start (ks ++ known_as modules ks d ∷ []) (numbered_with modules numbers d)
met_more modules start ks numbers d met = record {
  front = met.front ++ d ∷ [];
  typed = ap (λ (s : TypedScope). s ++ known_as modules s d ∷ []) met.typed ∙ sym (scope_more modules met.front d);
  sized = ap (λ n. numbered_with modules n d) met.sized ∙ sym (numbered_more modules start met.front d);
}

-- the type of what is declared is its sized type without widths
instance_bare : (k : ℕ) (modules : List ModuleTree) (name : List ℕ) (t : DataType) → instance_type modules name ≡ Some t
    → bare_type (instance_from k modules name) ≡ bare t
instance_bare k [] name t h = cc
instance_bare k (m ∷ ms) name t h = by (bytes_eq m.named.name name) (instance_bare (k + port_numbers m) ms name t) h
  where
    by : (b : Bool) → (instance_type ms name ≡ Some t → bare_type (instance_from (k + port_numbers m) ms name) ≡ bare t)
        → option_map instance_bundle (if b then Some m else find_module ms name) ≡ Some t
        → bare_type (if b then numbered (Some k) (instance_bundle m) else instance_from (k + port_numbers m) ms name) ≡ bare t
    by true later i = let same : instance_bundle m ≡ t = cc in numbered_bare (Some k) (instance_bundle m) ∙ ap bare same
    by false later i = later i

written_bare : (o : Option DataType) (t : DataType) → o ≡ Some t → bare_type (as_written o) ≡ bare t
written_bare None t e = cc
written_bare (Some u) t e = let same : u ≡ t = cc in numbered_bare None u ∙ ap bare same

module _ (modules : List ModuleTree) (start : Numbering) (empty : start.scope ≡ []) where
  pub expression_bare : (ks : TypedScope) (numbers : Numbering) (e : Expression) (t : DataType) → Met modules start ks numbers
      → (expression_type ks e).has ≡ Some t → bare_type (sized_type numbers.scope e) ≡ bare t
  expression_bare ks numbers e t met has =
      ap (λ (n : Numbering). bare_type (sized_type n.scope e)) met.sized
      ∙ sized_as_typed modules start met.front e t empty (subst (λ s. (expression_type s e).has ≡ Some t) met.typed has)

  -- and a node of it has the leaves of that type, without the widths that are found anew
  pub expression_inferred : (ks : TypedScope) (numbers : Numbering) (e : Expression) (t : DataType) → Met modules start ks numbers
      → (expression_type ks e).has ≡ Some t → (k : ℕ) → renumbered k (sized_type numbers.scope e) ≡ numbered (Some k) (inferred t)
  expression_inferred ks numbers e t met has k =
      ap (λ (n : Numbering). renumbered k (sized_type n.scope e)) met.sized
      ∙ nodes_as_inferred modules start met.front e t empty (subst (λ s. (expression_type s e).has ≡ Some t) met.typed has) k

  pub component_bare : (ks : TypedScope) (numbers : Numbering) (p : Place) (c : Component) (t : DataType) → Met modules start ks numbers
      → component_type modules ks p c ≡ Some t → bare_type (sized_component modules numbers p c) ≡ bare t
  component_bare ks numbers p (component.port d u) t met h = let same : u ≡ t = cc in numbered_bare (Some numbers.port) u ∙ ap bare same
  component_bare ks numbers p (component.wire u) t met h = let same : u ≡ t = cc in numbered_bare (Some numbers.next) u ∙ ap bare same
  component_bare ks numbers p (component.register u) t met h = let same : u ≡ t = cc in numbered_bare (Some numbers.next) u ∙ ap bare same
  component_bare ks numbers p (component.node e) t met h =
      renumbered_bare numbers.next (sized_type numbers.scope e) t (expression_bare ks numbers e t met h)
  component_bare ks numbers p (component.instance name) t met h = instance_bare 0 modules name t h
  component_bare ks numbers p (component.memory parts) t met h = written_bare (memory_type p parts) t h

-- each node has a type
abbrev pub IsTypedNode : TypedScope → Component → Type 0
IsTypedNode ks (component.node e) = (t : DataType) × ((expression_type ks e).has ≡ Some t)
IsTypedNode ks c = Unit {0}

abbrev pub NodesTyped : List ModuleTree → TypedScope → Declarations → Type 0
NodesTyped modules ks [] = Unit {0}
NodesTyped modules ks (d ∷ ds) = IsTypedNode ks d.component × NodesTyped modules (ks ++ known_as modules ks d ∷ []) ds

module _ (modules : List ModuleTree) where
  typed_more : (ks : TypedScope) (ds : Declarations) (d : Declaration) → NodesTyped modules ks ds → IsTypedNode (typed_behind modules ks ds) d.component
      → NodesTyped modules ks (ds ++ d ∷ [])
  typed_more ks [] d h own = (own, tt)
  typed_more ks (e ∷ ds) d h own = (h.0, typed_more (ks ++ known_as modules ks e ∷ []) ds d h.1 own)

  record TypedBefore (before : Before) : Type 0 where
    nodes : NodesTyped modules [] before.declared

  one_more : (before : Before) (n : PlacedName) (c : Component) → TypedBefore before → IsTypedNode (typed_scope modules before.declared) c
      → TypedBefore (with_declaration before n c)
  one_more before n c h own = record { nodes = typed_more [] before.declared (declaration_at before n c) h.nodes own }

  mutual
    typed_behind_one : (s : Statement) (before : Before) → IsLegal modules before s → TypedBefore before → TypedBefore (behind before s)
    typed_behind_one (wire p n begins t) before l h = one_more before n (component.wire t) h tt
    typed_behind_one (register p n begins t c r) before l h = one_more before n (component.register t) h tt
    typed_behind_one (node p n e) before l h =
        one_more before n (component.node e) h (l.0, ap (λ c. c.has) (found_type (typed_scope modules before.declared) e l.0 l.1))
    typed_behind_one (instance p n m) before l h = one_more before n (component.instance m.name) h tt
    typed_behind_one (memory p n parts) before l h = one_more before n (component.memory parts) h tt
    typed_behind_one (when p c a b) before l h =
        let inside = typed_behind_all a (opened before) l.2 (record { nodes = h.nodes }) in
        let other = typed_behind_all b (reopened before (behind_block (opened before) a)) l.3 (record { nodes = inside.nodes }) in
        record { nodes = other.nodes }
    typed_behind_one (connect p sink e) before l h = h
    typed_behind_one (partial_connect p sink e) before l h = h
    typed_behind_one (invalid p sink) before l h = h
    typed_behind_one (skip p) before l h = h

    typed_behind_all : (b : Block) (before : Before) → AreLegal modules before b → TypedBefore before → TypedBefore (behind_block before b)
    typed_behind_all done before l h = h
    typed_behind_all ((then) s b) before l h = typed_behind_all b (behind before s) l.1 (typed_behind_one s before l.0 h)

  typed_ports : (ps : List PortTree) (before : Before) → TypedBefore before → TypedBefore (behind_ports before ps)
  typed_ports [] before h = h
  typed_ports (p ∷ ps) before h =
      let port = component.port p.direction p.data_type in
      typed_ports ps (with_declaration before p.named port) (one_more before p.named port h tt)

  typed_module : (m : ModuleTree) → AreLegal modules (behind_ports at_head m.ports) m.body → NodesTyped modules [] (declarations m)
  typed_module m l =
      (typed_behind_all m.body (behind_ports at_head m.ports) l (typed_ports m.ports at_head (record { nodes = tt }))).nodes

pub nodes_typed : (c : CircuitTree) → HasNames c → type_faults c ≡ [] → (m : ModuleTree) → In c.modules m → NodesTyped c.modules [] (declarations m)
nodes_typed c names clear m among = typed_module c.modules m ((well_typed c names).0 clear m among)
