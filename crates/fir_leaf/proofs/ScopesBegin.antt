-- What is known before a statement is where that behind it begins.
use Rattle.std.proofs.Common.{List, [], ◌∷◌, ◌++◌, sym, ap, ◌∙◌, append_assoc}
use Rattle.std.proofs.lemmas.List.{append-nil}
use Rattle.fir_ast.specs.Statements.{PlacedName, Statement, wire, register, node, instance, memory, when, connect, partial_connect, invalid, skip, Block, done, then}
use Rattle.fir_ast.specs.Circuits.{ModuleTree}
use Rattle.fir_meaning.specs.Components.{Component}
use Rattle.fir_meaning.specs.Components as component
use Rattle.fir_meaning.specs.Visibility.{Before, declaration_at, with_declaration, opened, reopened, behind, behind_block}
use Rattle.fir_meaning.specs.TypedScopes.{TypedScope}
use Rattle.fir_meaning.specs.ComponentTypes.{known_as}
use Rattle.fir_meaning.specs.TypeGroup.{scope_at}
use Rattle.fir_meaning.proofs.KnownNames.{typed_more}
use Rattle.fir_leaf.specs.working.LeafLaws.{Begins}

pub begins_all : (scope : TypedScope) → Begins scope scope
begins_all scope = ([], append-nil scope)

pub begins_through : (one two three : TypedScope) → Begins one two → Begins two three → Begins one three
begins_through one two three h k = (h.0 ++ k.0, sym (append_assoc one h.0 k.0) ∙ ap (λ s. s ++ k.0) h.1 ∙ k.1)

module _ (modules : List ModuleTree) where
  begins_one : (before : Before) (n : PlacedName) (c : Component) → Begins (scope_at modules before) (scope_at modules (with_declaration before n c))
  begins_one before n c =
      let d = declaration_at before n c in (known_as modules (scope_at modules before) d ∷ [], sym (typed_more modules [] before.declared d))

  mutual
    pub begins_behind : (s : Statement) (before : Before) → Begins (scope_at modules before) (scope_at modules (behind before s))
    begins_behind (wire p n begins t) before = begins_one before n (component.wire t)
    begins_behind (register p n begins t c r) before = begins_one before n (component.register t)
    begins_behind (node p n e) before = begins_one before n (component.node e)
    begins_behind (instance p n m) before = begins_one before n (component.instance m.name)
    begins_behind (memory p n parts) before = begins_one before n (component.memory parts)
    begins_behind (when p c a b) before =
        let inside = behind_block (opened before) a in
        begins_through (scope_at modules before) (scope_at modules inside) (scope_at modules (behind_block (reopened before inside) b))
        (begins_block a (opened before)) (begins_block b (reopened before inside))
    begins_behind (connect p sink e) before = begins_all (scope_at modules before)
    begins_behind (partial_connect p sink e) before = begins_all (scope_at modules before)
    begins_behind (invalid p sink) before = begins_all (scope_at modules before)
    begins_behind (skip p) before = begins_all (scope_at modules before)

    pub begins_block : (b : Block) (before : Before) → Begins (scope_at modules before) (scope_at modules (behind_block before b))
    begins_block done before = begins_all (scope_at modules before)
    begins_block ((then) s b) before =
        begins_through (scope_at modules before) (scope_at modules (behind before s)) (scope_at modules (behind_block (behind before s) b))
        (begins_behind s before) (begins_block b (behind before s))
