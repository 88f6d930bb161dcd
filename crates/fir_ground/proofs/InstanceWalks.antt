-- The statement of an instance is that of its block.
use Rattle.std.proofs.Common.{◌≡◌, ℕ, List, [], ◌∷◌, ◌++◌, length, Option, Some, None, ap, ◌∙◌}
use Rattle.fir_ast.specs.Circuits.{ModuleTree}
use Rattle.fir_meaning.specs.TypedScopes.{TypedScope}
use Rattle.fir_leaf.specs.declared.node.Node.{Node}
use Rattle.fir_leaf.specs.declared.statement.LeafInstance.{LeafInstance}
use Rattle.fir_leaf.specs.declared.statement.LeafStmt.{LeafStmt}
use Rattle.fir_leaf.specs.declared.statement.LeafStmt.TheVariants as code
use Rattle.fir_meaning.specs.working.LeafBlocks.{HeldInstance, instance}
use Rattle.fir_meaning.specs.working.LeafedBlocks.{instance_block}
use Rattle.fir_leaf.specs.working.NodeBlocks.{Emitted}
use Rattle.fir_meaning.specs.working.Targets.{leaves_so_far}
use Rattle.fir_ground.specs.working.Statements.{IsInstance}
use Rattle.fir_leaf_pairs.proofs.Emitting.{emitted_one, instance_is}

pub instance_none : (scope : TypedScope) (o : Option (ℕ × ModuleTree)) → IsInstance scope o None → ⊥
instance_none scope None h = h
instance_none scope (Some child) h = h

pub instance_put : (nodes : List Node) (before after : List LeafStmt) (scope : TypedScope) (o : Option (ℕ × ModuleTree)) (i : LeafInstance)
    → IsInstance scope o (Some i)
    → after ≡ before ++ code.Instance i ∷ [] → Emitted nodes before after (instance_block scope o)
instance_put nodes before after scope None i h grown = absurd h
instance_put nodes before after scope (Some child) i h grown =
    let held : ℕ → ℕ → ℕ → HeldInstance = λ d m f. record { declaration = d; module_number = m; first = f } in
    emitted_one nodes before after (code.Instance i) (instance (held (length scope) child.0 (leaves_so_far scope))) grown
    (λ later g.
    instance_is later i ∙ ap (λ d. instance (held d i.module_number i.first)) h.0 ∙ ap (λ m. instance (held (length scope) m i.first)) h.1
    ∙ ap (λ f. instance (held (length scope) child.0 f)) h.2)
