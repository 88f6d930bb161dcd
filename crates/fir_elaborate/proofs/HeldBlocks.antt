-- The instances of the code's blocks, one statement after another.
use Rattle.std.proofs.Common.{◌≡◌, ℕ, ◌+◌, ◌<◌, List, [], ◌∷◌, ◌++◌, map, take, get_or, length, refl, sym, ap, ◌∙◌, append_assoc, append-nil}
use Rattle.std.proofs.lemmas.List.{map_push, take_more}
use Rattle.fir_leaf.specs.declared.node.Node.{Node}
use Rattle.fir_leaf.specs.declared.statement.LeafInstance.{LeafInstance}
use Rattle.fir_leaf.specs.declared.statement.LeafStmt.{LeafStmt}
use Rattle.fir_leaf.specs.declared.statement.LeafStmt.TheVariants as code
use Rattle.fir_leaf.specs.working.NodeBlocks.{block_in, statement_in}
use Rattle.fir_meaning.specs.working.LeafBlocks.{HeldInstance}
use Rattle.fir_driven.proofs.LeafViews.{instance_view}
use Rattle.fir_elaborate.specs.working.OrderedModules.{instances_in, instances_of}
use Rattle.fir_elaborate.specs.working.Walks.{held_seen}

module _ (nodes : List Node) where
  instances_joined : (ss ts : List LeafStmt) → instances_of (block_in nodes (ss ++ ts)) ≡ instances_of (block_in nodes ss) ++ instances_of (block_in nodes ts)
  instances_joined [] ts = refl
  instances_joined (s ∷ ss) ts =
      ap (λ is. instances_in (statement_in nodes s) ++ is) (instances_joined ss ts)
      ∙ sym (append_assoc (instances_in (statement_in nodes s)) (instances_of (block_in nodes ss)) (instances_of (block_in nodes ts)))

  -- those of one statement more
  pub held_more : (ss : List LeafStmt) (i : ℕ) (s : LeafStmt) (before between after : List HeldInstance) → i < length ss → s ≡ get_or ss i s
      → between ≡ before ++ instances_of (block_in nodes (take i ss)) → after ≡ between ++ instances_in (statement_in nodes s)
      → after ≡ before ++ instances_of (block_in nodes (take (i + 1) ss))
  held_more ss i s before between after lt is one two =
      let here = instances_in (statement_in nodes s) in
      let read = instances_of (block_in nodes (take i ss)) in
      let last : instances_of (block_in nodes (s ∷ [])) ≡ here = append-nil here in
      let grown : take (i + 1) ss ≡ take i ss ++ s ∷ [] = take_more ss i s lt ∙ ap (λ z. take i ss ++ z ∷ []) (sym is) in
      two ∙ ap (λ z. z ++ here) one ∙ append_assoc before read here
      ∙ ap (λ z. before ++ z)
      (sym (ap (λ z. instances_of (block_in nodes z)) grown ∙ instances_joined (take i ss) (s ∷ []) ∙ ap (λ z. read ++ z) last))

  -- that of an instance
  pub held_one : (i : LeafInstance) (before after : List LeafInstance) → after ≡ before ++ i ∷ []
      → map held_seen after ≡ map held_seen before ++ instances_in (statement_in nodes (code.Instance i))
  held_one i before after grown =
      ap (map held_seen) grown ∙ map_push held_seen before i ∙ ap (λ s. map held_seen before ++ instances_in s) (sym (instance_view nodes i))
