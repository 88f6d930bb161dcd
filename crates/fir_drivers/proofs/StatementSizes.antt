-- How many statements there are, those inside whens with them.
use Rattle.std.proofs.Common.{◌≡◌, ℕ, zero, suc, ◌+◌, ◌<◌, List, [], ◌∷◌, length, get_or, ap, arith}
use Rattle.fir_meaning.specs.working.LeafBlocks.{LeafStatement, LeafBlock, drive, when, instance, done, then}
use Rattle.fir_leaf.specs.declared.node.Node.{Node}
use Rattle.fir_leaf.specs.declared.statement.LeafStmt.{LeafStmt}
use Rattle.fir_leaf.specs.working.NodeBlocks.{block_in, statement_in}

abbrev mutual
  pub statement_size : LeafStatement → ℕ
  statement_size (drive p b ps e) = 0
  statement_size (when p c a b) = suc (block_size a + block_size b)
  statement_size (instance i) = 0

  pub block_size : LeafBlock → ℕ
  block_size done = 0
  block_size ((then) s b) = suc (statement_size s + block_size b)

-- a statement is smaller than its block
item_size : (nodes : List Node) (ss : List LeafStmt) (i : ℕ) (d : LeafStmt) → i < length ss
    → statement_size (statement_in nodes (get_or ss i d)) < block_size (block_in nodes ss)
item_size nodes [] i d lt = absurd (omega arith)
item_size nodes (s ∷ ss) zero d lt = omega arith
item_size nodes (s ∷ ss) (suc i) d lt = omega (arith, item_size nodes ss i d (omega arith))

pub size_of_item : (nodes : List Node) (ss : List LeafStmt) (i : ℕ) (s : LeafStmt) → i < length ss → s ≡ get_or ss i s
    → statement_size (statement_in nodes s) < block_size (block_in nodes ss)
size_of_item nodes ss i s lt is = omega (arith, ap (λ z. statement_size (statement_in nodes z)) is, item_size nodes ss i s lt)
