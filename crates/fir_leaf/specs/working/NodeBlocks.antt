-- What the code's statements stand for, over nodes that may still grow.
use Rattle.std.specs.Prelude.{◌≡◌, List, [], ◌∷◌, ◌++◌, map}
use Rattle.fir_leaf.specs.declared.node.Node.{Node}
use Rattle.fir_leaf.specs.declared.statement.LeafStmt.{LeafStmt, fold-LeafStmt}
use Rattle.fir_leaf.specs.declared.statement.LeafStmt.TheOpen.{LeafStmt-F, LeafWhen-F}
use Rattle.fir_meaning.specs.working.LeafBlocks.{LeafStatement, LeafBlock, drive, when, instance, done, then}
use Rattle.fir_leaf.specs.working.Nodes.{Entry, Grows, entries, entry_at, picks_at, term_in}

abbrev pub block_of : List LeafStatement → LeafBlock
block_of [] = done
block_of (s ∷ ss) = (then) s (block_of ss)

abbrev pub statement_step : List Entry → LeafStmt-F LeafStatement LeafStatement → LeafStatement
statement_step known (LeafStmt-F.Drive d) = drive d.place d.leaf (picks_at known d.picks) (term_in (entry_at known d.given))
statement_step known (LeafStmt-F.When w) = w
statement_step known (LeafStmt-F.Instance i) = instance (record { declaration = i.declaration; module_number = i.module_number; first = i.first })

abbrev pub when_step : List Entry → LeafWhen-F LeafStatement LeafStatement → LeafStatement
when_step known w = when w.place (term_in (entry_at known w.condition)) (block_of w.then_block.items) (block_of w.else_block.items)

abbrev pub statement_in : List Node → LeafStmt → LeafStatement
statement_in nodes = fold-LeafStmt LeafStatement LeafStatement (statement_step (entries nodes)) (when_step (entries nodes))

abbrev pub block_in : List Node → List LeafStmt → LeafBlock
block_in nodes ss = block_of (map (statement_in nodes) ss)

-- the statements that were added stand for this block, whatever nodes are added later
pub record Emitted (nodes : List Node) (before after : List LeafStmt) (b : LeafBlock) : Type 0 where
  pub added : List LeafStmt
  pub is : after ≡ before ++ added
  pub block : (later : List Node) → Grows nodes later → block_in later added ≡ b
