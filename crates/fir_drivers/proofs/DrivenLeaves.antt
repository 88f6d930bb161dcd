-- The lists of whens behind a statement that drives leaves.
use Rattle.std.proofs.Common.{◌≡◌, ℕ, List, Bool, ◌||◌, refl}
use Rattle.fir_meaning.specs.working.TermReads.{is_among}
use Rattle.fir_meaning.specs.working.UndrivenChoices.{drives}
use Rattle.fir_leaf.specs.declared.node.Node.{Node}
use Rattle.fir_leaf.specs.declared.statement.Drive.{Drive}
use Rattle.fir_leaf.specs.declared.statement.LeafStmt.TheVariants as code
use Rattle.fir_leaf.specs.working.NodeBlocks.{statement_in}
use Rattle.fir_driven.proofs.LeafViews.{drive_view}
use Rattle.fir_drivers.specs.working.TargetLists.{AreUnmarked, Collects, StacksStatement}

-- a statement that adds no list
pub drive_collects : (nodes : List Node) (d : Drive) (depths : List ℕ) (k : ℕ) (marks : List Bool) (lists : List (List ℕ)) (before after : List ℕ)
    → AreUnmarked depths marks → ((x : ℕ) → is_among after x ≡ (is_among before x || drives x (statement_in nodes (code.Drive d))))
    → Collects depths k (λ x. drives x (statement_in nodes (code.Drive d))) (StacksStatement depths (statement_in nodes (code.Drive d)) k) marks lists lists
    before after
drive_collects nodes d depths k marks lists before after unmarked listed = record {
  unmarked = unmarked;
  stacks = rw (drive_view nodes d) refl;
  listed = λ x within out. listed x;
}
