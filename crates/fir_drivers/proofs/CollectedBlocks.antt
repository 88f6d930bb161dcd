-- The lists of the statements of a block, and the leaves that they drive, from the last statement to the first.
use Rattle.std.proofs.Common.{◌≡◌, ℕ, ◌+◌, ◌<◌, List, Bool, ◌||◌, drop, get_or, length, refl, sym, ap, ◌∙◌, arith}
use Rattle.std.proofs.lemmas.List.{at_drop_all, at_drop_more}
use Rattle.fir_meaning.specs.working.TermReads.{is_among}
use Rattle.fir_meaning.specs.working.LeafBlocks.{done, then}
use Rattle.fir_meaning.specs.working.UndrivenChoices.{drives, drives_any}
use Rattle.fir_leaf.specs.declared.node.Node.{Node}
use Rattle.fir_leaf.specs.declared.statement.LeafStmt.{LeafStmt}
use Rattle.fir_leaf.specs.working.NodeBlocks.{block_in, statement_in}
use Rattle.fir_driven.proofs.AmongLeaves.{or_false}
use Rattle.fir_drivers.specs.working.TargetLists.{AreUnmarked, Collects, StacksBlock, StacksStatement}

both_listed : (a1 a2 a3 rest first : Bool) → a2 ≡ (a1 || rest) → a3 ≡ (a2 || first) → a3 ≡ (a1 || (first || rest))
both_listed a1 a2 a3 rest first h k = grind arith

first_left : (nodes : List Node) (ss : List LeafStmt) (i n : ℕ) (s : LeafStmt) → i + 1 ≡ n → i < length ss → s ≡ get_or ss i s
    → block_in nodes (drop i ss) ≡ (then) (statement_in nodes s) (block_in nodes (drop n ss))
first_left nodes ss i n s next lt is =
    at_drop_more (block_in nodes) ss i s lt
    ∙ ap (λ y. (then) (statement_in nodes y) (block_in nodes (drop (i + 1) ss))) (sym is)
    ∙ ap (λ m. (then) (statement_in nodes s) (block_in nodes (drop m ss))) next

pub collects_none : (depths : List ℕ) (nodes : List Node) (k : ℕ) (ss : List LeafStmt) (marks : List Bool) (lists : List (List ℕ)) (before : List ℕ)
    → AreUnmarked depths marks
    → Collects depths k (λ x. drives_any x (block_in nodes (drop (length ss) ss))) (StacksBlock depths (block_in nodes (drop (length ss) ss)) k) marks lists
    lists before before
collects_none depths nodes k ss marks lists before unmarked =
    let none : block_in nodes (drop (length ss) ss) ≡ done = at_drop_all (block_in nodes) ss (length ss) (omega arith) in
    rw none (record { unmarked = unmarked; stacks = refl; listed = λ x within out. sym (or_false (is_among before x)) })

pub collects_more : (depths : List ℕ) (nodes : List Node) (k : ℕ) (ss : List LeafStmt) (i n : ℕ) (s : LeafStmt) (between after : List Bool)
    (lists_one lists_two lists_three : List (List ℕ)) (one two three : List ℕ) → i + 1 ≡ n → i < length ss → s ≡ get_or ss i s
    → Collects depths k (λ x. drives_any x (block_in nodes (drop n ss))) (StacksBlock depths (block_in nodes (drop n ss)) k) between lists_one lists_two one two
    → Collects depths k (λ x. drives x (statement_in nodes s)) (StacksStatement depths (statement_in nodes s) k) after lists_two lists_three two three
    → Collects depths k (λ x. drives_any x (block_in nodes (drop i ss))) (StacksBlock depths (block_in nodes (drop i ss)) k) after lists_one lists_three one
    three
collects_more depths nodes k ss i n s between after lists_one lists_two lists_three one two three next lt is rest first =
    rw (first_left nodes ss i n s next lt is)
    (record {
      unmarked = first.unmarked;
      stacks = (lists_two, rest.stacks, first.stacks);
      listed = λ x within out.
          both_listed (is_among one x) (is_among two x) (is_among three x) (drives_any x (block_in nodes (drop n ss))) (drives x (statement_in nodes s))
          (rest.listed x within out) (first.listed x within out);
    })
