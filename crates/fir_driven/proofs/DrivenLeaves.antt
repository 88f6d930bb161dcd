-- The leaves that statements may drive, listed behind others.
use Rattle.std.proofs.Common.{◌≡◌, ℕ, ◌+◌, ◌<◌, List, [], ◌∷◌, ◌++◌, Bool, ◌||◌, map, take, get_or, length, sym, ap, ◌∙◌, arith}
use Rattle.std.proofs.lemmas.List.{map_more}
use Rattle.fir_meaning.specs.working.TermReads.{is_among, reached}
use Rattle.fir_meaning.specs.working.LeafBlocks.{LeafStatement}
use Rattle.fir_meaning.specs.working.UndrivenChoices.{drives, drives_any}
use Rattle.fir_leaf.specs.declared.node.Node.{Node}
use Rattle.fir_leaf.specs.declared.statement.Drive.{Drive}
use Rattle.fir_leaf.specs.declared.statement.LeafStmt.{LeafStmt}
use Rattle.fir_leaf.specs.declared.statement.LeafStmt.TheVariants as code
use Rattle.fir_leaf.specs.working.Nodes.{entries, picks_at}
use Rattle.fir_leaf.specs.working.NodeBlocks.{block_in, block_of, statement_in}
use Rattle.fir_driven.proofs.AmongLeaves.{among_both, or_false}
use Rattle.fir_driven.proofs.LeafViews.{drive_view}

pub lists_driven : (nodes : List Node) (d : Drive) (before after leaves : List ℕ) (x : ℕ) → leaves ≡ reached d.leaf (picks_at (entries nodes) d.picks)
    → after ≡ before ++ leaves → is_among after x ≡ (is_among before x || drives x (statement_in nodes (code.Drive d)))
lists_driven nodes d before after leaves x is grown =
    rw (grown, is, drive_view nodes d) (among_both before (reached d.leaf (picks_at (entries nodes) d.picks)) x)

driven_push : (x : ℕ) (ss : List LeafStatement) (s : LeafStatement)
    → drives_any x (block_of (ss ++ s ∷ [])) ≡ (drives_any x (block_of ss) || drives x s)
driven_push x [] s = or_false (drives x s)
driven_push x (z ∷ ss) s = ap (λ m. drives x z || m) (driven_push x ss s) ∙ or_assoc (drives x z) (drives_any x (block_of ss)) (drives x s)
  where
    or_assoc : (a b c : Bool) → (a || (b || c)) ≡ ((a || b) || c)
    or_assoc a b c = grind arith

both_listed : (a1 a2 a3 one two : Bool) → a2 ≡ (a1 || one) → a3 ≡ (a2 || two) → a3 ≡ (a1 || (one || two))
both_listed a1 a2 a3 one two h k = grind arith

-- those of one statement more of a block
pub block_lists_more : (nodes : List Node) (ss : List LeafStmt) (i : ℕ) (s : LeafStmt) (before between after : List ℕ) (x : ℕ) → i < length ss
    → s ≡ get_or ss i s → is_among between x ≡ (is_among before x || drives_any x (block_in nodes (take i ss)))
    → is_among after x ≡ (is_among between x || drives x (statement_in nodes s))
    → is_among after x ≡ (is_among before x || drives_any x (block_in nodes (take (i + 1) ss)))
block_lists_more nodes ss i s before between after x lt is one two =
    rw (ap (λ b. drives_any x (block_of b)) (map_more (statement_in nodes) ss i s lt)
    ∙ driven_push x (map (statement_in nodes) (take i ss)) (statement_in nodes (get_or ss i s))
    ∙ ap (λ y. drives_any x (block_in nodes (take i ss)) || drives x (statement_in nodes y)) (sym is))
    (both_listed (is_among before x) (is_among between x) (is_among after x) (drives_any x (block_in nodes (take i ss))) (drives x (statement_in nodes s)) one
    two)

-- those of both blocks of a when
pub blocks_list : (before between after : List ℕ) (x : ℕ) (one two : Bool) → is_among between x ≡ (is_among before x || one)
    → is_among after x ≡ (is_among between x || two) → is_among after x ≡ (is_among before x || (one || two))
blocks_list before between after x one two first second = both_listed (is_among before x) (is_among between x) (is_among after x) one two first second
