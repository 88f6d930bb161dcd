-- What statements cover, one after another.
use Rattle.std.proofs.Common.{◌≡◌, ℕ, ◌+◌, ◌<◌, List, [], ◌∷◌, ◌++◌, Bool, ◌||◌, map, take, get_or, length, refl, sym, ap, ◌∙◌, arith}
use Rattle.std.proofs.lemmas.List.{map_more}
use Rattle.fir_meaning.specs.working.TermReads.{is_among}
use Rattle.fir_meaning.specs.working.LeafBlocks.{LeafStatement}
use Rattle.fir_meaning.specs.working.Choices.{covers, covers_all}
use Rattle.fir_leaf.specs.declared.node.Node.{Node}
use Rattle.fir_leaf.specs.declared.statement.LeafStmt.{LeafStmt}
use Rattle.fir_leaf.specs.working.NodeBlocks.{block_in, block_of, statement_in}
use Rattle.fir_driven.specs.working.Covering.{depth_in, flag_at}
use Rattle.fir_driven.specs.working.CoverWalks.{Covers, is_covered, is_covered_in}
use Rattle.fir_driven.specs.declared.covered.Covering.{Covering}

or_turn : (a b c : Bool) → ((a || b) || c) ≡ ((a || c) || b)
or_turn a b c = grind arith

covered_push : (depth x k : ℕ) (ss : List LeafStatement) (s : LeafStatement)
    → covers_all depth x (block_of (ss ++ s ∷ [])) k ≡ (covers_all depth x (block_of ss) k || covers depth x s k)
covered_push depth x k [] s = refl
covered_push depth x k (z ∷ ss) s =
    ap (λ m. m || covers depth x z k) (covered_push depth x k ss s) ∙ or_turn (covers_all depth x (block_of ss) k) (covers depth x s k) (covers depth x z k)

covered_more : (depths : List ℕ) (nodes : List Node) (k : ℕ) (ss : List LeafStmt) (i : ℕ) (s : LeafStmt) → i < length ss → s ≡ get_or ss i s
    → (x : ℕ) → is_covered_in depths (block_in nodes (take (i + 1) ss)) k x
    ≡ (is_covered_in depths (block_in nodes (take i ss)) k x || is_covered depths (statement_in nodes s) k x)
covered_more depths nodes k ss i s lt is x =
    ap (λ b. covers_all (depth_in depths x) x (block_of b) k) (map_more (statement_in nodes) ss i s lt)
    ∙ covered_push (depth_in depths x) x k (map (statement_in nodes) (take i ss)) (statement_in nodes (get_or ss i s))
    ∙ ap (λ y. is_covered_in depths (block_in nodes (take i ss)) k x || is_covered depths (statement_in nodes y) k x) (sym is)

both_found : (f1 a1 f2 a2 f3 a3 one two : Bool) → (f2 || a2) ≡ ((f1 || a1) || one) → (f3 || a3) ≡ ((f2 || a2) || two)
    → (f3 || a3) ≡ ((f1 || a1) || (one || two))
both_found f1 a1 f2 a2 f3 a3 one two h k = grind arith

both_listed : (a1 a2 a3 one two : Bool) → a2 ≡ (a1 || one) → a3 ≡ (a2 || two) → a3 ≡ (a1 || (one || two))
both_listed a1 a2 a3 one two h k = grind arith

pub covers_more : (depths : List ℕ) (nodes : List Node) (k : ℕ) (ss : List LeafStmt) (i : ℕ) (s : LeafStmt) (old middle new : Covering)
    (before between after : List ℕ) → i < length ss → s ≡ get_or ss i s
    → Covers depths k (is_covered_in depths (block_in nodes (take i ss)) k) old middle before between
    → Covers depths k (is_covered depths (statement_in nodes s) k) middle new between after
    → Covers depths k (is_covered_in depths (block_in nodes (take (i + 1) ss)) k) old new before after
covers_more depths nodes k ss i s old middle new before between after lt is one two = record {
  ready = two.ready;
  outer = λ x within out. two.outer x within out ∙ one.outer x within out;
  listed = λ x within out.
      rw (covered_more depths nodes k ss i s lt is x)
      (both_listed (is_among before x) (is_among between x) (is_among after x) (is_covered_in depths (block_in nodes (take i ss)) k x)
      (is_covered depths (statement_in nodes s) k x) (one.listed x within out) (two.listed x within out));
  found = λ x within.
      rw (covered_more depths nodes k ss i s lt is x)
      (both_found (flag_at old.covered.items x) (is_among before x) (flag_at middle.covered.items x) (is_among between x) (flag_at new.covered.items x)
      (is_among after x) (is_covered_in depths (block_in nodes (take i ss)) k x) (is_covered depths (statement_in nodes s) k x) (one.found x within)
      (two.found x within));
}
