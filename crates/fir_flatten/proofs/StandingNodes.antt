-- Nodes that stand in the list of a net from a number on.
use Rattle.std.proofs.Common.{◌≡◌, ℕ, suc, ◌+◌, ◌<◌, List, [], ◌∷◌, ◌++◌, length, Some, refl, ap, ◌∙◌, subst, arith, length-append}
use Rattle.std.specs.Prelude.{slice_get}
use Rattle.std.proofs.lemmas.Option.{slice_get_within}
use Rattle.fir_base.proofs.Elements.{get_left}
use Rattle.fir_net.specs.declared.node.Node.{Node}

get_right : (xs ys : List Node) (j : ℕ) → slice_get (xs ++ ys) (length xs + j) ≡ slice_get ys j
get_right [] ys j = ap (slice_get ys) (omega arith)
get_right (x ∷ xs) ys j =
    let at : length (x ∷ xs) + j ≡ suc (length xs + j) = omega arith in
    ap (slice_get ((x ∷ xs) ++ ys)) at ∙ get_right xs ys j

pub record StandAt (nodes : List Node) (count : ℕ) (ns : List Node) : Type 0 where
  pub each : (j : ℕ) (n : Node) → slice_get ns j ≡ Some n → slice_get nodes (count + j) ≡ Some n

-- the first and the second of them
pub stands_first : (nodes : List Node) (count : ℕ) (n : Node) (ns : List Node) → StandAt nodes count (n ∷ ns) → slice_get nodes count ≡ Some n
stands_first nodes count n ns at = subst (λ (k : ℕ). slice_get nodes k ≡ Some n) (omega arith) (at.each 0 n refl)

pub stands_second : (nodes : List Node) (count : ℕ) (n m : Node) (ns : List Node) → StandAt nodes count (n ∷ m ∷ ns) → slice_get nodes (count + 1) ≡ Some m
stands_second nodes count n m ns at = at.each 1 m refl

pub stands_left : (nodes : List Node) (count : ℕ) (xs ys : List Node) → StandAt nodes count (xs ++ ys) → StandAt nodes count xs
stands_left nodes count xs ys at = record { each = λ j n e. at.each j n (get_left xs ys j (slice_get_within xs j n e) ∙ e) }

pub stands_right : (nodes : List Node) (count : ℕ) (xs ys : List Node) → StandAt nodes count (xs ++ ys) → StandAt nodes (count + length xs) ys
stands_right nodes count xs ys at = record {
  each = λ j n e.
      let behind : count + (length xs + j) ≡ count + length xs + j = omega arith in
      subst (λ (k : ℕ). slice_get nodes k ≡ Some n) behind (at.each (length xs + j) n (get_right xs ys j ∙ e));
}

-- those between others
pub stands_between : (old xs more nodes : List Node) → nodes ≡ (old ++ xs) ++ more → StandAt nodes (length old) xs
stands_between old xs more nodes is = record {
  each = λ j n e.
      let within = slice_get_within xs j n e in
      let inside : length old + j < length (old ++ xs) = omega (arith, within, length-append old xs) in
      ap (λ (ns : List Node). slice_get ns (length old + j)) is ∙ get_left (old ++ xs) more (length old + j) inside ∙ get_right old xs j ∙ e;
}
