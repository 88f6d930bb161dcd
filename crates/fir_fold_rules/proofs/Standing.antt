-- What stands in the place of a term may have another thing in its own place.
use Rattle.std.proofs.Common.{◌≡◌, List, Some, IfSome, ◌∙◌, refl, sym, subst}
use Rattle.std.specs.Prelude.{Option}
use Rattle.fir_base.specs.Lists.{In}
use Rattle.fir_bits.specs.declared.types.NumTy.{NumTy}
use Rattle.fir_net.specs.declared.leaf.Leaf.{Leaf}
use Rattle.fir_net.specs.declared.node.Node.{Node}
use Rattle.fir_net.specs.declared.reads.Read.{Read}
use Rattle.fir_net.specs.declared.reads.Read.TheVariants as read
use Rattle.fir_fold_rules.specs.declared.term.Term.{Term}
use Rattle.fir_fold_rules.specs.working.Replaces.{IsWithin, among, of_node}
use Rattle.fir_fold_rules.specs.working.Terms.{IsTerm, Stands, reads_in}

-- what holds of an answer that is given
pub at_some : {A : Type 0} (P : A → Type 0) (o : Option A) (x : A) → o ≡ Some x → IfSome o P → P x
at_some P o x e h = subst (λ u. IfSome u P) e h

pub within_more : (nodes : List Node) (first second : List Read) → ((r : Read) → In first r → IsWithin nodes second r) → (r : Read) → IsWithin nodes first r → IsWithin nodes second r
within_more nodes first second h _ (among r m) = h r m
within_more nodes first second h _ (of_node k r is m) = of_node k r (within_more nodes first second h (read.Node k) is) m

module _ (leaves : List Leaf) (nodes : List Node) (t : NumTy) where
  pub stands_itself : (x : Term) → IsTerm leaves nodes t x → Stands leaves nodes t x x
  stands_itself x is = record { whole = is; same = λ value are. refl; within = λ r m. among r m }

  pub stands_next : (x y z : Term) → Stands leaves nodes t x y → Stands leaves nodes t y z → Stands leaves nodes t x z
  stands_next x y z first second = record {
    whole = second.whole;
    same = λ value are. second.same value are ∙ first.same value are;
    within = λ r m. within_more nodes (reads_in y) (reads_in x) first.within r (second.within r m);
  }

  -- by another name
  pub stands_as : (x y z : Term) → x ≡ y → IsTerm leaves nodes t x → (IsTerm leaves nodes t y → Stands leaves nodes t y z) → Stands leaves nodes t x z
  stands_as x y z e is h = subst (λ (u : Term). Stands leaves nodes t u z) (sym e) (h (subst (IsTerm leaves nodes t) e is))
