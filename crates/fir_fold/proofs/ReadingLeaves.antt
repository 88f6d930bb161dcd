-- What is read in the place of a leaf, by what the code found.
use Rattle.std.proofs.Common.{◌≡◌, ℕ, List, Bool, true, false, ◌&&◌, eqb, refl, sym, ap, ◌∙◌, subst}
use Rattle.std.specs.Bool.{beq}
use Rattle.std.proofs.lemmas.Bool.{eqb-true}
use Rattle.fir_base.proofs.Tests.{both}
use Rattle.fir_bits.specs.declared.types.NumTy.{NumTy}
use Rattle.std.specs.Prelude.{slice_get, IfOk, Ok, Err, Option, Some, None, Result}
use Rattle.fir_base.specs.declared.refused.MemoryOut.{MemoryOut}
use Rattle.fir_bits.specs.Values.{IsBitVector}
use Rattle.fir_bits.specs.declared.values.Num.{Num}
use Rattle.fir_net.specs.declared.leaf.Leaf.{Leaf}
use Rattle.fir_net.specs.declared.node.Node.{Node}
use Rattle.fir_net.specs.declared.node.Node.TheVariants as node
use Rattle.fir_net.specs.declared.reads.Read.{Read}
use Rattle.fir_net.specs.declared.reads.Read.TheVariants as read
use Rattle.fir_net.specs.working.Settled.{driver}
use Rattle.fir_net.specs.working.Values.{at_width, number_of, type_of_leaf}
use Rattle.fir_fold_rules.specs.working.Simplifies.{IsLiteralNode}
use Rattle.fir_fold.specs.working.Walking.{Walking, Puts, ReadsFor, as_literal, literal_at, literal_node, read_by}

literal_there : (o : Option Node) (v : Num) → literal_node o ≡ Some v → o ≡ Some (node.Literal v)
literal_there None v e = cc
literal_there (Some (node.Literal w)) v e = let same : w ≡ v = cc in ap (λ (x : Num). Some (node.Literal x)) same
literal_there (Some (node.Operation o)) v e = cc
literal_there (Some (node.Mux m)) v e = cc

pub literal_is : (nodes : List Node) (r : Read) (v : Num) → literal_at nodes r ≡ Some v → (j : ℕ) × (r ≡ read.Node j) × (slice_get nodes j ≡ Some (node.Literal v))
literal_is nodes (read.Leaf k) v e = cc
literal_is nodes (read.Node j) v e = (j, refl, literal_there (slice_get nodes j) v e)

pub no_literal : (nodes : List Node) (r : Read) → literal_at nodes r ≡ None → IsLiteralNode nodes r → ⊥
no_literal nodes (read.Leaf k) e h = h
no_literal nodes (read.Node j) e h = let clash : None ≡ Some h.0 = sym e ∙ ap literal_node h.1 in cc

pub reads_literal :
    (leaves : List Leaf) (k : ℕ) (l : Leaf) (old new : Walking) (result : Result Read MemoryOut) (d : Read) (v x : Num)
    → driver l.role ≡ Some d → literal_at old.nodes (read_by old d) ≡ Some v → x ≡ number_of (type_of_leaf l) (at_width v l.width) → IsBitVector x.value
    → IfOk result (Puts old new (node.Literal x)) → IfOk result (ReadsFor leaves k l old new)
reads_literal leaves k l old new (Err e) d v x drives is same vector puts = tt
reads_literal leaves k l old new (Ok r) d v x drives is same vector puts =
    let at = literal_is old.nodes (read_by old d) v is in
    as_literal d v at.0 drives at.1 at.2 (subst (λ (y : Num). IsBitVector y.value) same vector) (subst (λ (y : Num). Puts old new (node.Literal y) r) same puts)

same_signs : (s p : Bool) → beq s p ≡ true → s ≡ p
same_signs true true e = refl
same_signs true false e = sym e
same_signs false true e = e
same_signs false false e = refl

-- types that are equal by the code's test
pub same_types : (a b : NumTy) (t : Bool) → t ≡ true → t ≡ (beq a.signed b.signed && eqb a.width b.width) → a ≡ b
same_types a b t so is =
    let parts = both (beq a.signed b.signed) (eqb a.width b.width) (sym is ∙ so) in
    by a.signed b.signed a.width b.width (same_signs a.signed b.signed parts.0) (eqb-true a.width b.width parts.1)
  where
    by : (s p : Bool) (m n : ℕ) → s ≡ p → m ≡ n → ◌≡◌ {A = NumTy} (record { signed = s; width = m }) (record { signed = p; width = n })
    by s p m n e f = rw (e, f) refl
