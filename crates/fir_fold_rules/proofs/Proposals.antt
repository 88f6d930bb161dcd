-- What the rules give for the operands of a term.
use Rattle.std.proofs.Common.{◌≡◌, ℕ, List, [], ◌∷◌, map, Some, None, IfSome, inl, inr, refl, sym, ap, ◌∙◌}
use Rattle.std.specs.Prelude.{Option}
use Rattle.std.specs.List.{AllByRecursion}
use Rattle.fir_base.specs.Lists.{EachIn}
use Rattle.fir_bits.specs.declared.operators.PrimOp.{PrimOp}
use Rattle.fir_bits.specs.declared.types.NumTy.{NumTy}
use Rattle.fir_net.specs.declared.leaf.Leaf.{Leaf}
use Rattle.fir_net.specs.declared.node.Node.{Node}
use Rattle.fir_net.specs.declared.reads.Read.{Read}
use Rattle.fir_fold_rules.specs.declared.operand.Operand.{Operand}
use Rattle.fir_fold_rules.specs.declared.term.Term.{Term}
use Rattle.fir_fold_rules.specs.declared.term.Term.TheVariants as term
use Rattle.fir_fold_rules.specs.working.Rules.{Equals, IntegerEquals, IsOperand, IsOperandAt, MuxEquals, PairEquals, Proposes, RangeEquals, SingleEquals}
use Rattle.fir_fold_rules.specs.working.Terms.{IsTerm, reads_in}
use Rattle.fir_fold_rules.proofs.Operands.{rule_stands}
use Rattle.fir_fold_rules.proofs.Standing.{stands_as}

given : {A : Type 0} (P Q : A → Type 0) → ((x : A) → P x → Q x) → (o : Option A) → IfSome o P → IfSome o Q
given P Q f (Some x) h = f x h
given P Q f None h = tt

module _ (leaves : List Leaf) (nodes : List Node) (t : NumTy) (x : Term) (is : IsTerm leaves nodes t x) where
  proposes : (y : Term) (os : List Operand) → x ≡ y → AllByRecursion (IsOperand leaves nodes) os → EachIn (map (λ (o : Operand). o.read) os) (reads_in y)
      → (r : Option Term) → IfSome r (Equals t os y) → IfSome r (Proposes leaves nodes t x)
  proposes y os e are reads r h =
      given (Equals t os y) (Proposes leaves nodes t x)
      (λ to equals typed. stands_as leaves nodes t x y to e is (λ whole. rule_stands leaves nodes t os y to are reads whole equals typed)) r h

  module _ (a : Read) (o : Operand) (first : IsOperandAt leaves nodes a o) where
    pub single_proposes : (op : PrimOp) → x ≡ term.Single op a → (r : Option Term) → IfSome r (SingleEquals op t o) → IfSome r (Proposes leaves nodes t x)
    single_proposes op e = proposes (term.Single op o.read) (o ∷ []) (e ∙ ap (term.Single op) (sym first.reads)) (first.is, tt) (inl refl, tt)

    pub integer_proposes : (op : PrimOp) (n : ℕ) → x ≡ term.Integer op a n → (r : Option Term) → IfSome r (IntegerEquals op t o n) → IfSome r (Proposes leaves nodes t x)
    integer_proposes op n e =
        proposes (term.Integer op o.read n) (o ∷ []) (e ∙ ap (λ (q : Read). term.Integer op q n) (sym first.reads)) (first.is, tt) (inl refl, tt)

    pub range_proposes : (op : PrimOp) (n m : ℕ) → x ≡ term.Range op a n m → (r : Option Term) → IfSome r (RangeEquals op t o n m) → IfSome r (Proposes leaves nodes t x)
    range_proposes op n m e =
        proposes (term.Range op o.read n m) (o ∷ []) (e ∙ ap (λ (q : Read). term.Range op q n m) (sym first.reads)) (first.is, tt) (inl refl, tt)

    module _ (b : Read) (p : Operand) (second : IsOperandAt leaves nodes b p) where
      pub pair_proposes : (op : PrimOp) → x ≡ term.Pair op a b → (r : Option Term) → IfSome r (PairEquals op t o p) → IfSome r (Proposes leaves nodes t x)
      pair_proposes op e =
          proposes (term.Pair op o.read p.read) (o ∷ p ∷ [])
          (e ∙ ap (λ (q : Read). term.Pair op q b) (sym first.reads) ∙ ap (term.Pair op o.read) (sym second.reads)) (first.is, (second.is, tt)) (inl refl, (inr (inl refl), tt))

      pub mux_proposes : (c : Read) (q : Operand) → IsOperandAt leaves nodes c q → x ≡ term.Mux c a b → (r : Option Term) → IfSome r (MuxEquals t q o p)
          → IfSome r (Proposes leaves nodes t x)
      mux_proposes c q condition e =
          proposes (term.Mux q.read o.read p.read) (q ∷ o ∷ p ∷ [])
          (e ∙ ap (λ (s : Read). term.Mux s a b) (sym condition.reads) ∙ ap (λ (s : Read). term.Mux q.read s b) (sym first.reads) ∙ ap (term.Mux q.read o.read) (sym second.reads))
          (condition.is, (first.is, (second.is, tt))) (inl refl, (inr (inl refl), (inr (inr (inl refl)), tt)))
