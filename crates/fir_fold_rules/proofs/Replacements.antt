-- Nodes are terms of their types, and what stands in the place of a node's term stands in the node's.
use Rattle.std.proofs.Common.{◌≡◌, ℕ, true, Result, IfOk, List, [], ◌∷◌, map, slice_index, length, Some, Ok, Err, refl, sym, ap, subst, ◌∙◌, inl, inr}
use Rattle.std.proofs.lemmas.Bool.{and_parts}
use Rattle.std.proofs.lemmas.List.{length-map}
use Rattle.fir_base.specs.Lists.{In}
use Rattle.fir_bits.specs.Forms.{form_of, has_counts, has_kinds}
use Rattle.fir_bits.specs.Operators.{no_operand, operation_value, outcome}
use Rattle.fir_bits.specs.working.Operators.{type_of}
use Rattle.fir_bits.specs.working.Types.{typed}
use Rattle.fir_bits.specs.declared.operators.PrimOp.{PrimOp}
use Rattle.fir_bits.specs.declared.types.NumTy.{NumTy}
use Rattle.fir_bits.specs.declared.values.Num.{Num}
use Rattle.fir_net.specs.declared.leaf.Leaf.{Leaf}
use Rattle.fir_net.specs.declared.node.Node.{Node}
use Rattle.fir_net.specs.declared.node.Node.TheVariants as node
use Rattle.fir_net.specs.declared.reads.Read.{Read}
use Rattle.fir_net.specs.working.Dependence.{support_of}
use Rattle.fir_net.specs.working.IsNet.{CanRead, IsNode, node_type, read_type}
use Rattle.fir_net.specs.working.Values.{number_of}
use Rattle.fir_fold_rules.specs.declared.replacement.Replacement.{Replacement}
use Rattle.fir_fold_rules.specs.declared.replacement.Replacement.TheVariants as by
use Rattle.fir_fold_rules.specs.declared.term.Term.{Term}
use Rattle.fir_fold_rules.specs.declared.term.Term.TheVariants as term
use Rattle.fir_fold_rules.specs.working.Folded.{IsFolded}
use Rattle.fir_fold_rules.specs.working.Replaces.{AreValues, IsWithin, Replaces, computed}
use Rattle.fir_fold_rules.specs.working.Simplifies.{IsFoldedBy, IsLiteralNode, Simplifies}
use Rattle.fir_fold_rules.specs.working.Terms.{HasCounts, IsTerm, Stands, number_in, reads_in, replacement_of}
use Rattle.fir_fold_rules.proofs.Typing.{has_one}

some_same : {A : Type 0} {x y : A} → Some x ≡ Some y → x ≡ y
some_same e = cc

-- an operation that has a type has the counts of its form
pub node_counts : (leaves : List Leaf) (nodes : List Node) (n : Node) → IsNode leaves nodes n → HasCounts n
node_counts leaves nodes (node.Literal v) is = tt
node_counts leaves nodes (node.Operation o) is =
    let ts = map (read_type leaves nodes) o.reads in
    let kinds = (has_one o.op ts o.integers (node_type (node.Operation o)) is.has_type).kinds in
    subst (λ (k : ℕ). has_counts (form_of o.op) k (length o.integers) ≡ true) (length-map o.reads (read_type leaves nodes))
    (and_parts (has_counts (form_of o.op) (length ts) (length o.integers)) (has_kinds (form_of o.op) ts) kinds).0
node_counts leaves nodes (node.Mux m) is = tt

-- the value of what stands in a node's place
abbrev shown : (Read → Num) → Replacement → Num
shown value (by.Read r) = value r
shown value (by.Node n) = computed value n

abbrev support_by : Replacement → List Read
support_by (by.Read r) = r ∷ []
support_by (by.Node n) = support_of n

module _ (leaves : List Leaf) (nodes : List Node) where
  abbrev type_at : Read → NumTy
  type_at = read_type leaves nodes

  -- a whole replacement of a type
  abbrev IsBy : NumTy → Replacement → Type 0
  IsBy t (by.Read r) = CanRead leaves nodes r × (type_at r ≡ t)
  IsBy t (by.Node n) = IsNode leaves nodes n × (node_type n ≡ t)

  term_is : (t : NumTy) (x : Term) → IsBy t (replacement_of t x) → IsTerm leaves nodes t x
  term_is t (term.Read r) is = record { reads = (is.0, tt); has_type = is.1 }
  term_is t (term.Number n) is = record { reads = tt; has_type = is.0 }
  term_is t (term.Single op a) is = record { reads = is.0.reads; has_type = is.0.has_type }
  term_is t (term.Pair op a b) is = record { reads = is.0.reads; has_type = is.0.has_type }
  term_is t (term.Integer op a n) is = record { reads = is.0.reads; has_type = is.0.has_type }
  term_is t (term.Range op a n m) is = record { reads = is.0.reads; has_type = is.0.has_type }
  term_is t (term.Mux c a b) is = record { reads = is.0.reads; has_type = is.0.has_type }

  by_is : (t : NumTy) (x : Term) → IsTerm leaves nodes t x → IsBy t (replacement_of t x)
  by_is t (term.Read r) is = (is.reads.0, is.has_type)
  by_is t (term.Number n) is = (is.has_type, refl)
  by_is t (term.Single op a) is = (record { reads = is.reads; has_type = is.has_type }, refl)
  by_is t (term.Pair op a b) is = (record { reads = is.reads; has_type = is.has_type }, refl)
  by_is t (term.Integer op a n) is = (record { reads = is.reads; has_type = is.has_type }, refl)
  by_is t (term.Range op a n m) is = (record { reads = is.reads; has_type = is.has_type }, refl)
  by_is t (term.Mux c a b) is = (record { reads = is.reads; has_type = is.has_type }, refl)

  reads_by : (t : NumTy) (x : Term) → support_by (replacement_of t x) ≡ reads_in x
  reads_by t (term.Read r) = refl
  reads_by t (term.Number n) = refl
  reads_by t (term.Single op a) = refl
  reads_by t (term.Pair op a b) = refl
  reads_by t (term.Integer op a n) = refl
  reads_by t (term.Range op a n m) = refl
  reads_by t (term.Mux c a b) = refl

  module _ (value : Read → Num) (are : AreValues leaves nodes value) where
    of_type : (r : Read) → CanRead leaves nodes r → type_of (value r) ≡ type_at r
    of_type r can = (are.typed r can).is

    one_outcome : (t : NumTy) (op : PrimOp) (a : Read) (ints : List ℕ) → CanRead leaves nodes a → typed op (type_at a ∷ []) ints ≡ Ok t
        → outcome op (value a ∷ []) ints ≡ number_of t (operation_value op t.width (value a) no_operand (slice_index ints 0) (slice_index ints 1))
    one_outcome t op a ints can is =
        let here = subst (λ (u : NumTy). typed op (u ∷ []) ints ≡ Ok t) (sym (of_type a can)) is in
        ap (λ (u : NumTy). number_of u (operation_value op u.width (value a) no_operand (slice_index ints 0) (slice_index ints 1)))
        (has_one op (type_of (value a) ∷ []) ints t here).is

    two_outcome : (t : NumTy) (op : PrimOp) (a b : Read) → CanRead leaves nodes a → CanRead leaves nodes b → typed op (type_at a ∷ type_at b ∷ []) [] ≡ Ok t
        → outcome op (value a ∷ value b ∷ []) [] ≡ number_of t (operation_value op t.width (value a) (value b) 0 0)
    two_outcome t op a b can_a can_b is =
        let first = subst (λ (u : NumTy). typed op (u ∷ type_at b ∷ []) [] ≡ Ok t) (sym (of_type a can_a)) is in
        let both = subst (λ (u : NumTy). typed op (type_of (value a) ∷ u ∷ []) [] ≡ Ok t) (sym (of_type b can_b)) first in
        ap (λ (u : NumTy). number_of u (operation_value op u.width (value a) (value b) 0 0))
        (has_one op (type_of (value a) ∷ type_of (value b) ∷ []) [] t both).is

    shown_is : (t : NumTy) (x : Term) → IsTerm leaves nodes t x → shown value (replacement_of t x) ≡ number_of t (number_in t value x)
    shown_is t (term.Read r) is = ap (λ (u : NumTy). number_of u (value r).value.number) (of_type r is.reads.0 ∙ is.has_type)
    shown_is t (term.Number n) is = refl
    shown_is t (term.Single op a) is = one_outcome t op a [] is.reads.0 is.has_type
    shown_is t (term.Pair op a b) is = two_outcome t op a b is.reads.0 is.reads.1.0 is.has_type
    shown_is t (term.Integer op a n) is = one_outcome t op a (n ∷ []) is.reads.0 is.has_type
    shown_is t (term.Range op a n m) is = one_outcome t op a (n ∷ m ∷ []) is.reads.0 is.has_type
    shown_is t (term.Mux c a b) is = refl

  -- a node is a term of its type
  pub node_term : (n : Node) (x : Term) → by.Node n ≡ replacement_of (node_type n) x → IsNode leaves nodes n → IsTerm leaves nodes (node_type n) x
  node_term n x e is = term_is (node_type n) x (subst (IsBy (node_type n)) e (is, refl))

  pub node_number : (n : Node) (x : Term) → by.Node n ≡ replacement_of (node_type n) x → IsNode leaves nodes n
      → (value : Read → Num) → AreValues leaves nodes value → (computed value n).value.number ≡ number_in (node_type n) value x
  node_number n x e is value are = ap (λ (v : Num). v.value.number) (ap (shown value) e ∙ shown_is value are (node_type n) x (node_term n x e is))

  pub node_support : (n : Node) (x : Term) → by.Node n ≡ replacement_of (node_type n) x → support_of n ≡ reads_in x
  node_support n x e = ap support_by e ∙ reads_by (node_type n) x

  module _ (n : Node) (x y : Term) (e : by.Node n ≡ replacement_of (node_type n) x) (is : IsNode leaves nodes n) (h : Stands leaves nodes (node_type n) x y) where
    abbrev t : NumTy
    t = node_type n

    same_value : (value : Read → Num) → AreValues leaves nodes value → shown value (replacement_of t y) ≡ computed value n
    same_value value are =
        shown_is value are t y h.whole ∙ ap (number_of t) (h.same value are) ∙ sym (shown_is value are t x (node_term n x e is)) ∙ sym (ap (shown value) e)

    same_within : (r : Read) → In (support_by (replacement_of t y)) r → IsWithin nodes (support_of n) r
    same_within r m =
        let reads : reads_in x ≡ support_of n = sym (reads_by t x) ∙ sym (ap support_by e) in
        subst (λ (rs : List Read). IsWithin nodes rs r) reads (h.within r (subst (λ (rs : List Read). In rs r) (reads_by t y) m))

    replaces : (z : Replacement) → IsBy t z → ((value : Read → Num) → AreValues leaves nodes value → shown value z ≡ computed value n)
        → ((r : Read) → In (support_by z) r → IsWithin nodes (support_of n) r) → Replaces leaves nodes n z
    replaces (by.Read r) whole same within = record { can = whole.0; has_type = whole.1; same = same; within = within r (inl refl) }
    replaces (by.Node m) whole same within = record { whole = whole.0; has_type = whole.1; same = same; within = within }

    folded_by : (z : Term) → IsFolded nodes z → IsFoldedBy nodes (replacement_of t z)
    folded_by (term.Read r) f = tt
    folded_by (term.Number k) f = tt
    folded_by (term.Single op a) f = λ all. f (all a (inl refl))
    folded_by (term.Pair op a b) f = λ all. f (all a (inl refl)) (all b (inr (inl refl)))
    folded_by (term.Integer op a i) f = λ all. f (all a (inl refl))
    folded_by (term.Range op a i j) f = λ all. f (all a (inl refl))
    folded_by (term.Mux c a b) f = λ d e lit. f (subst (IsLiteralNode nodes) (sym (some_same e)) lit)

    by_simplifies : IsFolded nodes y → Simplifies leaves nodes n (replacement_of t y)
    by_simplifies f = record { replaces = replaces (replacement_of t y) (by_is t y h.whole) same_value same_within; folded = folded_by y f }

    made_simplifies : {E : Type 0} → IsFolded nodes y → (r : Result Replacement E) → IfOk r (λ z. z ≡ replacement_of t y) → IfOk r (Simplifies leaves nodes n)
    made_simplifies f (Ok z) same = subst (Simplifies leaves nodes n) (sym same) (by_simplifies f)
    made_simplifies f (Err _) same = tt

  pub node_simplified : {E : Type 0} (n : Node) (x y : Term) (t : NumTy) → t ≡ node_type n → by.Node n ≡ replacement_of (node_type n) x → IsNode leaves nodes n
      → Stands leaves nodes t x y → IsFolded nodes y → (r : Result Replacement E) → IfOk r (λ z. z ≡ replacement_of t y) → IfOk r (Simplifies leaves nodes n)
  node_simplified {E} n x y t same e is h f r made =
      made_simplifies n x y e is (subst (λ (u : NumTy). Stands leaves nodes u x y) same h) {E = E} f r
      (subst (λ (u : NumTy). IfOk r (λ z. z ≡ replacement_of u y)) same made)
