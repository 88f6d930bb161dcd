-- What is known of an operand, and that what a rule gives for operands of a node may stand in its place.
use Rattle.std.proofs.Common.{◌≡◌, ℕ, ◌⊎◌, List, [], ◌∷◌, ◌++◌, map, slice_get, Some, refl, sym, ap, subst, ◌∙◌, inl, inr, option_map, unwrap_or}
use Rattle.std.specs.Prelude.{Option}
use Rattle.std.specs.List.{AllByRecursion}
use Rattle.fir_base.specs.Lists.{EachIn, In}
use Rattle.fir_base.proofs.Elements.{all_there}
use Rattle.fir_bits.specs.Forms.{no_type}
use Rattle.fir_bits.specs.declared.types.NumTy.{NumTy}
use Rattle.fir_bits.specs.declared.values.Num.{Num}
use Rattle.fir_net.specs.declared.leaf.Leaf.{Leaf}
use Rattle.fir_net.specs.declared.node.Node.{Node}
use Rattle.fir_net.specs.declared.reads.Read.{Read}
use Rattle.fir_net.specs.declared.reads.Read.TheVariants as read
use Rattle.fir_net.specs.working.Dependence.{node_reads}
use Rattle.fir_net.specs.working.IsNet.{AreNodes, CanRead, IsNode, node_type, read_type}
use Rattle.fir_net.specs.working.Values.{IsOfType}
use Rattle.fir_net.proofs.WholeNodes.{all_nodes}
use Rattle.fir_fold_rules.specs.declared.operand.Operand.{Operand}
use Rattle.fir_fold_rules.specs.declared.replacement.Replacement.TheVariants as by
use Rattle.fir_fold_rules.specs.declared.term.Term.{Term}
use Rattle.fir_fold_rules.specs.declared.term.Term.TheVariants as term
use Rattle.fir_fold_rules.specs.working.Replaces.{AreValues, IsWithin, among, of_node}
use Rattle.fir_fold_rules.specs.working.Rules.{Equals, Holds, IsOperand, IsOperandAt, inner_type, known_reads}
use Rattle.fir_fold_rules.specs.working.Terms.{HasCounts, HasType, IsTerm, Stands, reads_in, replacement_of}
use Rattle.fir_fold_rules.proofs.Replacements.{node_counts, node_number, node_term, node_support}
use Rattle.fir_fold_rules.proofs.Standing.{stands_itself, within_more}

module _ (leaves : List Leaf) (nodes : List Node) where
  pub whole_at : AreNodes leaves [] nodes → (k : ℕ) (n : Node) → slice_get nodes k ≡ Some n → IsNode leaves nodes n
  whole_at are k n at = all_there (IsNode leaves nodes) nodes (all_nodes leaves nodes are) k n at

  pub node_has_counts : AreNodes leaves [] nodes → (k : ℕ) (n : Node) → slice_get nodes k ≡ Some n → HasCounts n
  node_has_counts are k n at = node_counts leaves nodes n (whole_at are k n at)

  pub leaf_operand : (r : Read) (t i : NumTy) → CanRead leaves nodes r → t ≡ read_type leaves nodes r → i ≡ inner_type (read_type leaves nodes) (term.Read r)
      → IsOperandAt leaves nodes r (record { read = r; ty = t; term = term.Read r; inner = i })
  leaf_operand r t i can e inner = record {
    reads = refl;
    is = record {
      can = can;
      has_type = sym e;
      term = stands_itself leaves nodes t (term.Read r) (record { reads = (can, tt); has_type = sym e });
      inner = inner;
    };
  }

  pub node_operand : AreNodes leaves [] nodes → (r : Read) (k : ℕ) (n : Node) (t i : NumTy) (x : Term) → r ≡ read.Node k → CanRead leaves nodes r → slice_get nodes k ≡ Some n
      → t ≡ read_type leaves nodes r → by.Node n ≡ replacement_of (node_type n) x → i ≡ inner_type (read_type leaves nodes) x
      → IsOperandAt leaves nodes r (record { read = r; ty = t; term = x; inner = i })
  node_operand are r k n t i x is can at e form inner =
      let node_is : read_type leaves nodes (read.Node k) ≡ node_type n = ap (λ (o : Option Node). unwrap_or (option_map node_type o) no_type) at in
      let same : node_type n ≡ t = sym node_is ∙ ap (read_type leaves nodes) (sym is) ∙ sym e in
      let whole = node_term leaves nodes n x form (whole_at are k n at) in
      record {
        reads = refl;
        is = record {
          can = can;
          has_type = sym e;
          term = subst (λ (q : Read). Stands leaves nodes t (term.Read q) x) (sym is) (subst (λ (u : NumTy). Stands leaves nodes u (term.Read (read.Node k)) x) same (record {
            whole = whole;
            same = λ value are_values.
                sym (node_number leaves nodes n x form (whole_at are k n at) value are_values) ∙ sym (ap (λ (v : Num). v.value.number) (are_values.each k n at));
            within = λ s m.
                of_node k s (among (read.Node k) (inl refl))
                (subst (λ (o : Option Node). In (node_reads o) s) (sym at) (subst (λ (rs : List Read). In rs s) (sym (node_support leaves nodes n x form)) m));
          }));
          inner = inner;
        };
      }

  module _ (value : Read → Num) (are : AreValues leaves nodes value) where
    values_typed : (rs : List Read) → AllByRecursion (CanRead leaves nodes) rs → AllByRecursion (λ (r : Read). IsOfType (read_type leaves nodes r) (value r)) rs
    values_typed [] can = tt
    values_typed (r ∷ rs) can = (are.typed r can.0, values_typed rs can.1)

    operand_holds : (o : Operand) → IsOperand leaves nodes o → Holds (read_type leaves nodes) value o
    operand_holds o is = record {
      has_type = is.has_type;
      is = subst (λ (t : NumTy). IsOfType t (value o.read)) is.has_type (are.typed o.read is.can);
      term_type = is.term.whole.has_type;
      term_reads = values_typed (reads_in o.term) is.term.whole.reads;
      number = is.term.same value are;
      inner = is.inner;
    }

    operands_hold : (os : List Operand) → AllByRecursion (IsOperand leaves nodes) os → AllByRecursion (Holds (read_type leaves nodes) value) os
    operands_hold [] is = tt
    operands_hold (o ∷ os) is = (operand_holds o is.0, operands_hold os is.1)

  each_in : {A : Type 0} → (xs ys : List A) (x : A) → EachIn xs ys → In xs x → In ys x
  each_in [] ys x h m = absurd m
  each_in {A} (z ∷ xs) ys x h (inl e) = subst (In ys) e h.0
  each_in {A} (z ∷ xs) ys x h (inr m) = each_in {A = A} xs ys x h.1 m

  in_joined : {A : Type 0} → (xs ys : List A) (x : A) → In (xs ++ ys) x → In xs x ⊎ In ys x
  in_joined [] ys x m = inr m
  in_joined (z ∷ xs) ys x (inl e) = inl (inl e)
  in_joined {A} (z ∷ xs) ys x (inr m) = elim (in_joined {A = A} xs ys x m) [ inl h ↦ inl (inr h) | inr h ↦ inr h ]

  -- what operands of a term read is within it, and can be read
  known_within : (from : List Read) (os : List Operand) → AllByRecursion (IsOperand leaves nodes) os → EachIn (map (λ (o : Operand). o.read) os) from
      → (r : Read) → In (known_reads os) r → IsWithin nodes from r × CanRead leaves nodes r
  known_within from [] is reads r m = absurd m
  known_within from (o ∷ os) is reads r (inl e) = (among r (subst (In from) e reads.0), subst (CanRead leaves nodes) e is.0.can)
  known_within from (o ∷ os) is reads r (inr m) = elim (in_joined (reads_in o.term) (known_reads os) r m) [
    | inl h ↦ (
      within_more nodes (o.read ∷ []) from (λ s q. among s (each_in (o.read ∷ []) from s (reads.0, tt) q)) r (is.0.term.within r h),
      all_in (reads_in o.term) is.0.term.whole.reads r h,
    )
    | inr h ↦ known_within from os is.1 reads.1 r h
  ]
    where
      all_in : (rs : List Read) → AllByRecursion (CanRead leaves nodes) rs → (s : Read) → In rs s → CanRead leaves nodes s
      all_in [] can s q = absurd q
      all_in (z ∷ rs) can s (inl e) = subst (CanRead leaves nodes) e can.0
      all_in (z ∷ rs) can s (inr q) = all_in rs can.1 s q

  all_can : (xs ys : List Read) → ((r : Read) → In ys r → CanRead leaves nodes r) → EachIn xs ys → AllByRecursion (CanRead leaves nodes) xs
  all_can [] ys h e = tt
  all_can (x ∷ xs) ys h e = (h x e.0, all_can xs ys h e.1)

  pub rule_stands : (t : NumTy) (os : List Operand) (from to : Term) → AllByRecursion (IsOperand leaves nodes) os → EachIn (map (λ (o : Operand). o.read) os) (reads_in from)
      → IsTerm leaves nodes t from → Equals t os from to → HasType (read_type leaves nodes) t to → Stands leaves nodes t from to
  rule_stands t os from to are reads is equals typed =
      let known = known_within (reads_in from) os are reads in
      record {
        whole = record { reads = all_can (reads_in to) (known_reads os) (λ r m. (known r m).1) equals.within; has_type = typed };
        same = λ value values. equals.same (read_type leaves nodes) value (operands_hold value values os are) is.has_type typed;
        within = λ r m. (known r (each_in (reads_in to) (known_reads os) r equals.within m)).0;
      }
