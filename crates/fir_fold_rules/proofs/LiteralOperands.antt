-- Operations on literals, and muxes under a literal.
use Rattle.std.proofs.Common.{◌≡◌, ℕ, ◌^◌, ◌<◌, Bool, true, false, ◌==◌, if◌then◌else◌, Ok, List, [], ◌∷◌, map, slice_index, refl, sym, ap, subst, ◌∙◌, unwrap_or, option_map, inl, inr}
use Rattle.std.specs.Prelude.{Option}
use Rattle.std.proofs.lemmas.Bool.{eq-eqb, ne_eqb}
use Rattle.fir_base.specs.Lists.{In}
use Rattle.fir_bits.specs.Forms.{first_type, second_type, no_type}
use Rattle.fir_bits.specs.Operators.{applied, first_operand, no_operand, operation_value, second_operand}
use Rattle.fir_bits.specs.Values.{IsBitVector}
use Rattle.fir_bits.specs.working.Operators.{type_of}
use Rattle.fir_bits.specs.working.Types.{typed}
use Rattle.fir_bits.specs.declared.operators.PrimOp.{PrimOp}
use Rattle.fir_bits.specs.declared.types.NumTy.{NumTy}
use Rattle.fir_bits.specs.declared.values.Num.{Num}
use Rattle.fir_net.specs.declared.leaf.Leaf.{Leaf}
use Rattle.fir_net.specs.declared.node.Node.{Node}
use Rattle.fir_net.specs.declared.node.Node.TheVariants as node
use Rattle.fir_net.specs.declared.reads.Read.{Read}
use Rattle.fir_net.specs.declared.reads.Read.TheVariants as read
use Rattle.fir_net.specs.working.IsNet.{node_type, read_type}
use Rattle.fir_net.specs.working.Values.{at_width}
use Rattle.fir_fold_rules.specs.declared.term.Term.{Term}
use Rattle.fir_fold_rules.specs.declared.term.Term.TheVariants as term
use Rattle.fir_fold_rules.specs.working.Folded.{AppliedToOne, AppliedToTwo, Fits}
use Rattle.fir_fold_rules.specs.working.Replaces.{AreValues, IsWithin, among}
use Rattle.fir_fold_rules.specs.working.Terms.{IsLiteral, IsTerm, Stands, reads_in}
use Rattle.fir_fold_rules.proofs.Typing.{has_one, type_from}

abbrev number_at : PrimOp → List Num → List ℕ → ℕ → ℕ
number_at op args ints r = operation_value op r (first_operand args) (second_operand args) (slice_index ints 0) (slice_index ints 1)

-- what an operation gives, at the width of its type
module _ (op : PrimOp) (args : List Num) (ints : List ℕ) (t : NumTy) (n : ℕ)
    (first : first_type (map type_of args) ≡ type_of (first_operand args)) (second : second_type (map type_of args) ≡ type_of (second_operand args))
    (typing : typed op (map type_of args) ints ≡ Ok t)
    (below : n < 2 ^ (applied op args ints).width) (gives : n ≡ (applied op args ints).number) where
  width_is : (applied op args ints).width ≡ t.width
  width_is =
      let is = (has_one op (map type_of args) ints t typing).is in
      ap (λ (u : NumTy). u.width)
      (subst (λ (a : NumTy). type_from op a (type_of (second_operand args)) (slice_index ints 0) (slice_index ints 1) ≡ t) first
      (subst (λ (b : NumTy). type_from op (first_type (map type_of args)) b (slice_index ints 0) (slice_index ints 1) ≡ t) second is))

  number_whole : IsBitVector (record { width = t.width; number = n })
  number_whole = record {
    narrow = (has_one op (map type_of args) ints t typing).narrow;
    below = subst (λ (w : ℕ). n < 2 ^ w) width_is below;
  }

  number_is : n ≡ number_at op args ints t.width
  number_is = gives ∙ ap (number_at op args ints) width_is

module _ (leaves : List Leaf) (nodes : List Node) where
  literal_type : (r : Read) (v : Num) → IsLiteral nodes r v → read_type leaves nodes r ≡ type_of v
  literal_type (read.Leaf k) v is = absurd is
  literal_type (read.Node k) v is = ap (λ (o : Option Node). unwrap_or (option_map node_type o) no_type) is

  pub literal_value : (value : Read → Num) → AreValues leaves nodes value → (r : Read) (v : Num) → IsLiteral nodes r v → value r ≡ v
  literal_value value are (read.Leaf k) v is = absurd is
  literal_value value are (read.Node k) v is = are.each k (node.Literal v) is

  none_within : (x : Term) (r : Read) → In [] r → IsWithin nodes (reads_in x) r
  none_within x r m = absurd m

  module _ (t : NumTy) (op : PrimOp) (a : Read) where
    module _ (ints : List ℕ) (n : ℕ) (typing : typed op (read_type leaves nodes a ∷ []) ints ≡ Ok t) (h : AppliedToOne nodes op a ints n) where
      one_typed : typed op (type_of h.operand ∷ []) ints ≡ Ok t
      one_typed = subst (λ (u : NumTy). typed op (u ∷ []) ints ≡ Ok t) (literal_type a h.operand h.is) typing

      one_number : (value : Read → Num) → AreValues leaves nodes value → n ≡ operation_value op t.width (value a) no_operand (slice_index ints 0) (slice_index ints 1)
      one_number value are =
          number_is op (h.operand ∷ []) ints t n refl refl one_typed h.below h.gives
          ∙ ap (λ (v : Num). operation_value op t.width v no_operand (slice_index ints 0) (slice_index ints 1)) (sym (literal_value value are a h.operand h.is))

      one_whole : IsTerm leaves nodes t (term.Number n)
      one_whole = record { reads = tt; has_type = number_whole op (h.operand ∷ []) ints t n refl refl one_typed h.below h.gives }

    pub single_stands : (n : ℕ) → IsTerm leaves nodes t (term.Single op a) → AppliedToOne nodes op a [] n → Stands leaves nodes t (term.Single op a) (term.Number n)
    single_stands n is h = record { whole = one_whole [] n is.has_type h; same = one_number [] n is.has_type h; within = none_within (term.Single op a) }

    pub integer_stands : (i n : ℕ) → IsTerm leaves nodes t (term.Integer op a i) → AppliedToOne nodes op a (i ∷ []) n
        → Stands leaves nodes t (term.Integer op a i) (term.Number n)
    integer_stands i n is h = record { whole = one_whole (i ∷ []) n is.has_type h; same = one_number (i ∷ []) n is.has_type h; within = none_within (term.Integer op a i) }

    pub range_stands : (i j n : ℕ) → IsTerm leaves nodes t (term.Range op a i j) → AppliedToOne nodes op a (i ∷ j ∷ []) n
        → Stands leaves nodes t (term.Range op a i j) (term.Number n)
    range_stands i j n is h =
        record { whole = one_whole (i ∷ j ∷ []) n is.has_type h; same = one_number (i ∷ j ∷ []) n is.has_type h; within = none_within (term.Range op a i j) }

    module _ (b : Read) (n : ℕ) (is : IsTerm leaves nodes t (term.Pair op a b)) (h : AppliedToTwo nodes op a b n) where
      two_typed : typed op (type_of h.first ∷ type_of h.second ∷ []) [] ≡ Ok t
      two_typed =
          subst (λ (u : NumTy). typed op (type_of h.first ∷ u ∷ []) [] ≡ Ok t) (literal_type b h.second h.is_second)
          (subst (λ (u : NumTy). typed op (u ∷ read_type leaves nodes b ∷ []) [] ≡ Ok t) (literal_type a h.first h.is_first) is.has_type)

      pub pair_stands : Stands leaves nodes t (term.Pair op a b) (term.Number n)
      pair_stands = record {
        whole = record { reads = tt; has_type = number_whole op (h.first ∷ h.second ∷ []) [] t n refl refl two_typed h.below h.gives };
        same = λ value are.
            number_is op (h.first ∷ h.second ∷ []) [] t n refl refl two_typed h.below h.gives
            ∙ ap (λ (v : Num). operation_value op t.width v h.second 0 0) (sym (literal_value value are a h.first h.is_first))
            ∙ ap (λ (v : Num). operation_value op t.width (value a) v 0 0) (sym (literal_value value are b h.second h.is_second));
        within = none_within (term.Pair op a b);
      }

  module _ (t : NumTy) (c a b : Read) (v : Num) (x : Term) (lit : IsLiteral nodes c v) where
    abbrev chosen_by : (Read → Num) → Bool → ℕ
    chosen_by value one = if one then at_width (value a) t.width else at_width (value b) t.width

    pub condition_number : (value : Read → Num) → AreValues leaves nodes value → (value c).value.number ≡ v.value.number
    condition_number value are = ap (λ (u : Num). u.value.number) (literal_value value are c v lit)

    pub first_chosen : v.value.number ≡ 1 → Fits leaves nodes t a x → Stands leaves nodes t (term.Mux c a b) x
    first_chosen one fits = record {
      whole = fits.whole;
      same = λ value are.
          let is : ((value c).value.number == 1) ≡ true = eq-eqb _ _ (condition_number value are ∙ one) in
          fits.same value are ∙ ap (chosen_by value) (sym is);
      within = λ r m. among r (elim (fits.among r m) [ inl e ↦ inr (inl e) | inr none ↦ absurd none ]);
    }

    pub second_chosen : (v.value.number ≡ 1 → ⊥) → Fits leaves nodes t b x → Stands leaves nodes t (term.Mux c a b) x
    second_chosen other fits = record {
      whole = fits.whole;
      same = λ value are.
          let is : ((value c).value.number == 1) ≡ false = ne_eqb _ _ (λ e. other (sym (condition_number value are) ∙ e)) in
          fits.same value are ∙ ap (chosen_by value) (sym is);
      within = λ r m. among r (elim (fits.among r m) [ inl e ↦ inr (inr (inl e)) | inr none ↦ absurd none ]);
    }
