-- The condition of an element is one bit: that the earlier condition is met, and that the index is the element's number.
use Rattle.std.proofs.Common.{◌≡◌, ℕ, [], ◌∷◌, Bool, true, false, ◌&&◌, Option, Some, None, pos, refl, ◌∙◌, subst, inl, inr}
use Rattle.std.specs.Ordering.{int_eq}
use Rattle.std.proofs.lemmas.Bool.{and_from, and_left, and_right, false_from_ne_true}
use Rattle.std.proofs.lemmas.Bool.Decides.{Decides-int_eq}
use Rattle.fir_base.specs.Lists.{In}
use Rattle.fir_bits.specs.Operators.{flag, integer_of, outcome}
use Rattle.fir_bits.specs.declared.operators.PrimOp.TheVariants.{And}
use Rattle.fir_bits.specs.declared.values.Num.{Num}
use Rattle.fir_meaning.specs.Values.{is_high, number_of}
use Rattle.fir_meaning.specs.working.TermValues.{Holds}
use Rattle.fir_meaning.specs.working.Terms.{Picks, no_picks, pick}
use Rattle.fir_connect.specs.working.NetTerms.{NetTerm}
use Rattle.fir_connect.specs.working.NetValues.{term_value}
use Rattle.fir_connect.specs.working.Lowered.{both, conditions, is_number, lowered, one_bit}
use Rattle.fir_connect.proofs.LoweredCandidates.{element, element_of}
use Rattle.fir_connect.proofs.LoweredIndices.{Tells, is_met}

-- a truth as a number
abbrev pub truth : Bool → Num
truth b = number_of one_bit (flag b)

high_truth : (b : Bool) → is_high (truth b ∷ []) ≡ b
high_truth true = refl
high_truth false = refl

and_truths : (a b : Bool) → outcome And (truth a ∷ truth b ∷ []) [] ≡ truth (is_high (truth a ∷ []) && b)
and_truths true true = refl
and_truths true false = refl
and_truths false true = refl
and_truths false false = refl

module _ (holds : Holds) (numbers : ℕ → ℕ) where
  -- the condition is a truth, where there is one
  abbrev pub IsTruth : Option NetTerm → Type 0
  IsTruth None = Unit {0}
  IsTruth (Some c) = (b : Bool) × (term_value holds numbers c ≡ truth b)

  both_value : (earlier : Option NetTerm) (c : NetTerm) (b : Bool) → IsTruth earlier → term_value holds numbers c ≡ truth b
      → term_value holds numbers (both earlier c) ≡ truth (is_met holds numbers earlier && b)
  both_value None c b is e = e
  both_value (Some earlier) c b is e = rw (is.1, e) (and_truths is.0 b)

  -- whether the index is the number, as the condition of an element tests it
  abbrev equals : NetTerm → ℕ → Bool
  equals i k = int_eq (integer_of (term_value holds numbers i)) (pos k)

  element_value : (earlier : Option NetTerm) (i : NetTerm) (k : ℕ) → IsTruth earlier
      → term_value holds numbers (both earlier (is_number i k)) ≡ truth (is_met holds numbers earlier && equals i k)
  element_value earlier i k is = both_value earlier (is_number i k) (equals i k) is refl

  -- each condition is a truth
  pub conditions_are_truths : (ps : Picks) (c : Option NetTerm) → In (conditions holds ps) c → IsTruth c
  conditions_are_truths no_picks c (inl e) = subst IsTruth e tt
  conditions_are_truths no_picks c (inr m) = absurd m
  conditions_are_truths (pick ps p i n each) c m =
      let index = lowered holds i in
      let of = element_of index n (conditions holds ps) c m in
      let value = element_value of.earlier index of.number (conditions_are_truths ps of.earlier of.is_earlier) in
      subst IsTruth of.is (_, value)

  -- and tells whether the index is the number of the element
  module _ (i : NetTerm) (v : ℕ) (worth : integer_of (term_value holds numbers i) ≡ pos v) (earlier : Option NetTerm) (is : IsTruth earlier) where
    told : (k : ℕ) → is_met holds numbers (element i earlier k) ≡ (is_met holds numbers earlier && int_eq (pos v) (pos k))
    told k = rw (element_value earlier i k is, worth) (high_truth (is_met holds numbers earlier && int_eq (pos v) (pos k)))

    pub element_tells : Tells holds numbers v earlier (element i earlier)
    element_tells = record {
      unmet = λ e k. told k ∙ and_left _ _ e;
      met = λ e. told v ∙ and_from _ _ e ((Decides-int_eq (pos v) (pos v)).1 refl);
      others = λ k differs. told k ∙ and_right _ _ (false_from_ne_true _ (λ e. differs (same_number k ((Decides-int_eq (pos v) (pos k)).0 e))));
    }
      where
        same_number : (k : ℕ) → pos v ≡ pos k → k ≡ v
        same_number k e = cc
