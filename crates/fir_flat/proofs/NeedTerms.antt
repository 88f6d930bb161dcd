-- What enables a read or a write: the term of one bit is 1 where all of the leaves are met that have to be 1 or 0, and it reads these leaves.
use Rattle.std.proofs.Common.{◌≡◌, ℕ, zero, suc, ◌<◌, List, [], ◌∷◌, ◌++◌, map, Bool, true, false, ◌&&◌, nat_eq, if◌then◌else◌, refl, ap, ◌∙◌, arith, append-nil}
use Rattle.std.specs.List.{AllByRecursion}
use Rattle.fir_bits.specs.Operators.{outcome}
use Rattle.fir_bits.specs.declared.operators.PrimOp.TheVariants.{And, Not}
use Rattle.fir_bits.specs.declared.types.NumTy.{NumTy}
use Rattle.fir_bits.specs.declared.values.Num.{Num}
use Rattle.fir_meaning.specs.Values.{is_high, number_of}
use Rattle.fir_meaning.specs.working.LeafModules.{Need}
use Rattle.fir_meaning.specs.working.Memories.{are_met, is_met}
use Rattle.fir_meaning.specs.working.TermValues.{Holds}
use Rattle.fir_connect.specs.working.Lowered.{one_bit}
use Rattle.fir_connect.specs.working.NetReads.{net_reads}
use Rattle.fir_connect.specs.working.NetTerms.{leaf, no_terms, operation, term}
use Rattle.fir_connect.specs.working.NetValues.{term_value}
use Rattle.fir_connect.proofs.LoweredConditions.{truth}
use Rattle.fir_flat.specs.working.FlatCircuits.{need_term, needs_term}

high_truth : (b : Bool) → is_high (truth b ∷ []) ≡ b
high_truth true = refl
high_truth false = refl

and_truths : (a b : Bool) → outcome And (truth a ∷ truth b ∷ []) [] ≡ truth (a && b)
and_truths true true = refl
and_truths true false = refl
and_truths false true = refl
and_truths false false = refl

and_alone : (b : Bool) → b ≡ (b && true)
and_alone true = refl
and_alone false = refl

bit_is : (v : ℕ) → v < 2 → number_of one_bit v ≡ truth (nat_eq v 1)
bit_is zero h = refl
bit_is (suc zero) h = refl
bit_is (suc (suc v)) h = absurd (omega (arith, h))

bit_is_not : (v : ℕ) → v < 2 → outcome Not (number_of one_bit v ∷ []) [] ≡ truth (nat_eq v 0)
bit_is_not zero h = refl
bit_is_not (suc zero) h = refl
bit_is_not (suc (suc v)) h = absurd (omega (arith, h))

module _ (holds : Holds) (numbers : ℕ → ℕ) where
  -- a leaf of one bit
  pub record IsBit (n : Need) : Type 0 where
    pub is : holds n.leaf ≡ one_bit
    pub below : numbers n.leaf < 2

  need_value : (n : Need) → IsBit n → term_value holds numbers (need_term n) ≡ truth (is_met numbers n)
  need_value n bit = by n.high
    where
      by : (high : Bool) → term_value holds numbers (if high then leaf n.leaf else operation Not (term (leaf n.leaf) no_terms) [] one_bit)
          ≡ truth (if high then nat_eq (numbers n.leaf) 1 else nat_eq (numbers n.leaf) 0)
      by true = ap (λ (t : NumTy). number_of t (numbers n.leaf)) bit.is ∙ bit_is (numbers n.leaf) bit.below
      by false = ap (λ (t : NumTy). outcome Not (number_of t (numbers n.leaf) ∷ []) []) bit.is ∙ bit_is_not (numbers n.leaf) bit.below

  needs_value : (ns : List Need) → AllByRecursion IsBit ns → term_value holds numbers (needs_term ns) ≡ truth (are_met numbers ns)
  needs_value [] bits = refl
  needs_value (n ∷ []) bits = need_value n bits.0 ∙ ap truth (and_alone (is_met numbers n))
  needs_value (n ∷ m ∷ ms) bits =
      ap (λ (v : Num). outcome And (v ∷ term_value holds numbers (needs_term (m ∷ ms)) ∷ []) []) (need_value n bits.0)
      ∙ ap (λ (v : Num). outcome And (truth (is_met numbers n) ∷ v ∷ []) []) (needs_value (m ∷ ms) bits.1)
      ∙ and_truths (is_met numbers n) (are_met numbers (m ∷ ms))

  pub needs_high : (ns : List Need) → AllByRecursion IsBit ns → is_high (term_value holds numbers (needs_term ns) ∷ []) ≡ are_met numbers ns
  needs_high ns bits = ap (λ (v : Num). is_high (v ∷ [])) (needs_value ns bits) ∙ high_truth (are_met numbers ns)

need_reads : (n : Need) → net_reads (need_term n) ≡ n.leaf ∷ []
need_reads n = by n.high
  where
    by : (high : Bool) → net_reads (if high then leaf n.leaf else operation Not (term (leaf n.leaf) no_terms) [] one_bit) ≡ n.leaf ∷ []
    by true = refl
    by false = refl

pub needs_read : (ns : List Need) → net_reads (needs_term ns) ≡ map (λ n. n.leaf) ns
needs_read [] = refl
needs_read (n ∷ []) = need_reads n
needs_read (n ∷ m ∷ ms) =
    ap (λ (xs : List ℕ). xs ++ (net_reads (needs_term (m ∷ ms)) ++ [])) (need_reads n)
    ∙ ap (λ (xs : List ℕ). n.leaf ∷ xs) (append-nil (net_reads (needs_term (m ∷ ms))) ∙ needs_read (m ∷ ms))
