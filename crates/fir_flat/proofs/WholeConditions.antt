-- The tests of indices are whole and one bit wide: an index is a UInt of no more than 128 bits, and so is the number that it is compared with, where all
-- operands are narrow.
use Rattle.std.proofs.Common.{◌≡◌, ℕ, ◌≤◌, max, [], ◌∷◌, false, Option, Some, None, Ok, refl, subst, arith}
use Rattle.std.proofs.lemmas.Bool.{le-leb}
use Rattle.std.proofs.lemmas.Nat.{pow_pos}
use Rattle.fir_bits.specs.Literals.{least_width}
use Rattle.fir_bits.specs.working.Types.{typed}
use Rattle.fir_bits.specs.declared.operators.PrimOp.TheVariants.{Eq, Orr}
use Rattle.fir_bits.specs.declared.types.NumTy.{NumTy}
use Rattle.fir_meaning.specs.LeafTypes.{LeafType, number}
use Rattle.fir_meaning.specs.working.TermValues.{Holds}
use Rattle.fir_meaning.specs.working.Terms.{Term}
use Rattle.fir_leaf_types.specs.working.TypedTerms.{HasType}
use Rattle.fir_connect.specs.working.NetTerms.{NetTerm, choice, no_terms, term, term_type, term_types}
use Rattle.fir_connect.specs.working.Lowered.{both, is_number, one_bit, result}
use Rattle.fir_connect.specs.working.LoweredLaws.{types_of}
use Rattle.fir_connect.proofs.TypedValues.{value_type}
use Rattle.fir_connect.proofs.TypedVectors.{vector}
use Rattle.fir_net.specs.working.IsNet.{IsChoice}
use Rattle.fir_flat.specs.working.WholeTerms.{IsWhole}

abbrev pub unsigned : ℕ → NumTy
unsigned w = record { signed = false; width = w }

equal_typed : (w v : ℕ) → w ≤ 128 → v ≤ 128 → typed Eq (unsigned w ∷ unsigned v ∷ []) [] ≡ Ok one_bit
equal_typed w v first second = rw (le-leb w 128 first, le-leb v 128 second) refl

any_bit_typed : (w : ℕ) → w ≤ 128 → typed Orr (unsigned w ∷ []) [] ≡ Ok one_bit
any_bit_typed w narrow = rw (le-leb w 128 narrow) refl

-- a term that has a type is no wider than 128 bits
pub type_narrow : (held : ℕ → LeafType) (t : Term) (u : NumTy) → HasType held t (number u) → u.width ≤ 128
type_narrow held t u h =
    subst (λ (z : NumTy). z.width ≤ 128) (value_type held (λ y. 0) t u h) (vector held (λ y. 0) (λ y. pow_pos (types_of held y).width) t u h).narrow

-- a choice between two terms of its own type
pub alike_choice : (t c a b : NumTy) → c ≡ one_bit → a ≡ t → b ≡ t → IsChoice t (c ∷ a ∷ b ∷ [])
alike_choice t c a b bit first second =
    let own : t.width ≡ max t.width t.width = omega arith in
    rw (first, second) (bit, refl, refl, own)

module _ (held : ℕ → LeafType) (count : ℕ) where
  abbrev holds : Holds
  holds = types_of held

  pub record IsCondition (c : NetTerm) : Type 0 where
    pub whole : IsWhole held count c
    pub has : term_type holds c ≡ one_bit

  -- where there is a condition
  abbrev pub IsSound : Option NetTerm → Type 0
  IsSound None = Unit {0}
  IsSound (Some c) = IsCondition c

  -- an index: a UInt
  pub record IsIndex (i : NetTerm) : Type 0 where
    pub whole : IsWhole held count i
    pub width : ℕ
    pub has : term_type holds i ≡ unsigned width
    pub narrow : width ≤ 128

  number_tested : (i : NetTerm) (k : ℕ) → IsIndex i → IsCondition (is_number i k)
  number_tested i k is = record {
    whole = (
      (is.whole, (tt, tt)),
      λ narrow. rw is.has (equal_typed is.width (least_width false false k) is.narrow narrow.1.0),
    );
    has = refl;
  }

  both_tested : (earlier : Option NetTerm) (c : NetTerm) → IsSound earlier → IsCondition c → IsCondition (both earlier c)
  both_tested None c before is = is
  both_tested (Some e) c before is = record {
    whole = ((before.whole, (is.whole, tt)), λ narrow. rw (before.has, is.has) refl);
    has = refl;
  }

  pub element_tested : (earlier : Option NetTerm) (i : NetTerm) (k : ℕ) → IsSound earlier → IsIndex i → IsCondition (both earlier (is_number i k))
  element_tested earlier i k before is = both_tested earlier (is_number i k) before (number_tested i k is)

  -- whether any bit of an index is set
  pub any_bit_tested : (i : NetTerm) → IsIndex i → IsCondition (result holds Orr (term i no_terms) [])
  any_bit_tested i is =
      let one : typed Orr (term_types holds (term i no_terms)) [] ≡ Ok one_bit = rw is.has (any_bit_typed is.width is.narrow) in
      record { whole = ((is.whole, tt), λ narrow. rw one refl); has = rw one refl }

  -- a choice between terms of one signedness
  pub choice_whole : (c a b : NetTerm) → IsCondition c → IsWhole held count a → IsWhole held count b
      → (term_type holds b).signed ≡ (term_type holds a).signed → IsWhole held count (choice holds c a b)
  choice_whole c a b is first second kind = (is.whole, first, second, (is.has, refl, kind, refl))
