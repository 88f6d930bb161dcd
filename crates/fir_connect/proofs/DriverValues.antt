-- What drives a leaf that holds a number is worth what the statements store there.
-- All terms so far have the signedness of the leaf, so that a choice between two, at the greater width, and then at the leaf's width is the one that is
-- picked at the leaf's width.
use Rattle.std.proofs.Common.{◌≡◌, ℕ, [], ◌∷◌, ◌^◌, ◌<◌, ◌≤◌, max, Bool, true, false, if◌then◌else◌, option_map, unwrap_or, refl, sym, ap, ◌∙◌, arith}
use Rattle.std.proofs.lemmas.Nat.{pow_pos}
use Rattle.fir_bits.specs.Operators.{no_operand}
use Rattle.fir_bits.specs.working.Operators.{type_of}
use Rattle.fir_bits.specs.Values.{fitted}
use Rattle.fir_bits.specs.declared.types.NumTy.{NumTy}
use Rattle.fir_bits.specs.declared.values.Num.{Num}
use Rattle.fir_meaning.specs.working.Choices.{Live, last_all}
use Rattle.fir_meaning.specs.Values.{at_width, is_high, fit}
use Rattle.fir_meaning.specs.LeafTypes.{LeafType, number, number_type}
use Rattle.fir_meaning.specs.working.TermValues.{Holds, eval}
use Rattle.fir_meaning.specs.working.Terms.{Term, zeros}
use Rattle.fir_leaf.proofs.LiveStores.{stored_is_live}
use Rattle.fir_leaf.specs.working.ChoiceLaws.{fitted_at}
use Rattle.fir_leaf.specs.working.ValueChoices.{choice_of_all}
use Rattle.fir_leaf_types.specs.working.TypedBlocks.{MayGive}
use Rattle.fir_connect.specs.working.NetTerms.{NetTerm, choice, term_type}
use Rattle.fir_connect.specs.working.NetValues.{term_value}
use Rattle.fir_connect.specs.working.Lowered.{lowered, zero_of}
use Rattle.fir_connect.specs.working.LoweredLaws.{types_of}
use Rattle.fir_connect.specs.working.Drivers.{start}
use Rattle.fir_connect.specs.working.DriverLaws.{DriverIsWorth}
use Rattle.fir_connect.proofs.DriverChoices.{Measures, is_worth_all, stored_over}
use Rattle.fir_connect.proofs.FittedTwice.{fitted_again, fitted_below, fitted_zero}
use Rattle.fir_connect.proofs.GivenTerms.{GivenNumber, given_number, of_given}
use Rattle.fir_connect.proofs.LoweredTypes.{lowered_type}
use Rattle.fir_connect.proofs.LoweredValues.{worth}
use Rattle.fir_connect.proofs.TypedValues.{value_type}
use Rattle.fir_connect.proofs.TypedVectors.{vector}

-- a value at a greater width, and then at another
again : (a : Num) (signed : Bool) (v to : ℕ) → a.signed ≡ signed → a.value.width ≤ v → a.value.number < 2 ^ a.value.width
    → fitted signed v (at_width a v) to ≡ at_width a to
again a signed v to same wider below = rw (← same) (fitted_again a.signed a.value.width a.value.number v to below wider)

module _ (held : ℕ → LeafType) (numbers : ℕ → ℕ) (within : (y : ℕ) → numbers y < 2 ^ (types_of held y).width) (x : ℕ) (u : NumTy) (is : held x ≡ number u) where
  abbrev holds : Holds
  holds = types_of held

  abbrev value_of : NetTerm → Num
  value_of t = term_value holds numbers t

  -- the value is of the term's type, which has the signedness of the leaf
  record IsSound (t : NetTerm) : Type 0 where
    has_type : type_of (value_of t) ≡ term_type holds t
    kind : (term_type holds t).signed ≡ u.signed
    below : (value_of t).value.number < 2 ^ (value_of t).value.width

  abbrev measure : NetTerm → ℕ
  measure t = fit (value_of t) u

  width_is : (t : NetTerm) → IsSound t → (value_of t).value.width ≡ (term_type holds t).width
  width_is t s = ap (λ (z : NumTy). z.width) s.has_type

  signed_is : (t : NetTerm) → IsSound t → (value_of t).signed ≡ u.signed
  signed_is t s = ap (λ (z : NumTy). z.signed) s.has_type ∙ s.kind

  choice_sound : (c a b : NetTerm) → IsSound a → IsSound b → IsSound (choice holds c a b)
  choice_sound c a b first second = record { has_type = refl; kind = first.kind; below = by (is_high (value_of c ∷ [])) }
    where
      to : ℕ
      to = max (term_type holds a).width (term_type holds b).width

      by : (high : Bool) → (if high then at_width (value_of a) to else at_width (value_of b) to) < 2 ^ to
      by true = fitted_below (value_of a).signed (value_of a).value.width (value_of a).value.number to first.below
      by false = fitted_below (value_of b).signed (value_of b).value.width (value_of b).value.number to second.below

  choice_side : (c a b : NetTerm) → IsSound a → IsSound b
      → measure (choice holds c a b) ≡ (if is_high (value_of c ∷ []) then measure a else measure b)
  choice_side c a b first second = by (is_high (value_of c ∷ []))
    where
      to : ℕ
      to = max (term_type holds a).width (term_type holds b).width

      signed : Bool
      signed = (term_type holds a).signed

      by : (high : Bool)
          → fitted signed to (if high then at_width (value_of a) to else at_width (value_of b) to) u.width ≡ (if high then measure a else measure b)
      by true =
          let wide = width_is a first in
          again (value_of a) signed to u.width (signed_is a first ∙ sym first.kind) (omega arith) first.below
      by false =
          let wide = width_is b second in
          again (value_of b) signed to u.width (signed_is b second ∙ sym first.kind) (omega arith) second.below

  -- what a statement gives
  lowered_sound : (e : Term) → GivenNumber held u e → IsSound (lowered holds e)
  lowered_sound e g =
      let same = worth held numbers e g.data_type g.has in
      let own = lowered_type held e g.data_type g.has in
      record {
        has_type = ap type_of same ∙ value_type held numbers e g.data_type g.has ∙ sym own;
        kind = ap (λ (z : NumTy). z.signed) own ∙ g.kind;
        below = rw same (vector held numbers within e g.data_type g.has).below;
      }

  lowered_measure : (e : Term) → GivenNumber held u e → measure (lowered holds e) ≡ fit (eval holds numbers e) u
  lowered_measure e g = ap (λ v. fit v u) (worth held numbers e g.data_type g.has)

  holds_is : holds x ≡ u
  holds_is = ap number_type is

  zero_sound : IsSound (zero_of (holds x))
  zero_sound = record { has_type = refl; kind = ap (λ (z : NumTy). z.signed) holds_is; below = pow_pos (holds x).width }

  zero_measure : measure (zero_of (holds x)) ≡ fit no_operand u
  zero_measure = fitted_zero (holds x).signed (holds x).width u.width ∙ sym (fitted_zero false 0 u.width)

  number_given : (e : Term) → (e ≡ zeros → ⊥) → MayGive held e (held x) → GivenNumber held u e
  number_given e some may = given_number held e some u (rw is at may)

  measures : Measures held numbers x IsSound measure (λ e. fit (eval holds numbers e) u)
  measures = record {
    sound = choice_sound;
    side = choice_side;
    given_sound =
        of_given holds x (λ e. MayGive held e (held x)) (λ e t. IsSound t) zero_sound (λ e some may. lowered_sound e (number_given e some may));
    given_measure =
        of_given holds x (λ e. MayGive held e (held x)) (λ e t. measure t ≡ fit (eval holds numbers e) u) zero_measure
        (λ e some may. lowered_measure e (number_given e some may));
  }

  start_sound : (is_register : Bool) → IsSound (start holds is_register x)
  start_sound true = record { has_type = refl; kind = ap (λ (z : NumTy). z.signed) holds_is; below = within x }
  start_sound false = zero_sound

pub driver_is_worth : DriverIsWorth
driver_is_worth held depth numbers b x u is_register typed is within =
    let holds = types_of held in
    let first = start holds is_register x in
    let live = last_all (depth x) x b 0 (choice_of_all holds numbers x b) in
    let old = fit (term_value holds numbers first) u in
    let of_leaf = ap (λ (t : NumTy). option_map (λ (l : Live). fit (eval holds numbers l.given) t) live) (ap number_type is) in
    (is_worth_all held numbers x (IsSound held numbers within x u is) (measure held numbers within x u is) (λ e. fit (eval holds numbers e) u)
    (measures held numbers within x u is) (depth x) b 0 first typed (start_sound held numbers within x u is is_register)).worth
    ∙ stored_over (λ e. fit (eval holds numbers e) u) live old
    ∙ ap (λ o. unwrap_or o old) (sym of_leaf ∙ sym (stored_is_live ℕ holds depth numbers (fitted_at holds numbers) x b))
