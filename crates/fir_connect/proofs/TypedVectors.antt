-- Where each leaf has a number of its width, the value of a term that has a type is a number of its width, and no wider than 128 bits.
use Rattle.std.proofs.Common.{◌≡◌, ℕ, ◌^◌, ◌<◌, ◌≤◌, max, List, [], ◌∷◌, Bool, true, false, if◌then◌else◌, Option, Some, None, Result, IfOk, refl, sym, ◌∙◌, subst, arith}
use Rattle.std.specs.List.{AllByRecursion}
use Rattle.std.proofs.lemmas.List.Elements.{All-from_recursion}
use Rattle.std.proofs.lemmas.Nat.{pow_pos}
use Rattle.fir_bits.proofs.Below.{bits_of-below}
use Rattle.fir_bits.proofs.Typing.{typed-outcome}
use Rattle.fir_bits.specs.Integers.{of_sign}
use Rattle.fir_bits.specs.Operators.{applied, outcome}
use Rattle.fir_bits.specs.working.Operators.{type_of}
use Rattle.fir_bits.specs.working.Types.{typed}
use Rattle.fir_bits.specs.Values.{IsBitVector}
use Rattle.fir_bits.specs.declared.types.NumTy.{NumTy}
use Rattle.fir_bits.specs.declared.types.OpFault.{OpFault}
use Rattle.fir_bits.specs.declared.values.Num.{Num}
use Rattle.fir_meaning.specs.Values.{at_width, choice, is_high, value_or_zero, literal_type}
use Rattle.fir_meaning.specs.LeafTypes.{LeafType, number, number_type}
use Rattle.fir_meaning.specs.working.TermReads.{reached}
use Rattle.fir_meaning.specs.working.TermValues.{eval, eval_each, leaf_of, value_at}
use Rattle.fir_meaning.specs.working.Terms.{Picks, Term, Terms, zeros, absent, literal, read, operation, mux, validif, no_terms, term}
use Rattle.fir_leaf.proofs.PickedLeaves.{in_reached}
use Rattle.fir_leaf_types.specs.working.TypedTerms.{AreAlike, HasType, HaveTypes}
use Rattle.fir_connect.specs.working.LoweredLaws.{types_of}
use Rattle.fir_connect.proofs.FittedTwice.{fitted_below}
use Rattle.fir_connect.proofs.TypedValues.{value_types}

choice_vector : (high : Bool) (a b : Num) → IsBitVector a.value → IsBitVector b.value → IsBitVector (choice high a b).value
choice_vector high a b first second = record { narrow = let n = first.narrow in let m = second.narrow in omega arith; below = by high }
  where
    to : ℕ
    to = max a.value.width b.value.width

    by : (h : Bool) → (if h then at_width a to else at_width b to) < 2 ^ to
    by true = fitted_below a.signed a.value.width a.value.number to first.below
    by false = fitted_below b.signed b.value.width b.value.number to second.below

or_zero_vector : (high : Bool) (a : Num) → IsBitVector a.value → IsBitVector (value_or_zero high a).value
or_zero_vector true a is = is
or_zero_vector false a is = record { narrow = is.narrow; below = pow_pos a.value.width }

module _ (held : ℕ → LeafType) (numbers : ℕ → ℕ) (within : (y : ℕ) → numbers y < 2 ^ (types_of held y).width) where
  read_below : (b : ℕ) (ps : Picks) (t : LeafType) → held b ≡ t → AreAlike held (reached b ps) t → (o : Option ℕ) → leaf_of (types_of held) numbers b ps ≡ o
      → value_at o numbers < 2 ^ (types_of held b).width
  read_below b ps t e alike None is = pow_pos (types_of held b).width
  read_below b ps t e alike (Some k) is =
      let same : held k ≡ held b = alike k (in_reached (types_of held) numbers b k ps is) ∙ sym e in
      subst (λ z. numbers k < 2 ^ (number_type z).width) same (within k)

  mutual
    pub vector : (t : Term) (u : NumTy) → HasType held t (number u) → IsBitVector (eval (types_of held) numbers t).value
    vector zeros u h = absurd h
    vector (absent t ps) u h = record { narrow = rw (← h.0) h.1; below = pow_pos t.width }
    vector (literal l) u h =
        let e : literal_type l ≡ u = cc in
        record { narrow = subst (λ (z : NumTy). z.width ≤ 128) (sym e) h.1; below = bits_of-below (literal_type l).width (of_sign l.negative l.magnitude) }
    vector (read b ps) u h = record {
      narrow = rw h.0 h.1;
      below = read_below b ps (number u) h.0 h.2 (leaf_of (types_of held) numbers b ps) refl;
    }
    vector (operation op ts ks) u h =
        let vs = eval_each (types_of held) numbers ts in
        let has : IfOk (typed op h.0 ks) (λ t. IsBitVector (applied op vs ks) × (type_of (outcome op vs ks) ≡ t)) =
        subst (λ us. IfOk (typed op us ks) (λ t. IsBitVector (applied op vs ks) × (type_of (outcome op vs ks) ≡ t))) (value_types held numbers ts h.0 h.2)
        (typed-outcome op vs ks (All-from_recursion (λ v. IsBitVector v.value) vs (vectors ts h.0 h.2))) in
        (subst (λ (r : Result NumTy OpFault). IfOk r (λ t. IsBitVector (applied op vs ks) × (type_of (outcome op vs ks) ≡ t))) h.3 has).0
    vector (mux c a b) u h =
        let holds = types_of held in
        choice_vector (is_high (eval holds numbers c ∷ [])) (eval holds numbers a) (eval holds numbers b) (vector a h.1 h.3) (vector b h.2 h.4)
    vector (validif c a) u h =
        let holds = types_of held in
        or_zero_vector (is_high (eval holds numbers c ∷ [])) (eval holds numbers a) (vector a h.1 h.2)

    vectors : (ts : Terms) (us : List NumTy) → HaveTypes held ts us → AllByRecursion (λ v. IsBitVector v.value) (eval_each (types_of held) numbers ts)
    vectors no_terms [] h = tt
    vectors no_terms (u ∷ us) h = absurd h
    vectors (term t ts) [] h = absurd h
    vectors (term t ts) (u ∷ us) h = (vector t u h.0, vectors ts us h.1)
