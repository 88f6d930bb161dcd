-- A lowered term is worth what the term is.
use Rattle.std.proofs.Common.{◌≡◌, ℕ, ◌+◌, ◌-◌, ◌^◌, max, List, [], ◌∷◌, Bool, true, false, ◌&&◌, if◌then◌else◌, Option, Some, None, pos, refl, sym, ap, ◌∙◌, inl, inr, arith}
use Rattle.std.proofs.lemmas.Bool.{le-leb}
use Rattle.fir_base.specs.Lists.{In}
use Rattle.fir_ast.specs.declared.place.Place.{Place}
use Rattle.fir_bits.specs.Operators.{integer_of, outcome}
use Rattle.fir_bits.specs.working.Operators.{type_of}
use Rattle.fir_bits.specs.Values.{fitted, is_negative}
use Rattle.fir_bits.specs.declared.types.NumTy.{NumTy}
use Rattle.fir_bits.specs.declared.values.Num.{Num}
use Rattle.fir_meaning.specs.Values.{at_width, is_high, number_of, value_or_zero}
use Rattle.fir_meaning.specs.Values as over_values
use Rattle.fir_meaning.specs.LeafTypes.{LeafType, number, number_type}
use Rattle.fir_meaning.specs.working.TermReads.{reached}
use Rattle.fir_meaning.specs.working.TermValues.{Holds, eval, eval_each, leaf_of, picked, value_at}
use Rattle.fir_meaning.specs.working.Terms.{Term, Picks, Terms, zeros, absent, literal, read, operation, mux, validif, no_picks, pick, no_terms, term}
use Rattle.fir_leaf_types.specs.working.TypedTerms.{AreAlike, AreIndices, HasType, HaveTypes}
use Rattle.fir_connect.specs.working.NetTerms.{NetTerm, joined_type}
use Rattle.fir_connect.specs.working.NetValues.{term_value, term_values}
use Rattle.fir_connect.specs.working.Lowered.{Candidate, candidates, conditions, first_met, lowered, lowered_each, unpicked, without, zero_of}
use Rattle.fir_connect.specs.working.LoweredLaws.{LoweredIsWorth, types_of}
use Rattle.fir_connect.proofs.LoweredCandidates.{conditions_are_some, element}
use Rattle.fir_connect.proofs.LoweredConditions.{conditions_are_truths, element_tells}
use Rattle.fir_connect.proofs.LoweredIndices.{first_is_picked, first_of}
use Rattle.fir_connect.proofs.LoweredTypes.{lowered_type, unpicked_type}
use Rattle.fir_connect.proofs.TypedValues.{value_type}

-- at its own width a number stays, however great
at_own_width : (signed : Bool) (w n : ℕ) → fitted signed w n w ≡ n
at_own_width signed w n = let wide = le-leb w w (omega arith) in rw wide (filled (is_negative w n) signed)
  where
    filled : (negative signed : Bool) → (if signed && negative then n + (2 ^ w - 2 ^ w) else n) ≡ n
    filled true true = omega arith
    filled false true = refl
    filled negative false = refl

-- choices at the types of what they choose between
choice_value : (high : Bool) (a b : Num) (t u : NumTy) → type_of a ≡ t → type_of b ≡ u
    → number_of (joined_type t u) (if high then at_width a (max t.width u.width) else at_width b (max t.width u.width)) ≡ over_values.choice high a b
choice_value high a b t u e f = rw (← e, ← f) refl

or_zero_value : (high : Bool) (a : Num) (t : NumTy) → type_of a ≡ t
    → number_of (joined_type t t) (if high then at_width a (max t.width t.width) else at_width (number_of t 0) (max t.width t.width)) ≡ value_or_zero high a
or_zero_value high a t e =
    let own : max a.value.width a.value.width ≡ a.value.width = omega arith in
    rw (← e, own, at_own_width a.signed a.value.width a.value.number, at_own_width a.signed a.value.width 0) refl

zero_value : (high : Bool) (a : Num) (s t : NumTy) → s ≡ t → a ≡ number_of t 0
    → number_of (joined_type s t) (if high then at_width a (max s.width t.width) else at_width (number_of t 0) (max s.width t.width)) ≡ number_of t 0
zero_value high a s t e f =
    let own : max t.width t.width ≡ t.width = omega arith in
    rw (e, f, own, at_own_width t.signed t.width 0) (either high)
  where
    either : (b : Bool) → number_of t (if b then 0 else 0) ≡ number_of t 0
    either true = refl
    either false = refl

unsigned : (a : Num) → a.signed ≡ false → integer_of a ≡ pos a.value.number
unsigned a e = rw e refl

module _ (holds : Holds) (numbers : ℕ → ℕ) where
  -- what hangs on indices that pick nothing is zero
  unpicked_value : (ps : Picks) (t : NumTy) → term_value holds numbers (unpicked holds ps (zero_of t)) ≡ number_of t 0
  unpicked_value no_picks t = refl
  unpicked_value (pick ps p i n each) t = zero_value _ _ _ t (unpicked_type holds ps (zero_of t)) (unpicked_value ps t)

  without_value : (found : List Candidate) (none some : NetTerm) (v : Num) → term_value holds numbers none ≡ v → term_value holds numbers some ≡ v
      → term_value holds numbers (without holds found none some) ≡ v
  without_value [] none some v e f = e
  without_value (c ∷ cs) none some v e f = f

  -- the first leaf whose condition is met, else zero
  met_value : (t : NumTy) (other : NetTerm) (xs : List ℕ) (cs : List (Option NetTerm)) → (In cs None → ⊥) → ((x : ℕ) → In xs x → holds x ≡ t)
      → term_value holds numbers other ≡ number_of t 0
      → term_value holds numbers (first_met holds t other (candidates xs cs)) ≡ number_of t (value_at (first_of holds numbers xs cs) numbers)
  met_value t other [] cs some alike zero = zero
  met_value t other (x ∷ xs) [] some alike zero = zero
  met_value t other (x ∷ xs) (None ∷ cs) some alike zero = absurd (some (inl refl))
  met_value t other (x ∷ xs) (Some c ∷ cs) some alike zero =
      rw (alike x (inl refl), met_value t other xs cs (λ m. some (inr m)) (λ y m. alike y (inr m)) zero)
      (go (is_high (term_value holds numbers c ∷ [])) (first_of holds numbers xs cs))
    where
      go : (b : Bool) (o : Option ℕ)
          → number_of t (if b then at_width (number_of t (numbers x)) t.width else at_width (number_of t (value_at o numbers)) t.width)
          ≡ number_of t (value_at (if b then Some x else o) numbers)
      go true o = ap (number_of t) (at_own_width t.signed t.width (numbers x))
      go false o = ap (number_of t) (at_own_width t.signed t.width (value_at o numbers))

module _ (held : ℕ → LeafType) (numbers : ℕ → ℕ) where
  -- a read through indices, where the conditions pick the leaf that these pick
  through_value : (b : ℕ) (ps : Picks) (p : Place) (i : Term) (n each : ℕ) (t : LeafType) → held b ≡ t → AreAlike held (reached b (pick ps p i n each)) t
      → first_of (types_of held) numbers (reached b (pick ps p i n each)) (conditions (types_of held) (pick ps p i n each))
      ≡ leaf_of (types_of held) numbers b (pick ps p i n each)
      → term_value (types_of held) numbers (lowered (types_of held) (read b (pick ps p i n each))) ≡ eval (types_of held) numbers (read b (pick ps p i n each))
  through_value b ps p i n each t e alike is_leaf =
      let holds = types_of held in
      let whole = pick ps p i n each in
      let xs = reached b whole in
      let cs = conditions holds whole in
      let zero = zero_of (holds b) in
      let none = unpicked holds whole zero in
      met_value holds numbers (holds b) (without holds (candidates xs cs) none zero) xs cs (conditions_are_some holds ps p i n each)
      (λ x m. ap number_type (alike x m ∙ sym e))
      (without_value holds numbers (candidates xs cs) none zero (number_of (holds b) 0) (unpicked_value holds numbers whole (holds b)) refl)
      ∙ ap (λ o. number_of (holds b) (value_at o numbers)) is_leaf

  mutual
    pub worth : (t : Term) (u : NumTy) → HasType held t (number u)
        → term_value (types_of held) numbers (lowered (types_of held) t) ≡ eval (types_of held) numbers t
    worth zeros u h = refl
    worth (absent t ps) u h = unpicked_value (types_of held) numbers ps t
    worth (literal l) u h = refl
    worth (read b no_picks) u h = refl
    worth (read b (pick ps p i n each)) u h = through_value b ps p i n each (number u) h.0 h.2 (picked_leaf b (pick ps p i n each) h.3)
    worth (operation op ts ks) u h = ap (λ vs. outcome op vs ks) (each_worth ts h.0 h.2)
    worth (mux c a b) u h =
        rw (worth c _ h.0, worth a h.1 h.3, worth b h.2 h.4, lowered_type held a h.1 h.3, lowered_type held b h.2 h.4)
        (choice_value _ _ _ h.1 h.2 (value_type held numbers a h.1 h.3) (value_type held numbers b h.2 h.4))
    worth (validif c a) u h =
        rw (worth c _ h.0, worth a h.1 h.2, lowered_type held a h.1 h.2) (or_zero_value _ _ h.1 (value_type held numbers a h.1 h.2))

    each_worth : (ts : Terms) (us : List NumTy) → HaveTypes held ts us
        → term_values (types_of held) numbers (lowered_each (types_of held) ts) ≡ eval_each (types_of held) numbers ts
    each_worth no_terms [] h = refl
    each_worth no_terms (u ∷ us) h = absurd h
    each_worth (term t ts) [] h = absurd h
    each_worth (term t ts) (u ∷ us) h = rw (worth t u h.0, each_worth ts us h.1) refl

    -- the first leaf whose condition is met is the one that the indices pick
    pub picked_leaf : (b : ℕ) (ps : Picks) → AreIndices held ps
        → first_of (types_of held) numbers (reached b ps) (conditions (types_of held) ps) ≡ leaf_of (types_of held) numbers b ps
    picked_leaf b no_picks h = refl
    picked_leaf b (pick ps p i n each) h =
        let holds = types_of held in
        let v = (eval holds numbers i).value.number in
        let u : NumTy = record { signed = false; width = h.1 } in
        let index : integer_of (term_value holds numbers (lowered holds i)) ≡ pos v =
        rw (worth i u h.2) (unsigned (eval holds numbers i) (ap (λ (z : NumTy). z.signed) (value_type held numbers i u h.2))) in
        first_is_picked holds numbers v n each (element (lowered holds i)) (reached b ps) (conditions holds ps)
        (λ c m. element_tells holds numbers (lowered holds i) v index c (conditions_are_truths holds numbers ps c m))
        ∙ ap (picked v n each) (picked_leaf b ps h.0)

pub lowered_is_worth : LoweredIsWorth
lowered_is_worth held numbers t u h = worth held numbers t u h
