-- A candidate of a leaf is met exactly where the indices pick the leaf.
use Rattle.std.proofs.Common.{◌≡◌, ℕ, zero, suc, ◌+◌, ◌*◌, ◌<◌, List, [], ◌∷◌, ◌++◌, map, flat_map, Bool, true, false, ◌&&◌, ◌||◌, if◌then◌else◌, nat_eq, Option, Some, None, pos, refl, sym, ap, ◌∙◌, subst, inl, inr, ⊎_elim, arith}
use Rattle.std.proofs.lemmas.Bool.{and_from, and_parts, cases_Bool, cases_eq, eqb-true, eq-eqb, false_from_ne_true, lt-ltb, or_cases, or_left, or_right}
use Rattle.std.proofs.lemmas.Option.{same_Some}
use Rattle.fir_base.specs.Lists.{In}
use Rattle.fir_ast.specs.declared.place.Place.{Place}
use Rattle.fir_bits.specs.Operators.{integer_of}
use Rattle.fir_bits.specs.declared.types.NumTy.{NumTy}
use Rattle.fir_bits.specs.declared.values.Num.{Num}
use Rattle.fir_meaning.specs.LeafTypes.{LeafType}
use Rattle.fir_meaning.specs.working.TermReads.{multiples, reached}
use Rattle.fir_meaning.specs.working.TermValues.{Holds, eval, leaf_of, picked}
use Rattle.fir_meaning.specs.working.Terms.{Picks, Term, no_picks, pick}
use Rattle.fir_leaf.specs.working.ValueChoices.{hits}
use Rattle.fir_leaf_types.specs.working.TypedTerms.{AreIndices}
use Rattle.fir_connect.specs.working.NetTerms.{NetTerm}
use Rattle.fir_connect.specs.working.NetValues.{term_value}
use Rattle.fir_connect.specs.working.Lowered.{Candidate, candidates, conditions, lowered, numbers_from}
use Rattle.fir_connect.specs.working.LoweredLaws.{types_of}
use Rattle.fir_connect.proofs.LoweredCandidates.{conditions_are_some, element}
use Rattle.fir_connect.proofs.LoweredConditions.{conditions_are_truths, element_tells}
use Rattle.fir_connect.proofs.LoweredIndices.{Tells, first_of, is_met}
use Rattle.fir_connect.proofs.LoweredValues.{picked_leaf, worth}
use Rattle.fir_connect.proofs.TypedValues.{value_type}

unsigned : (a : Num) → a.signed ≡ false → integer_of a ≡ pos a.value.number
unsigned a e = rw e refl

module _ (holds : Holds) (numbers : ℕ → ℕ) where
  -- whether some candidate of a leaf is met
  abbrev pub any_met : ℕ → List Candidate → Bool
  any_met x [] = false
  any_met x (c ∷ cs) = (nat_eq c.number x && is_met holds numbers (Some c.condition)) || any_met x cs

  -- each leaf whose condition is met has a property
  abbrev EachMet : (ℕ → Type 0) → List ℕ → List (Option NetTerm) → Type 0
  EachMet P (x ∷ xs) (c ∷ cs) = (is_met holds numbers c ≡ true → P x) × EachMet P xs cs
  EachMet P _ _ = Unit {0}

  no_conditions : (P : ℕ → Type 0) (xs : List ℕ) → EachMet P xs []
  no_conditions P [] = tt
  no_conditions P (x ∷ xs) = tt

  -- elements, and then others
  met_elements : (P : ℕ → Type 0) (x n each k : ℕ) (f : ℕ → Option NetTerm) (xs : List ℕ) (cs : List (Option NetTerm))
      → ((d : ℕ) → d < n → is_met holds numbers (f (k + d)) ≡ true → P (x + d * each)) → EachMet P xs cs
      → EachMet P (multiples x n each ++ xs) (map f (numbers_from k n) ++ cs)
  unfolding multiples
  met_elements P x zero each k f xs cs here rest = rest
  met_elements P x (suc n) each k f xs cs here rest =
      let own : k + 0 ≡ k = omega arith in
      let first : x + 0 * each ≡ x = omega arith in (
        λ m. subst P first (here 0 (omega arith) (ap (λ j. is_met holds numbers (f j)) own ∙ m)),
        met_elements P (x + each) n each (suc k) f xs cs
            (λ d lt m.
            let next : k + suc d ≡ suc k + d = omega arith in
            let further : x + suc d * each ≡ x + each + d * each = grind arith in
            subst P further (here (suc d) (omega arith) (ap (λ j. is_met holds numbers (f j)) next ∙ m)))
            rest,
      )

  -- an element whose condition is met is the one that the index picks of what the earlier indices pick
  element_picked : (v n each x d : ℕ) (c : Option NetTerm) (f : ℕ → Option NetTerm) (o : Option ℕ) → Tells holds numbers v c f
      → (is_met holds numbers c ≡ true → o ≡ Some x) → d < n → is_met holds numbers (f (0 + d)) ≡ true → picked v n each o ≡ Some (x + d * each)
  element_picked v n each x d c f o tells earlier lt m =
      let first : 0 + d ≡ d = omega arith in
      let met : is_met holds numbers (f d) ≡ true = ap (λ j. is_met holds numbers (f j)) (sym first) ∙ m in
      ⊎_elim
      (λ (e : d ≡ v). ⊎_elim
      (λ (h : is_met holds numbers c ≡ true). let within = lt-ltb d n lt in rw (earlier h, ← e, within) refl)
      (λ (h : is_met holds numbers c ≡ false). let never = tells.unmet h d in absurd cc)
      (cases_Bool (is_met holds numbers c)))
      (λ (differs : d ≡ v → ⊥). let never = tells.others d differs in absurd cc)
      (cases_eq d v)

  met_all : (v n each : ℕ) (f : Option NetTerm → ℕ → Option NetTerm) (o : Option ℕ) (xs : List ℕ) (cs : List (Option NetTerm))
      → ((c : Option NetTerm) → In cs c → Tells holds numbers v c (f c)) → EachMet (λ x. o ≡ Some x) xs cs
      → EachMet (λ x. picked v n each o ≡ Some x) (flat_map (λ k. multiples k n each) xs) (flat_map (λ c. map (f c) (numbers_from 0 n)) cs)
  met_all v n each f o [] cs tells met = no_leaves (flat_map (λ c. map (f c) (numbers_from 0 n)) cs)
    where
      no_leaves : (ds : List (Option NetTerm)) → EachMet (λ x. picked v n each o ≡ Some x) [] ds
      no_leaves [] = tt
      no_leaves (d ∷ ds) = tt
  met_all v n each f o (x ∷ xs) [] tells met = no_conditions (λ x. picked v n each o ≡ Some x) (flat_map (λ k. multiples k n each) (x ∷ xs))
  met_all v n each f o (x ∷ xs) (c ∷ cs) tells met =
      met_elements (λ x. picked v n each o ≡ Some x) x n each 0 (f c) (flat_map (λ k. multiples k n each) xs) (flat_map (λ c. map (f c) (numbers_from 0 n)) cs)
      (λ d lt m. element_picked v n each x d c (f c) o (tells c (inl refl)) met.0 lt m)
      (met_all v n each f o xs cs (λ d m. tells d (inr m)) met.1)

  -- where no other leaf is met, the one of a candidate that is met is picked
  met_is : (x : ℕ) (o : Option ℕ) (xs : List ℕ) (cs : List (Option NetTerm)) → EachMet (λ y. o ≡ Some y) xs cs
      → any_met x (candidates xs cs) ≡ true → o ≡ Some x
  met_is x o [] cs each m = absurd cc
  met_is x o (y ∷ xs) [] each m = absurd cc
  met_is x o (y ∷ xs) (None ∷ cs) each m = absurd cc
  met_is x o (y ∷ xs) (Some c ∷ cs) each m =
      ⊎_elim
      (λ (h : (nat_eq y x && is_met holds numbers (Some c)) ≡ true).
      let parts = and_parts (nat_eq y x) (is_met holds numbers (Some c)) h in
      each.0 parts.1 ∙ ap Some (eqb-true y x parts.0))
      (λ (h : any_met x (candidates xs cs) ≡ true). met_is x o xs cs each.1 h)
      (or_cases (nat_eq y x && is_met holds numbers (Some c)) (any_met x (candidates xs cs)) m)

  -- the first leaf that is met has a candidate that is
  first_is_met : (x : ℕ) (xs : List ℕ) (cs : List (Option NetTerm)) → (In cs None → ⊥) → first_of holds numbers xs cs ≡ Some x
      → any_met x (candidates xs cs) ≡ true
  first_is_met x [] cs some e = absurd cc
  first_is_met x (y ∷ xs) [] some e = absurd cc
  first_is_met x (y ∷ xs) (None ∷ cs) some e = absurd (some (inl refl))
  first_is_met x (y ∷ xs) (Some c ∷ cs) some e = by (is_met holds numbers (Some c)) refl e (first_is_met x xs cs (λ m. some (inr m)))
    where
      by : (b : Bool) → is_met holds numbers (Some c) ≡ b → (if b then Some y else first_of holds numbers xs cs) ≡ Some x
          → (first_of holds numbers xs cs ≡ Some x → any_met x (candidates xs cs) ≡ true)
          → ((nat_eq y x && b) || any_met x (candidates xs cs)) ≡ true
      by true h e rest =
          let same : y ≡ x = same_Some y x e in
          or_left (nat_eq y x && true) (any_met x (candidates xs cs)) (and_from (nat_eq y x) true (eq-eqb y x same) refl)
      by false h e rest = or_right (nat_eq y x && false) (any_met x (candidates xs cs)) (rest e)

module _ (held : ℕ → LeafType) (numbers : ℕ → ℕ) where
  each_picked : (b : ℕ) (ps : Picks) → AreIndices held ps
      → EachMet (types_of held) numbers (λ x. leaf_of (types_of held) numbers b ps ≡ Some x) (reached b ps) (conditions (types_of held) ps)
  each_picked b no_picks h = (λ m. refl, tt)
  each_picked b (pick ps p i n each) h =
      let holds = types_of held in
      let v = (eval holds numbers i).value.number in
      let u : NumTy = record { signed = false; width = h.1 } in
      let index : integer_of (term_value holds numbers (lowered holds i)) ≡ pos v =
      rw (worth held numbers i u h.2) (unsigned (eval holds numbers i) (ap (λ (z : NumTy). z.signed) (value_type held numbers i u h.2))) in
      met_all holds numbers v n each (element (lowered holds i)) (leaf_of holds numbers b ps) (reached b ps) (conditions holds ps)
      (λ c m. element_tells holds numbers (lowered holds i) v index c (conditions_are_truths holds numbers ps c m))
      (each_picked b ps h.0)

  pub met_where_picked : (b : ℕ) (ps : Picks) (p : Place) (i : Term) (n each x : ℕ) → AreIndices held (pick ps p i n each)
      → any_met (types_of held) numbers x (candidates (reached b (pick ps p i n each)) (conditions (types_of held) (pick ps p i n each)))
      ≡ hits (leaf_of (types_of held) numbers b (pick ps p i n each)) x
  met_where_picked b ps p i n each x h = by (leaf_of holds numbers b whole) refl
    where
      holds : Holds
      holds = types_of held

      whole : Picks
      whole = pick ps p i n each

      met : Bool
      met = any_met holds numbers x (candidates (reached b whole) (conditions holds whole))

      is_picked : met ≡ true → leaf_of holds numbers b whole ≡ Some x
      is_picked = met_is holds numbers x (leaf_of holds numbers b whole) (reached b whole) (conditions holds whole) (each_picked b whole h)

      by : (o : Option ℕ) → leaf_of holds numbers b whole ≡ o → met ≡ hits o x
      by None e = false_from_ne_true met (λ m. let never = is_picked m in absurd cc)
      by (Some y) e =
          ⊎_elim
          (λ (s : y ≡ x).
          first_is_met holds numbers x (reached b whole) (conditions holds whole) (conditions_are_some holds ps p i n each)
          (picked_leaf held numbers b whole h ∙ e ∙ ap Some s)
          ∙ sym (eq-eqb y x s))
          (λ (differs : y ≡ x → ⊥).
          false_from_ne_true met (λ m. differs (same_Some y x (sym e ∙ is_picked m)))
          ∙ sym (false_from_ne_true (nat_eq y x) (λ s. differs (eqb-true y x s))))
          (cases_eq y x)
