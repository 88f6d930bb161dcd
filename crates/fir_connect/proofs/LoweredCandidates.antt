-- The candidates of a read through indices: each has a leaf that the indices may pick and a condition, and each such leaf has one.
use Rattle.std.proofs.Common.{◌≡◌, ℕ, zero, suc, ◌+◌, List, [], ◌∷◌, length, length-append, map, flat_map, Option, Some, None, refl, ap, ◌∙◌, inl, inr, arith}
use Rattle.std.proofs.lemmas.List.{length-map}
use Rattle.fir_base.specs.Lists.{In}
use Rattle.fir_base.proofs.Members.{in_map_from, in_flat_map_from}
use Rattle.fir_ast.specs.declared.place.Place.{Place}
use Rattle.fir_meaning.specs.working.TermReads.{multiples, reached}
use Rattle.fir_meaning.specs.working.TermValues.{Holds}
use Rattle.fir_meaning.specs.working.Terms.{Term, Picks, no_picks, pick}
use Rattle.fir_connect.specs.working.NetTerms.{NetTerm}
use Rattle.fir_connect.specs.working.Lowered.{Candidate, both, candidates, conditions, is_number, lowered, numbers_from}

-- a candidate is one of the leaves, and has one of the conditions
pub number_in : (xs : List ℕ) (cs : List (Option NetTerm)) (c : Candidate) → In (candidates xs cs) c → In xs c.number
number_in (x ∷ xs) (Some d ∷ cs) c (inl e) = inl (ap (λ (z : Candidate). z.number) e)
number_in (x ∷ xs) (Some d ∷ cs) c (inr m) = inr (number_in xs cs c m)
number_in (x ∷ xs) (None ∷ cs) c m = absurd m
number_in (x ∷ xs) [] c m = absurd m
number_in [] cs c m = absurd m

pub condition_in : (xs : List ℕ) (cs : List (Option NetTerm)) (c : Candidate) → In (candidates xs cs) c → In cs (Some c.condition)
condition_in (x ∷ xs) (Some d ∷ cs) c (inl e) = inl (ap (λ (z : Candidate). Some z.condition) e)
condition_in (x ∷ xs) (Some d ∷ cs) c (inr m) = inr (condition_in xs cs c m)
condition_in (x ∷ xs) (None ∷ cs) c m = absurd m
condition_in (x ∷ xs) [] c m = absurd m
condition_in [] cs c m = absurd m

-- the candidate of a leaf
pub record CandidateOf (found : List Candidate) (x : ℕ) : Type 0 where
  pub candidate : Candidate
  pub is_found : In found candidate
  pub of_leaf : candidate.number ≡ x

-- each leaf has one where there are as many conditions, and each is some
pub candidate_of : (xs : List ℕ) (cs : List (Option NetTerm)) (x : ℕ) → length xs ≡ length cs → (In cs None → ⊥) → In xs x
    → CandidateOf (candidates xs cs) x
candidate_of [] cs x long some m = absurd m
candidate_of (y ∷ xs) [] x long some m = cc
candidate_of (y ∷ xs) (None ∷ cs) x long some m = absurd (some (inl refl))
candidate_of (y ∷ xs) (Some c ∷ cs) x long some (inl e) = record { candidate = record { number = y; condition = c }; is_found = inl refl; of_leaf = e }
candidate_of (y ∷ xs) (Some c ∷ cs) x long some (inr m) =
    let r = candidate_of xs cs x (omega (arith, long)) (λ n. some (inr n)) m in
    record { candidate = r.candidate; is_found = inr r.is_found; of_leaf = r.of_leaf }

length_numbers : (k n : ℕ) → length (numbers_from k n) ≡ n
length_numbers k zero = refl
length_numbers k (suc n) = ap suc (length_numbers (suc k) n)

length_multiples : (b n each : ℕ) → length (multiples b n each) ≡ n
unfolding multiples
length_multiples b zero each = refl
length_multiples b (suc n) each = ap suc (length_multiples (b + each) n each)

-- of as many elements, n of each are as many
same_lengths : {A B C D : Type 0} → (f : A → List C) (g : B → List D) (n : ℕ) (xs : List A) (ys : List B)
    → ((x : A) → length (f x) ≡ n) → ((y : B) → length (g y) ≡ n) → length xs ≡ length ys → length (flat_map f xs) ≡ length (flat_map g ys)
same_lengths f g n [] [] first second long = refl
same_lengths f g n [] (y ∷ ys) first second long = cc
same_lengths f g n (x ∷ xs) [] first second long = cc
same_lengths f g n (x ∷ xs) (y ∷ ys) first second long =
    let rest = same_lengths f g n xs ys first second (omega (arith, long)) in
    omega (arith, length-append (f x) (flat_map f xs), length-append (g y) (flat_map g ys), first x, second y, rest)

-- the condition of an element behind an earlier one, and those of all elements
abbrev pub element : NetTerm → Option NetTerm → ℕ → Option NetTerm
element i earlier k = Some (both earlier (is_number i k))

abbrev pub elements : NetTerm → ℕ → Option NetTerm → List (Option NetTerm)
elements i n earlier = map (element i earlier) (numbers_from 0 n)

-- the element whose condition it is
pub record ElementOf (i : NetTerm) (cs : List (Option NetTerm)) (c : Option NetTerm) : Type 0 where
  pub earlier : Option NetTerm
  pub is_earlier : In cs earlier
  pub number : ℕ
  pub is : element i earlier number ≡ c

pub element_of : (i : NetTerm) (n : ℕ) (cs : List (Option NetTerm)) (c : Option NetTerm) → In (flat_map (elements i n) cs) c → ElementOf i cs c
element_of i n cs c m =
    let r = in_flat_map_from (elements i n) cs c m in
    let s = in_map_from (element i r.0) (numbers_from 0 n) c r.2 in
    record { earlier = r.0; is_earlier = r.1; number = s.0; is = s.2 }

module _ (holds : Holds) where
  -- there is a condition for each leaf
  pub as_many : (b : ℕ) (ps : Picks) → length (reached b ps) ≡ length (conditions holds ps)
  as_many b no_picks = refl
  as_many b (pick ps p i n each) =
      let index = lowered holds i in
      same_lengths (λ k. multiples k n each) (elements index n) n (reached b ps) (conditions holds ps)
      (λ k. length_multiples k n each) (λ earlier. length-map (numbers_from 0 n) (element index earlier) ∙ length_numbers 0 n) (as_many b ps)

  -- each is some where there is an index
  pub conditions_are_some : (ps : Picks) (p : Place) (i : Term) (n each : ℕ) → In (conditions holds (pick ps p i n each)) None → ⊥
  conditions_are_some ps p i n each m =
      let of = element_of (lowered holds i) n (conditions holds ps) None m in
      let never : element (lowered holds i) of.earlier of.number ≡ None = of.is in
      cc
