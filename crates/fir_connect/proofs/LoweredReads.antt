-- A lowered term reads the leaves that the term reads.
use Rattle.std.proofs.Common.{◌≡◌, ◌↔◌, ⊎_elim, ℕ, List, [], ◌∷◌, ◌++◌, Option, Some, None, refl, ap, subst, inl, inr}
use Rattle.std.proofs.lemmas.List.{append-nil}
use Rattle.fir_base.specs.Lists.{In}
use Rattle.fir_base.proofs.Members.{in_left, in_right, in_either}
use Rattle.fir_bits.specs.declared.types.NumTy.{NumTy}
use Rattle.fir_meaning.specs.working.TermReads.{picks_read, reached, reads}
use Rattle.fir_meaning.specs.working.TermReads as over_reads
use Rattle.fir_meaning.specs.working.TermValues.{Holds}
use Rattle.fir_meaning.specs.working.Terms.{Term, Picks, Terms, zeros, absent, literal, read, operation, mux, validif, no_picks, pick, no_terms, term}
use Rattle.fir_connect.specs.working.NetTerms.{NetTerm}
use Rattle.fir_connect.specs.working.NetReads.{net_reads, each_read}
use Rattle.fir_connect.specs.working.Lowered.{Candidate, both, candidates, conditions, first_met, is_number, lowered, lowered_each, unpicked, without, zero_of}
use Rattle.fir_connect.specs.working.LoweredLaws.{LoweredReads}
use Rattle.fir_connect.proofs.LoweredCandidates.{as_many, candidate_of, condition_in, conditions_are_some, element_of, number_in, CandidateOf}

-- the same members
abbrev pub Same : List ℕ → List ℕ → Type 0
Same xs ys = (y : ℕ) → In xs y ↔ In ys y

itself : (xs : List ℕ) → Same xs xs
itself xs y = (λ m. m, λ m. m)

joined : (xs ys zs ws : List ℕ) → Same xs ys → Same zs ws → Same (xs ++ zs) (ys ++ ws)
joined xs ys zs ws first second y = (
  λ m. ⊎_elim (λ (n : In xs y). in_left ys ws y ((first y).0 n)) (λ (n : In zs y). in_right ys ws y ((second y).0 n)) (in_either xs zs y m),
  λ m. ⊎_elim (λ (n : In ys y). in_left xs zs y ((first y).1 n)) (λ (n : In ws y). in_right xs zs y ((second y).1 n)) (in_either ys ws y m),
)

turned : (xs ys zs ws : List ℕ) → Same xs ws → Same ys zs → Same (xs ++ ys) (zs ++ ws)
turned xs ys zs ws first second y = (
  λ m. ⊎_elim (λ (n : In xs y). in_right zs ws y ((first y).0 n)) (λ (n : In ys y). in_left zs ws y ((second y).0 n)) (in_either xs ys y m),
  λ m. ⊎_elim (λ (n : In zs y). in_right xs ys y ((second y).1 n)) (λ (n : In ws y). in_left xs ys y ((first y).1 n)) (in_either zs ws y m),
)

-- what a condition reads, if there is one
abbrev pub condition_reads : Option NetTerm → List ℕ
condition_reads None = []
condition_reads (Some c) = net_reads c

both_read : (earlier : Option NetTerm) (c : NetTerm) (xs ys : List ℕ) → Same (condition_reads earlier) xs → Same (net_reads c) ys
    → Same (net_reads (both earlier c)) (xs ++ ys)
both_read None c xs ys first second = joined [] xs (net_reads c) ys first second
both_read (Some earlier) c xs ys first second = rw (append-nil (net_reads c)) (joined (net_reads earlier) xs (net_reads c) ys first second)

module _ (holds : Holds) (t : NumTy) (other : NetTerm) where
  -- what the term over candidates reads: the other term, conditions and leaves
  met_from : (found : List Candidate) (y : ℕ) (P : Type 0) → (In (net_reads other) y → P) → ((c : Candidate) → In found c → In (net_reads c.condition) y → P)
      → ((c : Candidate) → In found c → c.number ≡ y → P) → In (net_reads (first_met holds t other found)) y → P
  met_from [] y P of_other of_condition of_leaf m = of_other m
  met_from (c ∷ cs) y P of_other of_condition of_leaf m =
      let later = net_reads (first_met holds t other cs) in
      ⊎_elim
      (λ (n : In (net_reads c.condition ++ c.number ∷ []) y). ⊎_elim (of_condition c (inl refl)) (one (of_leaf c (inl refl)))
      (in_either (net_reads c.condition) (c.number ∷ []) y n))
      (met_from cs y P of_other (λ d o. of_condition d (inr o)) (λ d o. of_leaf d (inr o)))
      (in_either (net_reads c.condition ++ c.number ∷ []) later y m)
    where
      one : (c.number ≡ y → P) → In (c.number ∷ []) y → P
      one f (inl e) = f e
      one f (inr m) = absurd m

  met_leaf : (found : List Candidate) (c : Candidate) → In found c → In (net_reads (first_met holds t other found)) c.number
  met_leaf (d ∷ found) c (inl e) =
      in_left (net_reads d.condition ++ d.number ∷ []) (net_reads (first_met holds t other found)) c.number
      (in_right (net_reads d.condition) (d.number ∷ []) c.number (inl (ap (λ (z : Candidate). z.number) e)))
  met_leaf (d ∷ found) c (inr m) =
      in_right (net_reads d.condition ++ d.number ∷ []) (net_reads (first_met holds t other found)) c.number (met_leaf found c m)
  met_leaf [] c m = absurd m

-- where each condition reads the same, and so does what stands in for them where there is none
module _ (holds : Holds) (t : NumTy) (none : NetTerm) (picked : List ℕ) (of_none : Same (net_reads none) picked) where
  met_condition : (found : List Candidate) → ((c : Candidate) → In found c → Same (net_reads c.condition) picked)
      → (y : ℕ) → In picked y → In (net_reads (first_met holds t (without holds found none (zero_of t)) found)) y
  met_condition [] each y m = (of_none y).1 m
  met_condition (c ∷ cs) each y m =
      in_left (net_reads c.condition ++ c.number ∷ []) (net_reads (first_met holds t (zero_of t) cs)) y
      (in_left (net_reads c.condition) (c.number ∷ []) y ((each c (inl refl) y).1 m))

  other_reads : (found : List Candidate) (y : ℕ) → In (net_reads (without holds found none (zero_of t))) y → In picked y
  other_reads [] y m = (of_none y).0 m
  other_reads (c ∷ cs) y m = absurd m

  met_reads : (found : List Candidate) (xs : List ℕ) → ((c : Candidate) → In found c → Same (net_reads c.condition) picked)
      → ((c : Candidate) → In found c → In xs c.number) → ((x : ℕ) → In xs x → CandidateOf found x)
      → Same (net_reads (first_met holds t (without holds found none (zero_of t)) found)) (picked ++ xs)
  met_reads found xs each number of_leaf y =
      let other = without holds found none (zero_of t) in
      let term_reads = In (net_reads (first_met holds t other found)) in (
        met_from holds t other found y (In (picked ++ xs) y) (λ m. in_left picked xs y (other_reads found y m))
            (λ c f m. in_left picked xs y ((each c f y).0 m)) (λ c f e. in_right picked xs y (subst (In xs) e (number c f))),
        λ m. ⊎_elim (met_condition found each y)
            (λ (x : In xs y). let of = of_leaf y x in subst term_reads of.of_leaf (met_leaf holds t other found of.candidate of.is_found))
            (in_either picked xs y m),
      )

module _ (holds : Holds) where
  mutual
    same_reads : (t : Term) → Same (net_reads (lowered holds t)) (reads t)
    same_reads zeros = itself []
    same_reads (absent t ps) = unpicked_reads ps (zero_of t) refl
    same_reads (literal l) = itself []
    same_reads (read b no_picks) = itself (b ∷ [])
    same_reads (read b (pick ps p i n each)) =
        let whole = pick ps p i n each in
        let xs = reached b whole in
        let cs = conditions holds whole in
        met_reads holds (holds b) (unpicked holds whole (zero_of (holds b))) (picks_read whole) (unpicked_reads (pick ps p i n each) (zero_of (holds b)) refl)
        (candidates xs cs) xs (λ c m. conditions_read (pick ps p i n each) (Some c.condition) (condition_in xs cs c m)) (number_in xs cs)
        (λ x. candidate_of xs cs x (as_many holds b whole) (conditions_are_some holds ps p i n each))
    same_reads (operation op ts ks) = same_each ts
    same_reads (mux c a b) =
        joined _ (reads c ++ reads a) _ (reads b) (joined _ (reads c) _ (reads a) (same_reads c) (same_reads a)) (same_reads b)
    same_reads (validif c a) =
        rw (append-nil (net_reads (lowered holds c) ++ net_reads (lowered holds a))) (joined _ (reads c) _ (reads a) (same_reads c) (same_reads a))

    same_each : (ts : Terms) → Same (each_read (lowered_each holds ts)) (over_reads.each_read ts)
    same_each no_terms = itself []
    same_each (term t ts) = joined _ (reads t) _ (over_reads.each_read ts) (same_reads t) (same_each ts)

    unpicked_reads : (ps : Picks) (z : NetTerm) → net_reads z ≡ [] → Same (net_reads (unpicked holds ps z)) (picks_read ps)
    unpicked_reads no_picks z none = rw none (itself [])
    unpicked_reads (pick ps p i n each) z none =
        rw (none, append-nil (net_reads (lowered holds i)), append-nil (net_reads (lowered holds i) ++ net_reads (unpicked holds ps z)))
        (turned _ _ (picks_read ps) (reads i) (same_reads i) (unpicked_reads ps z none))

    pub conditions_read : (ps : Picks) (c : Option NetTerm) → In (conditions holds ps) c → Same (condition_reads c) (picks_read ps)
    conditions_read no_picks c (inl e) = subst (λ o. Same (condition_reads o) []) e (itself [])
    conditions_read no_picks c (inr m) = absurd m
    conditions_read (pick ps p i n each) c m =
        let index = lowered holds i in
        let of = element_of index n (conditions holds ps) c m in
        let tested : Same (net_reads (is_number index of.number)) (reads i) = rw (append-nil (net_reads index)) (same_reads i) in
        subst (λ o. Same (condition_reads o) (picks_read (pick ps p i n each))) of.is
        (both_read of.earlier (is_number index of.number) (picks_read ps) (reads i) (conditions_read ps of.earlier of.is_earlier) tested)

pub lowered_reads : LoweredReads
lowered_reads holds t = same_reads holds t
