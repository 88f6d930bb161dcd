-- A lowered term gives the clock that the term gives.
use Rattle.std.proofs.Common.{◌≡◌, ℕ, List, [], ◌∷◌, Bool, true, false, if◌then◌else◌, Option, Some, None, refl, ap, ◌∙◌, inl, inr}
use Rattle.fir_base.specs.Lists.{In}
use Rattle.fir_bits.specs.declared.types.NumTy.{NumTy}
use Rattle.fir_meaning.specs.Values.{is_high}
use Rattle.fir_meaning.specs.working.TermReads.{reached}
use Rattle.fir_meaning.specs.working.TermValues.{Holds, clock_at}
use Rattle.fir_meaning.specs.working.Terms.{Picks, zeros, absent, literal, read, operation, mux, validif, no_picks, pick}
use Rattle.fir_connect.specs.working.NetTerms.{NetTerm}
use Rattle.fir_connect.specs.working.NetValues.{term_clock, term_value}
use Rattle.fir_connect.specs.working.Lowered.{Candidate, candidates, conditions, first_met, unpicked, without, zero_of}
use Rattle.fir_connect.specs.working.LoweredLaws.{LoweredClocks, types_of}
use Rattle.fir_connect.proofs.LoweredCandidates.{conditions_are_some}
use Rattle.fir_connect.proofs.LoweredIndices.{first_of}
use Rattle.fir_connect.proofs.LoweredValues.{picked_leaf}

module _ (holds : Holds) (numbers : ℕ → ℕ) (clocks : ℕ → Option ℕ) where
  -- what hangs on indices that pick nothing gives none
  unpicked_clock : (ps : Picks) (t : NumTy) → term_clock holds numbers clocks (unpicked holds ps (zero_of t)) ≡ None
  unpicked_clock no_picks t = refl
  unpicked_clock (pick ps p i n each) t = rw (unpicked_clock ps t) (either _ None)
    where
      either : (b : Bool) (o : Option ℕ) → (if b then o else o) ≡ o
      either true o = refl
      either false o = refl

  without_clock : (found : List Candidate) (none : NetTerm) (t : NumTy) → term_clock holds numbers clocks none ≡ None
      → term_clock holds numbers clocks (without holds found none (zero_of t)) ≡ None
  without_clock [] none t e = e
  without_clock (c ∷ cs) none t e = refl

  -- that of the first leaf whose condition is met, else none
  met_clock : (t : NumTy) (other : NetTerm) (xs : List ℕ) (cs : List (Option NetTerm)) → (In cs None → ⊥) → term_clock holds numbers clocks other ≡ None
      → term_clock holds numbers clocks (first_met holds t other (candidates xs cs)) ≡ clock_at (first_of holds numbers xs cs) clocks
  met_clock t other [] cs some none = none
  met_clock t other (x ∷ xs) [] some none = none
  met_clock t other (x ∷ xs) (None ∷ cs) some none = absurd (some (inl refl))
  met_clock t other (x ∷ xs) (Some c ∷ cs) some none =
      rw (met_clock t other xs cs (λ m. some (inr m)) none) (go (is_high (term_value holds numbers c ∷ [])) (first_of holds numbers xs cs))
    where
      go : (b : Bool) (o : Option ℕ) → (if b then clocks x else clock_at o clocks) ≡ clock_at (if b then Some x else o) clocks
      go true o = refl
      go false o = refl

pub lowered_clocks : LoweredClocks
lowered_clocks held numbers clocks zeros h = refl
lowered_clocks held numbers clocks (absent t ps) h = unpicked_clock (types_of held) numbers clocks ps t
lowered_clocks held numbers clocks (literal l) h = refl
lowered_clocks held numbers clocks (read b no_picks) h = refl
lowered_clocks held numbers clocks (read b (pick ps p i n each)) h =
    let holds = types_of held in
    let whole = pick ps p i n each in
    let xs = reached b whole in
    let cs = conditions holds whole in
    let none = unpicked holds whole (zero_of (holds b)) in
    met_clock holds numbers clocks (holds b) (without holds (candidates xs cs) none (zero_of (holds b))) xs cs (conditions_are_some holds ps p i n each)
    (without_clock holds numbers clocks (candidates xs cs) none (holds b) (unpicked_clock holds numbers clocks whole (holds b)))
    ∙ ap (λ o. clock_at o clocks) (picked_leaf held numbers b whole h.3)
lowered_clocks held numbers clocks (operation op ts ks) h = refl
lowered_clocks held numbers clocks (mux c a b) h = cc
lowered_clocks held numbers clocks (validif c a) h = cc
