-- A term for a clock is lowered to a leaf or a value where no index picks it, and else to a choice.
use Rattle.std.proofs.Common.{◌≡◌, ℕ, List, [], ◌∷◌, ◌++◌}
use Rattle.fir_base.specs.Lists.{In}
use Rattle.fir_ast.specs.declared.place.Place.{Place}
use Rattle.fir_bits.specs.declared.types.NumTy.{NumTy}
use Rattle.fir_meaning.specs.LeafTypes.{LeafType, a_clock, number}
use Rattle.fir_meaning.specs.working.Terms.{Term, absent, literal, mux, no_picks, operation, pick, read, validif, zeros}
use Rattle.fir_meaning.specs.working.TermReads.{reached}
use Rattle.fir_meaning.specs.working.TermValues.{Holds}
use Rattle.fir_leaf.specs.working.ClockFaults.{index_places, picking_places}
use Rattle.fir_leaf_types.specs.working.TypedBlocks.{MayGive}
use Rattle.fir_leaf_types.specs.working.TypedTerms.{HasType}
use Rattle.fir_connect.specs.working.Drivers.{given}
use Rattle.fir_connect.specs.working.Lowered.{Candidate, candidates, conditions, first_met, lowered, unpicked, without, zero_of}
use Rattle.fir_connect.specs.working.LoweredLaws.{types_of}
use Rattle.fir_connect.specs.working.NetTerms as net
use Rattle.fir_connect.specs.working.NetTerms.{NetTerm}
use Rattle.fir_connect.proofs.GivenTerms.{given_clock, of_given}
use Rattle.fir_flatten.specs.working.ClearClocks.{IsChosen, IsNoLeaf, StandsBehind}

-- a list with an element behind has one
pub ends_in : (ps : List Place) (p : Place) → ps ++ p ∷ [] ≡ [] → ⊥
ends_in [] p e = absurd cc
ends_in (q ∷ ps) p e = absurd cc

chosen_no_leaf : (t : NetTerm) → IsChosen t → IsNoLeaf t
chosen_no_leaf (net.value v) is = absurd is
chosen_no_leaf (net.leaf x) is = absurd is
chosen_no_leaf (net.operation op ts ks t) is = tt
chosen_no_leaf (net.mux c a b t) is = tt

met_chosen : (holds : Holds) (t : NumTy) (none z : NetTerm) (found : List Candidate) → IsChosen none
    → IsChosen (first_met holds t (without holds found none z) found)
met_chosen holds t none z [] is = is
met_chosen holds t none z (c ∷ cs) is = tt

-- behind an index
pub lowered_chosen : (holds : Holds) (t : Term) (q : Place) → In (picking_places t) q → IsChosen (lowered holds t)
lowered_chosen holds zeros q m = absurd m
lowered_chosen holds (absent t no_picks) q m = absurd m
lowered_chosen holds (absent t (pick ps p i n each)) q m = tt
lowered_chosen holds (literal l) q m = absurd m
lowered_chosen holds (read b no_picks) q m = absurd m
lowered_chosen holds (read b (pick ps p i n each)) q m =
    let whole = pick ps p i n each in
    met_chosen holds (holds b) (unpicked holds whole (zero_of (holds b))) (zero_of (holds b)) (candidates (reached b whole) (conditions holds whole)) tt
lowered_chosen holds (operation op ts ks) q m = absurd m
lowered_chosen holds (mux c a b) q m = absurd m
lowered_chosen holds (validif c a) q m = absurd m

pub lowered_no_leaf : (holds : Holds) (t : Term) (q : Place) → In (picking_places t) q → IsNoLeaf (lowered holds t)
lowered_no_leaf holds t q m = chosen_no_leaf (lowered holds t) (lowered_chosen holds t q m)

pub given_chosen : (holds : Holds) (x : ℕ) (t : Term) (q : Place) → In (picking_places t) q → IsChosen (given holds x t)
given_chosen holds x t q m =
    of_given holds x (λ e. In (picking_places e) q) (λ e g. In (picking_places e) q → IsChosen g) (λ n. absurd n)
    (λ e some n. lowered_chosen holds e q) t m m

module _ (held : ℕ → LeafType) where
  -- without indices
  pub lowered_clear : (t : Term) → HasType held t a_clock → picking_places t ≡ [] → IsChosen (lowered (types_of held) t) → ⊥
  lowered_clear zeros h e is = h
  lowered_clear (absent t no_picks) h e is = is
  lowered_clear (absent t (pick ps p i n each)) h e is = ends_in (index_places ps) p e
  lowered_clear (literal l) h e is = let never : a_clock ≡ number _ = h.0 in cc
  lowered_clear (read b no_picks) h e is = is
  lowered_clear (read b (pick ps p i n each)) h e is = ends_in (index_places ps) p e
  lowered_clear (operation op ts ks) h e is = let never : a_clock ≡ number h.1 = h.4 in cc
  lowered_clear (mux c a b) h e is = let never : a_clock ≡ number _ = h.6 in cc
  lowered_clear (validif c a) h e is = let never : a_clock ≡ number h.1 = h.3 in cc

  pub lowered_leaf : (t : Term) → HasType held t a_clock → StandsBehind t → picking_places t ≡ [] → IsNoLeaf (lowered (types_of held) t) → ⊥
  lowered_leaf zeros h k e is = h
  lowered_leaf (absent t no_picks) h k e is = absurd cc
  lowered_leaf (absent t (pick ps p i n each)) h k e is = ends_in (index_places ps) p e
  lowered_leaf (literal l) h k e is = let never : a_clock ≡ number _ = h.0 in cc
  lowered_leaf (read b no_picks) h k e is = is
  lowered_leaf (read b (pick ps p i n each)) h k e is = ends_in (index_places ps) p e
  lowered_leaf (operation op ts ks) h k e is = let never : a_clock ≡ number h.1 = h.4 in cc
  lowered_leaf (mux c a b) h k e is = let never : a_clock ≡ number _ = h.6 in cc
  lowered_leaf (validif c a) h k e is = let never : a_clock ≡ number h.1 = h.3 in cc

  pub given_clear : (x : ℕ) (t : Term) → MayGive held t a_clock → picking_places t ≡ [] → IsChosen (given (types_of held) x t) → ⊥
  given_clear x t may =
      of_given (types_of held) x (λ e. MayGive held e a_clock) (λ e g. picking_places e ≡ [] → IsChosen g → ⊥) (λ none is. is)
      (λ e some m. lowered_clear e (given_clock held e some m)) t may
