-- The lowered term of a term that has a type, over leaves that there are, is whole.
-- A read through indices is a choice among the leaves that they may pick, each of which holds the type.
use Rattle.std.proofs.Common.{◌≡◌, ℕ, ◌<◌, List, [], ◌∷◌, Option, Some, refl, sym, ap, ◌∙◌, subst, inl, inr}
use Rattle.fir_base.specs.Lists.{In}
use Rattle.fir_ast.specs.declared.place.Place.{Place}
use Rattle.fir_bits.specs.declared.types.NumTy.{NumTy}
use Rattle.fir_meaning.specs.LeafTypes.{LeafType, number, number_type}
use Rattle.fir_meaning.specs.working.TermReads.{reached}
use Rattle.fir_meaning.specs.working.TermValues.{Holds}
use Rattle.fir_meaning.specs.working.Terms.{Term, Picks, Terms, zeros, absent, literal, read, operation, mux, validif, no_picks, pick, no_terms, term}
use Rattle.fir_leaf.specs.working.LeafNumbers.{PicksWithin, TermWithin, TermsWithin}
use Rattle.fir_leaf_types.specs.working.TypedTerms.{AreIndices, HasType, HaveTypes}
use Rattle.fir_leaf_types.specs.working.TypedTerms as typed_term
use Rattle.fir_connect.specs.working.NetTerms.{NetTerm, term_type}
use Rattle.fir_connect.specs.working.Lowered.{Candidate, candidates, conditions, first_met, lowered, lowered_each, unpicked, without, zero_of}
use Rattle.fir_connect.specs.working.LoweredLaws.{types_of}
use Rattle.fir_connect.proofs.LoweredCandidates.{condition_in, element_of, number_in}
use Rattle.fir_connect.proofs.LoweredTypes.{lowered_type, lowered_types, unpicked_type}
use Rattle.fir_flat.specs.working.WholeTerms.{AreWhole, IsWhole}
use Rattle.fir_flat.proofs.WholeConditions.{IsCondition, IsIndex, IsSound, alike_choice, any_bit_tested, choice_whole, element_tested, type_narrow, unsigned}

module _ (held : ℕ → LeafType) (count : ℕ) where
  abbrev holds : Holds
  holds = types_of held

  -- a leaf that may be picked, with its condition
  record IsCandidate (t : NumTy) (c : Candidate) : Type 0 where
    tested : IsCondition held count c.condition
    inside : c.number < count
    holds_type : held c.number ≡ number t

  met_type : (t : NumTy) (other : NetTerm) (found : List Candidate) → term_type holds other ≡ t → term_type holds (first_met holds t other found) ≡ t
  met_type t other [] e = e
  met_type t other (c ∷ cs) e = refl

  met_whole : (t : NumTy) (other : NetTerm) (found : List Candidate) → ((c : Candidate) → In found c → IsCandidate t c) → IsWhole held count other
      → term_type holds other ≡ t → IsWhole held count (first_met holds t other found)
  met_whole t other [] each is e = is
  met_whole t other (c ∷ cs) each is e =
      let own = each c (inl refl) in (
        own.tested.whole,
        (own.inside, (t, own.holds_type)),
        met_whole t other cs (λ d m. each d (inr m)) is e,
        alike_choice t (term_type holds c.condition) (holds c.number) (term_type holds (first_met holds t other cs)) own.tested.has
            (ap number_type own.holds_type) (met_type t other cs e),
      )

  -- what holds of both holds of the one that is taken
  either : (P : NetTerm → Type 0) (found : List Candidate) (none some : NetTerm) → P none → P some → P (without holds found none some)
  either P [] none some first second = first
  either P (c ∷ cs) none some first second = second

  pub condition_of : (t : Term) → HasType held t typed_term.one_bit → IsWhole held count (lowered holds t) → IsCondition held count (lowered holds t)
  condition_of t h whole = record { whole = whole; has = lowered_type held t _ h }

  index_of : (i : Term) (width : ℕ) → HasType held i (number (unsigned width)) → IsWhole held count (lowered holds i) → IsIndex held count (lowered holds i)
  index_of i width h whole = record {
    whole = whole;
    width = width;
    has = lowered_type held i (unsigned width) h;
    narrow = type_narrow held i (unsigned width) h;
  }

  -- a read through indices, where their conditions are sound, and what hangs on them
  picked_whole : (b : ℕ) (ps : Picks) (p : Place) (i : Term) (n each : ℕ) (u : NumTy) → HasType held (read b (pick ps p i n each)) (number u)
      → TermWithin count (read b (pick ps p i n each))
      → ((c : Option NetTerm) → In (conditions holds (pick ps p i n each)) c → IsSound held count c)
      → IsWhole held count (unpicked holds (pick ps p i n each) (zero_of (holds b)))
      → IsWhole held count (lowered holds (read b (pick ps p i n each)))
  picked_whole b ps p i n each u h within sound is =
      let whole = pick ps p i n each in
      let t = holds b in
      let none = unpicked holds whole (zero_of t) in
      let xs = reached b whole in
      let cs = conditions holds whole in
      let found = candidates xs cs in
      met_whole t (without holds found none (zero_of t)) found
      (λ c m.
      let k = number_in xs cs c m in
      record {
        tested = sound (Some c.condition) (condition_in xs cs c m);
        inside = within.2 c.number k;
        holds_type = h.2 c.number k ∙ ap number (sym (ap number_type h.0));
      })
      (either (IsWhole held count) found none (zero_of t) is tt)
      (either (λ z. term_type holds z ≡ t) found none (zero_of t) (unpicked_type holds whole (zero_of t)) refl)

  mutual
    pub lowered_whole : (t : Term) (u : NumTy) → HasType held t (number u) → TermWithin count t → IsWhole held count (lowered holds t)
    lowered_whole zeros u h within = absurd h
    lowered_whole (absent t ps) u h within = unpicked_whole ps t h.2 within
    lowered_whole (literal l) u h within = tt
    lowered_whole (read b no_picks) u h within = (within.0, (u, h.0))
    lowered_whole (read b (pick ps p i n each)) u h within =
        picked_whole b ps p i n each u h within (conditions_sound (pick ps p i n each) h.3 within.1)
        (unpicked_whole (pick ps p i n each) (holds b) h.3 within.1)
    lowered_whole (operation op ts ks) u h within =
        (each_whole ts h.0 h.2 within, λ narrow. rw (lowered_types held ts h.0 h.2, h.3) refl)
    lowered_whole (mux c a b) u h within =
        choice_whole held count (lowered holds c) (lowered holds a) (lowered holds b)
        (condition_of c h.0 (lowered_whole c _ h.0 within.0)) (lowered_whole a h.1 h.3 within.1) (lowered_whole b h.2 h.4 within.2)
        (rw (lowered_type held a h.1 h.3, lowered_type held b h.2 h.4) (sym h.5))
    lowered_whole (validif c a) u h within =
        choice_whole held count (lowered holds c) (lowered holds a) (zero_of (term_type holds (lowered holds a)))
        (condition_of c h.0 (lowered_whole c _ h.0 within.0)) (lowered_whole a h.1 h.2 within.1) tt refl

    each_whole : (ts : Terms) (us : List NumTy) → HaveTypes held ts us → TermsWithin count ts → AreWhole held count (lowered_each holds ts)
    each_whole no_terms us h within = tt
    each_whole (term t ts) [] h within = absurd h
    each_whole (term t ts) (u ∷ us) h within = (lowered_whole t u h.0 within.0, each_whole ts us h.1 within.1)

    -- the conditions of the leaves that indices may pick
    pub conditions_sound : (ps : Picks) → AreIndices held ps → PicksWithin count ps → (c : Option NetTerm) → In (conditions holds ps) c
        → IsSound held count c
    conditions_sound no_picks h within c (inl e) = subst (IsSound held count) e tt
    conditions_sound no_picks h within c (inr m) = absurd m
    conditions_sound (pick ps p i n each) h within c m =
        let index = lowered holds i in
        let of = element_of index n (conditions holds ps) c m in
        subst (IsSound held count) of.is
        (element_tested held count of.earlier index of.number (conditions_sound ps h.0 within.0 of.earlier of.is_earlier)
        (index_of i h.1 h.2 (lowered_whole i (unsigned h.1) h.2 within.1)))

    -- zero that hangs on indices
    unpicked_whole : (ps : Picks) (t : NumTy) → AreIndices held ps → PicksWithin count ps → IsWhole held count (unpicked holds ps (zero_of t))
    unpicked_whole no_picks t h within = tt
    unpicked_whole (pick ps p i n each) t h within =
        choice_whole held count _ (unpicked holds ps (zero_of t)) (zero_of t)
        (any_bit_tested held count (lowered holds i) (index_of i h.1 h.2 (lowered_whole i (unsigned h.1) h.2 within.1)))
        (unpicked_whole ps t h.0 within.0) tt (ap (λ (z : NumTy). z.signed) (sym (unpicked_type holds ps (zero_of t))))
