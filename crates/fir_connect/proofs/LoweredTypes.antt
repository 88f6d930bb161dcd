-- A lowered term has the type of the term.
use Rattle.std.proofs.Common.{◌≡◌, ℕ, max, List, [], ◌∷◌, refl, sym, ap, ◌∙◌, arith}
use Rattle.fir_bits.specs.declared.types.NumTy.{NumTy}
use Rattle.fir_meaning.specs.LeafTypes.{LeafType, number, number_type}
use Rattle.fir_meaning.specs.working.TermReads.{reached}
use Rattle.fir_meaning.specs.working.TermValues.{Holds}
use Rattle.fir_meaning.specs.Values.{literal_type}
use Rattle.fir_meaning.specs.working.Terms.{Term, Picks, Terms, zeros, absent, literal, read, operation, mux, validif, no_picks, pick, no_terms, term}
use Rattle.fir_leaf_types.specs.working.TypedTerms.{HasType, HaveTypes}
use Rattle.fir_connect.specs.working.NetTerms.{NetTerm, joined_type, term_type, term_types}
use Rattle.fir_connect.specs.working.Lowered.{Candidate, candidates, conditions, first_met, lowered, lowered_each, unpicked, without, zero_of}
use Rattle.fir_connect.specs.working.LoweredLaws.{LoweredHasType, types_of}

pub joined_itself : (t : NumTy) → joined_type t t ≡ t
joined_itself t = let e : max t.width t.width ≡ t.width = omega arith in ap (λ w. record { signed = t.signed; width = w }) e

pub unpicked_type : (holds : Holds) (ps : Picks) (z : NetTerm) → term_type holds (unpicked holds ps z) ≡ term_type holds z
unpicked_type holds no_picks z = refl
unpicked_type holds (pick ps p i n each) z = rw (unpicked_type holds ps z) (joined_itself (term_type holds z))

met_type : (holds : Holds) (t : NumTy) (none some : NetTerm) (found : List Candidate) → term_type holds none ≡ t
    → term_type holds (first_met holds t (without holds found none some) found) ≡ t
met_type holds t none some [] e = e
met_type holds t none some (c ∷ cs) e = refl

module _ (held : ℕ → LeafType) where
  mutual
    pub lowered_type : (t : Term) (u : NumTy) → HasType held t (number u) → term_type (types_of held) (lowered (types_of held) t) ≡ u
    lowered_type zeros u h = absurd h
    lowered_type (absent t ps) u h = unpicked_type (types_of held) ps (zero_of t) ∙ sym h.0
    lowered_type (literal l) u h = let e : literal_type l ≡ u = cc in e
    lowered_type (read b no_picks) u h = ap number_type h.0
    lowered_type (read b (pick ps p i n each)) u h =
        let whole = pick ps p i n each in
        let zero = zero_of (types_of held b) in
        met_type (types_of held) (types_of held b) (unpicked (types_of held) whole zero) zero (candidates (reached b whole) (conditions (types_of held) whole))
        (unpicked_type (types_of held) whole zero)
        ∙ ap number_type h.0
    lowered_type (operation op ts ks) u h = let e : h.1 ≡ u = cc in rw (lowered_types ts h.0 h.2, h.3) e
    lowered_type (mux c a b) u h =
        let e : record { signed = h.1.signed; width = max h.1.width h.2.width } ≡ u = cc in
        rw (lowered_type a h.1 h.3, lowered_type b h.2 h.4) e
    lowered_type (validif c a) u h = let e : h.1 ≡ u = cc in rw (lowered_type a h.1 h.2) (joined_itself h.1 ∙ e)

    pub lowered_types : (ts : Terms) (us : List NumTy) → HaveTypes held ts us → term_types (types_of held) (lowered_each (types_of held) ts) ≡ us
    lowered_types no_terms [] h = refl
    lowered_types no_terms (u ∷ us) h = absurd h
    lowered_types (term t ts) [] h = absurd h
    lowered_types (term t ts) (u ∷ us) h = rw (lowered_type t u h.0, lowered_types ts us h.1) refl

pub lowered_has_type : LoweredHasType
lowered_has_type held t u h some = lowered_type held t u h
