-- What a leaf goes on with through candidates.
use Rattle.std.proofs.Common.{◌≡◌, ℕ, List, [], ◌∷◌, ◌++◌, Bool, true, false, if◌then◌else◌, map, Option, Some, None, refl, sym, ap, ◌∙◌, nat_eq, arith, ⊎_elim}
use Rattle.std.proofs.lemmas.Bool.{cases_Bool}
use Rattle.fir_meaning.specs.LeafTypes.{LeafType, number_type}
use Rattle.fir_meaning.specs.working.TermReads.{is_among, reached}
use Rattle.fir_meaning.specs.working.TermValues.{Holds}
use Rattle.fir_meaning.specs.working.Terms.{Term, Picks, zeros, absent, literal, read, operation, mux, validif, no_picks, pick}
use Rattle.fir_leaf_types.specs.working.TypedTerms.{AreAlike, AreIndices}
use Rattle.fir_connect.specs.working.Drivers.{driven_by, given, through}
use Rattle.fir_connect.specs.working.Lowered.{Candidate, candidates, conditions, lowered, zero_of}
use Rattle.fir_connect.specs.working.LoweredLaws.{types_of}
use Rattle.fir_connect.specs.working.NetTerms.{NetTerm, choice}
use Rattle.fir_connect.proofs.AmongReached.{in_among}
use Rattle.fir_connect.proofs.LoweredTypes.{lowered_has_type}
use Rattle.fir_merge.specs.working.Made.{elements}
use Rattle.fir_merge.proofs.MadeTerms.{IsPicked, candidates_are, counted}
use Rattle.fir_drivers.specs.working.Walks.{counted_from, is_zeros}

-- the depth of the leaf tells nothing
through_same : (holds : Holds) (depth other x : ℕ) (cs : List Candidate) (e old : NetTerm) → through holds depth x cs e old ≡ through holds other x cs e old
through_same holds depth other x [] e old = refl
through_same holds depth other x (c ∷ cs) e old = through_same holds depth other x cs e (if nat_eq c.number x then choice holds c.condition e old else old)

-- one more candidate
pub through_push : (holds : Holds) (depth x : ℕ) (cs : List Candidate) (c : Candidate) (e old : NetTerm)
    → through holds depth x (cs ++ c ∷ []) e old
    ≡ (if nat_eq c.number x then choice holds c.condition e (through holds depth x cs e old) else through holds depth x cs e old)
through_push holds depth x [] c e old = refl
through_push holds depth x (d ∷ cs) c e old = through_push holds depth x cs c e (if nat_eq d.number x then choice holds d.condition e old else old)

-- a leaf that is none of them
pub through_none : (holds : Holds) (depth x : ℕ) (xs : List ℕ) (cs : List (Option NetTerm)) (e old : NetTerm) → is_among xs x ≡ false
    → through holds depth x (candidates xs cs) e old ≡ old
through_none holds depth x [] cs e old none = refl
through_none holds depth x (y ∷ xs) [] e old none = refl
through_none holds depth x (y ∷ xs) (None ∷ cs) e old none = refl
through_none holds depth x (y ∷ xs) (Some c ∷ cs) e old none =
    let apart : nat_eq y x ≡ false = grind arith in
    let others : is_among xs x ≡ false = grind arith in
    ap (λ (b : Bool). through holds depth x (candidates xs cs) e (if b then choice holds c e old else old)) apart
    ∙ through_none holds depth x xs cs e old others

counted_map : (b : ℕ) (cs : List Candidate) → map (counted_from b) cs ≡ counted b cs
counted_map b [] = refl
counted_map b (c ∷ cs) = ap (λ rest. counted_from b c ∷ rest) (counted_map b cs)

-- `is invalid` gives zero of the leaf, and all others the same to every leaf
pub given_zeros : (holds : Holds) (x : ℕ) (e : Term) → is_zeros e ≡ true → given holds x e ≡ zero_of (holds x)
given_zeros holds x zeros h = refl
given_zeros holds x (absent t ps) h = absurd cc
given_zeros holds x (literal l) h = absurd cc
given_zeros holds x (read b ps) h = absurd cc
given_zeros holds x (operation op ts ks) h = absurd cc
given_zeros holds x (mux c a b) h = absurd cc
given_zeros holds x (validif c a) h = absurd cc

pub given_lowered : (holds : Holds) (x : ℕ) (e : Term) → is_zeros e ≡ false → given holds x e ≡ lowered holds e
given_lowered holds x zeros h = absurd cc
given_lowered holds x (absent t ps) h = refl
given_lowered holds x (literal l) h = refl
given_lowered holds x (read b ps) h = refl
given_lowered holds x (operation op ts ks) h = refl
given_lowered holds x (mux c a b) h = refl
given_lowered holds x (validif c a) h = refl

given_alike : (holds : Holds) (x y : ℕ) (e : Term) → holds x ≡ holds y → given holds x e ≡ given holds y e
given_alike holds x y zeros h = ap zero_of h
given_alike holds x y (absent t ps) h = refl
given_alike holds x y (literal l) h = refl
given_alike holds x y (read b ps) h = refl
given_alike holds x y (operation op ts ks) h = refl
given_alike holds x y (mux c a b) h = refl
given_alike holds x y (validif c a) h = refl

module _ (held : ℕ → LeafType) (depth x b : ℕ) (e : Term) (old : NetTerm) where
  -- by the elements that the indices may pick
  pub driven_elements : (ps : Picks) → IsPicked ps → AreAlike held (reached b ps) (held b) → AreIndices held ps
      → through (types_of held) 0 x (map (counted_from b) (elements (types_of held) ps)) (given (types_of held) b e) old
      ≡ driven_by (types_of held) depth x b ps (given (types_of held) x e) old
  driven_elements no_picks picked alike indices = absurd picked
  driven_elements (pick ps p i n each) picked alike indices =
      let whole = pick ps p i n each in
      let found = candidates (reached b whole) (conditions (types_of held) whole) in
      let are : map (counted_from b) (elements (types_of held) whole) ≡ found =
      counted_map b (elements (types_of held) whole) ∙ sym (candidates_are held lowered_has_type b whole indices tt) in
      ap (λ (cs : List Candidate). through (types_of held) 0 x cs (given (types_of held) b e) old) are
      ∙ through_same (types_of held) 0 depth x found (given (types_of held) b e) old
      ∙ ⊎_elim
      (λ (h : is_among (reached b whole) x ≡ true).
      let same : types_of held x ≡ types_of held b = ap (λ t. number_type t) (alike x (in_among (reached b whole) x h)) in
      ap (λ (t : NetTerm). through (types_of held) depth x found t old) (sym (given_alike (types_of held) x b e same)))
      (λ (h : is_among (reached b whole) x ≡ false).
      through_none (types_of held) depth x (reached b whole) (conditions (types_of held) whole) (given (types_of held) b e) old h
      ∙ sym (through_none (types_of held) depth x (reached b whole) (conditions (types_of held) whole) (given (types_of held) x e) old h))
      (cases_Bool (is_among (reached b whole) x))
