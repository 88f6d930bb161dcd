-- The fault at which reading stops is the first one of the text, where the grammar's texts are those that are read to their end.
use Rattle.std.proofs.Common.{◌≡◌, ◌⊎◌, inl, inr, ℕ, ◌+◌, ◌≤◌, List, [], ◌∷◌, ◌++◌, Option, Some, None, Result, Ok, Err, refl, sym, ap, ◌∙◌, subst, append_assoc, arith, true, nat_eq}
use Rattle.std.proofs.lemmas.List.{append-nil}
use Rattle.std.proofs.lemmas.Bool.{eqb-true}
use Rattle.ver_ast.specs.Pieces.{PlacedToken, place_after}
use Rattle.ver_ast.specs.Tokens.{VToken, sign}
use Rattle.ver_parse.specs.Fronts.{IsText, IsFront, StopsAt}
use Rattle.ver_parse.specs.Depths.{IsShallow}
use Rattle.ver_parse.specs.TextFaults.{syntax_fault, depth_fault, ShowsUnexpected, IsTokenFault}
use Rattle.ver_ast.specs.declared.place.VPlace.{VPlace}
use Rattle.ver_parse.specs.working.Symbols.{Symbol}
use Rattle.ver_parse.specs.working.Reading.{Outcome, complete, ends, unexpected, too_deep, behind, at_end, read_on, with_next, follows, whole, is_brace}
use Rattle.ver_parse.proofs.Stopping.{Stopped, behind_all, at_token, at_brace, stopped, follows_none, follows_token, follows_on}

-- a text of the grammar is read to its end
abbrev pub Passes : Type 0
Passes = (ts : List PlacedToken) → IsText ts → follows whole ts ≡ Some []

-- and what is read so far begins such a text
abbrev pub Begins : Type 0
Begins = (front : List PlacedToken) (last : List Symbol) → follows whole front ≡ Some last → IsFront front

followed_by : (todo : List Symbol) (t : PlacedToken) (front back : List PlacedToken) (o : Option (List Symbol)) (last : List Symbol)
    → ((next : List Symbol) → follows next front ≡ Some last → follows next (front ++ back) ≡ follows last back)
    → with_next o (λ n. follows n front) ≡ Some last → follows todo (t ∷ front ++ back) ≡ with_next o (λ n. follows n (front ++ back)) → follows todo (t ∷ front ++ back) ≡ follows last back
followed_by todo t front back None last r h i = absurd (cc)
followed_by todo t front back (Some next) last r h i = i ∙ r next h

some_same : (a b : List Symbol) → Some a ≡ Some b → a ≡ b
some_same a b e = cc

followed : (front back : List PlacedToken) (todo last : List Symbol) → follows todo front ≡ Some last → follows todo (front ++ back) ≡ follows last back
followed [] back todo last e = ap (λ n. follows n back) (some_same todo last (sym (follows_none todo) ∙ e))
followed (t ∷ front) back todo last e =
    followed_by todo t front back (behind todo t.token) last (λ next h. followed front back next last h) (sym (follows_token todo t front) ∙ e) (follows_token todo t (front ++ back))

brace_sign : (b : ℕ) → nat_eq b 123 ≡ true → sign b ≡ sign 123
brace_sign b h = ap sign (eqb-true b 123 h)

brace_is : (t : VToken) → is_brace t ≡ true → t ≡ sign 123
brace_is (sign b) h = brace_sign b h
brace_is _ h = absurd (cc)

both_bounds : (n : ℕ) → 256 ≤ n → n ≤ 256 → n ≡ 256
both_bounds n h k = omega arith

-- where nothing is expected at a token, no text goes on with it
stops_token : Passes → (front : List PlacedToken) (t : PlacedToken) (last : List Symbol) → follows whole front ≡ Some last → behind last t.token ≡ None → IsFront (front ++ t ∷ []) → ⊥
stops_token passes front t last f b (more, x) =
    let read : follows whole (front ++ t ∷ more) ≡ Some [] = passes (front ++ t ∷ more) (subst IsText (append_assoc front (t ∷ []) more) x) in
    let none : follows whole (front ++ t ∷ more) ≡ None = followed front (t ∷ more) whole last f ∙ follows_token last t more ∙ ap (λ o. with_next o (λ n. follows n more)) b in
    absurd (cc)

pub unexpected_at : Passes → Begins → (ts : List PlacedToken) (p : VPlace) → Stopped 0 whole ts (unexpected p) → IsTokenFault ts (syntax_fault p)
unexpected_at passes begins ts p (behind_all [] f a l) = absurd (cc)
unexpected_at passes begins ts p (behind_all (s ∷ last) f a l) = absurd (cc)
unexpected_at passes begins ts p (at_token front t back last e f b a l) =
    let place : p ≡ t.place = cc in
    record {
      front = front;
      token = t;
      back = back;
      tokens_are = e;
      shows = inl (record { fault_is = ap syntax_fault place; begins = begins front last f; shallow = l; stops = stops_token passes front t last f b });
    }
unexpected_at passes begins ts p (at_brace front t back last next e f b i m a l) = absurd (cc)

pub too_deep_at : Begins → (ts : List PlacedToken) (p : VPlace) → Stopped 0 whole ts (too_deep p) → IsTokenFault ts (depth_fault p)
too_deep_at begins ts p (behind_all [] f a l) = absurd (cc)
too_deep_at begins ts p (behind_all (s ∷ last) f a l) = absurd (cc)
too_deep_at begins ts p (at_token front t back last e f b a l) = absurd (cc)
too_deep_at begins ts p (at_brace front t back last next e f b i m a l) =
    let place : p ≡ t.place = cc in
    record {
      front = front;
      token = t;
      back = back;
      tokens_are = e;
      shows = inr (record {
        fault_is = ap depth_fault place;
        begins = begins (front ++ t ∷ []) next (followed front (t ∷ []) whole last f ∙ follows_on last next t [] b ∙ follows_none next);
        shallow = l;
        is_brace = brace_is t.token i;
        full = both_bounds _ m (l front [] (sym (append-nil front)));
      });
    }

-- where the tokens end too early
pub ends_at : Passes → Begins → (end : VPlace) (ts : List PlacedToken) → Stopped 0 whole ts ends → ShowsUnexpected end ts [] (syntax_fault end)
ends_at passes begins end ts (behind_all [] f a l) = absurd (cc)
ends_at passes begins end ts (behind_all (s ∷ last) f a l) = record { fault_is = refl; begins = begins ts (s ∷ last) f; shallow = l; stops = λ x. let read = passes ts x in absurd (cc) }
ends_at passes begins end ts (at_token front t back last e f b a l) = absurd (cc)
ends_at passes begins end ts (at_brace front t back last next e f b i m a l) = absurd (cc)
