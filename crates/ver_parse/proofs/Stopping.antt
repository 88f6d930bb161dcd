-- Where reading stops, and what is expected there.
use Rattle.std.proofs.Common.{◌≡◌, ℕ, ◌+◌, ◌≤◌, List, [], ◌∷◌, ◌++◌, fold, Bool, true, false, ◌&&◌, nat_le, if◌then◌else◌, Option, Some, None, refl, sym, ap, ◌∙◌, subst, append_assoc, arith}
use Rattle.std.proofs.lemmas.Bool.{leb-true}
use Rattle.ver_ast.specs.Tokens.{VToken}
use Rattle.ver_ast.specs.Pieces.{PlacedToken}
use Rattle.ver_parse.specs.Depths.{opened_by}
use Rattle.ver_parse.specs.working.Symbols.{Symbol}
use Rattle.ver_parse.specs.working.Reading.{Outcome, complete, unexpected, too_deep, behind, is_brace, at_end, go_on, read_on, with_next, follows}
use Rattle.ver_parse.proofs.Leading.{reads_token, reads_end}
use Rattle.ver_parse.proofs.Shallow.{opened_low}

abbrev pub opened_from : ℕ → List PlacedToken → ℕ
opened_from d ts = fold (λ n u. opened_by n u.token) d ts

-- nowhere in them are more than 256 open, from so many on
abbrev pub StaysLow : ℕ → List PlacedToken → Type 0
StaysLow d ts = (front back : List PlacedToken) → ts ≡ front ++ back → opened_from d front ≤ 256

-- reading stops so at the end, at a token, or at a brace
pub data Stopped (d : ℕ) (todo : List Symbol) (ts : List PlacedToken) (o : Outcome) : Type 0 where
  behind_all : (last : List Symbol) → follows todo ts ≡ Some last → o ≡ at_end last → StaysLow d ts → Stopped d todo ts o
  at_token : (front : List PlacedToken) (t : PlacedToken) (back : List PlacedToken) (last : List Symbol) → ts ≡ front ++ t ∷ back → follows todo front ≡ Some last
      → behind last t.token ≡ None → o ≡ unexpected t.place → StaysLow d front → Stopped d todo ts o
  at_brace : (front : List PlacedToken) (t : PlacedToken) (back : List PlacedToken) (last next : List Symbol) → ts ≡ front ++ t ∷ back → follows todo front ≡ Some last
      → behind last t.token ≡ Some next → is_brace t.token ≡ true → 256 ≤ opened_from d front → o ≡ too_deep t.place → StaysLow d front → Stopped d todo ts o

pub follows_none : (todo : List Symbol) → follows todo [] ≡ Some todo
unfolding follows
follows_none todo = refl

pub follows_token : (todo : List Symbol) (t : PlacedToken) (ts : List PlacedToken) → follows todo (t ∷ ts) ≡ with_next (behind todo t.token) (λ next. follows next ts)
unfolding follows
follows_token todo t ts = refl

pub follows_on : (todo next : List Symbol) (t : PlacedToken) (ts : List PlacedToken) → behind todo t.token ≡ Some next → follows todo (t ∷ ts) ≡ follows next ts
follows_on todo next t ts e = follows_token todo t ts ∙ ap (λ o. with_next o (λ n. follows n ts)) e

nothing_low : (d : ℕ) → d ≤ 256 → StaysLow d []
nothing_low d k [] back e = k
nothing_low d k (x ∷ front) back e = absurd (cc)

more_low : (d : ℕ) (t : PlacedToken) (ts : List PlacedToken) → d ≤ 256 → StaysLow (opened_by d t.token) ts → StaysLow d (t ∷ ts)
more_low d t ts k h [] back e = k
more_low d t ts k h (x ∷ front) back e =
    let first : t ≡ x = cc in
    let rest : ts ≡ front ++ back = cc in
    subst (λ (u : PlacedToken). opened_from (opened_by d u.token) front ≤ 256) first (h front back rest)

later : (d : ℕ) (todo next : List Symbol) (t : PlacedToken) (ts : List PlacedToken) (o : Outcome) → behind todo t.token ≡ Some next → d ≤ 256 → Stopped (opened_by d t.token) next ts o → Stopped d todo (t ∷ ts) o
later d todo next t ts o e k (behind_all last f a l) = behind_all last (follows_on todo next t ts e ∙ f) a (more_low d t ts k l)
later d todo next t ts o e k (at_token front u back last p f b a l) =
    at_token (t ∷ front) u back last (ap (λ us. t ∷ us) p) (follows_on todo next t front e ∙ f) b a (more_low d t front k l)
later d todo next t ts o e k (at_brace front u back last n p f b i m a l) =
    at_brace (t ∷ front) u back last n (ap (λ us. t ∷ us) p) (follows_on todo next t front e ∙ f) b i m a (more_low d t front k l)

abbrev Further : List PlacedToken → Outcome → Type 0
Further ts o = (d : ℕ) (todo : List Symbol) → read_on d todo ts ≡ o → d ≤ 256 → Stopped d todo ts o

by_room : (d : ℕ) (todo next : List Symbol) (t : PlacedToken) (ts : List PlacedToken) (o : Outcome) (x y : Bool) → Further ts o → behind todo t.token ≡ Some next → d ≤ 256 → is_brace t.token ≡ x
    → nat_le 256 d ≡ y → (if x && y then too_deep t.place else read_on (opened_by d t.token) next ts) ≡ o → Stopped d todo (t ∷ ts) o
by_room d todo next t ts o true true r e k i j h = at_brace [] t ts todo next refl (follows_none todo) e i (leb-true 256 d j) (sym h) (nothing_low d k)
by_room d todo next t ts o true false r e k i j h = later d todo next t ts o e k (r (opened_by d t.token) next h (opened_low d t.token (rw (i, j) refl) k))
by_room d todo next t ts o false y r e k i j h = later d todo next t ts o e k (r (opened_by d t.token) next h (opened_low d t.token (rw i refl) k))

by_next : (d : ℕ) (todo : List Symbol) (t : PlacedToken) (ts : List PlacedToken) (o : Outcome) (b : Option (List Symbol)) → Further ts o → behind todo t.token ≡ b → d ≤ 256
    → go_on b d t (λ next. read_on (opened_by d t.token) next ts) ≡ o → Stopped d todo (t ∷ ts) o
by_next d todo t ts o None r e k h = at_token [] t ts todo refl (follows_none todo) e (sym h) (nothing_low d k)
by_next d todo t ts o (Some next) r e k h = by_room d todo next t ts o (is_brace t.token) (nat_le 256 d) r e k refl refl h

pub stopped : (ts : List PlacedToken) (d : ℕ) (todo : List Symbol) (o : Outcome) → read_on d todo ts ≡ o → d ≤ 256 → Stopped d todo ts o
stopped [] d todo o h k = behind_all todo (follows_none todo) (sym h ∙ reads_end d todo) (nothing_low d k)
stopped (t ∷ ts) d todo o h k = by_next d todo t ts o (behind todo t.token) (λ e next i l. stopped ts e next o i l) refl k (sym (reads_token d todo t ts) ∙ h)
