-- The tokens of a text stand one behind the other, but for the ends of lines and the levels that open and close.
use Rattle.std.proofs.Common.{◌≡◌, ℕ, zero, suc, ◌+◌, ◌-◌, ◌<◌, List, [], ◌∷◌, ◌++◌, Bool, true, false, Option, Some, None, Ok, Err, drop, length, refl, sym, ap, ◌∙◌, subst, ◌⊎◌, inl, inr, arith}
use Rattle.std.specs.Prelude.{take_while, position, nat_eq, nat_lt, if◌then◌else◌, option_map}
use Rattle.std.specs.List.{AllByRecursion}
use Rattle.fir_ast.specs.declared.place.Place.{Place}
use Rattle.fir_lex.specs.Tokens.{Token, Placed, line_end}
use Rattle.fir_lex.specs.working.Bytes.{next_place, place_behind, ends_line, line_end_length, is_blank}
use Rattle.fir_lex.specs.working.Front.{Front, found, passed, bad_byte, bad_literal, front}
use Rattle.fir_lex.specs.working.Levels.{Move, closing, move_out, innermost, move_to}
use Rattle.fir_lex.specs.working.Lexed.{Lexed, placed_at, with_tokens, Rest, go_on, in_line, is_idle, idle_length, behind_spaces, begin_counted, begin_line, closed_at, lexed_from, lexed}
use Rattle.fir_parse.specs.Lexemes.{lexeme_of}
use Rattle.fir_parse.specs.Spells.{terminals}
use Rattle.fir_parse.specs.working.TreePlaces.{IsBefore, Rise}
use Rattle.fir_parse.specs.working.TokenPlaces.{has_place, with_place, token_places}

-- ---- the order of places

abbrev AtLeast : Place → Place → Type 0
AtLeast p q = IsBefore p q ⊎ (p ≡ q)

next_before : (p : Place) (b : ℕ) → IsBefore p (next_place p b)
next_before p b = by (nat_eq b 10)
  where
    by : (c : Bool) → IsBefore p (if c then record { line = p.line + 1; col = 1 } else record { line = p.line; col = p.col + 1 })
    by true = inl (omega arith)
    by false = inr (refl, omega arith)

before_before : (p q r : Place) → IsBefore p q → IsBefore q r → IsBefore p r
before_before p q r (inl h) (inl k) = inl (omega arith)
before_before p q r (inl h) (inr k) = let same : q.line ≡ r.line = k.0 in inl (omega (arith, same))
before_before p q r (inr h) (inl k) = let same : p.line ≡ q.line = h.0 in inl (omega (arith, same))
before_before p q r (inr h) (inr k) = inr (h.0 ∙ k.0, (let first : p.col < q.col = h.1 in let second : q.col < r.col = k.1 in omega arith))

before_at_least : (p q r : Place) → IsBefore p q → AtLeast q r → IsBefore p r
before_at_least p q r h (inl k) = before_before p q r h k
before_at_least p q r h (inr e) = subst (IsBefore p) e h

all_later : (p q : Place) (ps : List Place) → IsBefore p q → AllByRecursion (AtLeast q) ps → AllByRecursion (IsBefore p) ps
all_later p q [] h a = tt
all_later p q (r ∷ rs) h a = (before_at_least p q r h a.0, all_later p q rs h a.1)

all_at_least : (p : Place) (ps : List Place) → AllByRecursion (IsBefore p) ps → AllByRecursion (AtLeast p) ps
all_at_least p [] a = tt
all_at_least p (r ∷ rs) a = (inl a.0, all_at_least p rs a.1)

-- ---- tokens

-- they rise from a place on
abbrev FromOn : Place → List Place → Type 0
FromOn p ps = AllByRecursion (AtLeast p) ps × Rise ps

abbrev IsRising : Place → Lexed → Type 0
IsRising p (Ok ts) = FromOn p (token_places (terminals ts))
IsRising p (Err f) = Unit {0}

rising_if : (p : Place) (c : Bool) (u v : Lexed) → IsRising p u → IsRising p v → IsRising p (if c then u else v)
rising_if p true u v x y = x
rising_if p false u v x y = y

earlier : (p q : Place) (l : Lexed) → IsBefore p q → IsRising q l → IsRising p l
earlier p q (Ok ts) h x = (all_at_least p (token_places (terminals ts)) (all_later p q (token_places (terminals ts)) h x.0), x.1)
earlier p q (Err f) h x = tt

one_more : (p q : Place) (c : Bool) (ps : List Place) → IsBefore p q → FromOn q ps → FromOn p (with_place c p ps)
one_more p q true ps h x = let later = all_later p q ps h x.0 in ((inr refl, all_at_least p ps later), (later, x.1))
one_more p q false ps h x = (all_at_least p ps (all_later p q ps h x.0), x.1)

with_token : (p q : Place) (t : Token) (l : Lexed) → IsBefore p q → IsRising q l → IsRising p (with_tokens p (t ∷ []) l)
with_token p q t (Ok ts) h x = one_more p q (has_place (lexeme_of t)) (token_places (terminals ts)) h x
with_token p q t (Err f) h x = tt

-- levels
abbrev AreLevels : List Token → Type 0
AreLevels = AllByRecursion (λ t. has_place (lexeme_of t) ≡ false)

no_places : (q : Place) (ts : List Token) (rest : List Placed) → AreLevels ts → token_places (terminals (placed_at q ts ++ rest)) ≡ token_places (terminals rest)
no_places q [] rest h = refl
no_places q (t ∷ ts) rest h = ap (λ c. with_place c q (token_places (terminals (placed_at q ts ++ rest)))) h.0 ∙ no_places q ts rest h.1

with_levels : (p q : Place) (ts : List Token) (l : Lexed) → AreLevels ts → IsRising p l → IsRising p (with_tokens q ts l)
with_levels p q ts (Ok rest) h x = subst (FromOn p) (sym (no_places q ts rest h)) x
with_levels p q ts (Err f) h x = tt

closed_rising : (p q : Place) (levels : List ℕ) → FromOn p (token_places (terminals (closed_at q levels)))
closed_rising p q [] = (tt, tt)
closed_rising p q (l ∷ ls) = closed_rising p q ls

abbrev IsMoveOfLevels : Option Move → Type 0
IsMoveOfLevels None = Unit {0}
IsMoveOfLevels (Some m) = AreLevels m.tokens

move_if : (c : Bool) (u v : Option Move) → IsMoveOfLevels u → IsMoveOfLevels v → IsMoveOfLevels (if c then u else v)
move_if true u v x y = x
move_if false u v x y = y

closing_levels : (o : Option Move) → IsMoveOfLevels o → IsMoveOfLevels (option_map closing o)
closing_levels None h = tt
closing_levels (Some m) h = (refl, h)

move_out_levels : (n : ℕ) (levels : List ℕ) → IsMoveOfLevels (move_out n levels)
move_out_levels n [] = move_if (nat_eq n 0) _ _ tt tt
move_out_levels n (m ∷ ms) = move_if (nat_eq n m) _ _ tt (move_if (nat_lt n m) _ _ (closing_levels (move_out n ms) (move_out_levels n ms)) tt)

move_to_levels : (n : ℕ) (levels : List ℕ) → IsMoveOfLevels (move_to n levels)
move_to_levels n levels = move_if (nat_lt (innermost levels) n) _ _ (refl, tt) (move_out_levels n levels)

-- ---- a line

abbrev IsRestRising : Place → Rest → Type 0
IsRestRising q rest = (levels : List ℕ) (start : Bool) (k : ℕ) → IsRising q (rest levels start k)

go_on_rising : (levels : List ℕ) (p q : Place) (bytes : List ℕ) (f : Front) (rest : Rest) → IsBefore p q → IsRestRising q rest → IsRising p (go_on levels p bytes f rest)
go_on_rising levels p q bytes (found t n) rest b h = with_token p q t (rest levels false (n - 1)) b (h levels false (n - 1))
go_on_rising levels p q bytes (passed n) rest b h = earlier p q (rest levels false (n - 1)) b (h levels false (n - 1))
go_on_rising levels p q bytes (bad_byte k c) rest b h = tt
go_on_rising levels p q bytes bad_literal rest b h = tt

in_line_rising : (levels : List ℕ) (p q : Place) (b : ℕ) (bs : List ℕ) (rest : Rest) → IsBefore p q → IsRestRising q rest → IsRising p (in_line levels p b bs rest)
in_line_rising levels p q b bs rest e h =
    rising_if p (ends_line (b ∷ bs)) _ _ (with_token p q line_end (rest levels true (line_end_length (b ∷ bs) - 1)) e (h levels true (line_end_length (b ∷ bs) - 1)))
    (go_on_rising levels p q (b ∷ bs) (front b bs) rest e h)

behind_spaces_rising : (n : ℕ) (p q r : Place) (b : ℕ) (bs behind : List ℕ) (o : Option Move) (rest : Rest) → IsMoveOfLevels o → IsBefore p q → IsRestRising q rest → IsRising p (behind_spaces n p r b bs behind o rest)
behind_spaces_rising n p q r b bs behind None rest x e h = tt
behind_spaces_rising zero p q r b bs behind (Some m) rest x e h = with_levels p r m.tokens _ x (in_line_rising m.levels p q b bs rest e h)
behind_spaces_rising (suc n) p q r b bs behind (Some m) rest x e h = with_levels p r m.tokens _ x (earlier p q (rest m.levels false n) e (h m.levels false n))

begin_counted_rising : (levels : List ℕ) (p q : Place) (b : ℕ) (bs blanks behind : List ℕ) (o : Option ℕ) (rest : Rest) → IsBefore p q → IsRestRising q rest → IsRising p (begin_counted levels p b bs blanks behind o rest)
begin_counted_rising levels p q b bs blanks behind (Some k) rest e h = tt
begin_counted_rising levels p q b bs blanks behind None rest e h =
    behind_spaces_rising (length blanks) p q (place_behind p blanks) b bs behind (move_to (length blanks) levels) rest (move_to_levels (length blanks) levels) e h

begin_line_rising : (levels : List ℕ) (p q : Place) (b : ℕ) (bs : List ℕ) (rest : Rest) → IsBefore p q → IsRestRising q rest → IsRising p (begin_line levels p b bs rest)
begin_line_rising levels p q b bs rest e h =
    let blanks = take_while is_blank (b ∷ bs) in
    let behind = drop (length blanks) (b ∷ bs) in
    rising_if p (is_idle behind) _ _ (earlier p q (rest levels true (length blanks + idle_length behind - 1)) e (h levels true (length blanks + idle_length behind - 1)))
    (begin_counted_rising levels p q b bs blanks behind (position (λ c. nat_eq c 9) blanks) rest e h)

-- ---- a text

from_rising : (levels : List ℕ) (start : Bool) (k : ℕ) (p : Place) (bytes : List ℕ) → IsRising p (lexed_from levels start k p bytes)
unfolding lexed_from
from_rising levels true k p [] = closed_rising p p levels
from_rising levels false k p [] = closed_rising p p levels
from_rising levels start (suc k) p (b ∷ bs) = earlier p (next_place p b) (lexed_from levels start k (next_place p b) bs) (next_before p b) (from_rising levels start k (next_place p b) bs)
from_rising levels true zero p (b ∷ bs) =
    begin_line_rising levels p (next_place p b) b bs (λ ls start k. lexed_from ls start k (next_place p b) bs) (next_before p b) (λ ls start k. from_rising ls start k (next_place p b) bs)
from_rising levels false zero p (b ∷ bs) =
    in_line_rising levels p (next_place p b) b bs (λ ls start k. lexed_from ls start k (next_place p b) bs) (next_before p b) (λ ls start k. from_rising ls start k (next_place p b) bs)

pub tokens_rise : (bytes : List ℕ) (ts : List Placed) → lexed bytes ≡ Ok ts → Rise (token_places (terminals ts))
tokens_rise bytes ts e = let x : IsRising (record { line = 1; col = 1 }) (Ok ts) = subst (IsRising (record { line = 1; col = 1 })) e (from_rising [] true zero (record { line = 1; col = 1 }) bytes) in x.1
