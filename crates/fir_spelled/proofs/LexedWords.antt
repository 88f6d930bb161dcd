-- Each word among the tokens of a text is spelled as one.
use Rattle.std.proofs.Common.{◌≡◌, ℕ, zero, suc, ◌+◌, ◌-◌, List, [], ◌∷◌, ◌++◌, Bool, true, false, Option, Some, None, Ok, Err, drop, length, subst}
use Rattle.std.specs.Prelude.{take_while, position, nat_eq, nat_lt, if◌then◌else◌, option_map}
use Rattle.std.specs.List.{AllByRecursion}
use Rattle.fir_ast.specs.declared.place.Place.{Place}
use Rattle.fir_lex.specs.Tokens.{Token, Placed, line_end}
use Rattle.fir_lex.specs.working.Bytes.{next_place, place_behind, ends_line, line_end_length, is_blank}
use Rattle.fir_lex.specs.working.Front.{Front, found, passed, bad_byte, bad_literal, front}
use Rattle.fir_lex.specs.working.Levels.{Move, closing, move_out, innermost, move_to}
use Rattle.fir_lex.specs.working.Lexed.{Lexed, placed_at, with_tokens, Rest, go_on, in_line, is_idle, idle_length, behind_spaces, begin_counted, begin_line, closed_at, lexed_from, lexed}
use Rattle.fir_parse.specs.Lexemes.{lexeme_of}
use Rattle.fir_parse.specs.Spells.{terminals}
use Rattle.fir_spelled.proofs.WordPieces.{IsSpelledWell, AreSpelledWell}
use Rattle.fir_spelled.proofs.FrontWords.{IsFrontWell, front_well}

abbrev AreWell : List Token → Type 0
AreWell = AllByRecursion (λ t. IsSpelledWell (lexeme_of t))

abbrev IsLexedWell : Lexed → Type 0
IsLexedWell (Ok ts) = AreSpelledWell (terminals ts)
IsLexedWell (Err f) = Unit {0}

lexed_if : (c : Bool) (u v : Lexed) → IsLexedWell u → IsLexedWell v → IsLexedWell (if c then u else v)
lexed_if true u v x y = x
lexed_if false u v x y = y

placed_before : (p : Place) (ts : List Token) (rest : List Placed) → AreWell ts → AreSpelledWell (terminals rest) → AreSpelledWell (terminals (placed_at p ts ++ rest))
placed_before p [] rest x h = h
placed_before p (t ∷ ts) rest x h = (x.0, placed_before p ts rest x.1 h)

with_tokens_well : (p : Place) (ts : List Token) (l : Lexed) → AreWell ts → IsLexedWell l → IsLexedWell (with_tokens p ts l)
with_tokens_well p ts (Ok rest) x h = placed_before p ts rest x h
with_tokens_well p ts (Err f) x h = tt

closed_well : (p : Place) (levels : List ℕ) → AreSpelledWell (terminals (closed_at p levels))
closed_well p [] = tt
closed_well p (l ∷ ls) = (tt, closed_well p ls)

-- ---- the levels that a line opens or closes

abbrev IsMoveWell : Option Move → Type 0
IsMoveWell None = Unit {0}
IsMoveWell (Some m) = AreWell m.tokens

move_if : (c : Bool) (u v : Option Move) → IsMoveWell u → IsMoveWell v → IsMoveWell (if c then u else v)
move_if true u v x y = x
move_if false u v x y = y

closing_well : (o : Option Move) → IsMoveWell o → IsMoveWell (option_map closing o)
closing_well None h = tt
closing_well (Some m) h = (tt, h)

move_out_well : (n : ℕ) (levels : List ℕ) → IsMoveWell (move_out n levels)
move_out_well n [] = move_if (nat_eq n 0) _ _ tt tt
move_out_well n (m ∷ ms) = move_if (nat_eq n m) _ _ tt (move_if (nat_lt n m) _ _ (closing_well (move_out n ms) (move_out_well n ms)) tt)

move_to_well : (n : ℕ) (levels : List ℕ) → IsMoveWell (move_to n levels)
move_to_well n levels = move_if (nat_lt (innermost levels) n) _ _ (tt, tt) (move_out_well n levels)

-- ---- a line

abbrev IsRestWell : Rest → Type 0
IsRestWell rest = (levels : List ℕ) (start : Bool) (k : ℕ) → IsLexedWell (rest levels start k)

go_on_well : (levels : List ℕ) (p : Place) (bytes : List ℕ) (f : Front) (rest : Rest) → IsFrontWell f → IsRestWell rest → IsLexedWell (go_on levels p bytes f rest)
go_on_well levels p bytes (found t n) rest x h = with_tokens_well p (t ∷ []) (rest levels false (n - 1)) (x, tt) (h levels false (n - 1))
go_on_well levels p bytes (passed n) rest x h = h levels false (n - 1)
go_on_well levels p bytes (bad_byte k b) rest x h = tt
go_on_well levels p bytes bad_literal rest x h = tt

in_line_well : (levels : List ℕ) (p : Place) (b : ℕ) (bs : List ℕ) (rest : Rest) → IsRestWell rest → IsLexedWell (in_line levels p b bs rest)
in_line_well levels p b bs rest h =
    lexed_if (ends_line (b ∷ bs)) _ _ (with_tokens_well p (line_end ∷ []) (rest levels true (line_end_length (b ∷ bs) - 1)) (tt, tt) (h levels true (line_end_length (b ∷ bs) - 1))) (go_on_well levels p (b ∷ bs) (front b bs) rest (front_well b bs) h)

behind_spaces_well : (n : ℕ) (p q : Place) (b : ℕ) (bs behind : List ℕ) (o : Option Move) (rest : Rest) → IsMoveWell o → IsRestWell rest → IsLexedWell (behind_spaces n p q b bs behind o rest)
behind_spaces_well n p q b bs behind None rest x h = tt
behind_spaces_well zero p q b bs behind (Some m) rest x h = with_tokens_well q m.tokens _ x (in_line_well m.levels p b bs rest h)
behind_spaces_well (suc n) p q b bs behind (Some m) rest x h = with_tokens_well q m.tokens _ x (h m.levels false n)

begin_counted_well : (levels : List ℕ) (p : Place) (b : ℕ) (bs blanks behind : List ℕ) (o : Option ℕ) (rest : Rest) → IsRestWell rest → IsLexedWell (begin_counted levels p b bs blanks behind o rest)
begin_counted_well levels p b bs blanks behind (Some k) rest h = tt
begin_counted_well levels p b bs blanks behind None rest h =
    behind_spaces_well (length blanks) p (place_behind p blanks) b bs behind (move_to (length blanks) levels) rest (move_to_well (length blanks) levels) h

begin_line_well : (levels : List ℕ) (p : Place) (b : ℕ) (bs : List ℕ) (rest : Rest) → IsRestWell rest → IsLexedWell (begin_line levels p b bs rest)
begin_line_well levels p b bs rest h =
    let blanks = take_while is_blank (b ∷ bs) in
    let behind = drop (length blanks) (b ∷ bs) in
    lexed_if (is_idle behind) _ _ (h levels true (length blanks + idle_length behind - 1)) (begin_counted_well levels p b bs blanks behind (position (λ c. nat_eq c 9) blanks) rest h)

-- ---- a text

lexed_from_well : (levels : List ℕ) (start : Bool) (k : ℕ) (p : Place) (bytes : List ℕ) → IsLexedWell (lexed_from levels start k p bytes)
unfolding lexed_from
lexed_from_well levels true k p [] = closed_well p levels
lexed_from_well levels false k p [] = (tt, closed_well p levels)
lexed_from_well levels start (suc k) p (b ∷ bs) = lexed_from_well levels start k (next_place p b) bs
lexed_from_well levels true zero p (b ∷ bs) =
    begin_line_well levels p b bs (λ ls start k. lexed_from ls start k (next_place p b) bs) (λ ls start k. lexed_from_well ls start k (next_place p b) bs)
lexed_from_well levels false zero p (b ∷ bs) =
    in_line_well levels p b bs (λ ls start k. lexed_from ls start k (next_place p b) bs) (λ ls start k. lexed_from_well ls start k (next_place p b) bs)

pub tokens_well : (bytes : List ℕ) (ts : List Placed) → lexed bytes ≡ Ok ts → AreSpelledWell (terminals ts)
tokens_well bytes ts e = subst IsLexedWell e (lexed_from_well [] true zero (record { line = 1; col = 1 }) bytes)
