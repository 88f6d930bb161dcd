-- The tokens of a text, or its first fault.
-- Blank lines and lines with a comment alone count for nothing. On every other line a tab before the first other byte is E02 at the tab, and the
-- spaces before that byte open or close levels there; then tokens follow to the line's end, which stands at its newline or carriage return, or at
-- the end of the text. Levels that are open at the end are closed there. Of E01 and E02 at one byte the fault is E01.
use Rattle.std.specs.Prelude.{ℕ, zero, suc, ◌+◌, ◌-◌, List, [], ◌∷◌, ◌++◌, length, take, drop, take_while, position, map, Bool, true, false, ◌||◌, nat_eq, if◌then◌else◌, Option, Some, None, Result, Ok, Err}
use Rattle.fir_ast.specs.declared.place.Place.{Place}
use Rattle.fir_ast.specs.declared.fault.FirFault.{FirFault}
use Rattle.fir_ast.specs.declared.fault.FirFault.TheVariants as fault
use Rattle.fir_lex.specs.Tokens.{Token, Placed, line_end, level_closes}
use Rattle.fir_lex.specs.working.Bytes.{next_place, place_behind, ends_line, line_end_length, is_blank}
use Rattle.fir_lex.specs.working.Front.{Front, found, passed, bad_byte, bad_literal, comment_length, front}
use Rattle.fir_lex.specs.working.Levels.{Move, move_to}

abbrev pub Lexed : Type 0
Lexed = Result (List Placed) FirFault

abbrev pub placed_at : Place → List Token → List Placed
placed_at p = map (λ t. record { token = t; place = p })

-- tokens at a place, before those behind
abbrev pub with_tokens : Place → List Token → Lexed → Lexed
with_tokens p ts (Ok rest) = Ok (placed_at p ts ++ rest)
with_tokens p ts (Err f) = Err f

-- how the text goes on behind the next byte: the open levels, whether a line begins, and how many bytes are taken already
abbrev pub Rest : Type 0
Rest = List ℕ → Bool → ℕ → Lexed

abbrev pub go_on : List ℕ → Place → List ℕ → Front → Rest → Lexed
go_on levels p bytes (found t n) rest = with_tokens p (t ∷ []) (rest levels false (n - 1))
go_on levels p bytes (passed n) rest = rest levels false (n - 1)
go_on levels p bytes (bad_byte k b) rest = Err (fault.Byte (place_behind p (take k bytes)) b)
go_on levels p bytes bad_literal rest = Err (fault.BadLiteral p)

-- within a line
abbrev pub in_line : List ℕ → Place → ℕ → List ℕ → Rest → Lexed
in_line levels p b bs rest =
    if ends_line (b ∷ bs) then with_tokens p (line_end ∷ []) (rest levels true (line_end_length (b ∷ bs) - 1))
    else go_on levels p (b ∷ bs) (front b bs) rest

-- behind its blanks a line counts for nothing
abbrev pub is_idle : List ℕ → Bool
is_idle [] = true
is_idle (b ∷ bs) = ends_line (b ∷ bs) || nat_eq b 59

-- a comment, where one stands, and the line's end
abbrev pub idle_length : List ℕ → ℕ
idle_length behind = let n = comment_length behind in n + line_end_length (drop n behind)

-- the indentation meets no open level
abbrev pub unmet : Place → ℕ → List ℕ → FirFault
unmet q n [] = fault.Indent q n
unmet q n (b ∷ bs) = by_front (front b bs)
  where
    by_front : Front → FirFault
    by_front (found t k) = fault.Indent q n
    by_front (passed k) = fault.Indent q n
    by_front (bad_byte zero c) = fault.Byte q c
    by_front (bad_byte (suc k) c) = fault.Indent q n
    by_front bad_literal = fault.Indent q n

-- behind n spaces, of which the first byte is the one at hand
abbrev pub behind_spaces : ℕ → Place → Place → ℕ → List ℕ → List ℕ → Option Move → Rest → Lexed
behind_spaces n p q b bs behind None rest = Err (unmet q n behind)
behind_spaces zero p q b bs behind (Some m) rest = with_tokens q m.tokens (in_line m.levels p b bs rest)
behind_spaces (suc n) p q b bs behind (Some m) rest = with_tokens q m.tokens (rest m.levels false n)

abbrev pub begin_counted : List ℕ → Place → ℕ → List ℕ → List ℕ → List ℕ → Option ℕ → Rest → Lexed
begin_counted levels p b bs blanks behind (Some k) rest = Err (fault.Tab (place_behind p (take k blanks)))
begin_counted levels p b bs blanks behind None rest =
    behind_spaces (length blanks) p (place_behind p blanks) b bs behind (move_to (length blanks) levels) rest

-- at the beginning of a line
abbrev pub begin_line : List ℕ → Place → ℕ → List ℕ → Rest → Lexed
begin_line levels p b bs rest =
    let blanks = take_while is_blank (b ∷ bs) in
    let behind = drop (length blanks) (b ∷ bs) in
    if is_idle behind then rest levels true (length blanks + idle_length behind - 1)
    else begin_counted levels p b bs blanks behind (position (λ c. nat_eq c 9) blanks) rest

abbrev pub closed_at : Place → List ℕ → List Placed
closed_at p = map (λ level. record { token = level_closes; place = p })

-- the open levels, whether a line begins, how many bytes are taken already, the place, the bytes
unfoldable pub lexed_from : List ℕ → Bool → ℕ → Place → List ℕ → Lexed
lexed_from levels true k p [] = Ok (closed_at p levels)
lexed_from levels false k p [] = Ok (record { token = line_end; place = p } ∷ closed_at p levels)
lexed_from levels start (suc k) p (b ∷ bs) = lexed_from levels start k (next_place p b) bs
lexed_from levels true zero p (b ∷ bs) = begin_line levels p b bs (λ ls start k. lexed_from ls start k (next_place p b) bs)
lexed_from levels false zero p (b ∷ bs) = in_line levels p b bs (λ ls start k. lexed_from ls start k (next_place p b) bs)

abbrev pub lexed : List ℕ → Lexed
lexed bytes = lexed_from [] true zero (record { line = 1; col = 1 }) bytes
