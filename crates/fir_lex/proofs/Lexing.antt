-- The lexer's steps: each keeps what the text has in all.
use Rattle.std.proofs.Common.{◌≡◌, ℕ, zero, ◌+◌, ◌<◌, ◌≤◌, Bool, true, false, List, [], ◌∷◌, ◌++◌, length, get_or, take, drop, reverse, Option, Some, None, refl, sym, ap, ◌∙◌, append_assoc, arith}
use Rattle.std.specs.Prelude.{Ok, Err, position, take_while, nat_eq}
use Rattle.std.proofs.lemmas.List.{drop-drop, length-drop}
use Rattle.fir_ast.specs.declared.place.Place.{Place}
use Rattle.fir_ast.specs.declared.fault.FirFault.{FirFault}
use Rattle.fir_ast.specs.declared.fault.FirFault.TheVariants as fault
use Rattle.fir_lex.specs.declared.lexer.Lexer.{Lexer}
use Rattle.fir_lex.specs.Tokens.{Token, Placed, line_end}
use Rattle.fir_lex.specs.working.Bytes.{place_behind, ends_line, line_end_length, is_blank}
use Rattle.fir_lex.specs.working.Front.{Front, found, passed, bad_byte, bad_literal, front}
use Rattle.fir_lex.specs.working.Levels.{Move, move_to}
use Rattle.fir_lex.specs.working.Lexed.{Lexed, placed_at, with_tokens, is_idle, idle_length, unmet, closed_at, lexed_from, lexed}
use Rattle.fir_lex.specs.working.Steps.{tokens_in, in_front, moved, MovesTo}
use Rattle.fir_lex.specs.working.Ways.{rest_of, left, Passes}
use Rattle.fir_lex.proofs.Moves.{closed_reversed}
use Rattle.fir_lex.proofs.Way.{joins, way_ends, front_at, way_found, way_passed, way_bad_byte, way_bad_literal, way_idle, blanks_of, blanks_are, way_tab, way_unmet, way_met, front_first}

abbrev pub state : List Placed → List ℕ → Bool → Place → List ℕ → Lexed
state ts ls start p bytes = in_front ts (lexed_from ls start zero p bytes)

same_state : (f : List Placed → List ℕ → Bool → Place → List ℕ → Lexed) (ts us : List Placed) (ls ms : List ℕ) (s t : Bool) (p q : Place) (xs ys : List ℕ) → ts ≡ us → ls ≡ ms → s ≡ t → p ≡ q → xs ≡ ys → f ts ls s p xs ≡ f us ms t q ys
same_state f ts us ls ms s t p q xs ys a b c d e = cc

-- behind bytes that are passed
arrives : (ts : List Placed) (start : Bool) (old new : Lexer) (k : ℕ) → new.draft.text.items ≡ old.draft.text.items → Passes old k new → tokens_in new.draft ≡ ts → new.begins ≡ start → state ts (reverse old.levels.items) start (place_behind old.cursor.place (take k (rest_of old))) (drop k (rest_of old)) ≡ left new
arrives ts start old new k text passes tokens begins =
    let rests : drop k (rest_of old) ≡ rest_of new =
    drop-drop k old.cursor.index old.draft.text.items ∙ ap (λ (n : ℕ). drop n old.draft.text.items) (sym passes.index) ∙ ap (λ (t : List ℕ). drop new.cursor.index t) (sym text) in
    same_state state ts (tokens_in new.draft) (reverse old.levels.items) (reverse new.levels.items) start new.begins _ new.cursor.place (drop k (rest_of old)) (rest_of new) (sym tokens) (ap (λ v. reverse v.items) (sym passes.levels)) (sym begins) (sym passes.place) rests

starts : (start : Bool) (old : Lexer) → old.begins ≡ start → left old ≡ state (tokens_in old.draft) (reverse old.levels.items) start old.cursor.place (rest_of old)
starts start old begins = ap (λ (s : Bool). state (tokens_in old.draft) (reverse old.levels.items) s old.cursor.place (rest_of old)) begins

some_left : (old : Lexer) → old.cursor.index < length old.draft.text.items → 0 < length (rest_of old)
some_left old lt = omega (arith, length-drop old.cursor.index old.draft.text.items)

-- ---- within a line

pub line_end_left : (old new : Lexer) → old.begins ≡ false → old.cursor.index < length old.draft.text.items → ends_line (rest_of old) ≡ true → new.draft.text.items ≡ old.draft.text.items → Passes old (line_end_length (rest_of old)) new → tokens_in new.draft ≡ tokens_in old.draft ++ record { token = line_end; place = old.cursor.place } ∷ [] → new.begins ≡ true → left old ≡ left new
line_end_left old new begun lt ends text passes tokens begins =
    starts false old begun
    ∙ ap (in_front (tokens_in old.draft)) (way_ends (reverse old.levels.items) old.cursor.place (rest_of old) (some_left old lt) ends)
    ∙ joins (tokens_in old.draft) (line_end ∷ []) old.cursor.place _
    ∙ arrives (tokens_in old.draft ++ record { token = line_end; place = old.cursor.place } ∷ []) true old new (line_end_length (rest_of old)) text passes tokens begins

-- what the code found at the front
pub record AtFront (old : Lexer) (rest : List ℕ) (f : Front) : Type 0 where
  pub begun : old.begins ≡ false
  pub some : old.cursor.index < length old.draft.text.items
  pub is : rest ≡ rest_of old
  pub goes_on : false ≡ ends_line rest
  pub seen : f ≡ front (get_or rest 0 0) (drop 1 rest)

goes_on_at : (old : Lexer) (rest : List ℕ) (f : Front) → AtFront old rest f → ends_line (rest_of old) ≡ false
goes_on_at old rest f at = sym (at.goes_on ∙ ap ends_line at.is)

front_found : (old : Lexer) (rest : List ℕ) (f : Front) → AtFront old rest f → front_at (rest_of old) ≡ f
front_found old rest f at =
    let some : 0 < length rest = omega (arith, some_left old at.some, ap length at.is) in
    sym (at.seen ∙ front_first rest some ∙ ap front_at at.is)

pub found_left : (old new : Lexer) (rest : List ℕ) (t : Token) (n : ℕ) → AtFront old rest (found t n) → 1 ≤ n → n ≤ length rest → new.draft.text.items ≡ old.draft.text.items → Passes old n new → tokens_in new.draft ≡ tokens_in old.draft ++ record { token = t; place = old.cursor.place } ∷ [] → new.begins ≡ old.begins → left old ≡ left new
found_left old new rest t n at one le text passes tokens begins =
    starts false old at.begun
    ∙ ap (in_front (tokens_in old.draft)) (way_found (reverse old.levels.items) old.cursor.place (rest_of old) t n (some_left old at.some) (goes_on_at old rest _ at) (front_found old rest _ at) one (omega (arith, le, ap length at.is)))
    ∙ joins (tokens_in old.draft) (t ∷ []) old.cursor.place _
    ∙ arrives (tokens_in old.draft ++ record { token = t; place = old.cursor.place } ∷ []) false old new n text passes tokens (begins ∙ at.begun)

pub passed_left : (old new : Lexer) (rest : List ℕ) (n : ℕ) → AtFront old rest (passed n) → 1 ≤ n → n ≤ length rest → Passes old n new → new.draft ≡ old.draft → new.begins ≡ old.begins → left old ≡ left new
passed_left old new rest n at one le passes draft begins =
    starts false old at.begun
    ∙ ap (in_front (tokens_in old.draft)) (way_passed (reverse old.levels.items) old.cursor.place (rest_of old) n (some_left old at.some) (goes_on_at old rest _ at) (front_found old rest _ at) one (omega (arith, le, ap length at.is)))
    ∙ arrives (tokens_in old.draft) false old new n (ap (λ d. d.text.items) draft) passes (ap tokens_in draft) (begins ∙ at.begun)

pub bad_byte_left : (old : Lexer) (rest : List ℕ) (k b : ℕ) → AtFront old rest (bad_byte k b) → left old ≡ Err (fault.Byte (place_behind old.cursor.place (take k rest)) b)
bad_byte_left old rest k b at =
    starts false old at.begun
    ∙ ap (in_front (tokens_in old.draft)) (way_bad_byte (reverse old.levels.items) old.cursor.place (rest_of old) k b (some_left old at.some) (goes_on_at old rest _ at) (front_found old rest _ at))
    ∙ ap {B = Lexed} (λ (bytes : List ℕ). Err (fault.Byte (place_behind old.cursor.place (take k bytes)) b)) (sym at.is)

pub bad_literal_left : (old : Lexer) (rest : List ℕ) → AtFront old rest bad_literal → left old ≡ Err (fault.BadLiteral old.cursor.place)
bad_literal_left old rest at =
    starts false old at.begun
    ∙ ap (in_front (tokens_in old.draft)) (way_bad_literal (reverse old.levels.items) old.cursor.place (rest_of old) (some_left old at.some) (goes_on_at old rest _ at) (front_found old rest _ at))

-- ---- at the beginning of a line

-- so many blanks stand at the front of what is left
pub record AtBlanks (old : Lexer) (rest : List ℕ) (n : ℕ) : Type 0 where
  pub begins : old.begins ≡ true
  pub some : old.cursor.index < length old.draft.text.items
  pub is : rest ≡ rest_of old
  pub blanks : n ≡ length (take_while is_blank rest)

abbrev from_rest : Lexer → List ℕ → Lexed
from_rest old rest = state (tokens_in old.draft) (reverse old.levels.items) true old.cursor.place rest

starts_line : (old : Lexer) (rest : List ℕ) (n : ℕ) → AtBlanks old rest n → left old ≡ from_rest old rest
starts_line old rest n at = starts true old at.begins ∙ ap (from_rest old) (sym at.is)

some_rest : (old : Lexer) (rest : List ℕ) (n : ℕ) → AtBlanks old rest n → 0 < length rest
some_rest old rest n at = omega (arith, some_left old at.some, ap length at.is)

blanks_taken : (old : Lexer) (rest : List ℕ) (n : ℕ) → AtBlanks old rest n → take n rest ≡ blanks_of rest
blanks_taken old rest n at = ap (λ (k : ℕ). take k rest) at.blanks ∙ blanks_are rest

pub idle_left : (old new : Lexer) (rest : List ℕ) (n : ℕ) → AtBlanks old rest n → true ≡ is_idle (drop n rest) → Passes old (n + idle_length (drop n rest)) new → new.draft ≡ old.draft → new.begins ≡ old.begins → left old ≡ left new
idle_left old new rest n at idle passes draft begins =
    starts_line old rest n at
    ∙ ap (in_front (tokens_in old.draft)) (way_idle (reverse old.levels.items) old.cursor.place rest n (some_rest old rest n at) at.blanks (sym idle))
    ∙ ap (λ (bytes : List ℕ). state (tokens_in old.draft) (reverse old.levels.items) true (place_behind old.cursor.place (take (n + idle_length (drop n rest)) bytes)) (drop (n + idle_length (drop n rest)) bytes)) at.is
    ∙ arrives (tokens_in old.draft) true old new (n + idle_length (drop n rest)) (ap (λ d. d.text.items) draft) passes (ap tokens_in draft) (begins ∙ at.begins)

counts : (old : Lexer) (rest : List ℕ) (n : ℕ) → AtBlanks old rest n → false ≡ is_idle (drop n rest) → is_idle (drop (length (blanks_of rest)) rest) ≡ false
counts old rest n at idle = ap (λ (k : ℕ). is_idle (drop k rest)) (sym at.blanks) ∙ sym idle

abbrev pub tab_in : List ℕ → Option ℕ
tab_in blanks = position (λ c. nat_eq c 9) blanks

pub tab_left : (old : Lexer) (rest : List ℕ) (n k : ℕ) → AtBlanks old rest n → false ≡ is_idle (drop n rest) → Some k ≡ tab_in (take n rest) → left old ≡ Err (fault.Tab (place_behind old.cursor.place (take k (take n rest))))
tab_left old rest n k at idle tab =
    let taken = blanks_taken old rest n at in
    starts_line old rest n at
    ∙ ap (in_front (tokens_in old.draft)) (way_tab (reverse old.levels.items) old.cursor.place rest k (some_rest old rest n at) (counts old rest n at idle) (sym (tab ∙ ap tab_in taken)))
    ∙ ap {B = Lexed} (λ (blanks : List ℕ). Err (fault.Tab (place_behind old.cursor.place (take k blanks)))) (sym taken)

abbrev pub moves_to : Lexer → List ℕ → ℕ → Option (List Placed × List ℕ)
moves_to old rest n = moved (tokens_in old.draft) (place_behind old.cursor.place (take n rest)) (move_to n (reverse old.levels.items))

none_moves : (ts : List Placed) (p : Place) (o : Option Move) → moved ts p o ≡ None → o ≡ None
none_moves ts p None e = refl
none_moves ts p (Some m) e = absurd cc

pub unmoved : (b : Bool) (o : Option (List Placed × List ℕ)) (ts : List Placed) (ls : List ℕ) → b ≡ false → MovesTo b o ts ls → o ≡ None
unmoved true o ts ls e h = absurd cc
unmoved false o ts ls e h = h

pub has_moved : (b : Bool) (o : Option (List Placed × List ℕ)) (ts : List Placed) (ls : List ℕ) → b ≡ true → MovesTo b o ts ls → o ≡ Some (ts, ls)
has_moved true o ts ls e h = h
has_moved false o ts ls e h = absurd cc

pub moves_same : (old : Lexer) (rest : List ℕ) (n : ℕ) (q : Place) (k : ℕ) → q ≡ place_behind old.cursor.place (take n rest) → k ≡ n → moved (tokens_in old.draft) q (move_to k (reverse old.levels.items)) ≡ moves_to old rest n
moves_same old rest n q k place spaces =
    ap (λ (p : Place). moved (tokens_in old.draft) p (move_to k (reverse old.levels.items))) place
    ∙ ap (λ (m : ℕ). moved (tokens_in old.draft) (place_behind old.cursor.place (take n rest)) (move_to m (reverse old.levels.items))) spaces

pub rest_behind : (old : Lexer) (rest : List ℕ) (n i : ℕ) (text : List ℕ) → AtBlanks old rest n → text ≡ old.draft.text.items → i ≡ old.cursor.index + n → drop n rest ≡ drop i text
rest_behind old rest n i text at same index =
    ap (drop n) at.is ∙ drop-drop n old.cursor.index old.draft.text.items ∙ ap (λ (k : ℕ). drop k old.draft.text.items) (sym index) ∙ ap (λ (t : List ℕ). drop i t) (sym same)

pub unmet_left : (old : Lexer) (rest : List ℕ) (n : ℕ) → AtBlanks old rest n → false ≡ is_idle (drop n rest) → None ≡ tab_in (take n rest) → moves_to old rest n ≡ None → left old ≡ Err (unmet (place_behind old.cursor.place (take n rest)) n (drop n rest))
unmet_left old rest n at idle tab moves =
    let taken = blanks_taken old rest n at in
    let none : move_to (length (blanks_of rest)) (reverse old.levels.items) ≡ None = ap (λ (k : ℕ). move_to k (reverse old.levels.items)) (sym at.blanks) ∙ none_moves _ _ _ moves in
    starts_line old rest n at
    ∙ ap (in_front (tokens_in old.draft)) (way_unmet (reverse old.levels.items) old.cursor.place rest (some_rest old rest n at) (counts old rest n at idle) (sym (tab ∙ ap tab_in taken)) none)
    ∙ ap {B = Lexed} (λ (blanks : List ℕ). Err (unmet (place_behind old.cursor.place blanks) (length (blanks_of rest)) (drop (length (blanks_of rest)) rest))) (sym taken)
    ∙ ap {B = Lexed} (λ (k : ℕ). Err (unmet (place_behind old.cursor.place (take n rest)) k (drop k rest))) (sym at.blanks)

pub fault_is : (p q : Place) (n k : ℕ) (xs ys : List ℕ) (f : FirFault) → q ≡ p → k ≡ n → xs ≡ ys → f ≡ unmet q k ys → unmet p n xs ≡ f
fault_is p q n k xs ys f place spaces rests is =
    ap (λ (bytes : List ℕ). unmet p n bytes) rests ∙ ap (λ (m : ℕ). unmet p m ys) (sym spaces) ∙ ap (λ (r : Place). unmet r k ys) (sym place) ∙ sym is

record IsMove (ts us : List Placed) (p : Place) (levels : List ℕ) (o : Option Move) : Type 0 where
  pub move : Move
  pub is : o ≡ Some move
  pub tokens : ts ++ placed_at p move.tokens ≡ us
  pub levels_are : move.levels ≡ levels

abbrev pair : List Placed → List ℕ → Option (List Placed × List ℕ)
pair us levels = Some (us, levels)

same_some : (x y : List Placed × List ℕ) → Some x ≡ Some y → x ≡ y
same_some x y e = cc

same_pair : (us vs : List Placed) (ls ms : List ℕ) → pair us ls ≡ pair vs ms → (us ≡ vs) × (ls ≡ ms)
same_pair us vs ls ms e =
    let same = same_some (us, ls) (vs, ms) e in
    (ap (λ (x : List Placed × List ℕ). x.0) same, ap (λ (x : List Placed × List ℕ). x.1) same)

move_is : (ts us : List Placed) (p : Place) (levels : List ℕ) (o : Option Move) → moved ts p o ≡ Some (us, levels) → IsMove ts us p levels o
move_is ts us p levels None e = absurd cc
move_is ts us p levels (Some m) e =
    let parts = same_pair (ts ++ placed_at p m.tokens) us m.levels levels e in
    record { move = m; is = refl; tokens = parts.0; levels_are = parts.1 }

pub met_left : (old : Lexer) (rest : List ℕ) (n : ℕ) (us : List Placed) (levels : List ℕ) (q : Place) (i : ℕ) (text : List ℕ) → AtBlanks old rest n → false ≡ is_idle (drop n rest) → None ≡ tab_in (take n rest) → moves_to old rest n ≡ Some (us, levels) → text ≡ old.draft.text.items → i ≡ old.cursor.index + n → q ≡ place_behind old.cursor.place (take n rest) → left old ≡ state us levels false q (drop i text)
met_left old rest n us levels q i text at idle tab moves same index place =
    let taken = blanks_taken old rest n at in
    let m = move_is (tokens_in old.draft) us (place_behind old.cursor.place (take n rest)) levels (move_to n (reverse old.levels.items)) moves in
    let met : move_to (length (blanks_of rest)) (reverse old.levels.items) ≡ Some m.move = ap (λ (k : ℕ). move_to k (reverse old.levels.items)) (sym at.blanks) ∙ m.is in
    starts_line old rest n at
    ∙ ap (in_front (tokens_in old.draft)) (way_met (reverse old.levels.items) old.cursor.place rest m.move (some_rest old rest n at) (counts old rest n at idle) (sym (tab ∙ ap tab_in taken)) met)
    ∙ ap (λ (blanks : List ℕ). in_front (tokens_in old.draft) (with_tokens (place_behind old.cursor.place blanks) m.move.tokens (lexed_from m.move.levels false zero (place_behind old.cursor.place blanks) (drop (length (blanks_of rest)) rest)))) (sym taken)
    ∙ joins (tokens_in old.draft) m.move.tokens (place_behind old.cursor.place (take n rest)) _
    ∙ same_state state _ us m.move.levels levels false false _ q (drop (length (blanks_of rest)) rest) (drop i text) m.tokens m.levels_are refl (sym place) (ap (λ (k : ℕ). drop k rest) (sym at.blanks) ∙ rest_behind old rest n i text at same index)

-- ---- at the end

at_end : (old : Lexer) → length old.draft.text.items ≤ old.cursor.index → rest_of old ≡ []
at_end old past = none (rest_of old) (omega (arith, length-drop old.cursor.index old.draft.text.items)) where
  none : (bytes : List ℕ) → length bytes ≡ 0 → bytes ≡ []
  none [] e = refl
  none (b ∷ bs) e = absurd (omega arith)

closes_at_line : (ls : List ℕ) (p : Place) → lexed_from ls true zero p [] ≡ Ok (closed_at p ls)
unfolding lexed_from
closes_at_line ls p = refl

closes_in_line : (ls : List ℕ) (p : Place) → lexed_from ls false zero p [] ≡ Ok (record { token = line_end; place = p } ∷ closed_at p ls)
unfolding lexed_from
closes_in_line ls p = refl

abbrev ok : List Placed → Lexed
ok ts = Ok ts

pub end_left_at_line : (old : Lexer) (ts : List Placed) → length old.draft.text.items ≤ old.cursor.index → old.begins ≡ true → ts ≡ tokens_in old.draft ++ closed_at old.cursor.place old.levels.items → left old ≡ Ok ts
end_left_at_line old ts past begins tokens =
    starts true old begins
    ∙ ap (state (tokens_in old.draft) (reverse old.levels.items) true old.cursor.place) (at_end old past)
    ∙ ap (in_front (tokens_in old.draft)) (closes_at_line (reverse old.levels.items) old.cursor.place)
    ∙ ap (λ (x : List Placed). ok (tokens_in old.draft ++ x)) (closed_reversed old.cursor.place old.levels.items)
    ∙ ap ok (sym tokens)

pub end_left_in_line : (old : Lexer) (us ts : List Placed) → length old.draft.text.items ≤ old.cursor.index → old.begins ≡ false → us ≡ tokens_in old.draft ++ record { token = line_end; place = old.cursor.place } ∷ [] → ts ≡ us ++ closed_at old.cursor.place old.levels.items → left old ≡ Ok ts
end_left_in_line old us ts past begins line tokens =
    starts false old begins
    ∙ ap (state (tokens_in old.draft) (reverse old.levels.items) false old.cursor.place) (at_end old past)
    ∙ ap (in_front (tokens_in old.draft)) (closes_in_line (reverse old.levels.items) old.cursor.place)
    ∙ ap (λ (x : List Placed). ok (tokens_in old.draft ++ (record { token = line_end; place = old.cursor.place } ∷ x))) (closed_reversed old.cursor.place old.levels.items)
    ∙ ap ok (sym (append_assoc (tokens_in old.draft) (record { token = line_end; place = old.cursor.place } ∷ []) (closed_at old.cursor.place old.levels.items)) ∙ ap (λ (x : List Placed). x ++ closed_at old.cursor.place old.levels.items) (sym line) ∙ sym tokens)

-- ---- at the start

pub new_left : (l : Lexer) (bytes : List ℕ) → tokens_in l.draft ≡ [] → l.draft.text.items ≡ bytes → l.levels.items ≡ [] → l.begins ≡ true → l.cursor.index ≡ 0 → l.cursor.place ≡ record { line = 1; col = 1 } → left l ≡ lexed bytes
new_left l bytes tokens text levels begins index place =
    same_state state (tokens_in l.draft) [] (reverse l.levels.items) [] l.begins true l.cursor.place (record { line = 1; col = 1 }) (rest_of l) bytes tokens (ap reverse levels) begins place (ap (λ (n : ℕ). drop n l.draft.text.items) index ∙ text)
    ∙ nothing (lexed bytes) where
      nothing : (l : Lexed) → in_front [] l ≡ l
      nothing (Ok ts) = refl
      nothing (Err f) = refl
