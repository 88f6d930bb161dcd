-- The way through a text: each step put before what is left is what the text has.
use Rattle.std.proofs.Common.{◌≡◌, ℕ, zero, suc, ◌+◌, ◌-◌, ◌<◌, ◌≤◌, Bool, true, false, cond, ◌||◌, ◌&&◌, eqb, List, [], ◌∷◌, ◌++◌, length, get_or, take, drop, Option, Some, None, refl, sym, ap, ◌∙◌, append_assoc, arith}
use Rattle.std.specs.Prelude.{Ok, Err, position, take_while, nat_eq}
use Rattle.std.proofs.lemmas.List.{length-drop}
use Rattle.std.proofs.lemmas.List.Folds.{length-prefix_len}
use Rattle.std.proofs.lemmas.List.Sums.{prefix_len-le-length}
use Rattle.fir_ast.specs.declared.place.Place.{Place}
use Rattle.fir_ast.specs.declared.fault.FirFault.TheVariants as fault
use Rattle.fir_lex.specs.Tokens.{Token, Placed, line_end}
use Rattle.fir_lex.specs.working.Bytes.{next_place, place_behind, starts_with_byte, ends_line, line_end_length, is_blank}
use Rattle.fir_lex.specs.working.Front.{Front, found, passed, bad_byte, bad_literal, comment_length, front}
use Rattle.fir_lex.specs.working.Levels.{Move, move_to}
use Rattle.fir_lex.specs.working.Lexed.{Lexed, Rest, placed_at, with_tokens, go_on, is_idle, idle_length, unmet, behind_spaces, begin_counted, begin_line, lexed_from}
use Rattle.fir_lex.specs.working.Steps.{in_front}

-- ---- taken bytes lead to the place behind them

skip_at_line : (ls : List ℕ) (k : ℕ) (p : Place) (bs : List ℕ) → k ≤ length bs → lexed_from ls true k p bs ≡ lexed_from ls true zero (place_behind p (take k bs)) (drop k bs)
unfolding lexed_from
skip_at_line ls zero p bs h = refl
skip_at_line ls (suc k) p [] h = absurd (omega arith)
skip_at_line ls (suc k) p (b ∷ bs) h = skip_at_line ls k (next_place p b) bs (omega arith)

skip_in_line : (ls : List ℕ) (k : ℕ) (p : Place) (bs : List ℕ) → k ≤ length bs → lexed_from ls false k p bs ≡ lexed_from ls false zero (place_behind p (take k bs)) (drop k bs)
unfolding lexed_from
skip_in_line ls zero p bs h = refl
skip_in_line ls (suc k) p [] h = absurd (omega arith)
skip_in_line ls (suc k) p (b ∷ bs) h = skip_in_line ls k (next_place p b) bs (omega arith)

pub skip : (ls : List ℕ) (start : Bool) (k : ℕ) (p : Place) (bs : List ℕ) → k ≤ length bs → lexed_from ls start k p bs ≡ lexed_from ls start zero (place_behind p (take k bs)) (drop k bs)
skip ls true k p bs h = skip_at_line ls k p bs h
skip ls false k p bs h = skip_in_line ls k p bs h

-- how the text goes on behind the byte at hand
abbrev pub rest_from : Place → List ℕ → Rest
rest_from p bs = λ ls start k. lexed_from ls start k p bs

pub taken : (ls : List ℕ) (start : Bool) (n : ℕ) (p : Place) (b : ℕ) (bs : List ℕ) → 1 ≤ n → n ≤ length (b ∷ bs) → rest_from (next_place p b) bs ls start (n - 1) ≡ lexed_from ls start zero (place_behind p (take n (b ∷ bs))) (drop n (b ∷ bs))
taken ls start zero p b bs one le = absurd (omega arith)
taken ls start (suc n) p b bs one le =
    let less : suc n - 1 ≡ n = omega arith in
    ap (λ (k : ℕ). lexed_from ls start k (next_place p b) bs) less ∙ skip ls start n (next_place p b) bs (omega arith)

-- ---- tokens in front

pub joins : (ts : List Placed) (us : List Token) (p : Place) (l : Lexed) → in_front ts (with_tokens p us l) ≡ in_front (ts ++ placed_at p us) l
joins ts us p (Ok rest) = ap {B = Lexed} (λ (x : List Placed). Ok x) (sym (append_assoc ts (placed_at p us) rest))
joins ts us p (Err f) = refl

-- ---- line ends

ending : (t u : Bool) (bs : List ℕ) → (t || (u && starts_with_byte 10 bs)) ≡ true → (1 ≤ cond t 1 2) × (cond t 1 2 ≤ suc (length bs))
ending true u bs h = (omega arith, omega arith)
ending false true [] h = absurd cc
ending false true (c ∷ cs) h = (omega arith, omega arith)
ending false false bs h = absurd cc

pub line_end_bounds : (bytes : List ℕ) → ends_line bytes ≡ true → (1 ≤ line_end_length bytes) × (line_end_length bytes ≤ length bytes)
line_end_bounds [] h = absurd cc
line_end_bounds (b ∷ bs) h = ending (eqb b 10) (eqb b 13) bs h

line_end_some : (b : ℕ) (bs : List ℕ) → 1 ≤ line_end_length (b ∷ bs)
line_end_some b bs = some (eqb b 10) where
  some : (t : Bool) → 1 ≤ cond t 1 2
  some true = omega arith
  some false = omega arith

-- ---- within a line

pub way_ends : (ls : List ℕ) (p : Place) (bytes : List ℕ) → 0 < length bytes → ends_line bytes ≡ true → lexed_from ls false zero p bytes ≡ with_tokens p (line_end ∷ []) (lexed_from ls true zero (place_behind p (take (line_end_length bytes) bytes)) (drop (line_end_length bytes) bytes))
unfolding lexed_from
way_ends ls p [] some h = absurd (omega arith)
way_ends ls p (b ∷ bs) some h =
    let bounds = line_end_bounds (b ∷ bs) h in
    rw h (ap (with_tokens p (line_end ∷ [])) (taken ls true (line_end_length (b ∷ bs)) p b bs bounds.0 bounds.1))

way_goes_on : (ls : List ℕ) (p : Place) (b : ℕ) (bs : List ℕ) → ends_line (b ∷ bs) ≡ false → lexed_from ls false zero p (b ∷ bs) ≡ go_on ls p (b ∷ bs) (front b bs) (rest_from (next_place p b) bs)
unfolding lexed_from
way_goes_on ls p b bs h = rw h refl

abbrev pub front_at : List ℕ → Front
front_at [] = bad_literal
front_at (b ∷ bs) = front b bs

pub way_found : (ls : List ℕ) (p : Place) (bytes : List ℕ) (t : Token) (n : ℕ) → 0 < length bytes → ends_line bytes ≡ false → front_at bytes ≡ found t n → 1 ≤ n → n ≤ length bytes → lexed_from ls false zero p bytes ≡ with_tokens p (t ∷ []) (lexed_from ls false zero (place_behind p (take n bytes)) (drop n bytes))
way_found ls p [] t n some h e one le = absurd (omega arith)
way_found ls p (b ∷ bs) t n some h e one le =
    way_goes_on ls p b bs h ∙ ap (λ (f : Front). go_on ls p (b ∷ bs) f (rest_from (next_place p b) bs)) e ∙ ap (with_tokens p (t ∷ [])) (taken ls false n p b bs one le)

pub way_passed : (ls : List ℕ) (p : Place) (bytes : List ℕ) (n : ℕ) → 0 < length bytes → ends_line bytes ≡ false → front_at bytes ≡ passed n → 1 ≤ n → n ≤ length bytes → lexed_from ls false zero p bytes ≡ lexed_from ls false zero (place_behind p (take n bytes)) (drop n bytes)
way_passed ls p [] n some h e one le = absurd (omega arith)
way_passed ls p (b ∷ bs) n some h e one le =
    way_goes_on ls p b bs h ∙ ap (λ (f : Front). go_on ls p (b ∷ bs) f (rest_from (next_place p b) bs)) e ∙ taken ls false n p b bs one le

pub way_bad_byte : (ls : List ℕ) (p : Place) (bytes : List ℕ) (k c : ℕ) → 0 < length bytes → ends_line bytes ≡ false → front_at bytes ≡ bad_byte k c → lexed_from ls false zero p bytes ≡ Err (fault.Byte (place_behind p (take k bytes)) c)
way_bad_byte ls p [] k c some h e = absurd (omega arith)
way_bad_byte ls p (b ∷ bs) k c some h e = way_goes_on ls p b bs h ∙ ap (λ (f : Front). go_on ls p (b ∷ bs) f (rest_from (next_place p b) bs)) e

pub way_bad_literal : (ls : List ℕ) (p : Place) (bytes : List ℕ) → 0 < length bytes → ends_line bytes ≡ false → front_at bytes ≡ bad_literal → lexed_from ls false zero p bytes ≡ Err (fault.BadLiteral p)
way_bad_literal ls p [] some h e = absurd (omega arith)
way_bad_literal ls p (b ∷ bs) some h e = way_goes_on ls p b bs h ∙ ap (λ (f : Front). go_on ls p (b ∷ bs) f (rest_from (next_place p b) bs)) e

-- ---- at the beginning of a line

way_begins : (ls : List ℕ) (p : Place) (b : ℕ) (bs : List ℕ) → lexed_from ls true zero p (b ∷ bs) ≡ begin_line ls p b bs (rest_from (next_place p b) bs)
unfolding lexed_from
way_begins ls p b bs = refl

idle_at : (b : ℕ) (bs : List ℕ) (t : Bool) → ends_line (b ∷ bs) ≡ t → idle_length bs ≤ length bs → cond t 0 (suc (comment_length bs)) + line_end_length (drop (cond t 0 (suc (comment_length bs))) (b ∷ bs)) ≤ length (b ∷ bs)
idle_at b bs true e deep = omega (arith, (line_end_bounds (b ∷ bs) e).1)
idle_at b bs false e deep = omega (arith, deep)

pub idle_within : (s : List ℕ) → idle_length s ≤ length s
idle_within [] = omega arith
idle_within (b ∷ bs) = idle_at b bs (ends_line (b ∷ bs)) refl (idle_within bs)

idle_some : (b : ℕ) (bs : List ℕ) → 1 ≤ idle_length (b ∷ bs)
idle_some b bs = by_end (ends_line (b ∷ bs)) where
  by_end : (t : Bool) → 1 ≤ cond t 0 (suc (comment_length bs)) + line_end_length (drop (cond t 0 (suc (comment_length bs))) (b ∷ bs))
  by_end true = omega (arith, line_end_some b bs)
  by_end false = omega arith

-- so many blanks stand in front
pub blanks_within : (bytes : List ℕ) → length (take_while is_blank bytes) ≤ length bytes
blanks_within bytes = omega (arith, length-prefix_len is_blank bytes, prefix_len-le-length is_blank bytes)

pub blanks_are : (bytes : List ℕ) → take (length (take_while is_blank bytes)) bytes ≡ take_while is_blank bytes
blanks_are bytes = ap (λ (n : ℕ). take n bytes) (length-prefix_len is_blank bytes)

idle_bounds : (n : ℕ) (bytes : List ℕ) → 0 < length bytes → n ≤ length bytes → (1 ≤ n + idle_length (drop n bytes)) × (n + idle_length (drop n bytes) ≤ length bytes)
idle_bounds n bytes some le = (low n bytes some, omega (arith, idle_within (drop n bytes), length-drop n bytes)) where
  low : (n : ℕ) (bytes : List ℕ) → 0 < length bytes → 1 ≤ n + idle_length (drop n bytes)
  low zero [] some = absurd (omega arith)
  low zero (b ∷ bs) some = omega (arith, idle_some b bs)
  low (suc n) bytes some = omega arith

pub way_idle : (ls : List ℕ) (p : Place) (bytes : List ℕ) (n : ℕ) → 0 < length bytes → n ≡ length (take_while is_blank bytes) → is_idle (drop n bytes) ≡ true → lexed_from ls true zero p bytes ≡ lexed_from ls true zero (place_behind p (take (n + idle_length (drop n bytes)) bytes)) (drop (n + idle_length (drop n bytes)) bytes)
way_idle ls p [] n some is idle = absurd (omega arith)
way_idle ls p (b ∷ bs) n some is idle =
    let bounds = idle_bounds n (b ∷ bs) some (omega (arith, is, blanks_within (b ∷ bs))) in
    way_begins ls p b bs ∙ by_length (length (take_while is_blank (b ∷ bs))) is ∙ taken ls true (n + idle_length (drop n (b ∷ bs))) p b bs bounds.0 bounds.1 where
      by_length : (m : ℕ) → n ≡ m → cond (is_idle (drop m (b ∷ bs))) (rest_from (next_place p b) bs ls true (m + idle_length (drop m (b ∷ bs)) - 1)) (begin_counted ls p b bs (take_while is_blank (b ∷ bs)) (drop m (b ∷ bs)) (position (λ c. nat_eq c 9) (take_while is_blank (b ∷ bs))) (rest_from (next_place p b) bs)) ≡ rest_from (next_place p b) bs ls true (n + idle_length (drop n (b ∷ bs)) - 1)
      by_length m e = rw (← e) (rw idle refl)

abbrev pub blanks_of : List ℕ → List ℕ
blanks_of bytes = take_while is_blank bytes

way_counted : (ls : List ℕ) (p : Place) (b : ℕ) (bs : List ℕ) → is_idle (drop (length (blanks_of (b ∷ bs))) (b ∷ bs)) ≡ false → lexed_from ls true zero p (b ∷ bs) ≡ begin_counted ls p b bs (blanks_of (b ∷ bs)) (drop (length (blanks_of (b ∷ bs))) (b ∷ bs)) (position (λ c. nat_eq c 9) (blanks_of (b ∷ bs))) (rest_from (next_place p b) bs)
way_counted ls p b bs idle = way_begins ls p b bs ∙ rw idle refl

pub way_tab : (ls : List ℕ) (p : Place) (bytes : List ℕ) (k : ℕ) → 0 < length bytes → is_idle (drop (length (blanks_of bytes)) bytes) ≡ false → position (λ c. nat_eq c 9) (blanks_of bytes) ≡ Some k → lexed_from ls true zero p bytes ≡ Err (fault.Tab (place_behind p (take k (blanks_of bytes))))
way_tab ls p [] k some idle tab = absurd (omega arith)
way_tab ls p (b ∷ bs) k some idle tab = way_counted ls p b bs idle ∙ ap (λ (o : Option ℕ). begin_counted ls p b bs (blanks_of (b ∷ bs)) (drop (length (blanks_of (b ∷ bs))) (b ∷ bs)) o (rest_from (next_place p b) bs)) tab

abbrev spaced : List ℕ → Place → ℕ → List ℕ → Option Move → Lexed
spaced blanks p b bs m = behind_spaces (length blanks) p (place_behind p blanks) b bs (drop (length blanks) (b ∷ bs)) m (rest_from (next_place p b) bs)

way_spaces : (ls : List ℕ) (p : Place) (b : ℕ) (bs : List ℕ) (m : Option Move) → is_idle (drop (length (blanks_of (b ∷ bs))) (b ∷ bs)) ≡ false → position (λ c. nat_eq c 9) (blanks_of (b ∷ bs)) ≡ None → move_to (length (blanks_of (b ∷ bs))) ls ≡ m → lexed_from ls true zero p (b ∷ bs) ≡ spaced (blanks_of (b ∷ bs)) p b bs m
way_spaces ls p b bs m idle tab moves = way_counted ls p b bs idle ∙ ap (λ (o : Option ℕ). begin_counted ls p b bs (blanks_of (b ∷ bs)) (drop (length (blanks_of (b ∷ bs))) (b ∷ bs)) o (rest_from (next_place p b) bs)) tab ∙ ap (spaced (blanks_of (b ∷ bs)) p b bs) moves

pub way_unmet : (ls : List ℕ) (p : Place) (bytes : List ℕ) → 0 < length bytes → is_idle (drop (length (blanks_of bytes)) bytes) ≡ false → position (λ c. nat_eq c 9) (blanks_of bytes) ≡ None → move_to (length (blanks_of bytes)) ls ≡ None → lexed_from ls true zero p bytes ≡ Err (unmet (place_behind p (blanks_of bytes)) (length (blanks_of bytes)) (drop (length (blanks_of bytes)) bytes))
way_unmet ls p [] some idle tab moves = absurd (omega arith)
way_unmet ls p (b ∷ bs) some idle tab moves = way_spaces ls p b bs None idle tab moves

spaces_met : (n : ℕ) (p q : Place) (b : ℕ) (bs behind : List ℕ) (m : Move) → behind_spaces n p q b bs behind (Some m) (rest_from (next_place p b) bs) ≡ with_tokens q m.tokens (lexed_from m.levels false n p (b ∷ bs))
unfolding lexed_from
spaces_met zero p q b bs behind m = refl
spaces_met (suc n) p q b bs behind m = refl

pub way_met : (ls : List ℕ) (p : Place) (bytes : List ℕ) (m : Move) → 0 < length bytes → is_idle (drop (length (blanks_of bytes)) bytes) ≡ false → position (λ c. nat_eq c 9) (blanks_of bytes) ≡ None → move_to (length (blanks_of bytes)) ls ≡ Some m → lexed_from ls true zero p bytes ≡ with_tokens (place_behind p (blanks_of bytes)) m.tokens (lexed_from m.levels false zero (place_behind p (blanks_of bytes)) (drop (length (blanks_of bytes)) bytes))
way_met ls p [] m some idle tab moves = absurd (omega arith)
way_met ls p (b ∷ bs) m some idle tab moves =
    way_spaces ls p b bs (Some m) idle tab moves
    ∙ spaces_met (length (blanks_of (b ∷ bs))) p (place_behind p (blanks_of (b ∷ bs))) b bs (drop (length (blanks_of (b ∷ bs))) (b ∷ bs)) m
    ∙ ap (with_tokens (place_behind p (blanks_of (b ∷ bs))) m.tokens) (skip m.levels false (length (blanks_of (b ∷ bs))) p (b ∷ bs) (blanks_within (b ∷ bs))
    ∙ ap (λ (front : List ℕ). lexed_from m.levels false zero (place_behind p front) (drop (length (blanks_of (b ∷ bs))) (b ∷ bs))) (blanks_are (b ∷ bs)))

-- ---- the first byte and those behind it

pub front_first : (bytes : List ℕ) → 0 < length bytes → front (get_or bytes 0 0) (drop 1 bytes) ≡ front_at bytes
front_first [] some = absurd (omega arith)
front_first (b ∷ bs) some = refl
