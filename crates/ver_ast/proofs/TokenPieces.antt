-- Tokens as pieces of a text, by what stands directly behind them.
use Rattle.std.proofs.Common.{◌≡◌, ◌≢◌, ℕ, Bool, true, false, ◌||◌, List, [], ◌∷◌, ◌++◌, codes, flat_map, map, refl, sym, ap, ◌∙◌, inl, inr, subst, append_assoc, arith}
use Rattle.std.specs.Prelude.{IsTrue, nat_eq}
use Rattle.std.specs.List.{list_all}
use Rattle.std.proofs.lemmas.Bool.{and_parts, or_parts}
use Rattle.std.proofs.lemmas.Bool.Decides.{nat_tests}
use Rattle.fir_base.specs.Lists.{In}
use Rattle.fir_base.specs.Bytes.{is_word_start, is_word_byte, is_digit}
use Rattle.fir_base.specs.Digits.{decimal_value}
use Rattle.fir_base.proofs.Each.{all_at}
use Rattle.ver_words.specs.Names.{is_word}
use Rattle.ver_ast.specs.Tokens.{VToken, word, constant, sign, double, signed_shift, signed_word, question_digit, letter, lone_signs, doubles, AreDigits, IsConstant, IsSpelledAs}
use Rattle.ver_ast.specs.Pieces.{VPiece, blank, line_comment, block_comment, spelled, questioned, bytes_of_piece, PlacedToken, tokens_of_pieces, BeginsWith, BeginsNoComment, IsVPiece, AreVPieces, HasTokens}
use Rattle.ver_ast.specs.working.TokenSteps.{is_double, number_token}
use Rattle.ver_ast.proofs.Reach.{NotNext, goes_on_number, in_base, IsWhole, word_longest, digits_longest, constant_longest, sign_longest, shift_longest, double_longest, signed_shift_longest, signed_word_longest}

-- the tokens of a piece, without their places
abbrev pub plain_tokens : VPiece → List VToken
plain_tokens (blank b) = []
plain_tokens (line_comment content) = []
plain_tokens (block_comment content) = []
plain_tokens (spelled t s) = t ∷ []
plain_tokens (questioned width value s) = constant width value ∷ question_digit ∷ []

-- the bytes are those of pieces, and these are the tokens among them, without their places
pub record HasPlainTokens (bytes : List ℕ) (ts : List VToken) : Type 0 where
  pub pieces : List VPiece
  pub bytes_are : bytes ≡ flat_map bytes_of_piece pieces
  pub each : AreVPieces pieces
  pub tokens_are : ts ≡ flat_map plain_tokens pieces

abbrev pub plain_of : List PlacedToken → List VToken
plain_of = map (λ t. t.token)

pub without_places : (before : List ℕ) (ps : List VPiece) → plain_of (tokens_of_pieces before ps) ≡ flat_map plain_tokens ps
without_places before [] = refl
without_places before (blank b ∷ ps) = without_places _ ps
without_places before (line_comment content ∷ ps) = without_places _ ps
without_places before (block_comment content ∷ ps) = without_places _ ps
without_places before (spelled t s ∷ ps) = ap (λ ts. t ∷ ts) (without_places _ ps)
without_places before (questioned width value s ∷ ps) = ap (λ ts. constant width value ∷ question_digit ∷ ts) (without_places _ ps)

pub with_places : (bytes : List ℕ) (ts : List VToken) → HasPlainTokens bytes ts → (placed : List PlacedToken) × HasTokens bytes placed × (plain_of placed ≡ ts)
with_places bytes ts h = (
  tokens_of_pieces [] h.pieces,
  record { pieces = h.pieces; bytes_are = h.bytes_are; each = h.each; tokens_are = refl },
  without_places [] h.pieces ∙ sym h.tokens_are,
)

-- a piece before a text
pub piece_first : (p : VPiece) (rest : List ℕ) (ts : List VToken) → IsVPiece p rest → HasPlainTokens rest ts
    → HasPlainTokens (bytes_of_piece p ++ rest) (plain_tokens p ++ ts)
piece_first p rest ts is k = record {
  pieces = p ∷ k.pieces;
  bytes_are = ap (λ x. bytes_of_piece p ++ x) k.bytes_are;
  each = (subst (IsVPiece p) k.bytes_are is, k.each);
  tokens_are = ap (λ x. plain_tokens p ++ x) k.tokens_are;
}

pub no_pieces : HasPlainTokens [] []
no_pieces = record { pieces = []; bytes_are = refl; each = tt; tokens_are = refl }

-- ---- where no comment begins

pub no_comment : (b : ℕ) (bs : List ℕ) → b ≢ 47 → BeginsNoComment (b ∷ bs)
no_comment b bs n = ((λ h. n (cons_head h.1)), (λ h. n (cons_head h.1)))
  where
    cons_head : {a c : ℕ} {x y : List ℕ} → a ∷ x ≡ c ∷ y → a ≡ c
    cons_head e = cc

-- a byte with which a comment goes on behind its slash
abbrev pub opens_comment : ℕ → Bool
opens_comment b = nat_eq b 47 || nat_eq b 42

slash_alone : (bs : List ℕ) → NotNext opens_comment bs → BeginsNoComment (47 ∷ bs)
slash_alone [] n = ((λ h. absurd cc), (λ h. absurd cc))
slash_alone (b ∷ bs) n =
    let p = or_parts (nat_eq b 47) (nat_eq b 42) n in
    ((λ h. let e : b ≡ 47 = cc in absurd (grind (arith, nat_tests))), (λ h. let e : b ≡ 42 = cc in absurd (grind (arith, nat_tests))))

-- ---- words and numbers

word_no_slash : (b : ℕ) → is_word_start b ≡ true → b ≢ 47
word_no_slash b h e = let k : is_word_start 47 ≡ true = subst (λ x. is_word_start x ≡ true) e h in cc

digit_no_slash : (b : ℕ) → is_digit b ≡ true → b ≢ 47
digit_no_slash b h e = let k : is_digit 47 ≡ true = subst (λ x. is_digit x ≡ true) e h in cc

pub word_piece : (w behind : List ℕ) → IsTrue (is_word w) → NotNext is_word_byte behind → IsVPiece (spelled (word w) w) behind
word_piece [] behind h n = absurd cc
word_piece (b ∷ bs) behind h n = (
  (h, refl),
  word_longest (b ∷ bs) behind h n,
  no_comment b (bs ++ behind) (word_no_slash b (and_parts (is_word_start b) (list_all is_word_byte bs) h).0),
  tt,
)

digits_no_comment : (s behind : List ℕ) → AreDigits s → BeginsNoComment (s ++ behind)
digits_no_comment [] behind h = absurd (h.0 refl)
digits_no_comment (b ∷ bs) behind h = no_comment b (bs ++ behind) (digit_no_slash b h.1.0)

-- whether it is the one digit 0
abbrev pub one_zero : List ℕ → Bool
one_zero [] = false
one_zero (b ∷ []) = nat_eq b 48
one_zero (b ∷ c ∷ bs) = false

is_zero : (s : List ℕ) → one_zero s ≡ true → s ≡ codes "0"
is_zero [] h = absurd cc
is_zero (b ∷ []) h = let e : b ≡ 48 = grind (arith, nat_tests) in ap (λ x. x ∷ []) e
is_zero (b ∷ c ∷ bs) h = absurd cc

pub is_no_zero : (s : List ℕ) → one_zero s ≡ false → s ≢ codes "0"
is_no_zero s h e = let k : one_zero (codes "0") ≡ false = subst (λ x. one_zero x ≡ false) e h in cc

number_spelled : (z : Bool) (s : List ℕ) → AreDigits s → z ≡ one_zero s → IsSpelledAs (number_token z (decimal_value s)) s
number_spelled true s h e = is_zero s (sym e)
number_spelled false s h e = (h, is_no_zero s (sym e), refl)

pub number_piece : (z : Bool) (s behind : List ℕ) → AreDigits s → z ≡ one_zero s → NotNext goes_on_number behind
    → IsVPiece (spelled (number_token z (decimal_value s)) s) behind
number_piece true s behind h e n = (number_spelled true s h e, digits_longest s behind h n, digits_no_comment s behind h, tt)
number_piece false s behind h e n = (number_spelled false s h e, digits_longest s behind h n, digits_no_comment s behind h, tt)

-- ---- constants

pub constant_no_comment : (width value : ℕ) (s behind : List ℕ) → IsConstant width value s → BeginsNoComment (s ++ behind)
constant_no_comment width value s behind c =
    let grouped = append_assoc c.size (39 ∷ letter c.base ∷ c.digits) behind in
    let begins = digits_no_comment c.size (39 ∷ letter c.base ∷ c.digits ++ behind) c.is_size in
    subst BeginsNoComment (sym (ap (λ x. x ++ behind) c.bytes ∙ grouped)) begins

no_question : (bs : List ℕ) → NotNext (λ b. nat_eq b 63) bs → BeginsWith bs (codes "?") → ⊥
no_question [] n h = absurd cc
no_question (b ∷ bs) n h = let e : b ≡ 63 = cc in absurd (grind (arith, nat_tests))

pub constant_piece : (width value : ℕ) (s behind : List ℕ) (c : IsConstant width value s) → NotNext (in_base c.base) behind
    → NotNext (λ b. nat_eq b 63) behind
    → IsVPiece (spelled (constant width value) s) behind
constant_piece width value s behind c n q =
    (c, constant_longest width value s behind c n, constant_no_comment width value s behind c, no_question behind q)

-- ---- signs

pub lone_piece : (a : ℕ) (behind : List ℕ) → In lone_signs a → NotNext (is_double a) behind → BeginsNoComment (a ∷ behind)
    → IsVPiece (spelled (sign a) (a ∷ [])) behind
lone_piece a behind m n free = ((m, refl), sign_longest a behind m n, free, tt)

double_no_slash : (a b : ℕ) → In doubles (a, b) → a ≢ 47
double_no_slash a b m =
    all_at (λ d. d.0 ≢ 47) doubles
    ((λ e. omega arith), ((λ e. omega arith), ((λ e. omega arith), ((λ e. omega arith), ((λ e. omega arith), ((λ e. omega arith), ((λ e. omega arith), ((λ e. omega arith), tt)))))))) (a, b) m

pub double_piece : (a b : ℕ) (behind : List ℕ) → In doubles (a, b) → IsWhole (a, b) → IsVPiece (spelled (double a b) (a ∷ b ∷ [])) behind
double_piece a b behind m w = ((m, refl), double_longest a b behind m w, no_comment a (b ∷ behind) (double_no_slash a b m), tt)

pub shift_piece : (behind : List ℕ) → NotNext (λ b. nat_eq b 62) behind → IsVPiece (spelled (double 62 62) (62 ∷ 62 ∷ [])) behind
shift_piece behind n =
    ((inr (inr (inr (inr (inr (inr (inr (inl refl))))))), refl), shift_longest behind n, no_comment 62 (62 ∷ behind) (λ e. omega arith), tt)

pub signed_shift_piece : (behind : List ℕ) → IsVPiece (spelled signed_shift (codes ">>>")) behind
signed_shift_piece behind = (refl, signed_shift_longest behind, no_comment 62 (62 ∷ 62 ∷ behind) (λ e. omega arith), tt)

pub signed_word_piece : (behind : List ℕ) → IsVPiece (spelled signed_word (codes "$signed")) behind
signed_word_piece behind = (refl, signed_word_longest behind, no_comment 36 (codes "signed" ++ behind) (λ e. omega arith), tt)
