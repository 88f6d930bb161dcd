-- A text has its tokens at one place each: there is one way at most to cut it into pieces.
use Rattle.std.proofs.Common.{◌≡◌, ◌≢◌, ℕ, Bool, true, false, ◌||◌, List, [], ◌∷◌, ◌++◌, length, codes, flat_map, refl, sym, ap, ◌∙◌, inl, inr, ◌⊎◌, subst, append_assoc, arith}
use Rattle.std.specs.Prelude.{IsTrue, nat_eq, not}
use Rattle.std.specs.List.{AllByRecursion, list_all}
use Rattle.std.proofs.lemmas.Bool.{and_parts}
use Rattle.std.proofs.lemmas.List.{append_cancel_left}
use Rattle.fir_base.specs.Lists.{In}
use Rattle.ver_words.specs.Names.{is_word}
use Rattle.fir_base.specs.Bytes.{is_digit, is_word_start, is_word_byte}
use Rattle.fir_base.proofs.Each.{all_at}
use Rattle.ver_ast.specs.Tokens.{VToken, word, digit_zero, number, constant, sign, double, signed_shift, signed_word, question_digit, Base, binary, decimal, hexadecimal, letter, lone_signs, doubles, AreDigits, IsConstant, IsSpelledAs}
use Rattle.ver_ast.specs.Pieces.{VPiece, blank, line_comment, block_comment, spelled, questioned, bytes_of_piece, PlacedToken, tokens_of_pieces, BeginsWith, white_space, HasNoEnd, IsLongestToken, HasNoQuestion, IsVPiece, AreVPieces, HasTokens}
use Rattle.ver_ast.specs.working.TokenSteps.{is_sign, tokens}
use Rattle.ver_ast.proofs.Reach.{in_base, begins_other, all_tested, constant_longest}
use Rattle.ver_ast.proofs.TokenPieces.{plain_tokens, constant_no_comment}
use Rattle.ver_ast.proofs.TokensTaken.{no_end_behind, pieces_taken}

-- ---- the longest token is one

same_start : (s r behind more : List ℕ) → length s ≡ length r → s ++ behind ≡ r ++ more → s ≡ r
same_start [] [] behind more n e = refl
same_start [] (c ∷ r) behind more n e = absurd (omega (arith, n))
same_start (b ∷ s) [] behind more n e = absurd (omega (arith, n))
same_start (b ∷ s) (c ∷ r) behind more n e =
    let first : b ≡ c = cc in
    let rest : s ++ behind ≡ r ++ more = cc in
    let same : s ≡ r = same_start s r behind more (omega (arith, n)) rest in
    cc

one_longest : (t u : VToken) (s r behind more : List ℕ) → IsSpelledAs t s → IsSpelledAs u r → IsLongestToken s behind → IsLongestToken r more
    → s ++ behind ≡ r ++ more → s ≡ r
one_longest t u s r behind more is os l m e = same_start s r behind more (omega (arith, l u r more os e, m t s behind is (sym e))) e

question_in_no_base : (base : Base) → in_base base 63 ≡ false
question_in_no_base binary = refl
question_in_no_base decimal = refl
question_in_no_base hexadecimal = refl

-- a constant before a question mark
before_question : (width value : ℕ) (s behind : List ℕ) → IsConstant width value s → IsLongestToken s (63 ∷ behind)
before_question width value s behind c = constant_longest width value s (63 ∷ behind) c (question_in_no_base c.base)

-- ---- what a token begins with

abbrev begins_token : ℕ → Bool
begins_token b = begins_other b || (is_sign b || nat_eq b 33)

digit_begins : (b : ℕ) → is_digit b ≡ true → begins_token b ≡ true
digit_begins b h = rw h (either_way (is_word_start b))
  where
    either_way : (t : Bool) → ((t || true) || (is_sign b || nat_eq b 33)) ≡ true
    either_way true = refl
    either_way false = refl

digits_begin : (s more rest : List ℕ) (b : ℕ) → AreDigits s → s ++ more ≡ b ∷ rest → begins_token b ≡ true
digits_begin [] more rest b h e = absurd (h.0 refl)
digits_begin (c ∷ s) more rest b h e = let same : c ≡ b = cc in subst (λ x. begins_token x ≡ true) same (digit_begins c h.1.0)

token_begins : (t : VToken) (s behind rest : List ℕ) (b : ℕ) → IsSpelledAs t s → s ++ behind ≡ b ∷ rest → begins_token b ≡ true
token_begins (word []) s behind rest b h e = absurd cc
token_begins (word (c ∷ cs)) s behind rest b h e =
    let p = and_parts (is_word_start c) (list_all is_word_byte cs) h.0 in
    let whole : (c ∷ cs) ++ behind ≡ b ∷ rest = subst (λ x. x ++ behind ≡ b ∷ rest) h.1 e in
    let same : c ≡ b = cc in
    subst (λ x. begins_token x ≡ true) same (rw p.0 refl)
token_begins digit_zero s behind rest b h e =
    let whole : codes "0" ++ behind ≡ b ∷ rest = subst (λ x. x ++ behind ≡ b ∷ rest) h e in
    let same : 48 ≡ b = cc in
    subst (λ x. begins_token x ≡ true) same refl
token_begins (number n) s behind rest b h e = digits_begin s behind rest b h.0 e
token_begins (constant width value) s behind rest b h e =
    digits_begin h.size (39 ∷ letter h.base ∷ h.digits ++ behind) rest b h.is_size
    (sym (ap (λ x. x ++ behind) h.bytes ∙ append_assoc h.size (39 ∷ letter h.base ∷ h.digits) behind) ∙ e)
token_begins (sign a) s behind rest b h e =
    let whole : (a ∷ []) ++ behind ≡ b ∷ rest = subst (λ x. x ++ behind ≡ b ∷ rest) h.1 e in
    let same : a ≡ b = cc in
    subst (λ x. begins_token x ≡ true) same (all_tested begins_token lone_signs refl a h.0)
token_begins (double a c) s behind rest b h e =
    let whole : (a ∷ c ∷ []) ++ behind ≡ b ∷ rest = subst (λ x. x ++ behind ≡ b ∷ rest) h.1 e in
    let same : a ≡ b = cc in
    subst (λ x. begins_token x ≡ true) same
    (all_at (λ d. begins_token d.0 ≡ true) doubles (refl, (refl, (refl, (refl, (refl, (refl, (refl, (refl, tt)))))))) (a, c) h.0)
token_begins signed_shift s behind rest b h e =
    let whole : codes ">>>" ++ behind ≡ b ∷ rest = subst (λ x. x ++ behind ≡ b ∷ rest) h e in
    let same : 62 ≡ b = cc in
    subst (λ x. begins_token x ≡ true) same refl
token_begins signed_word s behind rest b h e =
    let whole : codes "$signed" ++ behind ≡ b ∷ rest = subst (λ x. x ++ behind ≡ b ∷ rest) h e in
    let same : 36 ≡ b = cc in
    subst (λ x. begins_token x ≡ true) same refl
token_begins question_digit s behind rest b h e = absurd h

blank_is_no_token : (b : ℕ) (t : VToken) (s behind rest : List ℕ) → In white_space b → IsSpelledAs t s → b ∷ rest ≡ s ++ behind → ⊥
blank_is_no_token b t s behind rest m is e =
    let first = token_begins t s behind rest b is (sym e) in
    let white : not (begins_token b) ≡ true = all_tested (λ c. not (begins_token c)) white_space refl b m in
    let no : not true ≡ true = subst (λ c. not c ≡ true) first white in
    cc

blank_is_no_slash : (b : ℕ) (rest more : List ℕ) → In white_space b → b ∷ rest ≡ 47 ∷ more → ⊥
blank_is_no_slash b rest more m e =
    let same : b ≡ 47 = cc in
    all_at (λ c. c ≢ 47) white_space ((λ h. omega (arith, h)), ((λ h. omega (arith, h)), ((λ h. omega (arith, h)), ((λ h. omega (arith, h)), tt)))) b m same

-- ---- comments

abbrev EndsLine : List ℕ → Type 0
EndsLine behind = (behind ≡ []) ⊎ BeginsWith behind (10 ∷ [])

line_goes_on : (b : ℕ) (rest behind : List ℕ) → b ≢ 10 → EndsLine behind → b ∷ rest ≡ behind → ⊥
line_goes_on b rest behind n (inl h) e = let no : b ∷ rest ≡ [] = e ∙ h in cc
line_goes_on b rest behind n (inr h) e = let whole : b ∷ rest ≡ 10 ∷ h.0 = e ∙ h.1 in n (cc)

one_line : (c d behind more : List ℕ) → AllByRecursion (λ b. b ≢ 10) c → AllByRecursion (λ b. b ≢ 10) d → EndsLine behind → EndsLine more
    → c ++ behind ≡ d ++ more → c ≡ d
one_line [] [] behind more h k f g e = refl
one_line [] (y ∷ d) behind more h k f g e = absurd (line_goes_on y (d ++ more) behind k.0 f (sym e))
one_line (x ∷ c) [] behind more h k f g e = absurd (line_goes_on x (c ++ behind) more h.0 g e)
one_line (x ∷ c) (y ∷ d) behind more h k f g e =
    let first : x ≡ y = cc in
    let rest : c ++ behind ≡ d ++ more = cc in
    let same : c ≡ d = one_line c d behind more h.1 k.1 f g rest in
    cc

abbrev second : List ℕ → ℕ
second (a ∷ b ∷ bs) = b
second _ = 0

-- the end of a block comment stands in no other one
block_goes_on : (d behind more : List ℕ) → HasNoEnd d → 42 ∷ 47 ∷ behind ≡ d ++ 42 ∷ 47 ∷ more → d ≡ []
block_goes_on [] behind more h e = refl
block_goes_on (y ∷ []) behind more h e = absurd (omega (arith, ap second e))
block_goes_on (y ∷ z ∷ d) behind more h e = absurd (h [] d (starts y z d _ _ e))
  where
    starts : (y z : ℕ) (d r s : List ℕ) → 42 ∷ 47 ∷ r ≡ y ∷ z ∷ s → y ∷ z ∷ d ≡ 42 ∷ 47 ∷ d
    starts y z d r s e = cc

one_block : (c d behind more : List ℕ) → HasNoEnd c → HasNoEnd d → c ++ 42 ∷ 47 ∷ behind ≡ d ++ 42 ∷ 47 ∷ more → c ≡ d
one_block [] d behind more h k e = sym (block_goes_on d behind more k e)
one_block c [] behind more h k e = block_goes_on c more behind h (sym e)
one_block (x ∷ c) (y ∷ d) behind more h k e =
    let first : x ≡ y = cc in
    let rest : c ++ 42 ∷ 47 ∷ behind ≡ d ++ 42 ∷ 47 ∷ more = cc in
    let same : c ≡ d = one_block c d behind more (no_end_behind x c h) (no_end_behind y d k) rest in
    cc

-- ---- the first piece

-- two that stand at the front of one text, with the same tokens from there on
abbrev SameFirst : VPiece → VPiece → Type 0
SameFirst p q =
    (rest more : List ℕ) (ts us : List VToken) → IsVPiece p rest → IsVPiece q more → bytes_of_piece p ++ rest ≡ bytes_of_piece q ++ more
    → plain_tokens p ++ ts ≡ plain_tokens q ++ us → p ≡ q

turned : (p q : VPiece) → SameFirst p q → SameFirst q p
turned p q h rest more ts us is os e k = sym (h more rest us ts os is (sym e) (sym k))

block_text : (content rest : List ℕ) → bytes_of_piece (block_comment content) ++ rest ≡ 47 ∷ 42 ∷ (content ++ 42 ∷ 47 ∷ rest)
block_text content rest = ap (λ x. 47 ∷ 42 ∷ x) (append_assoc content (codes "*/") rest)

question_text : (width value : ℕ) (s rest : List ℕ) → bytes_of_piece (questioned width value s) ++ rest ≡ s ++ 63 ∷ rest
question_text width value s rest = append_assoc s (codes "?") rest

blanks : (b c : ℕ) → SameFirst (blank b) (blank c)
blanks b c rest more ts us is os e k = let same : b ≡ c = cc in ap blank same

blank_line : (b : ℕ) (d : List ℕ) → SameFirst (blank b) (line_comment d)
blank_line b d rest more ts us is os e k = absurd (blank_is_no_slash b rest _ is e)

blank_block : (b : ℕ) (d : List ℕ) → SameFirst (blank b) (block_comment d)
blank_block b d rest more ts us is os e k = absurd (blank_is_no_slash b rest _ is e)

blank_spelled : (b : ℕ) (u : VToken) (r : List ℕ) → SameFirst (blank b) (spelled u r)
blank_spelled b u r rest more ts us is os e k = absurd (blank_is_no_token b u r more rest is os.0 e)

blank_questioned : (b width value : ℕ) (r : List ℕ) → SameFirst (blank b) (questioned width value r)
blank_questioned b width value r rest more ts us is os e k =
    absurd (blank_is_no_token b (constant width value) r (63 ∷ more) rest is os (e ∙ question_text width value r more))

lines : (c d : List ℕ) → SameFirst (line_comment c) (line_comment d)
lines c d rest more ts us is os e k =
    let behind : c ++ rest ≡ d ++ more = cc in
    ap line_comment (one_line c d rest more is.0 os.0 is.1 os.1 behind)

line_block : (c d : List ℕ) → SameFirst (line_comment c) (block_comment d)
line_block c d rest more ts us is os e k = absurd (omega (arith, ap second e))

line_spelled : (c : List ℕ) (u : VToken) (r : List ℕ) → SameFirst (line_comment c) (spelled u r)
line_spelled c u r rest more ts us is os e k = absurd (os.2.0 (c ++ rest, sym e))

line_questioned : (c : List ℕ) (width value : ℕ) (r : List ℕ) → SameFirst (line_comment c) (questioned width value r)
line_questioned c width value r rest more ts us is os e k =
    absurd ((constant_no_comment width value r (63 ∷ more) os).0 (c ++ rest, sym (e ∙ question_text width value r more)))

blocks : (c d : List ℕ) → SameFirst (block_comment c) (block_comment d)
blocks c d rest more ts us is os e k =
    let whole = sym (block_text c rest) ∙ e ∙ block_text d more in
    let behind : c ++ 42 ∷ 47 ∷ rest ≡ d ++ 42 ∷ 47 ∷ more = cc in
    ap block_comment (one_block c d rest more is os behind)

block_spelled : (c : List ℕ) (u : VToken) (r : List ℕ) → SameFirst (block_comment c) (spelled u r)
block_spelled c u r rest more ts us is os e k = absurd (os.2.1 (c ++ 42 ∷ 47 ∷ rest, sym (sym (block_text c rest) ∙ e)))

block_questioned : (c : List ℕ) (width value : ℕ) (r : List ℕ) → SameFirst (block_comment c) (questioned width value r)
block_questioned c width value r rest more ts us is os e k =
    absurd ((constant_no_comment width value r (63 ∷ more) os).1 (c ++ 42 ∷ 47 ∷ rest, sym (sym (block_text c rest) ∙ e ∙ question_text width value r more)))

both_spelled : (t u : VToken) (s r : List ℕ) → SameFirst (spelled t s) (spelled u r)
both_spelled t u s r rest more ts us is os e k =
    let token : t ≡ u = cc in
    let bytes : s ≡ r = one_longest t u s r rest more is.0 os.0 is.1 os.1 e in
    rw (token, bytes) refl

spelled_questioned : (t : VToken) (s : List ℕ) (width value : ℕ) (r : List ℕ) → SameFirst (spelled t s) (questioned width value r)
spelled_questioned t s width value r rest more ts us is os e k =
    let token : t ≡ constant width value = cc in
    let whole = e ∙ question_text width value r more in
    let bytes = one_longest t (constant width value) s r rest (63 ∷ more) is.0 os is.1 (before_question width value r more os) whole in
    let behind : rest ≡ 63 ∷ more = append_cancel_left s rest (63 ∷ more) (whole ∙ ap (λ x. x ++ 63 ∷ more) (sym bytes)) in
    absurd (subst (λ x. HasNoQuestion x rest) token is.3 (more, behind))

both_questioned : (w x : ℕ) (s : List ℕ) (u y : ℕ) (r : List ℕ) → SameFirst (questioned w x s) (questioned u y r)
both_questioned w x s u y r rest more ts us is os e k =
    let token : constant w x ≡ constant u y = cc in
    let width : w ≡ u = cc in
    let value : x ≡ y = cc in
    let whole = sym (question_text w x s rest) ∙ e ∙ question_text u y r more in
    let bytes : s ≡ r = one_longest (constant w x) (constant u y) s r (63 ∷ rest) (63 ∷ more) is os (before_question w x s rest is)
    (before_question u y r more os) whole in
    rw (width, value, bytes) refl

same_first : (p q : VPiece) → SameFirst p q
same_first (blank b) (blank c) = blanks b c
same_first (blank b) (line_comment d) = blank_line b d
same_first (line_comment c) (blank b) = turned _ _ (blank_line b c)
same_first (blank b) (block_comment d) = blank_block b d
same_first (block_comment c) (blank b) = turned _ _ (blank_block b c)
same_first (blank b) (spelled u r) = blank_spelled b u r
same_first (spelled t s) (blank b) = turned _ _ (blank_spelled b t s)
same_first (blank b) (questioned u y r) = blank_questioned b u y r
same_first (questioned w x s) (blank b) = turned _ _ (blank_questioned b w x s)
same_first (line_comment c) (line_comment d) = lines c d
same_first (line_comment c) (block_comment d) = line_block c d
same_first (block_comment c) (line_comment d) = turned _ _ (line_block d c)
same_first (line_comment c) (spelled u r) = line_spelled c u r
same_first (spelled t s) (line_comment d) = turned _ _ (line_spelled d t s)
same_first (line_comment c) (questioned u y r) = line_questioned c u y r
same_first (questioned w x s) (line_comment d) = turned _ _ (line_questioned d w x s)
same_first (block_comment c) (block_comment d) = blocks c d
same_first (block_comment c) (spelled u r) = block_spelled c u r
same_first (spelled t s) (block_comment d) = turned _ _ (block_spelled d t s)
same_first (block_comment c) (questioned u y r) = block_questioned c u y r
same_first (questioned w x s) (block_comment d) = turned _ _ (block_questioned d w x s)
same_first (spelled t s) (spelled u r) = both_spelled t u s r
same_first (spelled t s) (questioned u y r) = spelled_questioned t s u y r
same_first (questioned w x s) (spelled u r) = turned _ _ (spelled_questioned u r w x s)
same_first (questioned w x s) (questioned u y r) = both_questioned w x s u y r

-- ---- all pieces

token_has_bytes : (t : VToken) (s : List ℕ) → IsSpelledAs t s → [] ≡ s → ⊥
token_has_bytes (word w) s is e = let h : IsTrue (is_word []) = subst (λ x. IsTrue (is_word x)) (sym is.1 ∙ sym e) is.0 in cc
token_has_bytes digit_zero s is e = let no : [] ≡ codes "0" = e ∙ is in cc
token_has_bytes (number n) s is e = is.0.0 (sym e)
token_has_bytes (constant width value) s is e = no_quote is.size (e ∙ is.bytes)
  where
    no_quote : (size : List ℕ) → [] ≡ size ++ 39 ∷ letter is.base ∷ is.digits → ⊥
    no_quote [] h = cc
    no_quote (c ∷ size) h = cc
token_has_bytes (sign a) s is e = let no : [] ≡ a ∷ [] = e ∙ is.1 in cc
token_has_bytes (double a b) s is e = let no : [] ≡ a ∷ b ∷ [] = e ∙ is.1 in cc
token_has_bytes signed_shift s is e = let no : [] ≡ codes ">>>" = e ∙ is in cc
token_has_bytes signed_word s is e = let no : [] ≡ codes "$signed" = e ∙ is in cc
token_has_bytes question_digit s is e = is

none_in_front : (s rest : List ℕ) → [] ≡ s ++ rest → [] ≡ s
none_in_front [] rest e = refl
none_in_front (b ∷ bs) rest e = absurd (cc)

no_bytes : (p : VPiece) (rest : List ℕ) → IsVPiece p rest → [] ≡ bytes_of_piece p ++ rest → ⊥
no_bytes (blank b) rest is e = cc
no_bytes (line_comment content) rest is e = cc
no_bytes (block_comment content) rest is e = cc
no_bytes (spelled t s) rest is e = token_has_bytes t s is.0 (none_in_front s rest e)
no_bytes (questioned width value s) rest is e =
    token_has_bytes (constant width value) s is (none_in_front s (63 ∷ rest) (e ∙ question_text width value s rest))

same_pieces : (ps qs : List VPiece) → AreVPieces ps → AreVPieces qs → flat_map bytes_of_piece ps ≡ flat_map bytes_of_piece qs → ps ≡ qs
same_pieces [] [] h k e = refl
same_pieces [] (q ∷ qs) h k e = absurd (no_bytes q _ k.0 e)
same_pieces (p ∷ ps) [] h k e = absurd (no_bytes p _ h.0 (sym e))
same_pieces (p ∷ ps) (q ∷ qs) h k e =
    let read = sym (pieces_taken (p ∷ ps) h) ∙ ap tokens e ∙ pieces_taken (q ∷ qs) k in
    let behind : plain_tokens p ++ flat_map plain_tokens ps ≡ plain_tokens q ++ flat_map plain_tokens qs = cc in
    let first : p ≡ q = same_first p q _ _ _ _ h.0 k.0 e behind in
    let rest = append_cancel_left (bytes_of_piece p) _ _ (e ∙ ap (λ x. bytes_of_piece x ++ flat_map bytes_of_piece qs) (sym first)) in
    let more : ps ≡ qs = same_pieces ps qs h.1 k.1 rest in
    cc

pub one_place : (bytes : List ℕ) (ts us : List PlacedToken) → HasTokens bytes ts → HasTokens bytes us → ts ≡ us
one_place bytes ts us h k =
    h.tokens_are ∙ ap (tokens_of_pieces []) (same_pieces h.pieces k.pieces h.each k.each (sym h.bytes_are ∙ k.bytes_are)) ∙ sym k.tokens_are
