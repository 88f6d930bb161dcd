-- There is one way at most to cut a text into pieces up to its end or to bytes with which none begins.
use Rattle.std.proofs.Common.{◌≡◌, ℕ, Bool, true, false, not, ◌||◌, List, [], ◌∷◌, ◌++◌, length, flat_map, codes, refl, sym, ap, ap₂, ◌∙◌, inl, inr, subst, append_assoc, append-nil, length-append, arith}
use Rattle.std.specs.Prelude.{nat_eq}
use Rattle.std.proofs.lemmas.Bool.{both_ways, eq-eqb}
use Rattle.std.proofs.lemmas.List.{append_cancel_left}
use Rattle.fir_base.specs.Lists.{In}
use Rattle.fir_base.specs.Bytes.{is_word_start, is_digit}
use Rattle.ver_ast.specs.declared.place.VPlace.{VPlace}
use Rattle.ver_ast.specs.Tokens.{VToken, constant, Base, binary, decimal, hexadecimal, IsConstant, IsSpelledAs}
use Rattle.ver_ast.specs.Pieces.{VPiece, blank, line_comment, block_comment, spelled, questioned, bytes_of_piece, PlacedToken, stands_after, place_after, tokens_of_pieces, BeginsWith, white_space, IsLongestToken, BeginsNoComment, HasNoQuestion, IsVPiece, AreVPieces, HasTokens}
use Rattle.ver_ast.specs.working.TokenSteps.{is_sign}
use Rattle.ver_ast.proofs.Reach.{in_base, all_tested, constant_longest}
use Rattle.ver_ast.proofs.TokenPieces.{constant_no_comment}
use Rattle.ver_ast.proofs.OnePlace.{one_place}
use Rattle.ver_lex.specs.declared.bad_byte.BadByte.{BadByte}
use Rattle.ver_lex.specs.Lexed.{AreVPiecesBefore, BeginsNoPiece, StopsAt}
use Rattle.ver_lex.proofs.FirstBytes.{BeginsToken, no_bytes, token_first}
use Rattle.ver_lex.proofs.CommentPieces.{no_blank_slash, same_line, same_block_length}

-- ---- tokens

-- the text begins with the bytes of this token, and with no comment
record Spells (text : List ℕ) (t : VToken) (s after : List ℕ) : Type 0 where
  parts : text ≡ s ++ after
  is : IsSpelledAs t s
  longest : IsLongestToken s after
  free : BeginsNoComment text

same_front : (s r after more : List ℕ) → length s ≡ length r → s ++ after ≡ r ++ more → s ≡ r
same_front [] [] after more n e = refl
same_front [] (c ∷ r) after more n e = absurd (omega (arith, n))
same_front (b ∷ s) [] after more n e = absurd (omega (arith, n))
same_front (b ∷ s) (c ∷ r) after more n e =
    let first : b ≡ c = cc in
    let rest : s ++ after ≡ r ++ more = cc in
    let same : s ≡ r = same_front s r after more (omega (arith, n)) rest in
    cc

same_bytes : (text : List ℕ) (t u : VToken) (s r after more : List ℕ) → Spells text t s after → Spells text u r more → s ≡ r
same_bytes text t u s r after more h k =
    let e : s ++ after ≡ r ++ more = sym h.parts ∙ k.parts in
    same_front s r after more (omega (arith, h.longest u r more k.is e, k.longest t s after h.is (sym e))) e

-- a text that is one token
alone : (t : VToken) (s after : List ℕ) → IsSpelledAs t s → BeginsNoComment (s ++ after) → HasTokens s (stands_after [] t ∷ [])
alone t s after is free =
    record {
      pieces = spelled t s ∷ [];
      bytes_are = sym (append-nil s);
      each = ((is, whole, (shorter (codes "//") free.0, shorter (codes "/*") free.1), question t), tt);
      tokens_are = refl;
    }
  where
    whole : IsLongestToken s []
    whole other r more k e = omega (arith, ap length e, length-append s [], length-append r more)

    shorter : (w : List ℕ) → (BeginsWith (s ++ after) w → ⊥) → BeginsWith (s ++ []) w → ⊥
    shorter w none h = none (h.0 ++ after, ap (λ (x : List ℕ). x ++ after) (sym (append-nil s) ∙ h.1) ∙ append_assoc w h.0 after)

    question : (t : VToken) → HasNoQuestion t []
    question (constant width value) = λ h. let off : [] ≡ codes "?" ++ h.0 = h.1 in cc
    question _ = tt

same_token : (text : List ℕ) (t u : VToken) (s r after more : List ℕ) → Spells text t s after → Spells text u r more → t ≡ u
same_token text t u s r after more h k =
    let bytes : s ≡ r = same_bytes text t u s r after more h k in
    let one = alone t s after h.is (subst BeginsNoComment h.parts h.free) in
    let other = alone u r more k.is (subst BeginsNoComment k.parts k.free) in
    let same = one_place s (stands_after [] t ∷ []) (stands_after [] u ∷ []) one (subst (λ (x : List ℕ). HasTokens x (stands_after [] u ∷ [])) (sym bytes) other) in
    ap first same
  where
    first : List PlacedToken → VToken
    first [] = t
    first (x ∷ xs) = x.token

abbrev begins_any : ℕ → Bool
begins_any c = is_word_start c || (is_digit c || (is_sign c || (nat_eq c 33 || nat_eq c 36)))

-- white space begins no token
white_begins : (b : ℕ) (bs : List ℕ) → In white_space b → BeginsToken b bs → ⊥
white_begins b bs m h =
    both_ways (begins_any b) (off (begins_any b) (all_tested (λ c. not (begins_any c)) white_space refl b m)) (on h)
  where
    off : (t : Bool) → not t ≡ true → t ≡ false
    off true e = absurd cc
    off false e = refl

    right : (s t : Bool) → t ≡ true → (s || t) ≡ true
    right true t e = refl
    right false t e = e

    left : (s t : Bool) → s ≡ true → (s || t) ≡ true
    left true t e = refl
    left false t e = absurd cc

    on : BeginsToken b bs → begins_any b ≡ true
    on (inl e) = left _ _ e
    on (inr (inl e)) = right (is_word_start b) _ (left (is_digit b) _ e)
    on (inr (inr (inl e))) = right (is_word_start b) _ (right (is_digit b) _ (left (is_sign b) _ e))
    on (inr (inr (inr (inl e)))) = right (is_word_start b) _ (right (is_digit b) _ (right (is_sign b) _ (left (nat_eq b 33) _ (eq-eqb b 33 e.0))))
    on (inr (inr (inr (inr e)))) = right (is_word_start b) _ (right (is_digit b) _ (right (is_sign b) _ (right (nat_eq b 33) _ (eq-eqb b 36 e.0))))

white_spells : (b : ℕ) (rest : List ℕ) (t : VToken) (s after : List ℕ) → In white_space b → Spells (b ∷ rest) t s after → ⊥
white_spells b rest t [] after m h = no_bytes t h.is
white_spells b rest t (c ∷ s) after m h =
    let same : c ≡ b = cons_same h.parts in
    white_begins b s m (subst (λ x. BeginsToken x s) same (token_first t c s h.is))
  where
    cons_same : {x y : List ℕ} → b ∷ x ≡ c ∷ y → c ≡ b
    cons_same e = cc

-- ---- the first piece

-- of two that stand at the front of one text
abbrev SameFirst : VPiece → VPiece → Type 0
SameFirst p q = (rest more : List ℕ) → IsVPiece p rest → IsVPiece q more → bytes_of_piece p ++ rest ≡ bytes_of_piece q ++ more → p ≡ q

turned : (p q : VPiece) → SameFirst p q → SameFirst q p
turned p q h rest more is os e = sym (h more rest os is (sym e))

as_spelled : (t : VToken) (s rest : List ℕ) → IsVPiece (spelled t s) rest → Spells (s ++ rest) t s rest
as_spelled t s rest is = record { parts = refl; is = is.0; longest = is.1; free = is.2 }

as_questioned : (width value : ℕ) (s rest : List ℕ) → IsConstant width value s → Spells ((s ++ codes "?") ++ rest) (constant width value) s (63 ∷ rest)
as_questioned width value s rest c =
    let parts = append_assoc s (codes "?") rest in
    record {
      parts = parts;
      is = c;
      longest = constant_longest width value s (63 ∷ rest) c (no_digit c.base);
      free = subst BeginsNoComment (sym parts) (constant_no_comment width value s (63 ∷ rest) c);
    }
  where
    no_digit : (base : Base) → in_base base 63 ≡ false
    no_digit binary = refl
    no_digit decimal = refl
    no_digit hexadecimal = refl

-- the same of a text in another form
of_text : (text other : List ℕ) (t : VToken) (s after : List ℕ) → text ≡ other → Spells other t s after → Spells text t s after
of_text text other t s after e h = subst (λ (x : List ℕ). Spells x t s after) (sym e) h

blank_other : (b : ℕ) (q : VPiece) → SameFirst (blank b) q
blank_other b (blank c) rest more is os e = let same : b ≡ c = cc in ap blank same
blank_other b (line_comment d) rest more is os e = let first : b ≡ 47 = cc in absurd (no_blank_slash b is first)
blank_other b (block_comment d) rest more is os e = let first : b ≡ 47 = cc in absurd (no_blank_slash b is first)
blank_other b (spelled u r) rest more is os e = absurd (white_spells b rest u r more is (of_text (b ∷ rest) (r ++ more) u r more e (as_spelled u r more os)))
blank_other b (questioned w x r) rest more is os e =
    absurd (white_spells b rest (constant w x) r (63 ∷ more) is (of_text (b ∷ rest) ((r ++ codes "?") ++ more) (constant w x) r (63 ∷ more) e (as_questioned w x r more os)))

line_other : (c : List ℕ) (q : VPiece) → SameFirst (line_comment c) q
line_other c (blank b) = turned (blank b) (line_comment c) (blank_other b (line_comment c))
line_other c (line_comment d) = λ rest more is os e. let behind : c ++ rest ≡ d ++ more = cc in ap line_comment (same_line c d rest more is os behind)
line_other c (block_comment d) = λ rest more is os e. let no : ◌≡◌ {A = ℕ} 47 42 = cc in absurd (omega (arith, no))
line_other c (spelled u r) = λ rest more is os e. absurd (os.2.0 (c ++ rest, sym e))
line_other c (questioned w x r) = λ rest more is os e. absurd ((as_questioned w x r more os).free.0 (c ++ rest, sym e))

block_other : (c : List ℕ) (q : VPiece) → SameFirst (block_comment c) q
block_other c (blank b) = turned (blank b) (block_comment c) (blank_other b (block_comment c))
block_other c (line_comment d) = turned (line_comment d) (block_comment c) (line_other d (block_comment c))
block_other c (block_comment d) = λ rest more is os e.
    let inside : (c ++ codes "*/") ++ rest ≡ (d ++ codes "*/") ++ more = cc in
    let behind : c ++ 42 ∷ 47 ∷ rest ≡ d ++ 42 ∷ 47 ∷ more = sym (append_assoc c (codes "*/") rest) ∙ inside ∙ append_assoc d (codes "*/") more in
    ap block_comment (same_front c d (42 ∷ 47 ∷ rest) (42 ∷ 47 ∷ more) (same_block_length c d rest more is os behind) behind)
block_other c (spelled u r) = λ rest more is os e. absurd (os.2.1 ((c ++ codes "*/") ++ rest, sym e))
block_other c (questioned w x r) = λ rest more is os e. absurd ((as_questioned w x r more os).free.1 ((c ++ codes "*/") ++ rest, sym e))

spelled_other : (t : VToken) (s : List ℕ) (q : VPiece) → SameFirst (spelled t s) q
spelled_other t s (blank b) = turned (blank b) (spelled t s) (blank_other b (spelled t s))
spelled_other t s (line_comment d) = turned (line_comment d) (spelled t s) (line_other d (spelled t s))
spelled_other t s (block_comment d) = turned (block_comment d) (spelled t s) (block_other d (spelled t s))
spelled_other t s (spelled u r) = λ rest more is os e.
    let h = as_spelled t s rest is in
    let k = of_text (s ++ rest) (r ++ more) u r more e (as_spelled u r more os) in
    let token = same_token (s ++ rest) t u s r rest more h k in
    let bytes = same_bytes (s ++ rest) t u s r rest more h k in
    rw (token, bytes) refl
spelled_other t s (questioned w x r) = λ rest more is os e.
    let h = as_spelled t s rest is in
    let k = of_text (s ++ rest) ((r ++ codes "?") ++ more) (constant w x) r (63 ∷ more) e (as_questioned w x r more os) in
    let token = same_token (s ++ rest) t (constant w x) s r rest (63 ∷ more) h k in
    let bytes = same_bytes (s ++ rest) t (constant w x) s r rest (63 ∷ more) h k in
    let behind : rest ≡ 63 ∷ more = append_cancel_left s rest (63 ∷ more) (k.parts ∙ ap (λ (y : List ℕ). y ++ 63 ∷ more) (sym bytes)) in
    absurd (subst (λ y. HasNoQuestion y rest) token is.3 (more, behind))

questioned_other : (w x : ℕ) (s : List ℕ) (q : VPiece) → SameFirst (questioned w x s) q
questioned_other w x s (blank b) = turned (blank b) (questioned w x s) (blank_other b (questioned w x s))
questioned_other w x s (line_comment d) = turned (line_comment d) (questioned w x s) (line_other d (questioned w x s))
questioned_other w x s (block_comment d) = turned (block_comment d) (questioned w x s) (block_other d (questioned w x s))
questioned_other w x s (spelled u r) = turned (spelled u r) (questioned w x s) (spelled_other u r (questioned w x s))
questioned_other w x s (questioned v y r) = λ rest more is os e.
    let text = (s ++ codes "?") ++ rest in
    let h = as_questioned w x s rest is in
    let k = of_text ((s ++ codes "?") ++ rest) ((r ++ codes "?") ++ more) (constant v y) r (63 ∷ more) e (as_questioned v y r more os) in
    let token : constant w x ≡ constant v y = same_token ((s ++ codes "?") ++ rest) (constant w x) (constant v y) s r (63 ∷ rest) (63 ∷ more) h k in
    let bytes : s ≡ r = same_bytes ((s ++ codes "?") ++ rest) (constant w x) (constant v y) s r (63 ∷ rest) (63 ∷ more) h k in
    let width : w ≡ v = cc in
    let value : x ≡ y = cc in
    rw (width, value, bytes) refl

same_first : (p q : VPiece) → SameFirst p q
same_first (blank b) q = blank_other b q
same_first (line_comment c) q = line_other c q
same_first (block_comment c) q = block_other c q
same_first (spelled t s) q = spelled_other t s q
same_first (questioned w x s) q = questioned_other w x s q

-- ---- all pieces

pub same_cut : (ps qs : List VPiece) (rest more : List ℕ) → AreVPiecesBefore ps rest → AreVPiecesBefore qs more → BeginsNoPiece rest → BeginsNoPiece more
    → flat_map bytes_of_piece ps ++ rest ≡ flat_map bytes_of_piece qs ++ more
    → (ps ≡ qs) × (rest ≡ more)
same_cut [] [] rest more h k m n e = (refl, e)
same_cut [] (q ∷ qs) rest more h k m n e =
    absurd (m q (flat_map bytes_of_piece qs ++ more) (e ∙ append_assoc (bytes_of_piece q) (flat_map bytes_of_piece qs) more) k.0)
same_cut (p ∷ ps) [] rest more h k m n e =
    absurd (n p (flat_map bytes_of_piece ps ++ rest) (sym e ∙ append_assoc (bytes_of_piece p) (flat_map bytes_of_piece ps) rest) h.0)
same_cut (p ∷ ps) (q ∷ qs) rest more h k m n e =
    let text = sym (append_assoc (bytes_of_piece p) (flat_map bytes_of_piece ps) rest) ∙ e ∙ append_assoc (bytes_of_piece q) (flat_map bytes_of_piece qs) more in
    let first : p ≡ q = same_first p q (flat_map bytes_of_piece ps ++ rest) (flat_map bytes_of_piece qs ++ more) h.0 k.0 text in
    let behind = append_cancel_left (bytes_of_piece p) (flat_map bytes_of_piece ps ++ rest) (flat_map bytes_of_piece qs ++ more)
    (text ∙ ap (λ (x : VPiece). bytes_of_piece x ++ (flat_map bytes_of_piece qs ++ more)) (sym first)) in
    let same = same_cut ps qs rest more h.1 k.1 m n behind in
    let others : ps ≡ qs = same.0 in
    let all : p ∷ ps ≡ q ∷ qs = cc in
    (all, same.1)

-- ---- what texts have

nothing_left : BeginsNoPiece []
nothing_left (blank b) behind e is = cc
nothing_left (line_comment content) behind e is = cc
nothing_left (block_comment content) behind e is = cc
nothing_left (spelled t []) behind e is = no_bytes t is.0
nothing_left (spelled t (b ∷ bs)) behind e is = cc
nothing_left (questioned w x []) behind e is = cc
nothing_left (questioned w x (b ∷ bs)) behind e is = cc

before_nothing : (ps : List VPiece) → AreVPieces ps → AreVPiecesBefore ps []
before_nothing [] h = tt
before_nothing (p ∷ ps) h = (subst (IsVPiece p) (sym (append-nil (flat_map bytes_of_piece ps))) h.0, before_nothing ps h.1)

pub never_both : (bytes : List ℕ) (ts us : List PlacedToken) (bad : BadByte) → HasTokens bytes ts → StopsAt bytes us bad → ⊥
never_both bytes ts us bad h k =
    let text = append-nil (flat_map bytes_of_piece h.pieces) ∙ sym h.bytes_are ∙ k.bytes_are in
    let same = same_cut h.pieces k.pieces [] k.rest (before_nothing h.pieces h.each) k.each nothing_left k.no_piece text in
    let no : [] ≡ bad.byte ∷ k.more = same.1 ∙ k.rest_is in
    cc

pub stops_once : (bytes : List ℕ) (ts us : List PlacedToken) (bad other : BadByte) → StopsAt bytes ts bad → StopsAt bytes us other → (ts ≡ us) × (bad ≡ other)
stops_once bytes ts us bad other h k =
    let same = same_cut h.pieces k.pieces h.rest k.rest h.each k.each h.no_piece k.no_piece (sym h.bytes_are ∙ k.bytes_are) in
    let both : bad.byte ∷ h.more ≡ other.byte ∷ k.more = sym h.rest_is ∙ same.1 ∙ k.rest_is in
    let byte : bad.byte ≡ other.byte = cc in
    let place : bad.place ≡ other.place = h.place_is ∙ ap (λ (ps : List VPiece). place_after (flat_map bytes_of_piece ps)) same.0 ∙ sym k.place_is in
    (h.tokens_are ∙ ap (tokens_of_pieces []) same.0 ∙ sym k.tokens_are, ap₂ bad_byte place byte)
  where
    bad_byte : VPlace → ℕ → BadByte
    bad_byte p b = record { place = p; byte = b }
