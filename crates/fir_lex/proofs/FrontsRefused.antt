-- A byte in no token, a byte past 127 in a string, and a literal that is too large or not closed are read as such where they stand at the front.
use Rattle.std.proofs.Common.{◌≡◌, ◌≢◌, ℕ, ◌+◌, ◌^◌, ◌≤◌, ◌<◌, false, leb, List, [], ◌∷◌, ◌++◌, length, codes, All, Option, Some, None, position, refl, sym, ap, ap₂, ◌∙◌, inl, inr, ◌⊎◌, subst, append_assoc, take_at}
use Rattle.std.proofs.Math.Seq.{get_or-append_seam}
use Rattle.std.proofs.lemmas.Bool.{ne_eqb, le-ltb, le-leb, lt-leb}
use Rattle.std.proofs.lemmas.List.Elements.{All-from_recursion, All-weaker, recursion_from_All}
use Rattle.fir_base.specs.Digits.{decimal_value}
use Rattle.fir_lex.specs.working.Front.{Front, found, passed, bad_byte, bad_literal, integer_front, closed_string, string_front, string_length, front}
use Rattle.fir_lex.specs.Enclosed.{IsCharacter, AreCharacters}
use Rattle.fir_lex.specs.Spelled.{IsDigit, IsOnOneLine}
use Rattle.fir_lex.specs.Longest.{BeginsWithNo}
use Rattle.fir_lex.specs.Pieces.{Piece, blank, information, spelled, piece_bytes, IsPiece}
use Rattle.fir_lex.specs.TokenFaults.{BeginsPiece, BeginsTooLarge, BeginsUnclosed, GoesOn, BeginsBadly}
use Rattle.fir_lex.proofs.Way.{front_at}
use Rattle.fir_lex.proofs.Runs.{digit_kind, run_taken}
use Rattle.fir_lex.proofs.Quoted.{Quoted, quoted}
use Rattle.fir_lex.proofs.FirstPlaces.{first_found}
use Rattle.fir_lex.proofs.Fronts.{FrontHas, front_has}
use Rattle.fir_lex.proofs.FrontsTaken.{Reads, blank_read, information_read, signed_digits, string_long, token_read}
use Rattle.fir_lex.proofs.FrontsWrong.{Stray, PastAscii, Wrong, front_wrong}

-- ---- literals

large_front : (plus_or_minus digits behind : List ℕ) → All IsDigit digits → 2 ^ 128 ≤ decimal_value digits → BeginsWithNo IsDigit behind
    → integer_front plus_or_minus (digits ++ behind) ≡ bad_literal
large_front plus_or_minus digits behind all large ends =
    rw (run_taken digit_kind digits behind (recursion_from_All IsDigit digits all) ends, le-ltb (decimal_value digits) (2 ^ 128) large) refl

large_read : (plus_or_minus digits behind : List ℕ) → (plus_or_minus ≡ []) ⊎ ((plus_or_minus ≡ codes "+") ⊎ (plus_or_minus ≡ codes "-")) → digits ≢ []
    → All IsDigit digits → BeginsWithNo IsDigit behind → 2 ^ 128 ≤ decimal_value digits → Reads ((plus_or_minus ++ digits) ++ behind) bad_literal
large_read plus_or_minus [] behind sign some all ends large = absurd (some refl)
large_read plus_or_minus (d ∷ ds) behind sign some all ends large =
    let reads = signed_digits plus_or_minus d (ds ++ behind) sign (recursion_from_All IsDigit (d ∷ ds) all).0 in
    subst (λ (s : List ℕ). Reads s bad_literal) (sym (append_assoc plus_or_minus (d ∷ ds) behind))
    (reads.0, reads.1 ∙ large_front plus_or_minus (d ∷ ds) behind all large ends)

pub too_large_read : (bytes : List ℕ) → BeginsTooLarge bytes → Reads bytes bad_literal
too_large_read bytes h = subst (λ (s : List ℕ). Reads s bad_literal) (sym h.3) (large_read h.0 h.1 h.2 h.4 h.5 h.6 h.7 h.8)

pub unclosed_read : (bytes : List ℕ) → BeginsUnclosed bytes → Reads bytes bad_literal
unclosed_read bytes h = subst (λ (s : List ℕ). Reads s bad_literal) (sym h.1) (refl, ap (string_front h.0) (no_quote (string_length false h.0) refl))
  where
    no_quote : (o : Option ℕ) → string_length false h.0 ≡ o → string_length false h.0 ≡ None
    no_quote None e = e
    no_quote (Some n) e =
        let q : Quoted false h.0 n = quoted false h.0 n e in
        absurd
        (h.2 q.content q.behind q.parts (q.characters.0, All-from_recursion IsCharacter q.characters.0 q.characters.1, q.characters.2)
        (All-from_recursion (λ b. b ≢ 10) q.content q.one_line))

-- ---- a byte past 127

past_front : (front back behind : List ℕ) (c : ℕ) → AreCharacters (front ++ c ∷ back) → IsOnOneLine (front ++ c ∷ back) → All (λ b. b < 128) front → 128 ≤ c
    → string_front ((front ++ c ∷ back) ++ 34 ∷ behind) (string_length false ((front ++ c ∷ back) ++ 34 ∷ behind)) ≡ bad_byte (length front + 1) c
past_front front back behind c characters one ascii past =
    let content : List ℕ = front ++ c ∷ back in
    let bs : List ℕ = content ++ 34 ∷ behind in
    let below = recursion_from_All (λ b. leb 128 b ≡ false) front (All-weaker (λ b. b < 128) (λ b. leb 128 b ≡ false) (λ b lt. lt-leb 128 b lt) front ascii) in
    ap (string_front bs) (string_long content behind characters one)
    ∙ ap (λ (s : List ℕ). closed_string s (position (λ b. leb 128 b) s)) (take_at content (34 ∷ behind) (length content) refl)
    ∙ ap (closed_string content) (first_found (λ b. leb 128 b) front c back below (le-leb 128 c past))
    ∙ ap (bad_byte (length front + 1)) (get_or-append_seam front c back 0)

pub past_ascii_read : (bytes : List ℕ) (k c : ℕ) → PastAscii bytes k c → Reads bytes (bad_byte k c)
past_ascii_read bytes k c p =
    subst (λ (s : List ℕ). Reads s (bad_byte k c)) (sym p.parts)
    (refl, past_front p.front p.back p.behind c p.characters p.one_line p.ascii p.past ∙ ap (λ (n : ℕ). bad_byte n c) (sym p.far))

-- ---- a byte in no token

no_piece : (bytes : List ℕ) (k c : ℕ) → front_at bytes ≡ bad_byte k c → BeginsPiece bytes → ⊥
no_piece bytes k c e h = by_piece h.0 h.3 (ap front_at (sym h.2) ∙ e)
  where
    by_piece : (p : Piece) → IsPiece p h.1 → front_at (piece_bytes p ++ h.1) ≡ bad_byte k c → ⊥
    by_piece (blank b) is f = let off : passed 1 ≡ bad_byte k c = sym (blank_read b h.1 is).1 ∙ f in cc
    by_piece (information content) is f = let off : passed (length content + 3) ≡ bad_byte k c = sym (information_read content h.1 is).1 ∙ f in cc
    by_piece (spelled t s) is f = let off : found t (length s) ≡ bad_byte k c = sym (token_read t s h.1 is.0 is.1).1 ∙ f in cc

pub badly_from : (b : ℕ) (bs : List ℕ) (k c : ℕ) → GoesOn (b ∷ bs) → front b bs ≡ bad_byte k c → b ≢ 34 → BeginsBadly b bs
badly_from b bs k c goes e other = (goes, other, no_piece (b ∷ bs) k c e, not_large)
  where
    not_large : BeginsTooLarge (b ∷ bs) → ⊥
    not_large h = let off : bad_literal ≡ bad_byte k c = sym (too_large_read (b ∷ bs) h).1 ∙ e in cc

pub stray_badly : (bytes : List ℕ) (k c : ℕ) → GoesOn bytes → front_at bytes ≡ bad_byte k c → (s : Stray bytes k c) → BeginsBadly c s.behind
stray_badly bytes k c goes e s = badly_from c s.behind k c (subst GoesOn s.parts goes) (ap front_at (sym s.parts) ∙ e) s.no_quote

pub badly_read : (b : ℕ) (bs : List ℕ) → BeginsBadly b bs → front b bs ≡ bad_byte 0 b
badly_read b bs h = by_front (front b bs) (front_has b bs (ne_eqb b 59 h.0.2)) (front_wrong b bs)
  where
    by_front : (f : Front) → FrontHas (b ∷ bs) f → Wrong (b ∷ bs) f → f ≡ bad_byte 0 b
    by_front (found t n) (s, a) wrong = absurd (h.2 (spelled t s, a.behind, a.parts, a.piece))
    by_front (passed n) (inl (c, a)) wrong = absurd (h.2 (blank c, a.behind, a.parts, a.piece))
    by_front (passed n) (inr (content, a)) wrong = absurd (h.2 (information content, a.behind, a.parts, a.piece))
    by_front (bad_byte k c) has (inl s) = let same : b ∷ bs ≡ c ∷ s.behind = s.parts in let is : c ≡ b = cc in ap₂ bad_byte s.first is
    by_front (bad_byte k c) has (inr p) =
        let quote : b ∷ bs ≡ 34 ∷ ((p.front ++ c ∷ p.back) ++ 34 ∷ p.behind) = p.parts in let is : b ≡ 34 = cc in absurd (h.1 is)
    by_front bad_literal has (inl large) = absurd (h.3 large)
    by_front bad_literal has (inr open_quote) = let quote : b ∷ bs ≡ 34 ∷ open_quote.0 = open_quote.1 in let is : b ≡ 34 = cc in absurd (h.1 is)
