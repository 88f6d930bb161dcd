-- Every text is cut into pieces, up to its end or to bytes with which none begins.
use Rattle.std.proofs.Common.{◌≡◌, ℕ, zero, suc, ◌+◌, ◌≤◌, List, [], ◌∷◌, ◌++◌, length, flat_map, refl, sym, ap, ◌∙◌, inl, inr, ◌⊎◌, subst, append_assoc, append-nil, length-append, arith}
use Rattle.ver_ast.specs.Pieces.{VPiece, bytes_of_piece, PlacedToken, place_after, tokens_of_pieces, IsVPiece, HasTokens}
use Rattle.ver_lex.specs.declared.bad_byte.BadByte.{BadByte}
use Rattle.ver_lex.specs.declared.piece.Piece.{Piece}
use Rattle.ver_lex.specs.declared.piece.Piece.TheVariants as piece
use Rattle.ver_lex.specs.Lexed.{AreVPiecesBefore, BeginsNoPiece, StopsAt}
use Rattle.ver_lex.specs.working.Fronts.{front}
use Rattle.ver_lex.proofs.FrontPieces.{front_stands}
use Rattle.ver_lex.proofs.Standing.{Stands, FrontStands}
use Rattle.ver_lex.proofs.Ways.{all_before}

-- a piece with the bytes behind it
pub record First (bytes : List ℕ) : Type 0 where
  pub first : VPiece
  pub behind : List ℕ
  pub parts : bytes ≡ bytes_of_piece first ++ behind
  pub is : IsVPiece first behind
  pub shorter : length behind + 1 ≤ length bytes

first_of : (bytes : List ℕ) (n : ℕ) (ts : List ℕ → List PlacedToken) → Stands bytes n ts → First bytes
first_of bytes n ts st =
    record {
      first = st.piece;
      behind = st.behind;
      parts = st.bytes_are;
      is = st.is;
      shorter = omega (arith, ap length st.bytes_are, length-append (bytes_of_piece st.piece) st.behind, st.count, st.some);
    }

found : (bytes : List ℕ) (f : Piece) → FrontStands bytes f → First bytes ⊎ BeginsNoPiece bytes
found bytes (piece.Passed n) h = inl (first_of bytes n _ h)
found bytes (piece.Token k n) h = inl (first_of bytes n _ h.stands)
found bytes (piece.Questioned n) h = inl (first_of bytes (n + 1) _ h.stands)
found bytes piece.Nothing h = inr h

abbrev Ends : List ℕ → Type 0
Ends behind = (behind ≡ []) ⊎ ((b : ℕ) × (more : List ℕ) × (behind ≡ b ∷ more) × BeginsNoPiece behind)

record Cut (bytes : List ℕ) : Type 0 where
  pieces : List VPiece
  behind : List ℕ
  parts : bytes ≡ flat_map bytes_of_piece pieces ++ behind
  each : AreVPiecesBefore pieces behind
  ends : Ends behind

uncut : (bytes : List ℕ) → Ends bytes → Cut bytes
uncut bytes e = record { pieces = []; behind = bytes; parts = refl; each = tt; ends = e }

with_first : (bytes : List ℕ) (p : First bytes) → Cut p.behind → Cut bytes
with_first bytes p c =
    record {
      pieces = p.first ∷ c.pieces;
      behind = c.behind;
      parts = p.parts ∙ ap (λ (x : List ℕ). bytes_of_piece p.first ++ x) c.parts
          ∙ sym (append_assoc (bytes_of_piece p.first) (flat_map bytes_of_piece c.pieces) c.behind);
      each = (subst (IsVPiece p.first) c.parts p.is, c.each);
      ends = c.ends;
    }

cut : (n : ℕ) (bytes : List ℕ) → length bytes ≤ n → Cut bytes
cut n [] h = uncut [] (inl refl)
cut zero (b ∷ bs) h = absurd (omega arith)
cut (suc n) (b ∷ bs) h = at (found (b ∷ bs) (front (b ∷ bs)) (front_stands b bs)) (λ rest k. cut n rest k)
  where
    at : First (b ∷ bs) ⊎ BeginsNoPiece (b ∷ bs) → ((rest : List ℕ) → length rest ≤ n → Cut rest) → Cut (b ∷ bs)
    at (inl p) further = with_first (b ∷ bs) p (further p.behind (omega (arith, h, p.shorter)))
    at (inr none) further = uncut (b ∷ bs) (inr (b, bs, refl, none))

pub has_tokens_or_stops : (bytes : List ℕ)
    → ((ts : List PlacedToken) × HasTokens bytes ts) ⊎ ((ts : List PlacedToken) × (bad : BadByte) × StopsAt bytes ts bad)
has_tokens_or_stops bytes = at (cut (length bytes) bytes (omega arith))
  where
    at : Cut bytes → ((ts : List PlacedToken) × HasTokens bytes ts) ⊎ ((ts : List PlacedToken) × (bad : BadByte) × StopsAt bytes ts bad)
    at c = elim c.ends [
      | inl e ↦ inl (
        tokens_of_pieces [] c.pieces,
        record {
          pieces = c.pieces;
          bytes_are = c.parts ∙ ap (λ (x : List ℕ). flat_map bytes_of_piece c.pieces ++ x) e ∙ append-nil (flat_map bytes_of_piece c.pieces);
          each = all_before c.pieces (subst (AreVPiecesBefore c.pieces) e c.each);
          tokens_are = refl;
        },
      )
      | inr e ↦ inr (
        tokens_of_pieces [] c.pieces,
        record { place = place_after (flat_map bytes_of_piece c.pieces); byte = e.0 },
        record {
          pieces = c.pieces;
          rest = c.behind;
          more = e.1;
          bytes_are = c.parts;
          each = c.each;
          rest_is = e.2;
          place_is = refl;
          no_piece = e.3;
          tokens_are = refl;
        },
      )
    ]
