-- What stands at the front of bytes, as a piece with the bytes behind it.
use Rattle.std.proofs.Common.{◌≡◌, ℕ, ◌+◌, ◌≤◌, List, [], ◌∷◌, ◌++◌, length, take, codes, refl, sym, ap, subst, append_assoc, length-append, arith}
use Rattle.std.proofs.Math.Seq.{take-append_seam}
use Rattle.ver_ast.specs.Tokens.{VToken, question_digit, IsConstant}
use Rattle.ver_ast.specs.Pieces.{VPiece, spelled, questioned, bytes_of_piece, PlacedToken, stands_after, tokens_of_piece, IsVPiece}
use Rattle.ver_lex.specs.declared.kind.Kind.{Kind}
use Rattle.ver_lex.specs.declared.kind.Kind.TheVariants as kind
use Rattle.ver_lex.specs.declared.piece.Piece.{Piece}
use Rattle.ver_lex.specs.declared.piece.Piece.TheVariants as piece
use Rattle.ver_lex.specs.Lexed.{BeginsNoPiece}
use Rattle.ver_lex.specs.working.View.{width_of, value_of, token_of, HasBytes}

-- a piece of n bytes, with these tokens behind the bytes before it
pub record Stands (bytes : List ℕ) (n : ℕ) (ts : List ℕ → List PlacedToken) : Type 0 where
  pub piece : VPiece
  pub behind : List ℕ
  pub bytes_are : bytes ≡ bytes_of_piece piece ++ behind
  pub is : IsVPiece piece behind
  pub count : length (bytes_of_piece piece) ≡ n
  pub tokens : (before : List ℕ) → tokens_of_piece before piece ≡ ts before
  pub some : 1 ≤ n

abbrev pub no_tokens : List ℕ → List PlacedToken
no_tokens before = []

abbrev pub one_token : VToken → List ℕ → List PlacedToken
one_token t before = stands_after before t ∷ []

-- the bytes s spell the first token
abbrev pub with_question : VToken → List ℕ → List ℕ → List PlacedToken
with_question t s before = stands_after before t ∷ stands_after (before ++ s) question_digit ∷ []

pub record TokenStands (k : Kind) (n : ℕ) (bytes : List ℕ) : Type 0 where
  pub stands : Stands bytes n (one_token (token_of k (take n bytes)))
  pub has_bytes : HasBytes k (take n bytes)

pub record QuestionStands (n : ℕ) (bytes : List ℕ) : Type 0 where
  pub stands : Stands bytes (n + 1) (with_question (token_of kind.Constant (take n bytes)) (take n bytes))
  pub has_bytes : HasBytes kind.Constant (take n bytes)

abbrev pub FrontStands : List ℕ → Piece → Type 0
FrontStands bytes (piece.Passed n) = Stands bytes n no_tokens
FrontStands bytes (piece.Token k n) = TokenStands k n bytes
FrontStands bytes (piece.Questioned n) = QuestionStands n bytes
FrontStands bytes piece.Nothing = BeginsNoPiece bytes

-- the same, of bytes and of what stands at their front in another form
pub stands_as : (bytes other : List ℕ) (f g : Piece) → bytes ≡ other → f ≡ g → FrontStands other g → FrontStands bytes f
stands_as bytes other f g e h k = subst (λ (x : List ℕ). FrontStands x f) (sym e) (subst (λ (x : Piece). FrontStands other x) (sym h) k)

token_stands : (k : Kind) (s behind : List ℕ) → IsVPiece (spelled (token_of k s) s) behind → 1 ≤ length s → HasBytes k s
    → TokenStands k (length s) (s ++ behind)
token_stands k s behind is some has =
    let taken : take (length s) (s ++ behind) ≡ s = take-append_seam s behind in
    record {
      stands = record {
        piece = spelled (token_of k s) s;
        behind = behind;
        bytes_are = refl;
        is = is;
        count = refl;
        tokens = λ before. ap (λ (x : List ℕ). stands_after before (token_of k x) ∷ []) (sym taken);
        some = some;
      };
      has_bytes = subst (HasBytes k) (sym taken) has;
    }

-- a token that s spells
pub token_front : (bytes : List ℕ) (f : Piece) (k : Kind) (s behind : List ℕ) → bytes ≡ s ++ behind → f ≡ piece.Token k (length s)
    → IsVPiece (spelled (token_of k s) s) behind → 1 ≤ length s → HasBytes k s → FrontStands bytes f
token_front bytes f k s behind e g is some has = stands_as bytes (s ++ behind) f (piece.Token k (length s)) e g (token_stands k s behind is some has)

question_stands : (s behind : List ℕ) → IsConstant (width_of s) (value_of s) s → HasBytes kind.Constant s → QuestionStands (length s) (s ++ 63 ∷ behind)
question_stands s behind is has =
    let taken : take (length s) (s ++ 63 ∷ behind) ≡ s = take-append_seam s (63 ∷ behind) in
    record {
      stands = record {
        piece = questioned (width_of s) (value_of s) s;
        behind = behind;
        bytes_are = sym (append_assoc s (codes "?") behind);
        is = is;
        count = length-append s (codes "?");
        tokens = λ before. ap (λ (x : List ℕ). with_question (token_of kind.Constant x) x before) (sym taken);
        some = omega arith;
      };
      has_bytes = subst (HasBytes kind.Constant) (sym taken) has;
    }

-- a constant that s spells, with a `?` behind it
pub question_front : (bytes : List ℕ) (f : Piece) (s behind : List ℕ) → bytes ≡ s ++ 63 ∷ behind → f ≡ piece.Questioned (length s)
    → IsConstant (width_of s) (value_of s) s → HasBytes kind.Constant s → FrontStands bytes f
question_front bytes f s behind e g is has = stands_as bytes (s ++ 63 ∷ behind) f (piece.Questioned (length s)) e g (question_stands s behind is has)
