-- The places behind operands in `$signed`, and behind a block of writes.
use Rattle.std.proofs.Common.{◌≡◌, List, [], ◌∷◌, ◌++◌, refl, ap, ◌∙◌}
use Rattle.std.specs.Prelude.{ℕ, drop, codes}
use Rattle.ver_ast.specs.declared.place.VPlace.{VPlace}
use Rattle.ver_ast.specs.declared.tree.SignedOp.{SignedOp}
use Rattle.ver_ast.specs.declared.tree.SignedOp.TheVariants as signed
use Rattle.ver_ast.specs.Atoms.{AtomTree}
use Rattle.ver_ast.specs.Tokens.{VToken, word, sign, signed_word}
use Rattle.ver_ast.specs.Grammar.{atom_tokens, binary_token, signed_tokens, unsigned_op}
use Rattle.ver_places.specs.Places.{behind, places_in}
use Rattle.ver_places.proofs.PlacesBehind.{behind_both, drop_one}

-- an operator has no place
operator_place : (op : SignedOp) (ts : List VToken) (ps : List VPlace) → behind ts ps ≡ behind (binary_token (unsigned_op op) ∷ ts) ps
operator_place signed.Div ts ps = refl
operator_place signed.Rem ts ps = refl
operator_place signed.Lt ts ps = refl
operator_place signed.Leq ts ps = refl
operator_place signed.Gt ts ps = refl
operator_place signed.Geq ts ps = refl

one_signed : (a : AtomTree) (ps : List VPlace) → behind (atom_tokens a) (drop 1 ps) ≡ behind (signed_tokens a) ps
one_signed a ps = drop_one (places_in (atom_tokens a)) ps ∙ behind_both (signed_word ∷ sign 40 ∷ atom_tokens a) (sign 41 ∷ []) ps

pub two_signed : (a : AtomTree) (op : SignedOp) (b : AtomTree) (ps : List VPlace)
    → behind (atom_tokens b) (drop 1 (behind (atom_tokens a) (drop 1 ps))) ≡ behind (signed_tokens a ++ binary_token (unsigned_op op) ∷ signed_tokens b) ps
two_signed a op b ps =
    one_signed b (behind (atom_tokens a) (drop 1 ps)) ∙ operator_place op (signed_tokens b) (behind (atom_tokens a) (drop 1 ps))
    ∙ ap (behind (binary_token (unsigned_op op) ∷ signed_tokens b)) (one_signed a ps)
    ∙ behind_both (signed_tokens a) (binary_token (unsigned_op op) ∷ signed_tokens b) ps

pub writes_behind : (clock : List ℕ) (ts : List VToken) (ps : List VPlace)
    → drop 1 (behind ts (drop 4 ps))
    ≡ behind (word (codes "always") ∷ sign 64 ∷ sign 40 ∷ word (codes "posedge") ∷ word clock ∷ sign 41 ∷ word (codes "begin") ∷ ts ++ word (codes "end") ∷ []) ps
writes_behind clock ts ps = ap (drop 1) (behind_both front ts ps) ∙ behind_both (front ++ ts) (word (codes "end") ∷ []) ps
  where
    front : List VToken
    front = word (codes "always") ∷ sign 64 ∷ sign 40 ∷ word (codes "posedge") ∷ word clock ∷ sign 41 ∷ word (codes "begin") ∷ []
