-- The places behind a write.
use Rattle.std.proofs.Common.{◌≡◌, List, [], ◌∷◌, ◌++◌, ap, ◌∙◌}
use Rattle.std.specs.Prelude.{drop, codes}
use Rattle.ver_ast.specs.declared.place.VPlace.{VPlace}
use Rattle.ver_ast.specs.declared.tree.Write.{Write}
use Rattle.ver_ast.specs.Tokens.{VToken, word, sign, double}
use Rattle.ver_ast.specs.Grammar.{atom_tokens, write_tokens}
use Rattle.ver_places.specs.Places.{behind, places_in}
use Rattle.ver_places.proofs.PlacesBehind.{behind_both, drop_one, drop_two}

-- the places behind a write, by those behind its parts
pub behind_write : (w : Write) (ps : List VPlace)
    → behind (atom_tokens w.source) (behind (atom_tokens w.index) (drop 2 (behind (atom_tokens w.condition) (drop 1 ps)))) ≡ behind (write_tokens w) ps
behind_write w ps =
    ap (λ (qs : List VPlace). behind (atom_tokens w.source) (behind (atom_tokens w.index) (drop 2 qs))) (drop_one (places_in (atom_tokens w.condition)) ps)
    ∙ ap (behind (atom_tokens w.source)) (drop_two (places_in (atom_tokens w.index)) (behind condition ps))
    ∙ ap (behind source) (behind_both condition index ps)
    ∙ behind_both (condition ++ index) source ps
    ∙ behind_both (condition ++ index ++ source) (sign 59 ∷ []) ps
  where
    condition : List VToken
    condition = word (codes "if") ∷ sign 40 ∷ atom_tokens w.condition

    index : List VToken
    index = sign 41 ∷ word w.array ∷ sign 91 ∷ atom_tokens w.index

    source : List VToken
    source = sign 93 ∷ double 60 61 ∷ atom_tokens w.source
