-- The place behind bytes, counted from the beginning, moves on as byte for byte.
use Rattle.std.proofs.Common.{◌≡◌, ℕ, ◌+◌, Bool, true, false, cond, not, eqb, List, [], ◌∷◌, ◌++◌, count_by, refl, sym, ap, ap₂, ◌∙◌, append_assoc, append-nil, arith}
use Rattle.std.specs.List.{prefix_len, suffix_len}
use Rattle.std.proofs.lemmas.List.{reverse-append}
use Rattle.std.proofs.lemmas.List.Sums.{sum_by_push}
use Rattle.ver_ast.specs.declared.place.VPlace.{VPlace}
use Rattle.ver_lex.specs.working.Bytes.{next_place, place_behind}
use Rattle.ver_ast.specs.Pieces.{place_after}

abbrev place : ℕ → ℕ → VPlace
place l c = record { line = l; col = c }

newlines : (before : List ℕ) (b : ℕ) → count_by (λ x. eqb x 10) (before ++ b ∷ []) ≡ count_by (λ x. eqb x 10) before + cond (eqb b 10) 1 0
newlines before b = sum_by_push (λ x. cond (eqb x 10) 1 0) before b

since : (before : List ℕ) (b : ℕ) → suffix_len (λ x. not (eqb x 10)) (before ++ b ∷ []) ≡ cond (not (eqb b 10)) (1 + suffix_len (λ x. not (eqb x 10)) before) 0
since before b = ap (prefix_len (λ x. not (eqb x 10))) (reverse-append before (b ∷ []))

one_more : (before : List ℕ) (b : ℕ) (t : Bool) → eqb b 10 ≡ t
    → place_after (before ++ b ∷ []) ≡ cond t (place ((place_after before).line + 1) 1) (place (place_after before).line ((place_after before).col + 1))
one_more before b true e =
    let lines = rw e at (newlines before b) in
    let cols = rw e at (since before b) in
    ap₂ place (omega arith) (omega arith)
one_more before b false e =
    let lines = rw e at (newlines before b) in
    let cols = rw e at (since before b) in
    ap₂ place (omega arith) (omega arith)

-- a byte more
pub place_more : (before : List ℕ) (b : ℕ) → place_after (before ++ b ∷ []) ≡ next_place (place_after before) b
place_more before b = one_more before b (eqb b 10) refl

pub place_on : (before s : List ℕ) → place_after (before ++ s) ≡ place_behind (place_after before) s
place_on before [] = ap place_after (append-nil before)
place_on before (b ∷ bs) =
    ap place_after (sym (append_assoc before (b ∷ []) bs)) ∙ place_on (before ++ b ∷ []) bs ∙ ap (λ (p : VPlace). place_behind p bs) (place_more before b)

pub place_behind_both : (p : VPlace) (s r : List ℕ) → place_behind p (s ++ r) ≡ place_behind (place_behind p s) r
place_behind_both p [] r = refl
place_behind_both p (b ∷ bs) r = place_behind_both (next_place p b) bs r
