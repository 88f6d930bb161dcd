-- Ranges, as text and as tokens.
-- A width of 1 has none.
use Rattle.std.proofs.Common.{◌≡◌, ℕ, ◌-◌, ◌≤◌, List, ◌++◌, Bool, true, false, refl, append_assoc, arith}
use Rattle.std.specs.Prelude.{codes, decimal, nat_eq}
use Rattle.ver_ast.specs.Tokens.{VToken}
use Rattle.ver_ast.specs.Grammar.{range_tokens}
use Rattle.ver_emit.specs.Layout.{range_text}
use Rattle.ver_emit.proofs.ReadText.{Reads, moved}
use Rattle.ver_emit.proofs.Fixed.{fixed_spelled}
use Rattle.ver_emit.proofs.Numbers.{number_spelled}

-- where the test for a width of 1 has this answer
range_by_test : (w : ℕ) (one : Bool) (rest : List ℕ) (ts : List VToken) → nat_eq w 1 ≡ one → 1 ≤ w → w ≤ 128 → Reads rest ts
    → Reads (range_text w ++ rest) (range_tokens w ++ ts)
range_by_test w true rest ts test low high e = rw test e
range_by_test w false rest ts test low high e =
    let close = fixed_spelled (codes ":0] ") rest _ ts refl refl e in
    let digits = number_spelled (w - 1) 58 _ _ (omega arith) refl refl close in
    let grouped : (codes "[" ++ decimal (w - 1) ++ codes ":0] ") ++ rest ≡ codes "[" ++ (decimal (w - 1) ++ (codes ":0] " ++ rest)) =
    simp append_assoc in
    rw test (moved _ _ _ _ grouped (fixed_spelled (codes "[") _ _ _ refl refl digits) refl)

-- the range of a width, where one stands, before the rest
pub range_spelled : (w : ℕ) (rest : List ℕ) (ts : List VToken) → 1 ≤ w → w ≤ 128 → Reads rest ts
    → Reads (range_text w ++ rest) (range_tokens w ++ ts)
range_spelled w rest ts low high e = range_by_test w (nat_eq w 1) rest ts refl low high e
