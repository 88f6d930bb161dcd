-- Tokens that spell the statements of the circuit `Gen`, line by line.
use Rattle.std.proofs.Common.{ℕ, ◌+◌, ◌-◌, ◌^◌, ◌<◌, List, [], ◌∷◌, ◌++◌, codes, Some, refl, inl, arith}
use Rattle.std.specs.Prelude.{decimal}
use Rattle.fir_bits.specs.declared.operators.PrimOp.TheVariants.{Xor}
use Rattle.fir_ast.specs.declared.place.Place.{Place}
use Rattle.fir_ast.specs.Expressions.{Expression, literal, operation}
use Rattle.fir_ast.specs.Statements.{Block, Reset, connect, then}
use Rattle.fir_parse.specs.declared.lexeme.Mark.TheVariants.{Connect, Arrow, OpenRound, CloseRound, Less, Greater, Comma}
use Rattle.fir_parse.specs.Lexemes.{Terminal, word, integer, mark, line_end, level_opens, level_closes}
use Rattle.fir_parse.specs.Limits.{everywhere}
use Rattle.fir_parse.specs.ExpressionForms.{IsExpression}
use Rattle.fir_parse.specs.StatementForms.{IsResetPair, IsRegisterReset, IsStatement, AreStatements}
use Rattle.fir_parse.proofs.FormsFound.{token_at}
use Rattle.fir_gen.specs.GenText.{register_name}
use Rattle.fir_gen.specs.working.GenTree.{plain, plain_sink, two, sum_at, register_at, step_when}
use Rattle.fir_gen_spelled.proofs.Chains.{◌▹◌}
use Rattle.fir_gen_spelled.proofs.Parts.{a_word, name, pieces_of}
use Rattle.fir_gen_spelled.proofs.RowTokens.{LinePlaces, terminals_at, behind_moves, rows_tokens}
use Rattle.fir_gen_spelled.proofs.GenRows.{reset_parts, register_parts, when_parts, xor_parts, else_parts, sum_parts, last_parts, step_rows}
use Rattle.fir_gen_spelled.proofs.GenPlaces.{part_at, register_spots, later_at}
use Rattle.fir_gen_spelled.proofs.Expressions.{uint_spelled, number_literal, literal_spelled, plain_spelled, pair_spelled, sum_spelled, lowest_spelled}

-- ---- connects

pub connect_spelled : (d : ℕ) (w : List ℕ) (p q z : Place) (e : Expression) (es ts : List Terminal)
    → IsExpression everywhere d e es (token_at line_end z ∷ ts)
    → IsStatement everywhere d (connect p (plain_sink p w) e) (token_at (word w) p ∷ token_at (mark Connect) q ∷ es) ts
connect_spelled d w p q z e es ts is = (_, (_, refl) ▹ refl) ▹ (_, (q, refl)) ▹ (_, is) ▹ (_, (z, refl)) ▹ (refl, refl)

pub sum_connect_spelled : (d : ℕ) (u v : List ℕ) (q : LinePlaces) (ts : List Terminal) → d < 255
    → IsStatement everywhere d
    (connect (q.part 0) (plain_sink (q.part 0) u) (sum_at (q.part 4) (q.part 6) (plain (q.part 8) u) (plain (q.part 11) v)))
    (behind_moves q (sum_parts (a_word u) (a_word v)) ts) ts
sum_connect_spelled d u v q ts h =
    connect_spelled d u (q.part 0) (q.part 2) q.ends (sum_at (q.part 4) (q.part 6) (plain (q.part 8) u) (plain (q.part 11) v)) _ ts
    (sum_spelled d u v (q.part 4) _ (q.part 6) _ (q.part 8) _ (q.part 11) _ _ _ _ _ h)

pub xor_connect_spelled : (d : ℕ) (u v : List ℕ) (q : LinePlaces) (ts : List Terminal) → d < 255
    → IsStatement everywhere d
    (connect (q.part 0) (plain_sink (q.part 0) u) (operation (q.part 4) Xor (two (plain (q.part 6) v) (plain (q.part 9) u)) []))
    (behind_moves q (xor_parts (a_word u) (a_word v)) ts) ts
xor_connect_spelled d u v q ts h =
    connect_spelled d u (q.part 0) (q.part 2) q.ends (operation (q.part 4) Xor (two (plain (q.part 6) v) (plain (q.part 9) u)) []) _ ts
    (pair_spelled d Xor v u (q.part 4) _ (q.part 6) _ (q.part 9) _ _ (omega arith) refl refl)

pub last_connect_spelled : (d : ℕ) (u : List ℕ) (q : LinePlaces) (ts : List Terminal)
    → IsStatement everywhere d (connect (q.part 0) (plain_sink (q.part 0) (codes "y")) (plain (q.part 4) u)) (behind_moves q (last_parts (a_word u)) ts) ts
last_connect_spelled d u q ts = connect_spelled d (codes "y") (q.part 0) (q.part 2) q.ends (plain (q.part 4) u) _ ts (plain_spelled d (q.part 4) u _)

-- ---- registers

-- the places of a register, in its line
abbrev pub register_places : LinePlaces → ℕ → Place
register_places q i = part_at (λ l. q) (register_spots 0 []) (i - 11)

abbrev register_reset : LinePlaces → ℕ → Reset
register_reset q k =
    record { place = q.part 14; condition = plain (q.part 24) (codes "reset"); init = literal (number_literal (q.part 27) k) }

reset_spelled : (k : ℕ) (q : LinePlaces) (ts : List Terminal) → k < 2 ^ 64
    → IsRegisterReset everywhere 0 (Some (register_reset q k))
    (terminals_at (λ i. q.part (14 + i)) (pieces_of (reset_parts k)) ++ token_at line_end q.ends ∷ ts) ts
reset_spelled k q ts h =
    (_, refl) ▹ (_, (_, refl)) ▹ inl ((_, (_, refl)) ▹ (_, (λ here. omega arith, refl)) ▹ (_, pair) ▹ (_, (_, refl)) ▹ (_, refl))
  where
    pair : IsResetPair everywhere 1 (register_reset q k)
        (token_at (word (codes "reset")) (q.part 19) ∷ token_at (mark Arrow) (q.part 21) ∷ token_at (mark OpenRound) (q.part 23)
        ∷ token_at (word (codes "reset")) (q.part 24) ∷ token_at (mark Comma) (q.part 25) ∷ token_at (word (codes "UInt")) (q.part 27)
        ∷ token_at (mark Less) (q.part 28) ∷ token_at (integer (codes "16")) (q.part 29) ∷ token_at (mark Greater) (q.part 30)
        ∷ token_at (mark OpenRound) (q.part 31) ∷ token_at (integer (decimal k)) (q.part 32) ∷ token_at (mark CloseRound) (q.part 33)
        ∷ token_at (mark CloseRound) (q.part 34) ∷ token_at (mark CloseRound) (q.part 35) ∷ token_at line_end q.ends ∷ ts)
        (token_at (mark CloseRound) (q.part 35) ∷ token_at line_end q.ends ∷ ts)
    pair =
        (_, (_, refl)) ▹ (_, (_, refl)) ▹ (_, (_, refl)) ▹ (_, (λ here. omega arith, refl)) ▹ (_, plain_spelled 2 (q.part 24) (codes "reset") _)
        ▹ (_, (_, refl)) ▹ (_, literal_spelled 2 k (q.part 27) _ _ _ _ _ _ _ (omega arith) h) ▹ (_, refl)

pub register_spelled : (k : ℕ) (q : LinePlaces) (ts : List Terminal) → k < 2 ^ 64
    → IsStatement everywhere 0 (register_at (λ n. register_places q) k) (behind_moves q (register_parts k) ts) ts
register_spelled k q ts h =
    (_, refl) ▹ (_, refl) ▹ (_, (_, refl)) ▹ (_, (_, (refl, refl)) ▹ uint_spelled 0 16 (codes "16") _ _ _ _ _ refl refl (omega arith))
    ▹ (_, (_, refl)) ▹ (_, plain_spelled 0 (q.part 12) (codes "clock") _) ▹ reset_spelled k q ts h

-- ---- steps

-- the statement behind the register of a step, with its connects in levels of their own
when_spelled : (j : ℕ) (p q : ℕ → LinePlaces) (c : Place) (ts : List Terminal)
    → IsStatement everywhere 0 (step_when (λ n. later_at p q) j)
    (behind_moves (p 1) when_parts
    (token_at level_opens (p 2).begins
    ∷ behind_moves (p 2) (xor_parts (name (j + 1)) (name j))
    (token_at level_closes (p 3).begins
    ∷ behind_moves (p 3) else_parts
    (token_at level_opens (p 4).begins ∷ behind_moves (p 4) (sum_parts (name (j + 1)) (name j)) (token_at level_closes c ∷ ts))))) ts
when_spelled j p q c ts =
    (_, refl) ▹ (_, lowest_spelled 0 (codes "x") _ _ _ _ _ _ _ _ _ (omega arith)) ▹ (_, (_, refl)) ▹ (_, (_, refl))
    ▹ (_, (λ here. omega arith, refl))
    ▹ (_, (_, (_, refl)) ▹ (_, xor_connect_spelled 1 (register_name (j + 1)) (register_name j) (p 2) _ (omega arith)) ▹ (_, refl) ▹ (_, refl))
    ▹ inl
    ((_, (_, refl)) ▹ (_, (_, refl)) ▹ (_, (_, refl)) ▹ (_, (_, refl))
    ▹ (_, sum_connect_spelled 1 (register_name (j + 1)) (register_name j) (p 4) _ (omega arith)) ▹ (_, refl) ▹ (_, refl))

-- a step, before the line that closes its last level
pub step_spelled : (j : ℕ) (p q : ℕ → LinePlaces) (c : Place) (b : Block) (ts behind : List Terminal) → j < 4096
    → AreStatements everywhere 0 b ts behind
    → AreStatements everywhere 0 ((then) (register_at (λ n. later_at p q) (j + 1)) ((then) (step_when (λ n. later_at p q) j) b))
    (rows_tokens p (step_rows [] j) (token_at level_closes c ∷ ts)) behind
step_spelled j p q c b ts behind h rest =
    (_, register_spelled (j + 1) (p 0) _ (omega arith)) ▹ (_, when_spelled j p q c ts) ▹ rest
