-- The rows of the text of the circuit `Gen`: of its head with register 0, of each step, and of its last line.
use Rattle.std.proofs.Common.{ℕ, ◌+◌, ◌^◌, ◌<◌, List, [], ◌∷◌, codes, refl, arith}
use Rattle.fir_lex.specs.Tokens.{Token, level_opens, level_closes}
use Rattle.fir_gen_spelled.proofs.Chains.{◌▹◌}
use Rattle.fir_gen_spelled.proofs.Parts.{Part, gap, a_word, a_sign, an_integer, name, number}
use Rattle.fir_gen_spelled.proofs.Rows.{Row, row, AreSound}
use Rattle.fir_gen_spelled.proofs.RowLevels.{Moves, AreMoves, opens, stays, closes}

-- ---- parts

-- the type of so many bits, and what stands behind it
abbrev pub bits_then : List ℕ → List Part → List Part
bits_then width more = a_word (codes "UInt") ∷ a_sign (codes "<") ∷ an_integer width ∷ a_sign (codes ">") ∷ more

abbrev pub named_parts : List ℕ → List ℕ → List Part
named_parts keyword called = a_word keyword ∷ gap ∷ a_word called ∷ gap ∷ a_sign (codes ":") ∷ []

abbrev pub clock_parts : List Part
clock_parts = a_word (codes "input") ∷ gap ∷ a_word (codes "clock") ∷ gap ∷ a_sign (codes ":") ∷ gap ∷ a_word (codes "Clock") ∷ []

-- a port of so many bits
abbrev pub port_parts : List ℕ → List ℕ → List ℕ → List Part
port_parts direction called width = a_word direction ∷ gap ∷ a_word called ∷ gap ∷ a_sign (codes ":") ∷ gap ∷ bits_then width []

abbrev pub reset_parts : ℕ → List Part
reset_parts k =
    a_word (codes "with") ∷ gap ∷ a_sign (codes ":") ∷ gap ∷ a_sign (codes "(") ∷ a_word (codes "reset") ∷ gap ∷ a_sign (codes "=>") ∷ gap
    ∷ a_sign (codes "(") ∷ a_word (codes "reset") ∷ a_sign (codes ",") ∷ gap
    ∷ bits_then (codes "16") (a_sign (codes "(") ∷ number k ∷ a_sign (codes ")") ∷ a_sign (codes ")") ∷ a_sign (codes ")") ∷ [])

abbrev pub register_parts : ℕ → List Part
register_parts k =
    a_word (codes "reg") ∷ gap ∷ name k ∷ gap ∷ a_sign (codes ":") ∷ gap
    ∷ bits_then (codes "16") (a_sign (codes ",") ∷ gap ∷ a_word (codes "clock") ∷ gap ∷ reset_parts k)

abbrev pub when_parts : List Part
when_parts =
    a_word (codes "when") ∷ gap ∷ a_word (codes "bits") ∷ a_sign (codes "(") ∷ a_word (codes "x") ∷ a_sign (codes ",") ∷ gap
    ∷ an_integer (codes "0") ∷ a_sign (codes ",") ∷ gap ∷ an_integer (codes "0") ∷ a_sign (codes ")") ∷ gap ∷ a_sign (codes ":") ∷ []

abbrev pub xor_parts : Part → Part → List Part
xor_parts own former =
    own ∷ gap ∷ a_sign (codes "<=") ∷ gap ∷ a_word (codes "xor") ∷ a_sign (codes "(") ∷ former ∷ a_sign (codes ",") ∷ gap ∷ own ∷ a_sign (codes ")") ∷ []

abbrev pub else_parts : List Part
else_parts = a_word (codes "else") ∷ gap ∷ a_sign (codes ":") ∷ []

abbrev pub sum_parts : Part → Part → List Part
sum_parts own other =
    own ∷ gap ∷ a_sign (codes "<=") ∷ gap ∷ a_word (codes "tail") ∷ a_sign (codes "(") ∷ a_word (codes "add") ∷ a_sign (codes "(") ∷ own
    ∷ a_sign (codes ",") ∷ gap ∷ other ∷ a_sign (codes ")") ∷ a_sign (codes ",") ∷ gap ∷ an_integer (codes "1") ∷ a_sign (codes ")") ∷ []

abbrev pub last_parts : Part → List Part
last_parts shown = a_word (codes "y") ∷ gap ∷ a_sign (codes "<=") ∷ gap ∷ shown ∷ []

-- ---- rows

abbrev pub head_rows : List Row
head_rows =
    row [] 0 (named_parts (codes "circuit") (codes "Gen")) ∷ row (level_opens ∷ []) 2 (named_parts (codes "module") (codes "Gen"))
    ∷ row (level_opens ∷ []) 4 clock_parts ∷ row [] 4 (port_parts (codes "input") (codes "reset") (codes "1"))
    ∷ row [] 4 (port_parts (codes "input") (codes "x") (codes "16")) ∷ row [] 4 (port_parts (codes "output") (codes "y") (codes "16"))
    ∷ row [] 4 (register_parts 0) ∷ row [] 4 (sum_parts (name 0) (a_word (codes "x"))) ∷ []

-- of the register behind that of a number, with the levels that it closes first
abbrev pub step_rows : List Token → ℕ → List Row
step_rows moves j =
    row moves 4 (register_parts (j + 1)) ∷ row [] 4 when_parts ∷ row (level_opens ∷ []) 6 (xor_parts (name (j + 1)) (name j))
    ∷ row (level_closes ∷ []) 4 else_parts ∷ row (level_opens ∷ []) 6 (sum_parts (name (j + 1)) (name j)) ∷ []

abbrev pub last_rows : List Token → ℕ → List Row
last_rows moves k = row moves 4 (last_parts (name k)) ∷ []

-- ---- they are sound

pub head_sound : AreSound head_rows
head_sound = let small : 0 < 2 ^ 64 = omega arith in (refl, (small, (small, (small, (small, tt)))))

pub step_sound : (moves : List Token) (j : ℕ) → j < 4096 → AreSound (step_rows moves j)
step_sound moves j h =
    let own : j + 1 < 2 ^ 64 = omega arith in
    let former : j < 2 ^ 64 = omega arith in
    (refl, (own, (own, (own, (former, (own, (own, (own, (former, tt)))))))))

pub last_sound : (moves : List Token) (k : ℕ) → k < 4096 → AreSound (last_rows moves k)
last_sound moves k h = let small : k < 2 ^ 64 = omega arith in (refl, (small, tt))

-- ---- their levels

abbrev pub outer_levels : List ℕ
outer_levels = 4 ∷ 2 ∷ 0 ∷ []

abbrev pub inner_levels : List ℕ
inner_levels = 6 ∷ outer_levels

pub stays_outer : Moves 4 outer_levels [] outer_levels
stays_outer = stays 4 (2 ∷ 0 ∷ [])

opens_6 : Moves 6 outer_levels (level_opens ∷ []) inner_levels
opens_6 = opens 6 4 (2 ∷ 0 ∷ []) (omega arith)

pub closes_6 : Moves 4 inner_levels (level_closes ∷ []) outer_levels
closes_6 = closes 6 4 (2 ∷ 0 ∷ []) (omega arith)

pub head_moves : AreMoves (0 ∷ []) head_rows outer_levels
head_moves =
    (0 ∷ [], stays 0 []) ▹ (2 ∷ 0 ∷ [], opens 2 0 [] (omega arith)) ▹ (outer_levels, opens 4 2 (0 ∷ []) (omega arith)) ▹ (outer_levels, stays_outer)
    ▹ (outer_levels, stays_outer) ▹ (outer_levels, stays_outer) ▹ (outer_levels, stays_outer) ▹ (outer_levels, stays_outer) ▹ refl

-- by the move of the first line
pub step_moves : (levels : List ℕ) (moves : List Token) (j : ℕ) → Moves 4 levels moves outer_levels → AreMoves levels (step_rows moves j) inner_levels
step_moves levels moves j first =
    (outer_levels, first) ▹ (outer_levels, stays_outer) ▹ (inner_levels, opens_6) ▹ (outer_levels, closes_6) ▹ (inner_levels, opens_6) ▹ refl

pub last_moves : (levels : List ℕ) (moves : List Token) (k : ℕ) → Moves 4 levels moves outer_levels → AreMoves levels (last_rows moves k) outer_levels
last_moves levels moves k first = (outer_levels, first, refl)
