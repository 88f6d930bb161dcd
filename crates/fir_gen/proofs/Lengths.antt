-- The text is short: no register takes more than 300 bytes.
use Rattle.std.proofs.Common.{◌+◌, ◌-◌, ◌*◌, ◌≤◌, ◌<◌, ℕ, zero, suc, List, [], ◌++◌, arith, length, length-append, lit≤}
use Rattle.std.specs.Prelude.{codes, decimal}
use Rattle.std.proofs.lemmas.Fmt.{length-decimal-le}
use Rattle.fir_gen.specs.GenText.{first_lines, gen_text, head_lines, last_line, register_line, register_name, step_lines, steps_text}

decimal_short : (k : ℕ) → k < 10000 → length (decimal k) ≤ 4
decimal_short k small = length-decimal-le 4 k (omega arith) small (omega arith)

joined_short : (a b : List ℕ) (m n : ℕ) → length a ≤ m → length b ≤ n → length (a ++ b) ≤ m + n
joined_short a b m n p q = omega (arith, length-append a b)

name_short : (k : ℕ) → k < 10000 → length (register_name k) ≤ 5
name_short k small = joined_short (codes "r") (decimal k) 1 4 (lit≤ tt) (decimal_short k small)

five_short : (a b c d e : List ℕ) → length a ≤ 8 → length b ≤ 5 → length c ≤ 60 → length d ≤ 4 → length e ≤ 4 → length (a ++ b ++ c ++ d ++ e) ≤ 81
five_short a b c d e p q r s t = simp length-append (omega arith)

line_short : (k : ℕ) → k < 10000 → length (register_line k) ≤ 81
line_short k small =
    five_short (codes "    reg ") (register_name k) (codes " : UInt<16>, clock with : (reset => (reset, UInt<16>(") (decimal k) (codes ")))\n") (lit≤ tt)
    (name_short k small) (lit≤ tt) (decimal_short k small) (lit≤ tt)

pieces_short : (r w n b m c d f g : List ℕ) → length r ≤ 81 → length w ≤ 40 → length n ≤ 5 → length b ≤ 10 → length m ≤ 5 → length c ≤ 2 → length d ≤ 40
    → length f ≤ 20 → length g ≤ 20 → length (r ++ w ++ n ++ b ++ m ++ c ++ n ++ d ++ n ++ f ++ n ++ c ++ m ++ g) ≤ 300
pieces_short r w n b m c d f g is_r is_w is_n is_b is_m is_c is_d is_f is_g = simp length-append (omega arith)

step_short : (j : ℕ) → j < 4096 → length (step_lines j) ≤ 300
step_short j small =
    pieces_short (register_line (j + 1)) (codes "    when bits(x, 0, 0) :\n      ") (register_name (j + 1)) (codes " <= xor(") (register_name j) (codes ", ")
    (codes ")\n    else :\n      ") (codes " <= tail(add(") (codes "), 1)\n") (line_short (j + 1) (omega arith)) (lit≤ tt) (name_short (j + 1) (omega arith))
    (lit≤ tt) (name_short j (omega arith)) (lit≤ tt) (lit≤ tt) (lit≤ tt) (lit≤ tt)

steps_short : (j count : ℕ) → j + count ≤ 4096 → length (steps_text j count) ≤ 300 * count
unfolding steps_text
steps_short j zero few = omega arith
steps_short j (suc count) few =
    let more = joined_short (step_lines j) (steps_text (j + 1) count) 300 (300 * count) (step_short j (omega arith)) (steps_short (j + 1) count (omega arith)) in
    omega (arith, more)

four_short : (h f s l : List ℕ) (k : ℕ) → length h ≤ 200 → length f ≤ 200 → length s ≤ k → length l ≤ 50 → length (h ++ f ++ s ++ l) ≤ k + 450
four_short h f s l k p q r t = simp length-append (omega arith)

first_short : length first_lines ≤ 200
first_short = let more = joined_short (register_line 0) (codes "    r0 <= tail(add(r0, x), 1)\n") 81 50 (line_short 0 (omega arith)) (lit≤ tt) in omega (arith, more)

last_short : (k : ℕ) → k < 10000 → length (last_line k) ≤ 50
last_short k small =
    let more =
    joined_short (codes "    y <= " ++ register_name k) (codes "\n") 15 1 (joined_short (codes "    y <= ") (register_name k) 10 5 (lit≤ tt) (name_short k small))
    (lit≤ tt)
    in
    omega (arith, more)

pub gen_short : (n : ℕ) → n ≤ 4096 → length (gen_text n) ≤ 16777216
gen_short n few =
    let more =
    four_short head_lines first_lines (steps_text 0 (n - 1)) (last_line (n - 1)) (300 * (n - 1)) (lit≤ tt) first_short (steps_short 0 (n - 1) (omega arith))
    (last_short (n - 1) (omega arith))
    in
    omega (arith, more)
