-- Tokens that spell the ports of the circuit `Gen`.
use Rattle.std.proofs.Common.{◌≡◌, ℕ, ◌^◌, ◌<◌, false, List, codes, Some, refl}
use Rattle.fir_base.specs.declared.direction.Direction.{Direction}
use Rattle.fir_base.specs.Digits.{decimal_value}
use Rattle.fir_ast.specs.Types.{clock, uint}
use Rattle.fir_parse.specs.Lexemes.{Terminal}
use Rattle.fir_parse.specs.Limits.{everywhere}
use Rattle.fir_parse.specs.Numbers.{has_sign}
use Rattle.fir_parse.specs.CircuitForms.{direction_word, IsPort}
use Rattle.fir_gen.specs.working.GenTree.{named_at, port_at}
use Rattle.fir_gen_spelled.proofs.Chains.{◌▹◌}
use Rattle.fir_gen_spelled.proofs.RowTokens.{LinePlaces, behind_moves}
use Rattle.fir_gen_spelled.proofs.GenRows.{clock_parts, port_parts}
use Rattle.fir_gen_spelled.proofs.Expressions.{uint_spelled}

pub clock_port_spelled : (q : LinePlaces) (ts : List Terminal)
    → IsPort everywhere (port_at (q.part 2) (q.part 6) (codes "clock") clock) (behind_moves q clock_parts ts) ts
clock_port_spelled q ts = (_, (_, refl)) ▹ (_, refl) ▹ (_, (_, refl)) ▹ (_, (_, (refl, refl)) ▹ (_, refl)) ▹ (_, refl)

-- a port of n bits
pub port_spelled : (direction : Direction) (name : List ℕ) (n : ℕ) (width : List ℕ) (q : LinePlaces) (ts : List Terminal) → has_sign width ≡ false
    → decimal_value width ≡ n → n < 2 ^ 128
    → IsPort everywhere
    (record { direction = direction; named = named_at (q.part 2) name; type_place = q.part 6; data_type = uint (Some n) })
    (behind_moves q (port_parts (direction_word direction) name width) ts) ts
port_spelled direction name n width q ts no_sign value small =
    (_, (_, refl)) ▹ (_, refl) ▹ (_, (_, refl)) ▹ (_, (_, (refl, refl)) ▹ uint_spelled 0 n width _ _ _ _ _ no_sign value small) ▹ (_, refl)
