-- How many leaves, registers and arrays a net has.
use Rattle.std.specs.Prelude.{ℕ, length, count_by, Bool, true, false}
use Rattle.fir_net.specs.declared.leaf.Role.{Role}
use Rattle.fir_net.specs.declared.leaf.Role.TheVariants as role
use Rattle.fir_net.specs.declared.net.FlatNet.{FlatNet}

abbrev pub is_register : Role → Bool
is_register (role.Register r) = true
is_register _ = false

abbrev pub leaf_count : FlatNet → ℕ
leaf_count net = length net.leaves

abbrev pub register_count : FlatNet → ℕ
register_count net = count_by (λ l. is_register l.role) net.leaves

abbrev pub array_count : FlatNet → ℕ
array_count net = length net.arrays
