-- Leaves as the tests make them.
use Rattle.std.proofs.Common.{ℕ, [], ◌∷◌, Bool, false, None, Some}
use Rattle.fir_net.specs.declared.leaf.ResetKind.{ResetKind}
use Rattle.fir_net.specs.declared.leaf.Role.{Role}
use Rattle.fir_net.specs.declared.leaf.Role.TheVariants as role
use Rattle.fir_net.specs.declared.reads.Read.{Read}
use Rattle.fir_net.specs.declared.reads.Read.TheVariants as read
use Rattle.fir_net.specs.declared.leaf.Leaf.{Leaf}

-- a leaf with its name, its line, its sign, its width and its role; and one on the first line
abbrev pub leaf_on : ℕ → ℕ → Bool → ℕ → Role → Leaf
leaf_on name line signed width r = record { path = name ∷ []; place = record { line = line; col = 1 }; signed = signed; width = width; role = r }

abbrev pub leaf : ℕ → Bool → ℕ → Role → Leaf
leaf name signed width r = leaf_on name 1 signed width r

-- a register that the first leaf clocks and the second resets
abbrev pub register_on : ℕ → ℕ → ℕ → ResetKind → Read → Leaf
register_on name line width kind init = leaf_on name line false width (role.Register (record { clock = 0; reset = Some (record { kind = kind; condition = read.Leaf 1; init = init }); next = None }))
