-- What is read of arrays and written into them, as text (IEEE 1364-2005, 4.9, 9.7.2).
-- An address of so few bits that it is never past the end is used as it is. Any other is compared with the number of words first: so each word that is read is
-- there at every tick, and no write is past the end.
use Rattle.std.specs.Prelude.{ℕ, ◌^◌, List, [], ◌∷◌, Bool, nat_le, if◌then◌else◌, Option, Some, None}
use Rattle.ver_ast.specs.declared.tree.Rhs.{Rhs}
use Rattle.ver_ast.specs.declared.tree.Rhs.TheVariants as rhs
use Rattle.ver_ast.specs.declared.tree.BinaryOp.TheVariants as binary
use Rattle.ver_ast.specs.Atoms.{AtomTree, net, constant}
use Rattle.ver_build.specs.declared.held.Held.{Held}
use Rattle.ver_build.specs.declared.places.Guard.{Guard}
use Rattle.ver_build.specs.declared.right_sides.Inner.{Inner}
use Rattle.ver_build.specs.working.Operands.{atom_at}
use Rattle.ver_build.specs.working.Texts.{helper}

-- whether no address of w bits is past the end of so many words
abbrev pub always_within : ℕ → ℕ → Bool
always_within w words = nat_le (2 ^ w) words

-- whether an address of w bits is within so many words
abbrev pub within_rhs : ℕ → ℕ → Held → Rhs
within_rhs w words at = rhs.Binary (atom_at w at) binary.Lt (constant w words)

-- one bit, and a net of one bit
abbrev pub and_rhs : List ℕ → Held → Rhs
and_rhs within under = rhs.Binary (net within) binary.And (atom_at 1 under)

-- a value of u bits where a condition is 1, and else zero
abbrev pub or_zero : ℕ → AtomTree → AtomTree → Rhs
or_zero u condition value = rhs.Conditional condition value (constant u 0)

-- how many nets a read of an array of so many words at an address of w bits has before its own
abbrev pub reading_count : ℕ → ℕ → ℕ
reading_count w words = if always_within w words then 1 else 4

-- the nets of a read of words of u bits of that array: the word, and that or zero
abbrev pub direct_inners : List ℕ → ℕ → ℕ → Held → Held → List (List ℕ) → List ℕ → List Inner
direct_inners array u w at under helpers name =
    record { name = helper helpers 0; width = u; rhs = rhs.Word array (atom_at w at) }
    ∷ record { name = name; width = u; rhs = or_zero u (atom_at 1 under) (net (helper helpers 0)) } ∷ []

-- so where an address may be past the end: whether it is within, whether it is read then, the address or else 0, the word there, and that or zero
abbrev pub guarded_inners : List ℕ → ℕ → ℕ → ℕ → Held → Held → List (List ℕ) → List ℕ → List Inner
guarded_inners array words u w at under helpers name =
    record { name = helper helpers 0; width = 1; rhs = within_rhs w words at }
    ∷ record { name = helper helpers 1; width = 1; rhs = and_rhs (helper helpers 0) under }
    ∷ record { name = helper helpers 2; width = w; rhs = or_zero w (net (helper helpers 1)) (atom_at w at) }
    ∷ record { name = helper helpers 3; width = u; rhs = rhs.Word array (net (helper helpers 2)) }
    ∷ record { name = name; width = u; rhs = or_zero u (net (helper helpers 1)) (net (helper helpers 3)) } ∷ []

abbrev pub reading_inners : List ℕ → ℕ → ℕ → ℕ → Held → Held → List (List ℕ) → List ℕ → List Inner
reading_inners array words u w at under helpers name =
    if always_within w words then direct_inners array u w at under helpers name else guarded_inners array words u w at under helpers name

-- the nets of a write at an address that may be past the end: whether it is within, and whether it is written then
abbrev pub guard_inners : ℕ → ℕ → Held → Held → Guard → List Inner
guard_inners words w at under g =
    record { name = g.within; width = 1; rhs = within_rhs w words at } ∷ record { name = g.written; width = 1; rhs = and_rhs g.within under } ∷ []

-- the condition of a write
abbrev pub write_condition : Held → Option Guard → AtomTree
write_condition under None = atom_at 1 under
write_condition under (Some g) = net g.written
