-- Values as operands of the tree: at a width, beside others, and some of their bits (IEEE 1364-2005, 5.1.14, 5.2).
use Rattle.std.specs.Prelude.{ℕ, ◌+◌, ◌-◌, ◌/◌, ◌%◌, ◌^◌, min, max, List, [], ◌∷◌, ◌++◌, Bool, ◌&&◌, not, nat_eq, nat_le, nat_lt, if◌then◌else◌}
use Rattle.ver_ast.specs.Atoms.{AtomTree, net, constant, bit_select, part_select, concat, repeat, atoms_of}
use Rattle.ver_build.specs.declared.held.Part.{Part}
use Rattle.ver_build.specs.declared.held.Source.{Source}
use Rattle.ver_build.specs.declared.held.Source.TheVariants as source
use Rattle.ver_build.specs.declared.held.Held.{Held}
use Rattle.ver_build.specs.working.Held.{fit}

-- the bits of a net from hi down to lo
abbrev pub selected : List ℕ → ℕ → ℕ → AtomTree
selected name hi lo = if nat_eq hi lo then bit_select name lo else part_select name hi lo

-- those of a part; a net of one bit has no select
abbrev pub bits_of_net : Part → ℕ → ℕ → AtomTree
bits_of_net p hi lo = if nat_eq p.own 1 then net p.name else selected p.name hi lo

-- the low bits of a net that count
abbrev pub kept_bits : Part → AtomTree
kept_bits p = if nat_eq p.own p.kept then net p.name else selected p.name (p.kept - 1) 0

-- the highest of them
abbrev pub top_bit : Part → AtomTree
top_bit p = bits_of_net p (p.kept - 1) (p.kept - 1)

abbrev pub copies_of : ℕ → AtomTree → AtomTree
copies_of w a = if nat_eq w 1 then a else repeat w a

-- so many zeros
abbrev pub zeros : ℕ → List AtomTree
zeros w = if nat_eq w 0 then [] else (constant w 0 ∷ [])

-- what stands above the bits that count: copies of the sign, or zeros
abbrev pub extension : Bool → Part → ℕ → List AtomTree
extension signed p w = if nat_eq w 0 then [] else if signed then (copies_of w (top_bit p) ∷ []) else (constant w 0 ∷ [])

abbrev pub source_parts : Bool → ℕ → Source → List AtomTree
source_parts signed width (source.Number v) = constant width v.number ∷ []
source_parts signed width (source.Net p) = extension signed p (width - p.kept) ++ kept_bits p ∷ []

-- the parts of a value in a concatenation; one of no bits has none
abbrev pub parts : Held → List AtomTree
parts h = if nat_eq h.width 0 then [] else source_parts h.signed h.width h.source

abbrev pub side_by_side : List AtomTree → AtomTree
side_by_side [] = constant 0 0
side_by_side (a ∷ []) = a
side_by_side (a ∷ b ∷ more) = concat a (atoms_of (b ∷ more))

-- a value at a width
abbrev pub atom_at : ℕ → Held → AtomTree
atom_at w h = side_by_side (parts (fit w h))

-- the w bits of a value from hi down to lo
abbrev pub net_field : Bool → ℕ → ℕ → ℕ → Part → List AtomTree
net_field signed w hi lo p =
    if nat_le p.kept lo then extension signed p w
    else (let top = min hi (p.kept - 1) in extension signed p (w - (top + 1 - lo)) ++ bits_of_net p top lo ∷ [])

abbrev pub source_field : Bool → ℕ → ℕ → ℕ → Source → List AtomTree
source_field signed w hi lo (source.Number v) = constant w (v.number / 2 ^ lo % 2 ^ w) ∷ []
source_field signed w hi lo (source.Net p) = net_field signed w hi lo p

abbrev pub field : ℕ → ℕ → ℕ → Held → List AtomTree
field w hi lo h = source_field h.signed w hi lo h.source

-- the bits of a value without its low n ones, at least one: where none is left, the sign, or zero
abbrev pub shifted : ℕ → ℕ → Held → List AtomTree
shifted w n h =
    if nat_lt n h.width then field w (h.width - 1) n h
    else if h.signed && not (nat_eq h.width 0) then field 1 (h.width - 1) (h.width - 1) h
    else zeros w

-- an amount of a shift, of at least one bit
abbrev pub amount : Held → AtomTree
amount h = atom_at (max 1 h.width) h
