-- The faults of an operand, in the order of the text (IEEE 1364-2005, 5.1.14, 5.2, 5.4).
-- An operand shows at its first token that it has another width than is needed, or else that it is wrong itself: a constant that its size does not fit, a select
-- that is not within a net that has a range, a concatenation that has not 1 to 128 bits. Where one of its names is not declared, or declared as what has no
-- bits, it has no width, and shows no fault but that of the name.
use Rattle.std.specs.Prelude.{ℕ, ◌+◌, ◌-◌, ◌*◌, ◌^◌, List, [], ◌∷◌, ◌++◌, drop, Bool, true, ◌&&◌, nat_eq, nat_lt, Option, Some, None, option_map, if◌then◌else◌}
use Rattle.ver_ast.specs.declared.place.VPlace.{VPlace}
use Rattle.ver_ast.specs.Atoms.{AtomTree, net, constant, bit_select, part_select, concat, repeat, AtomTrees, no_atoms, atom_before}
use Rattle.ver_ast.specs.Grammar.{atom_tokens}
use Rattle.ver_places.specs.Places.{place_at, behind}
use Rattle.ver_fault.specs.Faults.{VFault}
use Rattle.ver_check.specs.FaultForms.{undeclared_fault, width_fault, kind_fault}
use Rattle.ver_check.specs.declared.kind.Kind.{Kind}
use Rattle.ver_check.specs.Scopes.{Scope, kind_of, kind_bits, bits_of}

-- what is looked for is not there
abbrev pub lacking_faults : VPlace → Option ℕ → List VFault
lacking_faults p None = kind_fault p ∷ []
lacking_faults p (Some w) = []

-- the name is declared as what is looked for
abbrev pub name_faults : (Kind → Option ℕ) → VPlace → List ℕ → Option Kind → List VFault
name_faults bits p n None = undeclared_fault p n ∷ []
name_faults bits p n (Some k) = lacking_faults p (bits k)

abbrev pub is_narrow : ℕ → Bool
is_narrow w = nat_lt 0 w && nat_lt w 129

abbrev pub is_constant_fit : ℕ → ℕ → Bool
is_constant_fit width value = is_narrow width && nat_lt value (2 ^ width)

-- the bits from one down to another of a net, which has a range
abbrev pub is_within : Option ℕ → ℕ → ℕ → Bool
is_within None hi lo = true
is_within (Some w) hi lo = nat_lt 1 w && (nat_lt lo (hi + 1) && nat_lt hi w)

abbrev pub are_narrow : Option ℕ → Bool
are_narrow None = true
are_narrow (Some w) = is_narrow w

abbrev pub sum_of : Option ℕ → Option ℕ → Option ℕ
sum_of (Some a) (Some b) = Some (a + b)
sum_of _ _ = None

-- how many bits an operand has; from the lower one up there are none
abbrev mutual
  pub atom_bits : Scope → AtomTree → Option ℕ
  atom_bits scope (net n) = bits_of kind_bits scope n
  atom_bits scope (constant width value) = Some width
  atom_bits scope (bit_select n i) = option_map (λ w. 1) (bits_of kind_bits scope n)
  atom_bits scope (part_select n hi lo) = if nat_lt hi lo then None else option_map (λ w. hi + 1 - lo) (bits_of kind_bits scope n)
  atom_bits scope (concat a more) = sum_of (atom_bits scope a) (joined_bits scope more)
  atom_bits scope (repeat count a) = option_map (λ w. count * w) (atom_bits scope a)

  pub joined_bits : Scope → AtomTrees → Option ℕ
  joined_bits scope no_atoms = Some 0
  joined_bits scope (atom_before a more) = sum_of (atom_bits scope a) (joined_bits scope more)

-- whether nothing is wrong with an operand but with its parts
abbrev pub is_fit : Scope → AtomTree → Bool
is_fit scope (net n) = true
is_fit scope (constant width value) = is_constant_fit width value
is_fit scope (bit_select n i) = is_within (bits_of kind_bits scope n) i i
is_fit scope (part_select n hi lo) = is_within (bits_of kind_bits scope n) hi lo
is_fit scope (concat a more) = are_narrow (atom_bits scope (concat a more))
is_fit scope (repeat count a) = are_narrow (atom_bits scope (repeat count a))

-- what has so many bits stands where so many are needed
abbrev pub width_faults : Option ℕ → Option ℕ → VPlace → List VFault
width_faults (Some needed) (Some w) p =
    if nat_eq needed w then [] else if nat_lt w 129 then width_fault p needed w ∷ [] else kind_fault p ∷ []
width_faults _ _ p = []

abbrev pub unfit_faults : Bool → VPlace → List VFault
unfit_faults fit p = if fit then [] else kind_fault p ∷ []

-- a wrong width counts before what is wrong else
abbrev pub own_faults : Option ℕ → Option ℕ → Bool → VPlace → List VFault
own_faults needed bits fit p = width_faults needed bits p ++ unfit_faults fit p

-- a name, as an operand or before a select
abbrev pub net_faults : Scope → List ℕ → VPlace → List VFault
net_faults scope n p = name_faults kind_bits p n (kind_of scope n)

-- what an operand that has the first place shows there, where so many bits are needed, or any
abbrev pub whole_faults : Scope → Option ℕ → AtomTree → VPlace → List VFault
whole_faults scope needed a p = own_faults needed (atom_bits scope a) (is_fit scope a) p

abbrev mutual
  -- of an operand that has the first of these places
  pub atom_faults : Scope → Option ℕ → AtomTree → List VPlace → List VFault
  atom_faults scope needed (net n) ps = whole_faults scope needed (net n) (place_at 0 ps) ++ net_faults scope n (place_at 0 ps)
  atom_faults scope needed (constant width value) ps = whole_faults scope needed (constant width value) (place_at 0 ps)
  atom_faults scope needed (bit_select n i) ps = whole_faults scope needed (bit_select n i) (place_at 0 ps) ++ net_faults scope n (place_at 0 ps)
  atom_faults scope needed (part_select n hi lo) ps =
      whole_faults scope needed (part_select n hi lo) (place_at 0 ps) ++ net_faults scope n (place_at 0 ps)
  atom_faults scope needed (concat a more) ps =
      whole_faults scope needed (concat a more) (place_at 0 ps) ++ atom_faults scope None a (drop 1 ps)
      ++ joined_faults scope more (behind (atom_tokens a) (drop 1 ps))
  atom_faults scope needed (repeat count a) ps = whole_faults scope needed (repeat count a) (place_at 0 ps) ++ atom_faults scope None a (drop 3 ps)

  -- of operands behind another
  pub joined_faults : Scope → AtomTrees → List VPlace → List VFault
  joined_faults scope no_atoms ps = []
  joined_faults scope (atom_before a more) ps = atom_faults scope None a ps ++ joined_faults scope more (behind (atom_tokens a) ps)
