-- The faults of right sides, in the order of the text (IEEE 1364-2005, 5.1, 5.4, 5.5).
use Rattle.std.specs.Prelude.{ℕ, List, [], ◌∷◌, ◌++◌, drop, Bool, true, false, ◌&&◌, nat_eq, not, Option, Some, None, if◌then◌else◌}
use Rattle.ver_ast.specs.declared.place.VPlace.{VPlace}
use Rattle.ver_ast.specs.declared.tree.Rhs.{Rhs}
use Rattle.ver_ast.specs.declared.tree.Rhs.TheVariants as rhs
use Rattle.ver_ast.specs.declared.tree.UnaryOp.{UnaryOp}
use Rattle.ver_ast.specs.declared.tree.UnaryOp.TheVariants as unary
use Rattle.ver_ast.specs.Atoms.{AtomTree, net, constant, bit_select, part_select}
use Rattle.ver_ast.specs.Grammar.{atom_tokens}
use Rattle.ver_ast.specs.SoundSides.{OperandRule, arithmetic, shift, comparison, binary_rule, signed_rule}
use Rattle.ver_fault.specs.Faults.{VFault}
use Rattle.ver_check.specs.FaultForms.{undeclared_fault, width_fault, kind_fault}
use Rattle.ver_check.specs.declared.kind.Kind.{Kind}
use Rattle.ver_check.specs.Scopes.{Scope, kind_of, word_bits, bits_of, is_clock_input}
use Rattle.ver_places.specs.Places.{place_at, behind}
use Rattle.ver_check.specs.OperandFaults.{name_faults, atom_bits, width_faults, atom_faults}

-- the bits that the first and the second operand need beside a target of w bits; compared operands have one width
abbrev pub first_needs : OperandRule → ℕ → Option ℕ
first_needs arithmetic w = Some w
first_needs shift w = Some w
first_needs comparison w = None

abbrev pub second_needs : OperandRule → ℕ → Option ℕ → Option ℕ
second_needs arithmetic w first = Some w
second_needs shift w first = None
second_needs comparison w first = first

abbrev pub unary_needs : UnaryOp → ℕ → Option ℕ
unary_needs unary.Not w = Some w
unary_needs _ w = None

-- a signed operand of another width than is needed shows it at `$signed`
abbrev pub signed_faults : Scope → Option ℕ → AtomTree → List VPlace → List VFault
signed_faults scope needed a ps = width_faults needed (atom_bits scope a) (place_at 0 ps) ++ atom_faults scope None a (drop 1 ps)

-- of a right side that has the first of these places, beside a target of w bits
abbrev pub side_faults : Scope → ℕ → Rhs → List VPlace → List VFault
side_faults scope w (rhs.Atom a) ps = atom_faults scope (Some w) a ps
side_faults scope w (rhs.Unary op a) ps = atom_faults scope (unary_needs op w) a ps
side_faults scope w (rhs.Binary a op b) ps =
    atom_faults scope (first_needs (binary_rule op) w) a ps
    ++ atom_faults scope (second_needs (binary_rule op) w (atom_bits scope a)) b (behind (atom_tokens a) ps)
side_faults scope w (rhs.Signed a op b) ps =
    signed_faults scope (first_needs (signed_rule op) w) a ps
    ++ signed_faults scope (second_needs (signed_rule op) w (atom_bits scope a)) b (behind (atom_tokens a) (drop 1 ps))
side_faults scope w (rhs.SignedShift a b) ps =
    signed_faults scope (Some w) a ps ++ atom_faults scope None b (behind (atom_tokens a) (drop 1 ps))
side_faults scope w (rhs.Conditional c a b) ps =
    atom_faults scope (Some 1) c ps ++ atom_faults scope (Some w) a (behind (atom_tokens c) ps)
    ++ atom_faults scope (Some w) b (behind (atom_tokens a) (behind (atom_tokens c) ps))
side_faults scope w (rhs.Word m a) ps =
    name_faults word_bits (place_at 0 ps) m (kind_of scope m) ++ width_faults (Some w) (bits_of word_bits scope m) (place_at 0 ps)
    ++ atom_faults scope None a (drop 2 ps)

abbrev pub is_comparison : OperandRule → Bool
is_comparison comparison = true
is_comparison _ = false

abbrev pub is_reduction : UnaryOp → Bool
is_reduction unary.Not = false
is_reduction _ = true

-- whether the right side is a truth, of one bit
abbrev pub is_truth : Rhs → Bool
is_truth (rhs.Unary op a) = is_reduction op
is_truth (rhs.Binary a op b) = is_comparison (binary_rule op)
is_truth (rhs.Signed a op b) = is_comparison (signed_rule op)
is_truth _ = false

-- the target of a truth has one bit
abbrev pub truth_faults : ℕ → Rhs → VPlace → List VFault
truth_faults w r p = if is_truth r && not (nat_eq w 1) then width_fault p 1 w ∷ [] else []

-- a name that is not declared, or else is not of a kind that may stand there
abbrev pub misplaced_faults : VPlace → List ℕ → Option Kind → List VFault
misplaced_faults p n None = undeclared_fault p n ∷ []
misplaced_faults p n (Some k) = kind_fault p ∷ []

abbrev pub clock_faults : VPlace → List ℕ → Option Kind → List VFault
clock_faults p n None = undeclared_fault p n ∷ []
clock_faults p n (Some k) = if is_clock_input k then [] else kind_fault p ∷ []

-- an operand where no operand of bits may stand
abbrev pub misplaced_atom : Scope → AtomTree → VPlace → List VFault
misplaced_atom scope (net n) p = misplaced_faults p n (kind_of scope n)
misplaced_atom scope (bit_select n i) p = misplaced_faults p n (kind_of scope n)
misplaced_atom scope (part_select n hi lo) p = misplaced_faults p n (kind_of scope n)
misplaced_atom scope _ p = kind_fault p ∷ []

-- what a clock output shows: a clock input, or none, which is written as a constant of one bit that is 0
abbrev pub shown_clock_faults : Scope → AtomTree → VPlace → List VFault
shown_clock_faults scope (net n) p = clock_faults p n (kind_of scope n)
shown_clock_faults scope (constant width value) p = if nat_eq width 1 && nat_eq value 0 then [] else kind_fault p ∷ []
shown_clock_faults scope a p = misplaced_atom scope a p

abbrev pub clock_side_faults : Scope → Rhs → VPlace → List VFault
clock_side_faults scope (rhs.Atom a) p = shown_clock_faults scope a p
clock_side_faults scope (rhs.Unary op a) p = misplaced_atom scope a p
clock_side_faults scope (rhs.Binary a op b) p = misplaced_atom scope a p
clock_side_faults scope (rhs.Signed a op b) p = kind_fault p ∷ []
clock_side_faults scope (rhs.SignedShift a b) p = kind_fault p ∷ []
clock_side_faults scope (rhs.Conditional c a b) p = misplaced_atom scope c p
clock_side_faults scope (rhs.Word m a) p = misplaced_faults p m (kind_of scope m)
