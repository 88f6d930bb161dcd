-- The leaves of a circuit in its flat net: what each holds, and that the net has the circuit's shape.
use Rattle.std.proofs.Common.{◌≡◌, ℕ, ◌<◌, List, [], ◌∷◌, ◌++◌, map, length, Bool, true, false, nat_eq, if◌then◌else◌, slice_get, Option, inl, inr, ◌⊎◌, refl, sym, ap, ◌∙◌, arith}
use Rattle.std.specs.Prelude.{Some}
use Rattle.std.proofs.lemmas.Option.{slice_get_within}
use Rattle.fir_base.specs.Ticks.{Shape}
use Rattle.fir_base.proofs.Elements.{there}
use Rattle.fir_bits.specs.declared.types.NumTy.{NumTy}
use Rattle.fir_meaning.specs.LeafTypes.{LeafType, a_clock, number, number_type}
use Rattle.fir_meaning.specs.working.LeafModules.{leaf_at}
use Rattle.fir_meaning.specs.working.LeafCircuits.{LeafCircuit, type_of_leaf}
use Rattle.fir_meaning.specs.working.LeafStates.{widths_of}
use Rattle.fir_meaning.specs.working.LeafStates as leafed
use Rattle.fir_meaning.specs.working.TermValues.{Holds}
use Rattle.fir_net.specs.declared.leaf.Leaf.{Leaf}
use Rattle.fir_net.specs.declared.leaf.Role.{Role}
use Rattle.fir_net.specs.declared.leaf.Role.TheVariants as role
use Rattle.fir_net.specs.declared.net.FlatNet.{FlatNet}
use Rattle.fir_net.specs.declared.node.Node.{Node}
use Rattle.fir_net.specs.declared.reads.Read.{Read}
use Rattle.fir_net.specs.working.Arrays.{array_widths}
use Rattle.fir_net.specs.working.IsNet.{IsNet}
use Rattle.fir_net.specs.working.Settled.{clock_output_number, clock_outputs, input_number, inputs, is_clock, numbers_by, output_number, outputs, registers, shape, with_bits}
use Rattle.fir_net.specs.working.Values.{leaf_width}
use Rattle.fir_net.specs.working.Values as net_values
use Rattle.fir_net.proofs.NumberedLeaves.{GivesOwn, inputs_own}
use Rattle.fir_net.proofs.NumberedLeaves as numbered
use Rattle.fir_net.proofs.Places.{map_at}
use Rattle.fir_net.proofs.StateWords.{state_at, state_plain}
use Rattle.fir_net.proofs.WholeValues.{width_at}
use Rattle.fir_connect.specs.working.NetRoles.{NetRole, computed, driven, net_role_at, net_types, pipe, reading, register, source}
use Rattle.fir_connect.specs.working.CircuitModules.{as_module}
use Rattle.fir_flat.specs.working.FlatCircuits.{HasType, IsClockedBy, IsDrivenBy, IsFlatOf, IsRoleOf}
use Rattle.fir_flat.proofs.FlatArrays.{array_widths_are}

-- whether it is a clock that a leaf holds
abbrev pub holds_clock : LeafType → Bool
holds_clock (number t) = false
holds_clock a_clock = true

driven_plain : (x : Role) (r : Read) → IsDrivenBy x r → is_clock x ≡ false
driven_plain x r (inl e) = ap is_clock e
driven_plain x r (inr e) = ap is_clock e

clocked_ticks : (x : Role) (c : Option ℕ) → IsClockedBy x c → is_clock x ≡ true
clocked_ticks x c (inl e) = ap is_clock e
clocked_ticks x c (inr e) = ap is_clock e

-- a leaf of the net is a clock where that of the circuit holds one
clock_kind : (nodes : List Node) (holds : Holds) (k : ℕ) (x : Role) (h : LeafType) (n : NetRole) → IsRoleOf nodes holds k x h n → is_clock x ≡ holds_clock h
clock_kind nodes holds k x (number t) source is = ap is_clock is
clock_kind nodes holds k x (number t) (driven d) is = driven_plain x is.0 is.1
clock_kind nodes holds k x (number t) (computed d) is = ap is_clock is.1
clock_kind nodes holds k x (number t) (register c reset d) is = ap is_clock is.3
clock_kind nodes holds k x (number t) (reading e) is = ap is_clock is.1
clock_kind nodes holds k x (number t) (pipe e c u) is = ap is_clock is.1
clock_kind nodes holds k x a_clock source is = ap is_clock is
clock_kind nodes holds k x a_clock (driven d) is = clocked_ticks x is.0 is.1
clock_kind nodes holds k x a_clock (computed d) is = ap is_clock is.1
clock_kind nodes holds k x a_clock (register c reset d) is = absurd is
clock_kind nodes holds k x a_clock (reading e) is = absurd is
clock_kind nodes holds k x a_clock (pipe e c u) is = absurd is

type_is : (l : Leaf) (h : LeafType) → holds_clock h ≡ false → HasType l h → net_values.type_of_leaf l ≡ number_type h
type_is l (number t) plain has = ap (λ (s : Bool). record { signed = s; width = l.width }) has.0 ∙ ap (λ (w : ℕ). record { signed = t.signed; width = w }) has.1
type_is l a_clock plain has = cc

number_is : (h : LeafType) → holds_clock h ≡ false → (t : NumTy) × (h ≡ number t)
number_is (number t) plain = (t, refl)
number_is a_clock plain = cc

clock_is : (h : LeafType) → holds_clock h ≡ true → h ≡ a_clock
clock_is (number t) ticking = cc
clock_is a_clock ticking = refl

-- each number of a list is that of a clock leaf, or each is that of another one
pub record AreOfKind (leaves : List Leaf) (ticking : Bool) (ks : List ℕ) : Type 0 where
  pub each : (n x : ℕ) → slice_get ks n ≡ Some x → (l : Leaf) × (slice_get leaves x ≡ Some l) × (is_clock l.role ≡ ticking)

listed_of_kind : (listed : Role → ℕ → ℕ → List ℕ) (ticking : Bool) → GivesOwn listed
    → ((r : Role) (w k : ℕ) → listed r w k ≡ k ∷ [] → is_clock r ≡ ticking)
    → (leaves : List Leaf) → AreOfKind leaves ticking (numbers_by listed 0 leaves)
listed_of_kind listed ticking own kind leaves = record {
  each = λ n x e.
      let found = numbered.leaf_at listed own leaves n x e in
      (found.0, found.1, kind found.0.role found.0.width x found.2);
}

bits_own : (w k : ℕ) → (with_bits w k ≡ []) ⊎ (with_bits w k ≡ k ∷ [])
bits_own w k = by (nat_eq w 0)
  where
    by : (b : Bool) → ((if b then [] else (k ∷ [])) ≡ []) ⊎ ((if b then [] else (k ∷ [])) ≡ k ∷ [])
    by true = inl refl
    by false = inr refl

outputs_own : GivesOwn output_number
outputs_own = record { each = own }
  where
    own : (r : Role) (w k : ℕ) → (output_number r w k ≡ []) ⊎ (output_number r w k ≡ k ∷ [])
    own (role.Output d) w k = bits_own w k
    own _ w k = inl refl

clock_outputs_own : GivesOwn clock_output_number
clock_outputs_own = record { each = own }
  where
    own : (r : Role) (w k : ℕ) → (clock_output_number r w k ≡ []) ⊎ (clock_output_number r w k ≡ k ∷ [])
    own (role.ClockOutput d) w k = inr refl
    own _ w k = inl refl

pub inputs_plain : (net : FlatNet) → AreOfKind net.leaves false (inputs net)
inputs_plain net = listed_of_kind input_number false inputs_own plain net.leaves
  where
    plain : (r : Role) (w k : ℕ) → input_number r w k ≡ k ∷ [] → is_clock r ≡ false
    plain role.Input w k e = refl
    plain _ w k e = cc

pub outputs_plain : (net : FlatNet) → AreOfKind net.leaves false (outputs net)
outputs_plain net = listed_of_kind output_number false outputs_own plain net.leaves
  where
    plain : (r : Role) (w k : ℕ) → output_number r w k ≡ k ∷ [] → is_clock r ≡ false
    plain (role.Output d) w k e = refl
    plain _ w k e = cc

pub clock_outputs_tick : (net : FlatNet) → AreOfKind net.leaves true (clock_outputs net)
clock_outputs_tick net = listed_of_kind clock_output_number true clock_outputs_own ticks net.leaves
  where
    ticks : (r : Role) (w k : ℕ) → clock_output_number r w k ≡ k ∷ [] → is_clock r ≡ true
    ticks (role.ClockOutput d) w k e = refl
    ticks _ w k e = cc

pub words_plain : (net : FlatNet) → IsNet net → AreOfKind net.leaves false (registers net)
words_plain net whole = record {
  each = λ n x e. let found = state_at whole.state n x e in (found.leaf, found.at, state_plain found.leaf.role found.is);
}

-- functions that agree at leaves of a kind give one list
pub same_list : {A : Type 0} → (leaves : List Leaf) (ticking : Bool) (ks : List ℕ) → AreOfKind leaves ticking ks → (f g : ℕ → A)
    → ((x : ℕ) (l : Leaf) → slice_get leaves x ≡ Some l → is_clock l.role ≡ ticking → f x ≡ g x) → map f ks ≡ map g ks
same_list leaves ticking ks are f g same = map_at f g ks (λ n x e. let found = are.each n x e in same x found.0 found.1 found.2)

abbrev made_shape : List ℕ → ℕ → List ℕ → Shape
made_shape i m s = record { inputs = i; clocks = m; state = s }

same_shape : (i j : List ℕ) (m n : ℕ) (s t : List ℕ) → i ≡ j → m ≡ n → s ≡ t
    → made_shape i m s ≡ made_shape j n t
same_shape i j m n s t e f g = rw (e, f, g) refl

module _ (c : LeafCircuit) (net : FlatNet) (flat : IsFlatOf c net) where
  pub leaf_there : (x : ℕ) → x < length c.leaves → (l : Leaf) × (slice_get net.leaves x ≡ Some l)
  leaf_there x inside = let count = flat.count in there net.leaves x (omega (arith, inside, count))

  pub leaf_inside : (x : ℕ) (l : Leaf) → slice_get net.leaves x ≡ Some l → x < length c.leaves
  leaf_inside x l at = let count = flat.count in let inside = slice_get_within net.leaves x l at in omega (arith, inside, count)

  pub kind_at : (x : ℕ) (l : Leaf) → slice_get net.leaves x ≡ Some l → is_clock l.role ≡ holds_clock (leaf_at c.leaves x).holds
  kind_at x l at =
      clock_kind net.nodes (net_types (as_module c)) x l.role (leaf_at c.leaves x).holds (net_role_at (as_module c) x) (flat.roles x l at)

  pub number_at : (x : ℕ) (l : Leaf) → slice_get net.leaves x ≡ Some l → is_clock l.role ≡ false → (t : NumTy) × ((leaf_at c.leaves x).holds ≡ number t)
  number_at x l at plain = number_is (leaf_at c.leaves x).holds (sym (kind_at x l at) ∙ plain)

  pub type_at : (x : ℕ) (l : Leaf) → slice_get net.leaves x ≡ Some l → is_clock l.role ≡ false → net_values.type_of_leaf l ≡ type_of_leaf c x
  type_at x l at plain = type_is l (leaf_at c.leaves x).holds (sym (kind_at x l at) ∙ plain) (flat.types x l at)

  pub clock_at : (x : ℕ) (l : Leaf) → slice_get net.leaves x ≡ Some l → is_clock l.role ≡ true → (leaf_at c.leaves x).holds ≡ a_clock
  clock_at x l at ticking = clock_is (leaf_at c.leaves x).holds (sym (kind_at x l at) ∙ ticking)

  pub width_of : (x : ℕ) (l : Leaf) → slice_get net.leaves x ≡ Some l → is_clock l.role ≡ false → leaf_width net.leaves x ≡ (type_of_leaf c x).width
  width_of x l at plain = width_at net.leaves x l at ∙ ap (λ (t : NumTy). t.width) (type_at x l at plain)

  -- leaves that are no clocks have the widths that they have in the circuit
  widths_are : (ks js : List ℕ) → AreOfKind net.leaves false ks → ks ≡ js → map (leaf_width net.leaves) ks ≡ widths_of c js
  widths_are ks js plain same =
      same_list net.leaves false ks plain (leaf_width net.leaves) (λ x. (type_of_leaf c x).width) width_of ∙ ap (widths_of c) same

  pub input_widths_are : map (leaf_width net.leaves) (inputs net) ≡ widths_of c c.inputs
  input_widths_are = widths_are (inputs net) c.inputs (inputs_plain net) flat.inputs

  pub output_widths_are : map (leaf_width net.leaves) (outputs net) ≡ widths_of c c.outputs
  output_widths_are = widths_are (outputs net) c.outputs (outputs_plain net) flat.outputs

  pub shape_is : IsNet net → leafed.shape c ≡ shape net
  shape_is whole =
      let words : map (leaf_width net.leaves) (registers net) ≡ widths_of c c.words =
      widths_are (registers net) c.words (words_plain net whole) flat.words in
      same_shape _ _ _ _ _ _ (sym input_widths_are) (ap length (sym flat.clock_inputs))
      (sym (ap (λ (ws : List ℕ). ws ++ array_widths net) words ∙ ap (λ (ws : List ℕ). widths_of c c.words ++ ws) (array_widths_are c net flat)))
