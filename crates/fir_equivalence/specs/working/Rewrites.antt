-- When a net is another one with what its leaves and arrays read written anew.
-- Each of its leaves is a leaf of the other net, under a number of its own: it has the same path and type, and what gives it its value reads the same values, in
-- all settled values of the other net. No port and no word of the state is missing, and the arrays are the same but for what writes them.
use Rattle.std.specs.Prelude.{◌≡◌, ℕ, ◌<◌, List, [], ◌∷◌, length, map, slice_get, true, Option, Some, None, option_map}
use Rattle.fir_base.specs.Ticks.{Tick}
use Rattle.fir_net.specs.declared.array.Array.{Array}
use Rattle.fir_net.specs.declared.array.ArrayRead.{ArrayRead}
use Rattle.fir_net.specs.declared.array.ArrayWrite.{ArrayWrite}
use Rattle.fir_net.specs.declared.array.Pipe.{Pipe}
use Rattle.fir_net.specs.declared.reads.Read.{Read}
use Rattle.fir_net.specs.declared.leaf.Reset.{Reset}
use Rattle.fir_net.specs.declared.leaf.Register.{Register}
use Rattle.fir_net.specs.declared.leaf.Role.{Role}
use Rattle.fir_net.specs.declared.leaf.Role.TheVariants as role
use Rattle.fir_net.specs.declared.leaf.Leaf.{Leaf}
use Rattle.fir_net.specs.declared.net.FlatNet.{FlatNet}
use Rattle.fir_net.specs.working.IsNet.{IsNet, is_port}
use Rattle.fir_net.specs.working.IsWritable.{HasConstantInits}
use Rattle.fir_net.specs.working.Settled.{Settled, value_at}
use Rattle.fir_net.specs.working.Values.{at_width}

-- what the numbers of a net's leaves have, for leaves that have these numbers there
abbrev pub renumbered : {A : Type 0} → (ℕ → ℕ) → (ℕ → A) → ℕ → A
renumbered number f k = f (number k)

module _ (net other : FlatNet) (number : ℕ → ℕ) where
  -- in all settled values of the net two reads have one value at a width
  abbrev pub IsSameAt : ℕ → Read → Read → Type 0
  IsSameAt width r s =
      (state : List ℕ) (tick : Tick) (env : ℕ → ℕ) (clock : ℕ → Option ℕ) → Settled net state tick env clock
      → at_width (value_at other (renumbered number env) s) width ≡ at_width (value_at net env r) width

  -- and one number
  abbrev pub IsSameNumber : Read → Read → Type 0
  IsSameNumber r s =
      (state : List ℕ) (tick : Tick) (env : ℕ → ℕ) (clock : ℕ → Option ℕ) → Settled net state tick env clock
      → (value_at other (renumbered number env) s).value.number ≡ (value_at net env r).value.number

  pub record IsSameReset (width : ℕ) (a b : Reset) : Type 0 where
    pub kind : b.kind ≡ a.kind
    pub condition : IsSameNumber a.condition b.condition
    pub init : IsSameAt width a.init b.init

  abbrev pub IsSameOptionalReset : ℕ → Option Reset → Option Reset → Type 0
  IsSameOptionalReset width None None = Unit {0}
  IsSameOptionalReset width (Some a) (Some b) = IsSameReset width a b
  IsSameOptionalReset width _ _ = ⊥

  abbrev pub IsSameNext : ℕ → Option Read → Option Read → Type 0
  IsSameNext width None None = Unit {0}
  IsSameNext width (Some r) (Some s) = IsSameAt width r s
  IsSameNext width _ _ = ⊥

  pub record IsSameRegister (width : ℕ) (a b : Register) : Type 0 where
    pub clock : number b.clock ≡ a.clock
    pub reset : IsSameOptionalReset width a.reset b.reset
    pub next : IsSameNext width a.next b.next

  pub record IsSameArrayRead (a b : ArrayRead) : Type 0 where
    pub array : b.array ≡ a.array
    pub address : IsSameNumber a.address b.address
    pub enable : IsSameNumber a.enable b.enable

  pub record IsSamePipe (a b : Pipe) : Type 0 where
    pub clock : number b.clock ≡ a.clock
    pub read : IsSameArrayRead a.read b.read
    pub is_new : b.is_new ≡ a.is_new

  abbrev pub IsSameRole : ℕ → Role → Role → Type 0
  IsSameRole width role.Input role.Input = Unit {0}
  IsSameRole width role.Clock role.Clock = Unit {0}
  IsSameRole width (role.Output r) (role.Output s) = IsSameAt width r s
  IsSameRole width (role.Wire r) (role.Wire s) = IsSameAt width r s
  IsSameRole width (role.Register a) (role.Register b) = IsSameRegister width a b
  IsSameRole width (role.Reading a) (role.Reading b) = IsSameArrayRead a b
  IsSameRole width (role.Pipe a) (role.Pipe b) = IsSamePipe a b
  IsSameRole width (role.ClockOutput c) (role.ClockOutput d) = option_map number d ≡ c
  IsSameRole width (role.ClockWire c) (role.ClockWire d) = option_map number d ≡ c
  IsSameRole width _ _ = ⊥

  pub record IsSameLeaf (a b : Leaf) : Type 0 where
    pub path : b.path ≡ a.path
    pub signed : b.signed ≡ a.signed
    pub width : b.width ≡ a.width
    pub role : IsSameRole a.width a.role b.role

  pub record IsSameWrite (width : ℕ) (a b : ArrayWrite) : Type 0 where
    pub clock : number b.clock ≡ a.clock
    pub condition : IsSameNumber a.condition b.condition
    pub address : IsSameNumber a.address b.address
    pub given : IsSameAt width a.given b.given

  abbrev pub AreSameWrites : ℕ → List ArrayWrite → List ArrayWrite → Type 0
  AreSameWrites width [] [] = Unit {0}
  AreSameWrites width (a ∷ first) (b ∷ second) = IsSameWrite width a b × AreSameWrites width first second
  AreSameWrites width _ _ = ⊥

  pub record IsSameArray (a b : Array) : Type 0 where
    pub path : b.path ≡ a.path
    pub signed : b.signed ≡ a.signed
    pub width : b.width ≡ a.width
    pub words : b.words ≡ a.words
    pub writes : AreSameWrites a.width a.writes b.writes

  abbrev pub AreSameArrays : List Array → List Array → Type 0
  AreSameArrays [] [] = Unit {0}
  AreSameArrays (a ∷ first) (b ∷ second) = IsSameArray a b × AreSameArrays first second
  AreSameArrays _ _ = ⊥

  pub record Rewrites : Type 0 where
    pub whole : IsNet other
    pub name : other.name ≡ net.name
    pub leaves : (k : ℕ) (m : Leaf) → slice_get other.leaves k ≡ Some m → (l : Leaf) × (slice_get net.leaves (number k) ≡ Some l) × IsSameLeaf l m
    -- no leaf stands twice
    pub once : (j k : ℕ) → j < length other.leaves → k < length other.leaves → number j ≡ number k → j ≡ k
    -- each port keeps its number
    pub ports : (k : ℕ) (l : Leaf) → slice_get net.leaves k ≡ Some l → is_port l.role ≡ true → (k < length other.leaves) × (number k ≡ k)
    pub state : map number other.state ≡ net.state
    pub arrays : AreSameArrays net.arrays other.arrays
    pub array_order : other.array_order ≡ net.array_order
    pub inits : HasConstantInits net → HasConstantInits other
