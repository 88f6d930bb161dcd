-- The walk over statements: what it reads stands for terms, and it makes of what each leaf stands for the driver that the statements leave.
use Rattle.std.specs.Prelude.{◌≡◌, ℕ, ◌+◌, ◌≤◌, List, [], ◌∷◌, ◌++◌, length, Bool, true, false, map}
use Rattle.fir_bits.specs.Forms.{no_type}
use Rattle.fir_bits.specs.declared.types.NumTy.{NumTy}
use Rattle.fir_meaning.specs.working.LeafBlocks.{LeafStatement, LeafBlock}
use Rattle.fir_meaning.specs.LeafTypes.{LeafType}
use Rattle.fir_meaning.specs.working.TermValues.{Holds}
use Rattle.fir_meaning.specs.working.Terms.{Term, zeros}
use Rattle.fir_leaf.specs.declared.statement.Drive.{Drive}
use Rattle.fir_leaf.specs.working.Nodes.{entries, node_term}
use Rattle.fir_leaf_types.specs.working.TypedBlocks.{AreTyped, IsTyped, MayGive}
use Rattle.fir_net.specs.declared.node.Node.{Node}
use Rattle.fir_connect.specs.working.Drivers.{driver, driver_all, given, through}
use Rattle.fir_connect.specs.working.Lowered.{Candidate, zero_of}
use Rattle.fir_connect.specs.working.LoweredLaws.{types_of}
use Rattle.fir_connect.specs.working.NetTerms.{NetTerm}
use Rattle.fir_driven.specs.working.Covering.{depth_in}
use Rattle.fir_merge.specs.declared.bound.Bound.{Bound}
use Rattle.fir_merge.specs.declared.elements.Element.{Element}
use Rattle.fir_merge.specs.working.Bounds.{StandsFor, types_in}
use Rattle.fir_merge.specs.working.Elements.{ElementsStand}
use Rattle.fir_merge.specs.working.Entries.{BoundsBelow, EntriesStand}
use Rattle.fir_merge.specs.working.NodeTerms.{Grows, IsBelow}
use Rattle.fir_drivers.specs.declared.setting.Setting.{Setting}
use Rattle.fir_drivers.specs.working.Slots.{SlotStands}
use Rattle.fir_drivers.specs.working.TargetLists.{StacksBlock, StacksStatement}

abbrev pub IsSetBelow : ℕ → Setting → Type 0
IsSetBelow n s = BoundsBelow n s.bounds.now × IsBelow n s.nothing.now.read

-- the nodes have grown, and there are as many slots, which are leaves or nodes
pub record Goes (net_old net_new : List Node) (old new : List Bound) : Type 0 where
  pub grows : Grows net_old net_new
  pub same_length : length new ≡ length old
  pub below : BoundsBelow (length net_new) new

-- where the leaves hold these, of which none is wider than 128 bits, the bounds stand for what the nodes of the module become
pub record IsSet (held : ℕ → LeafType) (s : Setting) (net : List Node) : Type 0 where
  pub types : types_in s.types.now ≡ types_of held
  pub narrow : (x : ℕ) → (types_of held x).width ≤ 128
  pub entries : EntriesStand (types_of held) net s.bounds.now (entries s.nodes.now)
  pub nothing : StandsFor (types_of held) net s.nothing.now (zero_of no_type)

-- each leaf has a slot, and goes on with what a function makes of the term that it stands for
pub record Walks (holds : Holds) (net_old net_new : List Node) (old new : List Bound) (f : ℕ → NetTerm → NetTerm) : Type 0 where
  pub same_length : length new ≡ length old
  pub each : (x : ℕ) (t : NetTerm) → SlotStands holds net_old old x t → SlotStands holds net_new new x (f x t)

-- a statement that takes no list
abbrev pub DrivesLeaves : Setting → LeafStatement → List Node → List Node → List Bound → List Bound → Type 0
DrivesLeaves s x net_old net_new old new =
    (held : ℕ → LeafType) (depth : ℕ) → IsSet held s net_old → IsTyped held x
    → Walks (types_of held) net_old net_new old new (λ y t. driver (types_of held) (depth_in s.depths.now y) y x depth t)

abbrev pub WalksStatement : Setting → LeafStatement → ℕ → List Node → List Node → List Bound → List Bound → List (List ℕ) → List (List ℕ) → Type 0
WalksStatement s x depth net_old net_new old new lists_old lists_new =
    (held : ℕ → LeafType) (rest : List (List ℕ)) → IsSet held s net_old → IsTyped held x → length old ≡ length s.depths.now
    → StacksStatement s.depths.now x depth rest lists_old
    → (lists_new ≡ rest) × Walks (types_of held) net_old net_new old new (λ y t. driver (types_of held) (depth_in s.depths.now y) y x depth t)

abbrev pub WalksBlock : Setting → LeafBlock → ℕ → List Node → List Node → List Bound → List Bound → List (List ℕ) → List (List ℕ) → Type 0
WalksBlock s b depth net_old net_new old new lists_old lists_new =
    (held : ℕ → LeafType) (rest : List (List ℕ)) → IsSet held s net_old → AreTyped held b → length old ≡ length s.depths.now
    → StacksBlock s.depths.now b depth rest lists_old
    → (lists_new ≡ rest) × Walks (types_of held) net_old net_new old new (λ y t. driver_all (types_of held) (depth_in s.depths.now y) y b depth t)

-- the last of the lists is taken, where there is one
abbrev pub TakesList : List (List ℕ) → List (List ℕ) → List ℕ → Type 0
TakesList before after taken = (inside : List (List ℕ)) (own : List ℕ) → before ≡ inside ++ own ∷ [] → (after ≡ inside) × (taken ≡ own)

-- what `is invalid` gives
abbrev pub is_zeros : Term → Bool
is_zeros zeros = true
is_zeros _ = false

-- what a statement gives to its leaf
abbrev pub GivenStands : Setting → List Node → List Node → Drive → Bound → Type 0
GivenStands s old new d r =
    (held : ℕ → LeafType) → IsSet held s old → MayGive held (node_term s.nodes.now d.given) (held d.leaf)
    → StandsFor (types_of held) new r (given (types_of held) d.leaf (node_term s.nodes.now d.given))

abbrev pub ZeroStandsAt : List Node → NumTy → Bound → Type 0
ZeroStandsAt new t r = (holds : Holds) → t.width ≤ 128 → StandsFor holds new r (zero_of t)

-- behind the first leaf
abbrev pub counted_from : ℕ → Candidate → Candidate
counted_from b c = record { number = b + c.number; condition = c.condition }

abbrev pub WritesElements : List Node → List Node → List Bound → List Bound → ℕ → List Element → Bound → Type 0
WritesElements net_old net_new old new leaf elements given =
    (holds : Holds) (cs : List Candidate) (e : NetTerm) → ElementsStand holds net_old elements cs → StandsFor holds net_old given e
    → Walks holds net_old net_new old new (λ x t. through holds 0 x (map (counted_from leaf) cs) e t)
