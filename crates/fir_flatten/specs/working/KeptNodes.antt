-- The nodes of a net that the roles of its leaves need, in a list of their own: what is read there stands for the same terms, and all of it has the types
-- that the terms have.
use Rattle.std.specs.Prelude.{◌≡◌, ℕ, ◌≤◌, List, [], ◌∷◌, ◌++◌, length, map, Bool, true, false, slice_get, slice_set, nat_lt, if◌then◌else◌, Option, Some, None}
use Rattle.fir_bits.specs.Values.{IsBitVector}
use Rattle.fir_meaning.specs.LeafTypes.{LeafType, number}
use Rattle.fir_net.specs.declared.leaf.Leaf.{Leaf}
use Rattle.fir_net.specs.declared.node.Node.{Node}
use Rattle.fir_net.specs.declared.node.Node.TheVariants as node
use Rattle.fir_net.specs.declared.reads.Read.{Read}
use Rattle.fir_net.specs.declared.reads.Read.TheVariants as read
use Rattle.fir_net.specs.working.Dependence.{support_of}
use Rattle.fir_net.specs.working.IsNet.{AreNodes}
use Rattle.fir_net.specs.working.Settled.{is_clock}
use Rattle.fir_merge.specs.working.NodeTerms.{IsBelow, ReadBefore, read_term, terms}
use Rattle.fir_flat.specs.working.WholeTerms.{IsWhole}
use Rattle.fir_whens.specs.declared.net_role.NetReset.{NetReset}
use Rattle.fir_whens.specs.declared.net_role.NetRole.{NetRole}
use Rattle.fir_whens.specs.declared.net_role.NetRole.TheVariants as role
use Rattle.fir_flatten.specs.declared.kept_nodes.KeptNodes.{KeptNodes}

abbrev pub place_or : Option ℕ → ℕ → ℕ
place_or None k = k
place_or (Some p) k = p

-- where the value of a read is
abbrev pub moved : List ℕ → Read → Read
moved places (read.Leaf x) = read.Leaf x
moved places (read.Node k) = read.Node (place_or (slice_get places k) k)

abbrev pub moved_all : List ℕ → List Read → List Read
moved_all places rs = map (moved places) rs

-- a node over the kept ones
abbrev pub moved_node : List ℕ → Node → Node
moved_node places (node.Literal v) = node.Literal v
moved_node places (node.Operation o) = node.Operation (record o { reads = moved_all places o.reads })
moved_node places (node.Mux m) = node.Mux (record m { reads = moved_all places m.reads })

-- a literal is a value of its width, and a mux reads a condition and two values
abbrev pub HasForm : Node → Type 0
HasForm (node.Literal v) = IsBitVector v.value
HasForm (node.Operation o) = Unit {0}
HasForm (node.Mux m) = length m.reads ≡ 3

-- what a role reads of its net, but for a register's clock
abbrev pub reset_reads : Option NetReset → List Read
reset_reads None = []
reset_reads (Some r) = r.condition.read ∷ r.init.read ∷ []

abbrev pub role_reads : NetRole → List Read
role_reads (role.Driven b) = b.read ∷ []
role_reads (role.Computed b) = b.read ∷ []
role_reads (role.Register clock reset next) = reset_reads reset ++ next.read ∷ []
role_reads _ = []

-- the node of a read is marked, where it is one
abbrev pub marked : Read → List Bool → List Bool
marked (read.Leaf x) marks = marks
marked (read.Node k) marks = if nat_lt k (length marks) then slice_set marks k true else marks

abbrev pub marked_all : List Read → List Bool → List Bool
marked_all [] marks = marks
marked_all (r ∷ rs) marks = marked_all rs (marked r marks)

abbrev pub IsMarked : List Bool → Read → Type 0
IsMarked marks (read.Leaf x) = Unit {0}
IsMarked marks (read.Node k) = slice_get marks k ≡ Some true

abbrev pub AreMarked : List Bool → List Read → Type 0
AreMarked marks [] = Unit {0}
AreMarked marks (r ∷ rs) = IsMarked marks r × AreMarked marks rs

-- P of each
abbrev pub EachRead : (Read → Type 0) → List Read → Type 0
EachRead P [] = Unit {0}
EachRead P (r ∷ rs) = P r × EachRead P rs

-- by what each of so many leaves holds, the nodes that all roles read stand for whole terms; a leaf that is read may be a clock
module _ (held : ℕ → LeafType) (count : ℕ) (nodes : List Node) where
  abbrev pub StandsWhole : Read → Type 0
  StandsWhole (read.Leaf x) = Unit {0}
  StandsWhole (read.Node k) = IsWhole held count (read_term (terms nodes) (read.Node k))

  abbrev pub ReadWhole : List NetRole → Type 0
  ReadWhole roles = (x : ℕ) (r : NetRole) → slice_get roles x ≡ Some r → EachRead StandsWhole (role_reads r)

-- what the roles read is needed, and what needed nodes read; and nothing else, so that all of it is whole where that is
pub record AreNeeded (nodes : List Node) (roles : List NetRole) (marks : List Bool) : Type 0 where
  pub count : length marks ≡ length nodes
  pub of_roles : (x : ℕ) (r : NetRole) → slice_get roles x ≡ Some r → EachRead (λ r. IsBelow (length nodes) r → IsMarked marks r) (role_reads r)
  pub of_nodes : (k : ℕ) (n : Node) → slice_get nodes k ≡ Some n → slice_get marks k ≡ Some true → AreMarked marks (support_of n)
  pub whole : (held : ℕ → LeafType) (count : ℕ) → ReadWhole held count nodes roles → (k : ℕ) → slice_get marks k ≡ Some true
      → StandsWhole held count nodes (read.Node k)

-- a leaf that holds a number of this type, of no more than 128 bits
abbrev pub IsHeld : Leaf → LeafType → Type 0
IsHeld l (number t) = (l.signed ≡ t.signed) × (l.width ≡ t.width) × (l.width ≤ 128) × (is_clock l.role ≡ false)
IsHeld l _ = Unit {0}

pub record LeavesHold (leaves : List Leaf) (held : ℕ → LeafType) (count : ℕ) : Type 0 where
  pub long : length leaves ≡ count
  pub each : (x : ℕ) (l : Leaf) → slice_get leaves x ≡ Some l → IsHeld l (held x)

-- what is read stands for the same term among the kept nodes
pub record StaysThere (nodes : List Node) (kept : KeptNodes) (r : Read) : Type 0 where
  pub below : IsBelow (length kept.nodes.items) (moved kept.places.items r)
  pub term : read_term (terms kept.nodes.items) (moved kept.places.items r) ≡ read_term (terms nodes) r

-- so it is for what a role reads, and each kept node has its type where the nodes that the roles read stand for whole terms
pub record Keeps (nodes : List Node) (roles : List NetRole) (kept : KeptNodes) : Type 0 where
  pub before : ReadBefore 0 kept.nodes.items
  pub reads : (x : ℕ) (r : NetRole) → slice_get roles x ≡ Some r → EachRead (λ r. IsBelow (length nodes) r → StaysThere nodes kept r) (role_reads r)
  pub whole : (leaves : List Leaf) (held : ℕ → LeafType) (count : ℕ) → LeavesHold leaves held count → ReadWhole held count nodes roles
      → AreNodes leaves [] kept.nodes.items
