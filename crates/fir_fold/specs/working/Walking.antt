-- The way through a net along its order: what is done with one leaf or node, and what holds of all that are done.
use Rattle.std.specs.Prelude.{◌≡◌, ℕ, ◌<◌, ◌≤◌, List, [], ◌∷◌, ◌++◌, length, map, slice_get, slice_set, Option, Some, None, ◌⊎◌}
use Rattle.fir_base.specs.Lists.{In}
use Rattle.fir_bits.specs.Values.{IsBitVector}
use Rattle.fir_bits.specs.declared.values.Num.{Num}
use Rattle.fir_net.specs.declared.leaf.Leaf.{Leaf}
use Rattle.fir_net.specs.declared.net.FlatNet.{FlatNet}
use Rattle.fir_net.specs.declared.node.Node.{Node}
use Rattle.fir_net.specs.declared.node.Node.TheVariants as node
use Rattle.fir_net.specs.declared.reads.Read.{Read}
use Rattle.fir_net.specs.declared.reads.Read.TheVariants as read
use Rattle.fir_net.specs.working.Dependence.{leaf_reads, node_reads, support_of}
use Rattle.fir_net.specs.working.IsNet.{AreNodes, CanRead, IsNode, read_type}
use Rattle.fir_net.specs.working.Settled.{driver}
use Rattle.fir_net.specs.working.Values.{at_width, number_of, type_of_leaf}
use Rattle.fir_fold_rules.specs.declared.replacement.Replacement.{Replacement}
use Rattle.fir_fold_rules.specs.declared.replacement.Replacement.TheVariants as by
use Rattle.fir_fold_rules.specs.working.Replaces.{Replaces}
use Rattle.fir_fold_rules.specs.working.Simplifies.{IsFoldedNode, IsLiteralNode, Simplifies}
use Rattle.fir_fold.specs.working.Standing.{Standing, node_read, stands_for}

-- what there is of the folded net
pub record Walking : Type 0 where
  pub stands : Standing
  pub nodes : List Node
  pub entries : List Read

-- what stands in the place of a read
abbrev pub read_by : Walking → Read → Read
read_by w = stands_for w.stands

-- ---- one step
-- a node is put where no equal one is there, and then it is the last entry
pub record Puts (old new : Walking) (n : Node) (r : Read) : Type 0 where
  pub number : ℕ
  pub is : r ≡ read.Node number
  pub at : slice_get new.nodes number ≡ Some n
  pub stands : new.stands ≡ old.stands
  pub grown : ((new.nodes ≡ old.nodes) × (new.entries ≡ old.entries))
      ⊎ ((new.nodes ≡ old.nodes ++ n ∷ []) × (new.entries ≡ old.entries ++ read.Node (length old.nodes) ∷ []))

-- the literal that is read
abbrev pub literal_node : Option Node → Option Num
literal_node (Some (node.Literal v)) = Some v
literal_node _ = None

abbrev pub literal_at : List Node → Read → Option Num
literal_at nodes (read.Leaf k) = None
literal_at nodes (read.Node k) = literal_node (slice_get nodes k)

-- a literal of a value fitted to the type of a leaf
abbrev pub fitted_literal : Leaf → Num → Node
fitted_literal l v = node.Literal (number_of (type_of_leaf l) (at_width v l.width))

-- what is read in the place of a leaf
pub data ReadsFor (leaves : List Leaf) (k : ℕ) (l : Leaf) (old new : Walking) (r : Read) : Type 0 where
  as_literal :
      (d : Read) (v : Num) (j : ℕ) → driver l.role ≡ Some d → read_by old d ≡ read.Node j → slice_get old.nodes j ≡ Some (node.Literal v)
      → IsBitVector (number_of (type_of_leaf l) (at_width v l.width)).value → Puts old new (fitted_literal l v) r → ReadsFor leaves k l old new r
  as_driver :
      (d : Read) → driver l.role ≡ Some d → r ≡ read_by old d → read_type leaves old.nodes (read_by old d) ≡ type_of_leaf l → new ≡ old
      → ReadsFor leaves k l old new r
  itself :
      ((d : Read) → driver l.role ≡ Some d → IsLiteralNode old.nodes (read_by old d) → ⊥) → r ≡ read.Leaf k → new ≡ old
      → ReadsFor leaves k l old new r

pub record PassesLeaf (leaves : List Leaf) (k : ℕ) (l : Leaf) (old new : Walking) : Type 0 where
  pub put : Walking
  pub by : Read
  pub reads : ReadsFor leaves k l old put by
  pub is : new ≡ record {
    stands = record { leaves = slice_set put.stands.leaves k by; nodes = put.stands.nodes };
    nodes = put.nodes;
    entries = put.entries ++ read.Leaf k ∷ [];
  }

abbrev pub PutsFor : Walking → Walking → Replacement → Read → Type 0
PutsFor old new (by.Read r) s = (s ≡ r) × (new ≡ old)
PutsFor old new (by.Node m) s = Puts old new m s

pub record PassesNode (leaves : List Leaf) (k : ℕ) (n : Node) (old new : Walking) : Type 0 where
  pub put : Walking
  pub by : Read
  pub replacement : Replacement
  pub simplifies : Simplifies leaves old.nodes (node_read (read_by old) n) replacement
  pub puts : PutsFor old put replacement by
  pub is : new ≡ record {
    stands = record { leaves = put.stands.leaves; nodes = slice_set put.stands.nodes k by };
    nodes = put.nodes;
    entries = put.entries;
  }

-- a leaf or a node, all behind what it reads
abbrev pub Passes : FlatNet → Read → Walking → Walking → Type 0
Passes net (read.Leaf k) old new = (l : Leaf) × (slice_get net.leaves k ≡ Some l) × PassesLeaf net.leaves k l old new
Passes net (read.Node k) old new = (n : Node) × (slice_get net.nodes k ≡ Some n) × PassesNode net.leaves k n old new

-- no leaf is wider than a value can be
abbrev pub AreNarrow : List Leaf → Type 0
AreNarrow leaves = (k : ℕ) (l : Leaf) → slice_get leaves k ≡ Some l → l.width ≤ 128

-- one that can be passed: its node can stand behind those that there are
abbrev pub CanPass : FlatNet → Read → Walking → Type 0
CanPass net (read.Leaf k) w = (k < length net.leaves) × (k < length w.stands.leaves)
CanPass net (read.Node k) w =
    (k < length w.stands.nodes) × ((n : Node) × (slice_get net.nodes k ≡ Some n) × IsNode net.leaves w.nodes (node_read (read_by w) n))

-- ---- what holds on the way
-- before a place of a list
pub record StandsBefore (entries : List Read) (n : ℕ) (r : Read) : Type 0 where
  pub place : ℕ
  pub before : place < n
  pub is : slice_get entries place ≡ Some r

-- each entry stands once, behind all that it reads
pub record ArePlaced (reads : Read → List Read) (entries : List Read) : Type 0 where
  pub once : (i j : ℕ) (v : Read) → slice_get entries i ≡ Some v → slice_get entries j ≡ Some v → i ≡ j
  pub after : (i : ℕ) (v w : Read) → slice_get entries i ≡ Some v → In (reads v) w → StandsBefore entries i w

-- what an entry reads
abbrev pub reads_in : List Leaf → Walking → Read → List Read
reads_in leaves w (read.Leaf k) = map (read_by w) (leaf_reads (slice_get leaves k))
reads_in leaves w (read.Node k) = node_reads (slice_get w.nodes k)

-- what is read in the place of a leaf
pub data StandsForLeaf (leaves : List Leaf) (k : ℕ) (l : Leaf) (w : Walking) : Type 0 where
  literal :
      (d : Read) (v : Num) (j i : ℕ) → driver l.role ≡ Some d → read_by w d ≡ read.Node j → slice_get w.nodes j ≡ Some (node.Literal v)
      → read_by w (read.Leaf k) ≡ read.Node i → slice_get w.nodes i ≡ Some (fitted_literal l v) → StandsForLeaf leaves k l w
  of_driver :
      (d : Read) → driver l.role ≡ Some d → read_by w (read.Leaf k) ≡ read_by w d → read_type leaves w.nodes (read_by w d) ≡ type_of_leaf l
      → StandsForLeaf leaves k l w
  leaf :
      ((d : Read) → driver l.role ≡ Some d → IsLiteralNode w.nodes (read_by w d) → ⊥) → read_by w (read.Leaf k) ≡ read.Leaf k
      → StandsForLeaf leaves k l w

abbrev pub IsBy : List Node → Replacement → Read → Type 0
IsBy nodes (by.Read r) s = s ≡ r
IsBy nodes (by.Node m) s = (j : ℕ) × (s ≡ read.Node j) × (slice_get nodes j ≡ Some m)

pub record StandsForNode (leaves : List Leaf) (k : ℕ) (n : Node) (w : Walking) : Type 0 where
  pub before : List Node
  pub behind : List Node
  pub parts : w.nodes ≡ before ++ behind
  pub replacement : Replacement
  pub replaces : Replaces leaves before (node_read (read_by w) n) replacement
  pub is : IsBy w.nodes replacement (read_by w (read.Node k))

abbrev pub StandsForVertex : FlatNet → Read → Walking → Type 0
StandsForVertex net (read.Leaf k) w = (l : Leaf) × (slice_get net.leaves k ≡ Some l) × StandsForLeaf net.leaves k l w
StandsForVertex net (read.Node k) w = (n : Node) × (slice_get net.nodes k ≡ Some n) × StandsForNode net.leaves k n w

-- what stands for a leaf or a node that is done
pub record IsStood (net : FlatNet) (w : Walking) (v : Read) : Type 0 where
  pub can : CanRead net.leaves net.nodes v → CanRead net.leaves w.nodes (read_by w v)
  pub has_type : CanRead net.leaves net.nodes v → read_type net.leaves w.nodes (read_by w v) ≡ read_type net.leaves net.nodes v
  pub placed : In w.entries (read_by w v)
  -- a leaf that is read is read as itself
  pub settled : (k : ℕ) → read_by w v ≡ read.Leaf k → read_by w (read.Leaf k) ≡ read.Leaf k
  pub stands : StandsForVertex net v w

-- so many entries of the order are done
pub record IsWalked (net : FlatNet) (order : List Read) (n : ℕ) (w : Walking) : Type 0 where
  pub leaves_long : length w.stands.leaves ≡ length net.leaves
  pub nodes_long : length w.stands.nodes ≡ length net.nodes
  pub nodes : AreNodes net.leaves [] w.nodes
  pub folded : (k : ℕ) (m : Node) → slice_get w.nodes k ≡ Some m → IsFoldedNode w.nodes m
  pub operands : (j k : ℕ) (m : Node) → slice_get w.nodes j ≡ Some m → In (support_of m) (read.Leaf k) → read_by w (read.Leaf k) ≡ read.Leaf k
  pub stood : (v : Read) → StandsBefore order n v → IsStood net w v
  pub placed : ArePlaced (reads_in net.leaves w) w.entries
  pub nodes_placed : (j : ℕ) → j < length w.nodes → In w.entries (read.Node j)
  pub only_nodes : (j : ℕ) → In w.entries (read.Node j) → j < length w.nodes
  pub leaves_placed : (k : ℕ) → StandsBefore order n (read.Leaf k) → In w.entries (read.Leaf k)
  pub only_leaves : (k : ℕ) → In w.entries (read.Leaf k) → StandsBefore order n (read.Leaf k)
