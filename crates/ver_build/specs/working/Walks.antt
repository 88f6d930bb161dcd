-- What one step of a walk along an order does.
use Rattle.std.specs.Prelude.{◌≡◌, ◌⊎◌, ℕ, ◌+◌, ◌*◌, ◌^◌, ◌<◌, ◌≤◌, List, [], ◌++◌, flat_map, length, None, unwrap_or, Bool, MatchBool, nat_eq, if◌then◌else◌, Option, Some, slice_get, slice_set}
use Rattle.std.specs.List.{AllByRecursion}
use Rattle.std.specs.Option.{is_some}
use Rattle.ver_words.specs.Names.{IsName}
use Rattle.fir_net.specs.declared.array.Array.{Array}
use Rattle.fir_net.specs.declared.array.ArrayRead.{ArrayRead}
use Rattle.fir_net.specs.declared.array.ArrayWrite.{ArrayWrite}
use Rattle.fir_net.specs.declared.leaf.Role.{Role}
use Rattle.fir_net.specs.declared.leaf.Role.TheVariants as role
use Rattle.fir_net.specs.working.Arrays.{words_of}
use Rattle.fir_net.specs.declared.reads.Read.{Read}
use Rattle.fir_net.specs.declared.reads.Read.TheVariants as read
use Rattle.fir_net.specs.declared.leaf.Leaf.{Leaf}
use Rattle.fir_net.specs.declared.node.Node.{Node}
use Rattle.fir_net.specs.declared.net.FlatNet.{FlatNet}
use Rattle.fir_net_names.specs.declared.name_table.NameTable.{NameTable}
use Rattle.fir_net_names.specs.Names.{IsInner, inner_name}
use Rattle.fir_net_names.specs.working.LeafNamed.{name_at}
use Rattle.fir_net_names.specs.working.TableNames.{table_names}
use Rattle.ver_build.specs.declared.places.Guard.{Guard}
use Rattle.ver_build.specs.declared.places.Place.{Place}
use Rattle.ver_build.specs.declared.places.NodePlace.{NodePlace}
use Rattle.ver_build.specs.working.ArrayTexts.{reading_count}
use Rattle.ver_build.specs.working.Places.{placed, IsOwn, source_name, IsNodePlace, AreInnerTo, node_at, node_names, leaf_needs, read_width, guard_names, needs_guard}

-- where a node is, whose nets have the first free inner names from that number on
pub record IsNumbered (t : NameTable) (n : Node) (from : ℕ) (p : NodePlace) (to : ℕ) : Type 0 where
  pub place : IsNodePlace n p
  pub named : AreInnerTo (table_names t) from (node_names n p) to
  pub near : to ≤ from + 5 * 2 ^ 63
  pub spelled : AllByRecursion IsName (node_names n p)

-- so many inner names from that number on
pub record AreHelpers (t : NameTable) (count from : ℕ) (names : List (List ℕ)) (to : ℕ) : Type 0 where
  pub counted : length names ≡ count
  pub named : AreInnerTo (table_names t) from names to
  pub near : to ≤ from + count * 2 ^ 63
  pub spelled : AllByRecursion IsName names

-- where a value of that type is, with a net of its own behind so many others where it has bits
pub record IsOwnPlace (t : NameTable) (count : ℕ) (signed : Bool) (w from : ℕ) (p : NodePlace) (to : ℕ) : Type 0 where
  pub held : IsOwn signed w p.held
  pub counted : length p.helpers ≡ if nat_eq w 0 then 0 else count
  pub named : AreInnerTo (table_names t) from (p.helpers ++ source_name p.held.source) to
  pub near : to ≤ from + 5 * 2 ^ 63
  pub spelled : AllByRecursion IsName (p.helpers ++ source_name p.held.source)

-- the place of a node is written
abbrev pub IsNodePassed : FlatNet → NameTable → ℕ → ℕ → List NodePlace → List NodePlace → ℕ → Type 0
IsNodePassed net t k from old new to = (n : Node) × (p : NodePlace) × (slice_get net.nodes k ≡ Some n) × (new ≡ slice_set old k p) × IsNumbered t n from p to

-- a list by the numbers of leaves with an entry for each of them, or without one
abbrev pub HasRoomFor : {A : Type 0} → List Leaf → List A → Type 0
HasRoomFor leaves xs = (xs ≡ []) ⊎ (length xs ≡ length leaves)

-- an entry for each leaf, all as they were
pub record ArePlacesKept (leaves : List Leaf) (old new : List NodePlace) : Type 0 where
  pub room : length new ≡ length leaves
  pub same : (j : ℕ) → node_at new j ≡ node_at old j

-- the leaf of that number has got that place, and all others are as they were
pub record IsPlaceNoted (leaves : List Leaf) (k : ℕ) (p : NodePlace) (old new : List NodePlace) : Type 0 where
  pub room : length new ≡ length leaves
  pub here : node_at new k ≡ p
  pub others : (j : ℕ) → (j ≡ k → ⊥) → node_at new j ≡ node_at old j

-- what a leaf reads of an array has got a place, whose nets have the first free inner names from that number on; at another leaf nothing is noted
pub record IsReadingNamed (net : FlatNet) (t : NameTable) (k : ℕ) (signed : Bool) (width : ℕ) (r : ArrayRead) (from : ℕ) (old new : List NodePlace) (to : ℕ) : Type 0 where
  pub place : NodePlace
  pub own : IsOwnPlace t (reading_count (read_width net r.address) (words_of net.arrays r.array)) signed width from place to
  pub noted : HasRoomFor net.leaves old → k < length net.leaves → IsPlaceNoted net.leaves k place old new

abbrev pub IsRoleRead : FlatNet → NameTable → ℕ → Bool → ℕ → Role → ℕ → List NodePlace → List NodePlace → ℕ → Type 0
IsRoleRead net t k signed width (role.Reading r) from old new to = IsReadingNamed net t k signed width r from old new to
IsRoleRead net t k signed width _ from old new to = (new ≡ old) × (to ≡ from)

abbrev pub IsLeafRead : FlatNet → NameTable → ℕ → Option Leaf → ℕ → List NodePlace → List NodePlace → ℕ → Type 0
IsLeafRead net t k None from old new to = (new ≡ old) × (to ≡ from)
IsLeafRead net t k (Some l) from old new to = IsRoleRead net t k l.signed l.width l.role from old new to

-- the places of nodes, and those of what leaves read of arrays
abbrev pub IsReadPassed : FlatNet → NameTable → Read → ℕ → List NodePlace → List NodePlace → List NodePlace → List NodePlace → ℕ → Type 0
IsReadPassed net t (read.Leaf k) from old new readings noted to = (new ≡ old) × IsLeafRead net t k (slice_get net.leaves k) from readings noted to
IsReadPassed net t (read.Node k) from old new readings noted to = (noted ≡ readings) × IsNodePassed net t k from old new to

-- the place of a leaf is written; at a node nothing is
abbrev pub IsLeafPassed : FlatNet → NameTable → List NodePlace → List NodePlace → Read → List Place → List Place → Type 0
IsLeafPassed net t nodes readings (read.Leaf k) old new =
    (l : Leaf) × (slice_get net.leaves k ≡ Some l) × (new ≡ slice_set old k (placed old nodes readings (name_at t.leaves k) k l.signed l.width l.role))
IsLeafPassed net t nodes readings (read.Node k) old new = new ≡ old

-- names by the numbers of leaves
abbrev pub HasRoom : List Leaf → List (Option (List ℕ)) → Type 0
HasRoom leaves names = HasRoomFor leaves names

-- an entry for each leaf, all as they were
pub record AreKept (leaves : List Leaf) (old new : List (Option (List ℕ))) : Type 0 where
  pub room : length new ≡ length leaves
  pub same : (j : ℕ) → name_at new j ≡ name_at old j

-- the leaf of that number has got that name, and all others are as they were
pub record IsNoted (leaves : List Leaf) (k : ℕ) (name : List ℕ) (old new : List (Option (List ℕ))) : Type 0 where
  pub room : length new ≡ length leaves
  pub here : name_at new k ≡ Some name
  pub others : (j : ℕ) → (j ≡ k → ⊥) → name_at new j ≡ name_at old j

-- a leaf whose reset needs a net has got the first free inner name from that number on
pub record IsResetNamed (net : FlatNet) (t : NameTable) (k from : ℕ) (old new : List (Option (List ℕ))) (to : ℕ) : Type 0 where
  pub number : ℕ
  pub first : IsInner (table_names t) from number
  pub spelled : IsName (inner_name number)
  pub behind : to ≡ number + 1
  pub near : to ≤ from + 2 ^ 63
  pub noted : HasRoom net.leaves old → k < length net.leaves → IsNoted net.leaves k (inner_name number) old new

-- the name of a leaf's reset is noted where it needs a net; else nothing is
abbrev pub IsResetPassed : FlatNet → NameTable → List Place → List NodePlace → ℕ → ℕ → List (Option (List ℕ)) → List (Option (List ℕ)) → ℕ → Type 0
IsResetPassed net t leaves nodes k from old new to =
    MatchBool (leaf_needs leaves nodes (slice_get net.leaves k)) (IsResetNamed net t k from old new to) ((new ≡ old) × (to ≡ from))

-- a write has got two nets with the first free inner names from that number on, where it needs them
pub record IsGuardNamed (t : NameTable) (needs : Bool) (from : ℕ) (guard : Option Guard) (to : ℕ) : Type 0 where
  pub given : is_some guard ≡ needs
  pub named : AreInnerTo (table_names t) from (guard_names guard) to
  pub near : to ≤ from + 2 * 2 ^ 63
  pub spelled : AllByRecursion IsName (guard_names guard)

-- the writes of an array of so many words have theirs
pub record AreArrayGuards (net : FlatNet) (t : NameTable) (leaves : List Place) (words : ℕ) (writes : List ArrayWrite) (from : ℕ) (guards : List (Option Guard)) (to : ℕ) : Type 0 where
  pub count : length guards ≡ length writes
  pub each : (j : ℕ) (w : ArrayWrite) → slice_get writes j ≡ Some w → is_some (unwrap_or (slice_get guards j) None) ≡ needs_guard net leaves words w
  pub named : AreInnerTo (table_names t) from (flat_map guard_names guards) to
  pub near : to ≤ 2 ^ 127
  pub spelled : AllByRecursion IsName (flat_map guard_names guards)

-- so for the array of that number
pub record IsArrayPassed (net : FlatNet) (t : NameTable) (leaves : List Place) (k from : ℕ) (old new : List (List (Option Guard))) (to : ℕ) : Type 0 where
  pub array : Array
  pub at : slice_get net.arrays k ≡ Some array
  pub own : List (Option Guard)
  pub named : AreArrayGuards net t leaves array.words array.writes from own to
  pub written : new ≡ slice_set old k own
