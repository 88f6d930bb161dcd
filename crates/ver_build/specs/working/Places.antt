-- Where values are in the tree of a net.
-- The value of an input, of a register, of an operation, of a mux and of what is read of an array is in a net of its own. A wire and an output are where what drives them is, fitted to their
-- width; a literal is a number. A clock leaf is the clock input at which its drivers end, or none. A write at an address that may be past the end has two nets.
use Rattle.std.specs.Prelude.{◌≡◌, ℕ, ◌+◌, ◌^◌, ◌≤◌, List, [], ◌∷◌, ◌++◌, flat_map, length, slice_get, nat_eq, if◌then◌else◌, Bool, false, not, ◌&&◌, MatchBool, Option, Some, None, unwrap_or}
use Rattle.std.specs.Option.{is_none, is_some}
use Rattle.fir_base.specs.Lists.{In}
use Rattle.std.specs.List.{AllByRecursion}
use Rattle.fir_net.specs.declared.array.Array.{Array}
use Rattle.fir_net.specs.declared.array.ArrayRead.{ArrayRead}
use Rattle.fir_net.specs.declared.array.ArrayWrite.{ArrayWrite}
use Rattle.fir_net.specs.declared.reads.Read.{Read}
use Rattle.fir_net.specs.declared.reads.Read.TheVariants as read
use Rattle.fir_net.specs.declared.leaf.Reset.{Reset}
use Rattle.fir_net.specs.declared.leaf.Role.{Role}
use Rattle.fir_net.specs.declared.leaf.Role.TheVariants as role
use Rattle.fir_net.specs.declared.leaf.Leaf.{Leaf}
use Rattle.fir_net.specs.declared.node.Node.{Node}
use Rattle.fir_net.specs.declared.node.Node.TheVariants as node
use Rattle.fir_net.specs.declared.net.FlatNet.{FlatNet}
use Rattle.fir_net.specs.working.Arrays.{words_of}
use Rattle.fir_net.specs.working.IsNet.{read_type}
use Rattle.fir_net_names.specs.declared.name_table.NameTable.{NameTable}
use Rattle.ver_words.specs.Names.{IsName}
use Rattle.fir_net_names.specs.Names.{IsInner, inner_name}
use Rattle.fir_net_names.specs.working.LeafNamed.{with_some, name_at}
use Rattle.fir_net_names.specs.working.TableNames.{table_names}
use Rattle.fir_inits.specs.working.InitValues.{AreInitValues}
use Rattle.ver_build.specs.declared.held.Source.{Source}
use Rattle.ver_build.specs.declared.held.Source.TheVariants as source
use Rattle.ver_build.specs.declared.held.Held.{Held}
use Rattle.ver_build.specs.declared.places.Guard.{Guard}
use Rattle.ver_build.specs.declared.places.Place.{Place}
use Rattle.ver_build.specs.declared.places.Place.TheVariants as place
use Rattle.ver_build.specs.declared.places.NodePlace.{NodePlace}
use Rattle.ver_build.specs.declared.places.Places.{Places}
use Rattle.ver_build.specs.working.Held.{no_bits, whole_net, own_held, held_literal, fit}
use Rattle.ver_build.specs.working.Texts.{helper_count}
use Rattle.ver_build.specs.working.ArrayTexts.{always_within, reading_count}

abbrev pub place_value : Place → Held
place_value (place.Value h) = h
place_value (place.Clock c) = no_bits

abbrev pub place_clock : Place → Option ℕ
place_clock (place.Value h) = None
place_clock (place.Clock c) = c

abbrev pub place_at : List Place → ℕ → Place
place_at leaves k = unwrap_or (slice_get leaves k) (place.Value no_bits)

abbrev pub nowhere : NodePlace
nowhere = record { held = no_bits; helpers = [] }

abbrev pub node_at : List NodePlace → ℕ → NodePlace
node_at nodes k = unwrap_or (slice_get nodes k) nowhere

-- where the value of a read is
abbrev pub held_in : List Place → List NodePlace → Read → Held
held_in leaves nodes (read.Leaf k) = place_value (place_at leaves k)
held_in leaves nodes (read.Node k) = (node_at nodes k).held

abbrev pub held_of : Places → Read → Held
held_of p r = held_in p.leaves p.nodes r

-- the clock of a leaf
abbrev pub clock_in : List Place → ℕ → Option ℕ
clock_in leaves k = place_clock (place_at leaves k)

abbrev pub driven_clock_in : List Place → Option ℕ → Option ℕ
driven_clock_in leaves None = None
driven_clock_in leaves (Some k) = clock_in leaves k

-- where a leaf of that number, signedness, width and role is, from where what drives it is
abbrev pub placed : List Place → List NodePlace → List NodePlace → Option (List ℕ) → ℕ → Bool → ℕ → Role → Place
placed leaves nodes readings name k signed w role.Input = place.Value (own_held signed w name)
placed leaves nodes readings name k signed w role.Clock = place.Clock (Some k)
placed leaves nodes readings name k signed w (role.Output r) = place.Value (fit w (held_in leaves nodes r))
placed leaves nodes readings name k signed w (role.Wire r) = place.Value (fit w (held_in leaves nodes r))
placed leaves nodes readings name k signed w (role.Register r) = place.Value (own_held signed w name)
placed leaves nodes readings name k signed w (role.Reading r) = place.Value (node_at readings k).held
placed leaves nodes readings name k signed w (role.Pipe p) = place.Value no_bits
placed leaves nodes readings name k signed w (role.ClockOutput c) = place.Clock (driven_clock_in leaves c)
placed leaves nodes readings name k signed w (role.ClockWire c) = place.Clock (driven_clock_in leaves c)

pub record ArePlaced (net : FlatNet) (t : NameTable) (nodes readings : List NodePlace) (leaves : List Place) : Type 0 where
  pub each : (k : ℕ) (l : Leaf) → slice_get net.leaves k ≡ Some l → place_at leaves k ≡ placed leaves nodes readings (name_at t.leaves k) k l.signed l.width l.role

-- a value of that type is in a net of its own, where it has bits
abbrev pub IsOwn : Bool → ℕ → Held → Type 0
IsOwn signed w h = MatchBool (nat_eq w 0) (h ≡ own_held signed w None) ((name : List ℕ) × (h ≡ whole_net name signed w))

-- how many nets a node has before its own
abbrev pub node_helpers : Node → ℕ
node_helpers (node.Operation o) = if nat_eq o.width 0 then 0 else helper_count o.op
node_helpers _ = 0

abbrev pub IsNodeHeld : Node → Held → Type 0
IsNodeHeld (node.Literal v) h = h ≡ held_literal v
IsNodeHeld (node.Operation o) h = IsOwn o.signed o.width h
IsNodeHeld (node.Mux m) h = IsOwn m.signed m.width h

pub record IsNodePlace (n : Node) (p : NodePlace) : Type 0 where
  pub held : IsNodeHeld n p.held
  pub helpers : length p.helpers ≡ node_helpers n

pub record AreNodesHeld (net : FlatNet) (nodes : List NodePlace) : Type 0 where
  pub each : (k : ℕ) (n : Node) → slice_get net.nodes k ≡ Some n → IsNodePlace n (node_at nodes k)

-- the width of what is read
abbrev pub read_width : FlatNet → Read → ℕ
read_width net r = (read_type net.leaves net.nodes r).width

-- how many nets what a leaf of that width reads of an array has before its own
abbrev pub reading_helpers : FlatNet → ℕ → ArrayRead → ℕ
reading_helpers net width r = if nat_eq width 0 then 0 else reading_count (read_width net r.address) (words_of net.arrays r.array)

pub record IsReadingPlace (net : FlatNet) (signed : Bool) (width : ℕ) (r : ArrayRead) (p : NodePlace) : Type 0 where
  pub held : IsOwn signed width p.held
  pub helpers : length p.helpers ≡ reading_helpers net width r

pub record AreReadingsHeld (net : FlatNet) (readings : List NodePlace) : Type 0 where
  pub each :
      (k : ℕ) (l : Leaf) (r : ArrayRead) → slice_get net.leaves k ≡ Some l → l.role ≡ role.Reading r
      → IsReadingPlace net l.signed l.width r (node_at readings k)

-- the name of a value's net
abbrev pub source_name : Source → List (List ℕ)
source_name (source.Number n) = []
source_name (source.Net p) = p.name ∷ []

-- the names of a node's nets: those before its own, and its own
abbrev pub node_names : Node → NodePlace → List (List ℕ)
node_names (node.Literal v) p = []
node_names _ p = p.helpers ++ source_name p.held.source

abbrev pub node_names_at : Option Node → NodePlace → List (List ℕ)
node_names_at None p = []
node_names_at (Some n) p = node_names n p

-- so for what a leaf reads of an array
abbrev pub role_names : Role → NodePlace → List (List ℕ)
role_names (role.Reading r) p = p.helpers ++ source_name p.held.source
role_names _ p = []

abbrev pub leaf_names_at : Option Leaf → NodePlace → List (List ℕ)
leaf_names_at None p = []
leaf_names_at (Some l) p = role_names l.role p

abbrev pub read_names : FlatNet → List NodePlace → List NodePlace → Read → List (List ℕ)
read_names net nodes readings (read.Leaf k) = leaf_names_at (slice_get net.leaves k) (node_at readings k)
read_names net nodes readings (read.Node k) = node_names_at (slice_get net.nodes k) (node_at nodes k)

-- the names of all inner nets, in the order of the reads
abbrev pub inner_names : FlatNet → List NodePlace → List NodePlace → List Read → List (List ℕ)
inner_names net nodes readings order = flat_map (read_names net nodes readings) order

-- the inner names from that number on, one after the other, and the number behind the last
abbrev pub AreInnerTo : List (List ℕ) → ℕ → List (List ℕ) → ℕ → Type 0
AreInnerTo taken from [] to = from ≡ to
AreInnerTo taken from (name ∷ names) to = (k : ℕ) × IsInner taken from k × (name ≡ inner_name k) × AreInnerTo taken (k + 1) names to

-- their names are the inner ones below that number
pub record AreNodePlaces (net : FlatNet) (t : NameTable) (order : List Read) (nodes readings : List NodePlace) (last : ℕ) : Type 0 where
  pub held : AreNodesHeld net nodes
  pub read : AreReadingsHeld net readings
  pub named : AreInnerTo (table_names t) 0 (inner_names net nodes readings order) last
  pub spelled : AllByRecursion IsName (inner_names net nodes readings order)

-- the net of one bit that a value is all of
abbrev pub bit_net : Source → Option (List ℕ)
bit_net (source.Number n) = None
bit_net (source.Net p) = if nat_eq p.own 1 && nat_eq p.kept 1 then Some p.name else None

-- whether a register has a reset whose condition is not all of a net of one bit
abbrev pub needs_net : List Place → List NodePlace → Option Reset → Bool
needs_net leaves nodes None = false
needs_net leaves nodes (Some r) = is_none (bit_net (held_in leaves nodes r.condition).source)

abbrev pub role_needs : List Place → List NodePlace → Role → Bool
role_needs leaves nodes (role.Register r) = needs_net leaves nodes r.reset
role_needs leaves nodes _ = false

abbrev pub leaf_needs : List Place → List NodePlace → Option Leaf → Bool
leaf_needs leaves nodes None = false
leaf_needs leaves nodes (Some l) = role_needs leaves nodes l.role

-- the names of the nets that resets have of their own, in the order of the state
abbrev pub reset_names : List (Option (List ℕ)) → List ℕ → List (List ℕ)
reset_names resets state = flat_map (λ k. with_some (name_at resets k) []) state

-- the words with such resets have these names, which are the inner ones from that number on
pub record AreResetNets (net : FlatNet) (t : NameTable) (leaves : List Place) (nodes : List NodePlace) (from : ℕ) (resets : List (Option (List ℕ))) : Type 0 where
  pub each : (k : ℕ) → In net.state k → is_some (name_at resets k) ≡ leaf_needs leaves nodes (slice_get net.leaves k)
  pub last : ℕ
  pub named : AreInnerTo (table_names t) from (reset_names resets net.state) last
  pub near : last ≤ 2 ^ 127
  pub spelled : AllByRecursion IsName (reset_names resets net.state)

-- the guard of a write
abbrev pub guard_at : List (List (Option Guard)) → ℕ → ℕ → Option Guard
guard_at guards k j = unwrap_or (slice_get (unwrap_or (slice_get guards k) []) j) None

-- what is made of each write, where they are numbered from j on
abbrev pub along_writes : {B : Type 0} → (ℕ → ArrayWrite → List B) → ℕ → List ArrayWrite → List B
along_writes f j [] = []
along_writes f j (w ∷ ws) = f j w ++ along_writes f (j + 1) ws

abbrev pub array_writes : Option Array → List ArrayWrite
array_writes None = []
array_writes (Some a) = a.writes

-- whether a write of an array of so many words is on a clock, at an address that may be past the end
abbrev pub needs_guard : FlatNet → List Place → ℕ → ArrayWrite → Bool
needs_guard net leaves words w = is_some (clock_in leaves w.clock) && not (always_within (read_width net w.address) words)

abbrev pub guard_names : Option Guard → List (List ℕ)
guard_names None = []
guard_names (Some g) = g.within ∷ g.written ∷ []

abbrev pub array_guard_names : FlatNet → List (List (Option Guard)) → ℕ → List (List ℕ)
array_guard_names net guards k = along_writes (λ j w. guard_names (guard_at guards k j)) 0 (array_writes (slice_get net.arrays k))

-- the writes that need nets have them, with the inner names from that number on, in the order of the state
pub record AreGuards (net : FlatNet) (t : NameTable) (leaves : List Place) (from : ℕ) (guards : List (List (Option Guard))) : Type 0 where
  pub each :
      (k : ℕ) (a : Array) (j : ℕ) (w : ArrayWrite) → In net.array_order k → slice_get net.arrays k ≡ Some a → slice_get a.writes j ≡ Some w
      → is_some (guard_at guards k j) ≡ needs_guard net leaves a.words w
  pub last : ℕ
  pub named : AreInnerTo (table_names t) from (flat_map (array_guard_names net guards) net.array_order) last
  pub near : last ≤ 2 ^ 127
  pub spelled : AllByRecursion IsName (flat_map (array_guard_names net guards) net.array_order)

pub record IsPlaces (net : FlatNet) (t : NameTable) (order : List Read) (p : Places) : Type 0 where
  pub leaves : ArePlaced net t p.nodes p.readings p.leaves
  pub last : ℕ
  pub nodes : AreNodePlaces net t order p.nodes p.readings last
  pub resets : AreResetNets net t p.leaves p.nodes last p.resets
  pub guards : AreGuards net t p.leaves resets.last p.guards
  pub inits : AreInitValues net p.inits
