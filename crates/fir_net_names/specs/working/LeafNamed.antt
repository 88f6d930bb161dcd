-- The names of leaves and arrays: which leaves have names, in which order they take them, first the ports and then the words of the state, and from which
-- bases.
use Rattle.std.specs.Prelude.{ℕ, List, [], ◌∷◌, ◌++◌, if◌then◌else◌, slice_get, unwrap_or, Option, Some, None}
use Rattle.fir_net.specs.declared.array.Array.{Array}
use Rattle.fir_net.specs.declared.leaf.Role.{Role}
use Rattle.fir_net.specs.declared.leaf.Leaf.{Leaf}
use Rattle.fir_net.specs.declared.net.FlatNet.{FlatNet}
use Rattle.fir_net.specs.Paths.{base_name}
use Rattle.fir_net.specs.working.IsNet.{is_port}
use Rattle.fir_net.specs.working.Settled.{with_bits, numbers_by}

-- a name, where there is one, before others
abbrev pub with_some : Option (List ℕ) → List (List ℕ) → List (List ℕ)
with_some None names = names
with_some (Some n) names = n ∷ names

-- the names that there are
abbrev pub somes : List (Option (List ℕ)) → List (List ℕ)
somes [] = []
somes (n ∷ ns) = with_some n (somes ns)

-- a port that has bits; a clock has one
abbrev pub port_number : Role → ℕ → ℕ → List ℕ
port_number r width k = if is_port r then with_bits width k else []

-- the numbers of the ports that have names, where the leaves are numbered from k on
abbrev pub named_ports : ℕ → List Leaf → List ℕ
named_ports k leaves = numbers_by port_number k leaves

-- the numbers of the leaves that have names, in the order in which they take them
abbrev pub named_leaves : FlatNet → List ℕ
named_leaves net = named_ports 0 net.leaves ++ net.state

abbrev pub leaf_base : Option Leaf → List ℕ
leaf_base None = []
leaf_base (Some l) = base_name l.path

-- the base of the name of a leaf
abbrev pub base_at : FlatNet → ℕ → List ℕ
base_at net k = leaf_base (slice_get net.leaves k)

abbrev pub base_of_array : Option Array → List ℕ
base_of_array None = []
base_of_array (Some a) = base_name a.path

-- the base of the name of an array
abbrev pub array_base : FlatNet → ℕ → List ℕ
array_base net k = base_of_array (slice_get net.arrays k)

-- the name of a number; behind the end there is none
abbrev pub name_at : List (Option (List ℕ)) → ℕ → Option (List ℕ)
name_at names k = unwrap_or (slice_get names k) None
