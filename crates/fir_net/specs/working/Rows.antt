-- The rows of a net: its ports, and the words and arrays of its state.
use Rattle.std.specs.Prelude.{ℕ, List, [], ◌∷◌, flat_map, slice_get, Option, Some, None}
use Rattle.fir_base.specs.declared.direction.Direction.TheVariants as direction
use Rattle.fir_net.specs.declared.array.Array.{Array}
use Rattle.fir_net.specs.declared.leaf.Role.{Role}
use Rattle.fir_net.specs.declared.leaf.Role.TheVariants as role
use Rattle.fir_net.specs.declared.leaf.Leaf.{Leaf}
use Rattle.fir_net.specs.declared.net.FlatNet.{FlatNet}
use Rattle.fir_net.specs.Paths.{base_name}
use Rattle.fir_net.specs.Rows.{Row, row, clock_row, Word, word, ArrayRow}

abbrev pub role_row : Role → List ℕ → ℕ → List Row
role_row role.Input name width = row name direction.Input width
role_row role.Clock name width = clock_row name direction.Input
role_row (role.Output r) name width = row name direction.Output width
role_row (role.ClockOutput c) name width = clock_row name direction.Output
role_row _ name width = []

abbrev pub leaf_word : Option Leaf → List Word
leaf_word None = []
leaf_word (Some l) = word (base_name l.path) l.width

abbrev pub net_rows : FlatNet → List Row
net_rows net = flat_map (λ l. role_row l.role (base_name l.path) l.width) net.leaves

abbrev pub net_words : FlatNet → List Word
net_words net = flat_map (λ k. leaf_word (slice_get net.leaves k)) net.state

abbrev pub array_row : Option Array → List ArrayRow
array_row None = []
array_row (Some a) = record { name = base_name a.path; width = a.width; depth = a.words } ∷ []

abbrev pub net_arrays : FlatNet → List ArrayRow
net_arrays net = flat_map (λ k. array_row (slice_get net.arrays k)) net.array_order
