-- What stands in the place of pipes: a leaf that reads the array at once, a choice for each write that has a clock, and a last one for where nothing is read.
-- Leaves, nodes and entries of an order are put behind those that there are.
use Rattle.std.specs.Prelude.{◌≡◌, ◌≤◌, ℕ, zero, suc, List, [], ◌∷◌, ◌++◌, length, slice_get, slice_set, Bool, false, if◌then◌else◌, Option, Some, None}
use Rattle.fir_bits.specs.declared.operators.PrimOp.{PrimOp}
use Rattle.fir_bits.specs.declared.operators.PrimOp.TheVariants.{Eq, And, Lt}
use Rattle.fir_bits.specs.declared.types.NumTy.{NumTy}
use Rattle.fir_bits.specs.declared.values.Num.{Num}
use Rattle.fir_net.specs.declared.array.ArrayRead.{ArrayRead}
use Rattle.fir_net.specs.declared.array.Pipe.{Pipe}
use Rattle.fir_net.specs.declared.leaf.Leaf.{Leaf}
use Rattle.fir_net.specs.declared.leaf.Role.{Role}
use Rattle.fir_net.specs.declared.leaf.Role.TheVariants as role
use Rattle.fir_net.specs.declared.node.Node.{Node}
use Rattle.fir_net.specs.declared.node.Node.TheVariants as node
use Rattle.fir_net.specs.declared.reads.Read.{Read}
use Rattle.fir_net.specs.declared.reads.Read.TheVariants as read
use Rattle.fir_net.specs.working.Values.{type_of_leaf}
use Rattle.fir_mem.specs.declared.clocked_writes.PortWrite.{PortWrite}
use Rattle.fir_mem.specs.declared.clocked_writes.PortWrites.{PortWrites}

-- the leaves and the nodes of a net, and entries of an order
pub record Built : Type 0 where
  pub leaves : List Leaf
  pub nodes : List Node
  pub entries : List Read

-- the node that is put next
abbrev pub next_node : Built → Read
next_node b = read.Node (length b.nodes)

abbrev pub put_node : Built → Node → Built
put_node b n = record { leaves = b.leaves; nodes = b.nodes ++ n ∷ []; entries = b.entries ++ next_node b ∷ [] }

-- what was put, and what it is read by
pub record Puts (new : Built) (r : Read) (put : Built) (by : Read) : Type 0 where
  pub all : new ≡ put
  pub read : r ≡ by

-- the leaf that is put next
abbrev pub next_leaf : Built → Read
next_leaf b = read.Leaf (length b.leaves)

abbrev pub put_leaf : Built → Leaf → Built
put_leaf b l = record { leaves = b.leaves ++ l ∷ []; nodes = b.nodes; entries = b.entries ++ next_leaf b ∷ [] }

-- another leaf in the place of one
abbrev pub set_leaf : Built → ℕ → Leaf → Built
set_leaf b k l = record { leaves = slice_set b.leaves k l; nodes = b.nodes; entries = b.entries }

-- an operation of one bit
abbrev pub bit : PrimOp → Read → Read → Node
bit op x y = node.Operation (record { op = op; reads = x ∷ y ∷ []; integers = []; signed = false; width = 1 })

-- what counts where the condition is 1, else the other
abbrev pub choice : NumTy → Read → Read → Read → Node
choice ty c x y = node.Mux (record { reads = c ∷ x ∷ y ∷ []; signed = ty.signed; width = ty.width })

abbrev pub literal : Num → Node
literal v = node.Literal v

-- a zero of a type
abbrev pub zero_of : NumTy → Num
zero_of ty = record { signed = ty.signed; value = record { width = ty.width; number = 0 } }

-- the choice of one write: whether it is at the address, whether it writes there, and what is left
unfoldable pub put_here : Built → Read → PortWrite → Built
put_here b address w = put_node b (bit Eq w.address address)

unfoldable pub put_written : Built → Read → PortWrite → Built
put_written b address w = put_node (put_here b address w) (bit And w.condition (next_node b))

unfoldable pub put_choice : Built → Read → NumTy → PortWrite → Read → Built
put_choice b address ty w before = put_node (put_written b address w) (choice ty (next_node (put_here b address w)) w.given before)

unfoldable pub choice_read : Built → Read → PortWrite → Read
choice_read b address w = next_node (put_written b address w)

-- those of some writes, the last one of which counts
unfoldable pub put_choices : Built → Read → NumTy → List PortWrite → Read → Built
put_choices b address ty [] before = b
put_choices b address ty (w ∷ ws) before = put_choices (put_choice b address ty w before) address ty ws (choice_read b address w)

unfoldable pub choices_read : Built → Read → NumTy → List PortWrite → Read → Read
choices_read b address ty [] before = before
choices_read b address ty (w ∷ ws) before = choices_read (put_choice b address ty w before) address ty ws (choice_read b address w)

-- whether something is read: the number of words, whether the address is before it, and what enables it beside that
unfoldable pub put_end : Built → Num → Built
put_end b end = put_node b (literal end)

unfoldable pub put_within : Built → ArrayRead → Num → Built
put_within b r end = put_node (put_end b end) (bit Lt r.address (next_node b))

unfoldable pub put_is_read : Built → ArrayRead → Num → Built
put_is_read b r end = put_node (put_within b r end) (bit And r.enable (next_node (put_end b end)))

unfoldable pub is_read_read : Built → ArrayRead → Num → Read
is_read_read b r end = next_node (put_within b r end)

-- what was taken where something is read, and else zero
unfoldable pub put_zero : Built → ArrayRead → NumTy → Num → Built
put_zero b r ty end = put_node (put_is_read b r end) (literal (zero_of ty))

unfoldable pub put_guard : Built → ArrayRead → NumTy → Num → Read → Built
put_guard b r ty end taken = put_node (put_zero b r ty end) (choice ty (is_read_read b r end) taken (next_node (put_is_read b r end)))

unfoldable pub guard_read : Built → ArrayRead → NumTy → Num → Read
guard_read b r ty end = next_node (put_zero b r ty end)

-- what is read after all writes
unfoldable pub put_left : Built → ArrayRead → NumTy → PortWrites → Read → Built
put_left b r ty ws word =
    put_guard (put_choices b r.address ty ws.writes word) r ty ws.end (choices_read b r.address ty ws.writes word)

unfoldable pub left_read : Built → ArrayRead → NumTy → PortWrites → Read → Read
left_read b r ty ws word = guard_read (put_choices b r.address ty ws.writes word) r ty ws.end

-- what a pipe takes of an array with these writes, if there is one
unfoldable pub put_taken : Built → Bool → ArrayRead → NumTy → Option PortWrites → Read → Built
put_taken b is_new r ty None word = b
put_taken b is_new r ty (Some ws) word = if is_new then put_left b r ty ws word else b

unfoldable pub taken_read : Built → Bool → ArrayRead → NumTy → Option PortWrites → Read → Read
taken_read b is_new r ty None word = word
taken_read b is_new r ty (Some ws) word = if is_new then left_read b r ty ws word else word

-- the leaf that reads at once, under the path of a pipe
abbrev pub reading_of : Leaf → ArrayRead → Leaf
reading_of l r = record { path = l.path; place = l.place; signed = l.signed; width = l.width; role = role.Reading r }

-- the register in the place of a pipe
abbrev pub register_of : Leaf → Pipe → Read → Leaf
register_of l p next = record {
  path = l.path;
  place = l.place;
  signed = l.signed;
  width = l.width;
  role = role.Register (record { clock = p.clock; reset = None; next = Some next });
}

unfoldable pub put_word : Built → Leaf → ArrayRead → Built
put_word b l r = put_leaf b (reading_of l r)

-- a pipe as a register, where the arrays have these writes
unfoldable pub lower_pipe : List PortWrites → Built → ℕ → Leaf → Pipe → Built
lower_pipe all b k l p =
    let word = put_word b l p.read in
    let ws = slice_get all p.read.array in
    set_leaf (put_taken word p.is_new p.read (type_of_leaf l) ws (next_leaf b)) k
    (register_of l p (taken_read word p.is_new p.read (type_of_leaf l) ws (next_leaf b)))

unfoldable pub lower_pipe_at : List PortWrites → Built → ℕ → Option Leaf → Pipe → Built
lower_pipe_at all b k None p = b
lower_pipe_at all b k (Some l) p = lower_pipe all b k l p

unfoldable pub lower_role : List PortWrites → Built → ℕ → Leaf → Role → Built
lower_role all b k l (role.Pipe p) = lower_pipe all b k l p
lower_role all b k l _ = b

unfoldable pub lower_leaf : List PortWrites → Built → ℕ → Option Leaf → Built
lower_leaf all b k None = b
lower_leaf all b k (Some l) = lower_role all b k l l.role

-- the first leaves, so many
unfoldable pub lower_first : List PortWrites → Built → ℕ → Built
lower_first all b zero = b
lower_first all b (suc n) = let before = lower_first all b n in lower_leaf all before n (slice_get before.leaves n)

-- all leaves are narrow
pub record NarrowLeaves (leaves : List Leaf) : Type 0 where
  pub each : (k : ℕ) (l : Leaf) → slice_get leaves k ≡ Some l → l.width ≤ 128
