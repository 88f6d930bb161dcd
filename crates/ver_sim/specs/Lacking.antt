-- Items that lack a value.
-- The right side of an assign can lack one, and a write of a block that acts can be past the end of its array.
use Rattle.std.specs.Prelude.{ℕ, ◌+◌, List, [], ◌∷◌, Bool, not, ◌&&◌, ◌||◌, is_none, if◌then◌else◌, Option, Some, None}
use Rattle.std.specs.List.{list_all, list_any}
use Rattle.fir_base.specs.Ticks.{Env}
use Rattle.ver_ast.specs.declared.tree.Verilog.{Verilog}
use Rattle.ver_ast.specs.declared.tree.Item.{Item}
use Rattle.ver_ast.specs.Nets.{nets, output_clocks, item_assign, item_block}
use Rattle.ver_ast.specs.Next.{acts, puts, is_within}
use Rattle.ver_ast.specs.Processes.{assigning, wanted}
use Rattle.ver_ast.specs.Stores.{Store}

-- whether an item lacks a value at a tick of these named clocks
abbrev pub item_lacks : Verilog → Store → List ℕ → Env → Item → Bool
item_lacks v store named env i =
    list_any (λ a. is_none (wanted v store env (assigning a))) (item_assign (output_clocks v) i)
    || list_any (λ b. acts named env b && not (list_all (is_within store) (puts (nets v) env b))) (item_block i)

-- the number of the first item of which a test holds, counted from k
abbrev pub first_from : (Item → Bool) → ℕ → List Item → Option ℕ
first_from test k [] = None
first_from test k (i ∷ is) = if test i then Some k else first_from test (k + 1) is
