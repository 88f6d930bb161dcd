-- The state after a tick (IEEE 1364-2005, 9.2.2, 9.7.2).
-- At a tick the named clocks rise. Each block of such a clock, and each asynchronous block whose reset is 1, reads settled values; then all writes happen.
-- What has no such block keeps its words.
use Rattle.std.specs.Prelude.{ℕ, ◌==◌, List, [], ◌∷◌, ◌||◌, Bool, false, flat_map, filter, length, nat_lt, slice_set, if◌then◌else◌, Option, Some, None}
use Rattle.std.specs.List.{list_all}
use Rattle.std.specs.Str.{bytes_eq}
use Rattle.fir_base.specs.Ticks.{Env, Tick, rises}
use Rattle.ver_ast.specs.declared.tree.Verilog.{Verilog}
use Rattle.ver_ast.specs.declared.tree.Edge.{Edge}
use Rattle.ver_ast.specs.declared.tree.Write.{Write}
use Rattle.ver_ast.specs.Nets.{SizedNet, nets, variables, AlwaysBlock, plain_block, resetting_block, writing_block, blocks}
use Rattle.ver_ast.specs.Stores.{Store, store_of, state_of}
use Rattle.ver_ast.specs.AtomForms.{constant_number}
use Rattle.ver_ast.specs.AtomValues.{atom_value}

abbrev pub edge_rises : List ℕ → Env → Option Edge → Bool
edge_rises named env None = false
edge_rises named env (Some e) = rises named (env e.clock)

-- whether a block writes at a tick of these named clocks
abbrev pub acts : List ℕ → Env → AlwaysBlock → Bool
acts named env (plain_block b) = rises named (env b.clock)
acts named env (resetting_block b) = env b.reset == 1 || edge_rises named env b.edge
acts named env (writing_block b) = rises named (env b.clock)

-- a word for a place of a register, which is 0, or of an array
pub record Put : Type 0 where
  pub name : List ℕ
  pub place : ℕ
  pub word : ℕ

abbrev pub edge_put : List SizedNet → Env → List ℕ → Option Edge → List Put
edge_put nets env name None = []
edge_put nets env name (Some e) = record { name = name; place = 0; word = atom_value nets env e.source } ∷ []

-- a write whose condition is 1
abbrev pub write_put : List SizedNet → Env → Write → List Put
write_put nets env w =
    if atom_value nets env w.condition == 1
    then (record { name = w.array; place = atom_value nets env w.index; word = atom_value nets env w.source } ∷ [])
    else []

-- what a block that acts writes, in its order
abbrev pub puts : List SizedNet → Env → AlwaysBlock → List Put
puts nets env (plain_block b) = record { name = b.target; place = 0; word = atom_value nets env b.source } ∷ []
puts nets env (resetting_block b) = if env b.reset == 1 then (record { name = b.target; place = 0; word = constant_number b.value } ∷ []) else edge_put nets env b.target b.edge
puts nets env (writing_block b) = flat_map (write_put nets env) b.writes

-- the blocks that act, and all that they write
abbrev pub acting : Verilog → Tick → Env → List AlwaysBlock
acting v tick env = filter (acts tick.clocks env) (blocks v)

abbrev pub all_puts : Verilog → Tick → Env → List Put
all_puts v tick env = flat_map (puts (nets v) env) (acting v tick env)

-- a write past the end does nothing
abbrev pub put_one : Put → Store → Store
put_one p store name = if bytes_eq p.name name then slice_set (store name) p.place p.word else store name

abbrev pub put_all : List Put → Store → Store
put_all [] store = store
put_all (p ∷ ps) store = put_all ps (put_one p store)

abbrev pub is_within : Store → Put → Bool
is_within store p = nat_lt p.place (length (store p.name))

-- the state after all writes
abbrev pub state_after : Verilog → List ℕ → List Put → List ℕ
state_after v state ps = state_of (variables v) (put_all ps (store_of (variables v) state))

-- there is one where each write is within its array
abbrev pub v_next : Verilog → List ℕ → Tick → Env → Option (List ℕ)
v_next v state tick env =
    if list_all (is_within (store_of (variables v) state)) (all_puts v tick env) then Some (state_after v state (all_puts v tick env)) else None
