-- The writes of all blocks, by number and by name.
use Rattle.std.proofs.Common.{◌≡◌, ℕ, suc, List, [], ◌∷◌, ◌++◌, length, map, cond, true, false, Bool, refl, sym, ap, ◌∙◌}
use Rattle.std.specs.Prelude.{flat_map, filter}
use Rattle.std.proofs.lemmas.List.{map-append}
use Rattle.fir_base.specs.Ticks.{Tick, FitEach}
use Rattle.ver_ast.specs.declared.tree.Verilog.{Verilog}
use Rattle.ver_ast.specs.Nets.{nets, variables, variable_widths, AlwaysBlock, blocks}
use Rattle.ver_ast.specs.Valid.{Valid}
use Rattle.ver_ast.specs.Next.{acts, puts, all_puts, state_after}
use Rattle.ver_ast.proofs.Processes.{variables_once}
use Rattle.ver_order.specs.working.Laws.{FitNets}
use Rattle.ver_sim.specs.declared.blocks.BlockTask.{BlockTask}
use Rattle.ver_sim.specs.working.Valued.{env_of}
use Rattle.ver_sim.specs.working.FlatStates.{flat, FlatPut, flat_all}
use Rattle.ver_sim.specs.working.Blocks.{acted, AreBlockTasks, all_block_puts}
use Rattle.ver_sim.specs.ClocksShown.{ClocksShown}
use Rattle.ver_sim.proofs.FlatStates.{flat_state}

-- the blocks that a test chooses give what all blocks give, where others give nothing
chosen_give : {X A : Type 0} → (test : X → Bool) (f : X → List A) (xs : List X) → flat_map f (filter test xs) ≡ flat_map (λ x. cond (test x) (f x) []) xs
chosen_give test f [] = refl
chosen_give {X} {A} test f (x ∷ xs) = by (test x) (chosen_give test f xs)
  where
    by : (b : Bool) → flat_map f (filter test xs) ≡ flat_map (λ y. cond (test y) (f y) []) xs
        → flat_map f (cond b (x ∷ filter test xs) (filter test xs)) ≡ cond b (f x) [] ++ flat_map (λ y. cond (test y) (f y) []) xs
    by true e = ap (λ zs. f x ++ zs) e
    by false e = e

all_blocks : (v : Verilog) (ts : List BlockTask) (bs : List AlwaysBlock) → AreBlockTasks v ts bs → (named values : List ℕ) → FitNets v (env_of v values)
    → ClocksShown v (env_of v values) → all_block_puts named values ts ≡ map (flat (variables v)) (flat_map (acted v named (env_of v values)) bs)
all_blocks v [] [] h named values fit clocks = refl
all_blocks v [] (b ∷ bs) h named values fit clocks = absurd h
all_blocks v (t ∷ ts) [] h named values fit clocks = absurd h
all_blocks v (t ∷ ts) (b ∷ bs) h named values fit clocks =
    rw (h.0.writes named values fit clocks, all_blocks v ts bs h.1 named values fit clocks)
    (sym (map-append (flat (variables v)) (acted v named (env_of v values) b) (flat_map (acted v named (env_of v values)) bs)))

pub fit_length : (ws xs : List ℕ) → FitEach ws xs → length xs ≡ length ws
fit_length [] [] h = refl
fit_length [] (x ∷ xs) h = absurd h
fit_length (w ∷ ws) [] h = absurd h
fit_length (w ∷ ws) (x ∷ xs) h = ap suc (fit_length ws xs h.1)

-- the state after all writes by number is the one after all writes by name
pub edge_state_is : (v : Verilog) → Valid v → (ts : List BlockTask) → AreBlockTasks v ts (blocks v) → (tick : Tick) (values state : List ℕ)
    → FitEach (variable_widths (variables v)) state → FitNets v (env_of v values) → ClocksShown v (env_of v values)
    → flat_all (all_block_puts tick.clocks values ts) state ≡ state_after v state (all_puts v tick (env_of v values))
edge_state_is v valid ts a tick values state l fit clocks =
    ap (λ (ps : List FlatPut). flat_all ps state)
    (all_blocks v ts (blocks v) a tick.clocks values fit clocks
    ∙ ap (map (flat (variables v))) (sym (chosen_give (acts tick.clocks (env_of v values)) (puts (nets v) (env_of v values)) (blocks v))))
    ∙ flat_state (variables v) (all_puts v tick (env_of v values)) state (variables_once v valid) (fit_length (variable_widths (variables v)) state l)
