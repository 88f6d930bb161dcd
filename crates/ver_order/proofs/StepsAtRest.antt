-- At rest steps change nothing, and steps of joined lists are taken one list after the other.
use Rattle.std.proofs.Common.{◌≡◌, ℕ, List, [], ◌∷◌, ◌++◌, cond, true, false, Bool, refl, sym, ap, ◌∙◌}
use Rattle.std.specs.Prelude.{slice_get, Some, None, Option}
use Rattle.std.specs.Str.{bytes_eq}
use Rattle.fir_base.specs.Lists.{In}
use Rattle.fir_base.specs.Ticks.{Env, Tick}
use Rattle.fir_base.proofs.Elements.{get_in}
use Rattle.fir_base.proofs.SameNames.{name_is}
use Rattle.ver_ast.specs.declared.tree.Verilog.{Verilog}
use Rattle.ver_ast.specs.Nets.{variables}
use Rattle.ver_ast.specs.Stores.{Store, store_of}
use Rattle.ver_ast.specs.Processes.{Process, processes, target, given}
use Rattle.ver_ast.specs.Settled.{Rest}
use Rattle.ver_order.specs.Steps.{step, step_of, steps}

-- at rest a step changes nothing
pub step_keeps_rest : (v : Verilog) (state : List ℕ) (tick : Tick) (env : Env) → Rest v state tick env → (k : ℕ) → step v (store_of (variables v) state) env k ≡ env
step_keeps_rest v state tick env r k = by (slice_get (processes v) k) (λ p e. get_in (processes v) k p e)
  where
    same : (p : Process) → In (processes v) p → (n : List ℕ) (b : Bool) → bytes_eq n (target p) ≡ b → cond b (given v (store_of (variables v) state) env p) (env n) ≡ env n
    same p m n true e = sym (r.shows p m) ∙ ap env (sym (name_is n (target p) e))
    same p m n false e = refl

    by : (q : Option Process) → ((p : Process) → q ≡ Some p → In (processes v) p) → step_of v (store_of (variables v) state) env q ≡ env
    by None h = refl
    by (Some p) h = λ i n. same p (h p refl) n (bytes_eq n (target p)) refl i

pub keeps_rest : (v : Verilog) (state : List ℕ) (tick : Tick) (env : Env) → Rest v state tick env → (list : List ℕ) → steps v (store_of (variables v) state) list env ≡ env
unfolding steps
keeps_rest v state tick env r [] = refl
keeps_rest v state tick env r (k ∷ ks) = ap (steps v (store_of (variables v) state) ks) (step_keeps_rest v state tick env r k) ∙ keeps_rest v state tick env r ks

pub steps_append : (v : Verilog) (store : Store) (ks js : List ℕ) (env : Env) → steps v store (ks ++ js) env ≡ steps v store js (steps v store ks env)
unfolding steps
steps_append v store [] js env = refl
steps_append v store (k ∷ ks) js env = steps_append v store ks js (step v store env k)
