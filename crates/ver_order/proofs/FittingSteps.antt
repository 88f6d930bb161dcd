-- Where each net has a value of its width a step gives another such value.
use Rattle.std.proofs.Common.{◌≡◌, ℕ, ◌^◌, ◌<◌, List, [], ◌∷◌, cond, true, false, Bool, refl, subst}
use Rattle.std.specs.Prelude.{slice_get, Some, None, Option}
use Rattle.std.specs.Str.{bytes_eq}
use Rattle.fir_base.specs.Lists.{In}
use Rattle.fir_base.specs.Ticks.{Env, FitEach}
use Rattle.fir_base.proofs.Elements.{get_in}
use Rattle.fir_base.proofs.SameNames.{name_is}
use Rattle.ver_ast.specs.declared.tree.Verilog.{Verilog}
use Rattle.ver_ast.specs.Nets.{nets, variables, shape}
use Rattle.ver_ast.specs.Valid.{Valid}
use Rattle.ver_ast.specs.Stores.{Store, store_of}
use Rattle.ver_ast.specs.Processes.{Process, processes, target, given}
use Rattle.ver_ast.proofs.NextFits.{given_below}
use Rattle.ver_order.specs.Steps.{process_step, step, step_of, steps}
use Rattle.ver_order.specs.working.Laws.{FitNets}

module _ (v : Verilog) (valid : Valid v) (state : List ℕ) (state_fits : FitEach (shape v).state state) where
  abbrev words : Store
  words = store_of (variables v) state

  process_step_fits : (env : Env) → FitNets v env → (p : Process) → In (processes v) p → FitNets v (process_step v words env p)
  process_step_fits env fits p m n w i = by (bytes_eq n (target p)) refl
    where
      by : (b : Bool) → bytes_eq n (target p) ≡ b → cond b (given v words env p) (env n) < 2 ^ w
      by true e = given_below v valid env fits state state_fits p m w (subst (λ (k : List ℕ). In (nets v) (k, w)) (name_is n (target p) e) i)
      by false e = fits n w i

  step_fits : (env : Env) → FitNets v env → (k : ℕ) → FitNets v (step v words env k)
  step_fits env fits k = by (slice_get (processes v) k) (λ p e. get_in (processes v) k p e)
    where
      by : (q : Option Process) → ((p : Process) → q ≡ Some p → In (processes v) p) → FitNets v (step_of v words env q)
      by None h = fits
      by (Some p) h = process_step_fits env fits p (h p refl)

  pub steps_fit : (list : List ℕ) (env : Env) → FitNets v env → FitNets v (steps v words list env)
  unfolding steps
  steps_fit [] env fits = fits
  steps_fit (k ∷ ks) env fits = steps_fit ks (step v words env k) (step_fits env fits k)
