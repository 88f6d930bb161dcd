-- What holds of each statement of the circuit holds of its body.
use Rattle.std.proofs.Common.{◌≡◌, ℕ, zero, suc, ◌+◌, ◌-◌, ◌<◌, sym, subst, add-one, arith}
use Rattle.fir_ast.specs.declared.place.Place.{Place}
use Rattle.fir_ast.specs.Statements.{Statement, Block, done, then}
use Rattle.fir_meaning.specs.Visibility.{Before, behind}
use Rattle.fir_gen.specs.working.GenTree.{body, first_connect, last_connect, register_at, step_when, steps}
use Rattle.fir_gen_checked.proofs.DeclaredRegisters.{before_at, behind_head}

-- Q of each statement of the circuit of so many registers, where it stands
pub record OfEach (at : ℕ → ℕ → Place) (Q : Before → Statement → Type 0) (n : ℕ) : Type 0 where
  pub first_register : Q (behind_head at) (register_at at 0)
  pub first_drive : Q (before_at at 0) (first_connect at)
  pub next_register : (j : ℕ) → j + 1 < n → Q (before_at at j) (register_at at (suc j))
  pub next_drive : (j : ℕ) → j + 1 < n → Q (before_at at (suc j)) (step_when at j)
  pub last_drive : Q (before_at at (n - 1)) (last_connect at n)

module _ (at : ℕ → ℕ → Place) (P : Before → Block → Type 0) (Q : Before → Statement → Type 0)
    (joined : (before : Before) (s : Statement) (b : Block) → Q before s → P (behind before s) b → P before ((then) s b))
    (n : ℕ) (each : OfEach at Q n) (ends : P (before_at at (n - 1)) done) where
  of_steps : (j count : ℕ) → j + count ≡ n - 1 → P (before_at at j) (steps at j count ((then) (last_connect at n) done))
  unfolding steps
  of_steps j zero e =
      let last = (then) (last_connect at n) done in
      let same : n - 1 ≡ j = omega arith in
      subst (λ k. P (before_at at k) last) same (joined (before_at at (n - 1)) (last_connect at n) done each.last_drive ends)
  of_steps j (suc count) e =
      let last = (then) (last_connect at n) done in
      let more = steps at (suc j) count last in
      subst
      (λ k. P (before_at at j) ((then) (register_at at k) ((then) (step_when at j) (steps at k count last))))
      (sym (add-one j))
      (joined (before_at at j) (register_at at (suc j)) ((then) (step_when at j) more)
      (each.next_register j (omega arith))
      (joined (before_at at (suc j)) (step_when at j) more (each.next_drive j (omega arith)) (of_steps (suc j) count (omega arith))))

  pub of_body : P (behind_head at) (body at n)
  of_body =
      let rest = steps at 0 (n - 1) ((then) (last_connect at n) done) in
      joined (behind_head at) (register_at at 0) ((then) (first_connect at) rest) each.first_register
      (joined (before_at at 0) (first_connect at) rest each.first_drive (of_steps 0 (n - 1) (omega arith)))
