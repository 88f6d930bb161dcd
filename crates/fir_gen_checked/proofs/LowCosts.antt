-- The circuit costs less than the limit: each of its statements at most 16.
use Rattle.std.proofs.Common.{◌≡◌, ℕ, zero, suc, ◌+◌, ◌-◌, ◌*◌, ◌<◌, ◌≤◌, List, refl, inl, lit≤, arith}
use Rattle.std.specs.Prelude.{codes}
use Rattle.fir_ast.specs.declared.place.Place.{Place}
use Rattle.fir_ast.specs.Statements.{Block, done, then}
use Rattle.fir_ast.specs.Circuits.{ModuleTree}
use Rattle.fir_ast.specs.Faults.{Fault}
use Rattle.fir_meaning.specs.Visibility.{behind}
use Rattle.fir_meaning.specs.Costs.{ModuleCosts, cost_of, cost_of_block}
use Rattle.fir_meaning.specs.CostGroup.{ShowsCost, cost_limit}
use Rattle.fir_gen.specs.working.GenTree.{body, gen_module, gen_tree, last_connect, steps}
use Rattle.fir_gen_checked.proofs.DeclaredRegisters.{behind_head}
use Rattle.fir_gen_checked.proofs.BodyWalk.{of_body}
use Rattle.fir_gen_checked.proofs.KnownRegisters.{WhereKnown, all_known}

-- how many statements stand in a block, those inside of others not counted
abbrev count : Block → ℕ
count done = 0
count ((then) s b) = count b + 1

steps_counted : (at : ℕ → ℕ → Place) (j n : ℕ) (rest : Block) → count (steps at j n rest) ≡ 2 * n + count rest
unfolding steps
steps_counted at j zero rest = omega arith
steps_counted at j (suc n) rest = omega (arith, steps_counted at (j + 1) n rest)

body_counted : (at : ℕ → ℕ → Place) (n : ℕ) → 1 ≤ n → count (body at n) ≡ 2 * n + 1
body_counted at n some = omega (arith, steps_counted at 0 (n - 1) ((then) (last_connect at n) done))

both_low : (a b k : ℕ) → a ≤ 16 → b ≤ 16 * k → a + b ≤ 16 * (k + 1)
both_low a b k h g = omega arith

module _ (at : ℕ → ℕ → Place) (modules : List ModuleTree) (costs : ModuleCosts) where
  where_known : WhereKnown at modules (λ before s. cost_of modules costs before s ≤ 16)
  where_known = record {
    a_register = λ before k clocked resets. rw (clocked, resets) (lit≤ tt);
    the_first = λ before own input. rw (own, input) (lit≤ tt);
    a_step = λ before j input earlier own. rw (input, earlier, own) (lit≤ tt);
    the_last = λ before n output own. rw (output, own) (lit≤ tt);
  }

  body_cost : (n : ℕ) → 1 ≤ n → n ≤ 4096 → cost_of_block modules costs (behind_head at) (body at n) ≤ 16 * count (body at n)
  body_cost n some small =
      of_body at (λ before b. cost_of_block modules costs before b ≤ 16 * count b) (λ before s. cost_of modules costs before s ≤ 16)
      (λ before s b h g. both_low (cost_of modules costs before s) (cost_of_block modules costs (behind before s) b) (count b) h g) n
      (all_known at modules _ where_known n some small) (lit≤ tt)

pub cost_clear : (at : ℕ → ℕ → Place) (n : ℕ) → 1 ≤ n → n ≤ 4096 → (f : Fault) → ShowsCost (gen_tree at n) f → ⊥
cost_clear at n some small f h =
    let modules = (gen_tree at n).modules in
    let whole : h.cost ≡ h.has.costs (codes "Gen") + 0 = h.has.sum in
    let inner = cost_of_block modules h.has.costs (behind_head at) (body at n) in
    let parts : h.has.costs (codes "Gen") ≡ 4 + inner = h.has.are.each (gen_module at n) (inl refl) in
    let low : inner ≤ 16 * count (body at n) = body_cost at modules h.has.costs n some small in
    over inner (count (body at n)) h.cost (h.has.costs (codes "Gen")) n whole parts low (body_counted at n some) small h.over
  where
    over : (inner long cost own n : ℕ) → cost ≡ own + 0 → own ≡ 4 + inner → inner ≤ 16 * long → long ≡ 2 * n + 1 → n ≤ 4096 → cost_limit < cost → ⊥
    over inner long cost own n whole parts low counted few above = omega arith
