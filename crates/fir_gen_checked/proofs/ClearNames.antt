-- Each name of the circuit is declared once, and before it is used.
use Rattle.std.proofs.Common.{◌≡◌, ℕ, suc, ◌+◌, ◌-◌, ◌≤◌, List, [], ◌∷◌, ◌++◌, map, Bool, true, false, if◌then◌else◌, Some, None, refl, ◌∙◌, arith}
use Rattle.std.specs.Prelude.{codes}
use Rattle.std.specs.Str.{bytes_eq}
use Rattle.fir_ast.specs.declared.place.Place.{Place}
use Rattle.fir_ast.specs.Statements.{PlacedName, Statement, Block, then}
use Rattle.fir_meaning.specs.Components.{Declaration, Declarations, find, find_name}
use Rattle.fir_meaning.specs.Visibility.{Before, at_head, behind}
use Rattle.fir_meaning.specs.Mentions.{block_mentions, circuit_mentions, mentions, module_names, names_declared, ports_mentions}
use Rattle.fir_meaning.specs.NameGroups.{faults_in}
use Rattle.fir_meaning.proofs.OnceDeclared.{faults_joined}
use Rattle.fir_gen.specs.GenText.{register_name}
use Rattle.fir_gen.specs.working.GenTree.{body, first_connect, gen_tree, last_connect, ports, register_at, step_when}
use Rattle.fir_gen_checked.proofs.NoFaults.{both_empty}
use Rattle.fir_gen_checked.proofs.DeclaredRegisters.{before_at, behind_head, declared_behind, no_port, not_yet_found, port_found, register_found}
use Rattle.fir_gen_checked.proofs.BodyWalk.{OfEach, of_body}

-- a name that is not declared is none of the names
no_name : (ds : Declarations) (name : List ℕ) → find ds name ≡ None → find_name (map (λ d. d.named) ds) name ≡ None
no_name [] name h = refl
no_name (x ∷ ds) name h = by (bytes_eq x.named.name name) h (no_name ds name)
  where
    by : (is_so : Bool) → (if is_so then Some x else find ds name) ≡ None → (find ds name ≡ None → find_name (map (λ d. d.named) ds) name ≡ None)
        → (if is_so then Some x.named else find_name (map (λ d. d.named) ds) name) ≡ None
    by true e further = absurd (cc)
    by false e further = further e

module _ (at : ℕ → ℕ → Place) (modules : List PlacedName) where
  module _ (before : Before) where
    register_clear : (k : ℕ) (u v : Declaration) → find_name (names_declared before) (register_name k) ≡ None
        → find before.visible (codes "clock") ≡ Some u → find (behind before (register_at at k)).visible (codes "reset") ≡ Some v
        → faults_in (mentions modules before (register_at at k)) ≡ []
    register_clear k u v new clock reset = rw (new, clock, reset) refl

    first_clear : (u v : Declaration) → find before.visible (register_name 0) ≡ Some u → find before.visible (codes "x") ≡ Some v
        → faults_in (mentions modules before (first_connect at)) ≡ []
    first_clear u v own input = rw (own, input) refl

    step_clear : (j : ℕ) (u v w : Declaration) → find before.visible (codes "x") ≡ Some u → find before.visible (register_name j) ≡ Some v
        → find before.visible (register_name (j + 1)) ≡ Some w → faults_in (mentions modules before (step_when at j)) ≡ []
    step_clear j u v w input earlier own = rw (input, earlier, own) refl

    last_clear : (n : ℕ) (u v : Declaration) → find before.visible (codes "y") ≡ Some u → find before.visible (register_name (n - 1)) ≡ Some v
        → faults_in (mentions modules before (last_connect at n)) ≡ []
    last_clear n u v output own = rw (output, own) refl

  each_clear : (n : ℕ) → 1 ≤ n → n ≤ 4096 → OfEach at (λ before s. faults_in (mentions modules before s) ≡ []) n
  each_clear n some small = record {
    first_register = register_clear (behind_head at) 0 _ _ (no_name (behind_head at).declared (register_name 0) (no_port at 0 (omega arith))) refl refl;
    first_drive =
        first_clear (before_at at 0) _ _ (register_found at 0 0 (omega arith) (omega arith)) (port_found at 0 (codes "x") _ refl);
    next_register = λ j less.
        register_clear (before_at at j) (suc j) _ _ (no_name (declared_behind at j) (register_name (suc j)) (not_yet_found at j (suc j) (omega arith) (omega arith)))
        (port_found at j (codes "clock") _ refl) (port_found at (suc j) (codes "reset") _ refl);
    next_drive = λ j less.
        step_clear (before_at at (suc j)) j _ _ _ (port_found at (suc j) (codes "x") _ refl) (register_found at (suc j) j (omega arith) (omega arith))
        (register_found at (suc j) (j + 1) (omega arith) (omega arith));
    last_drive =
        last_clear (before_at at (n - 1)) n _ _ (port_found at (n - 1) (codes "y") _ refl)
        (register_found at (n - 1) (n - 1) (omega arith) (omega arith));
  }

  joined : (before : Before) (s : Statement) (b : Block) → faults_in (mentions modules before s) ≡ [] → faults_in (block_mentions modules (behind before s) b) ≡ []
      → faults_in (block_mentions modules before ((then) s b)) ≡ []
  joined before s b h g =
      faults_joined (mentions modules before s) (block_mentions modules (behind before s) b)
      ∙ both_empty (faults_in (mentions modules before s)) (faults_in (block_mentions modules (behind before s) b)) h g

  body_clear : (n : ℕ) → 1 ≤ n → n ≤ 4096 → faults_in (block_mentions modules (behind_head at) (body at n)) ≡ []
  body_clear n some small =
      of_body at (λ before b. faults_in (block_mentions modules before b) ≡ []) (λ before s. faults_in (mentions modules before s) ≡ []) joined n
      (each_clear n some small) refl

pub names_clear : (at : ℕ → ℕ → Place) (n : ℕ) → 1 ≤ n → n ≤ 4096 → faults_in (circuit_mentions (gen_tree at n)) ≡ []
names_clear at n some small =
    let names = module_names (gen_tree at n) in
    let head = ports_mentions at_head (ports at) in
    let inner = block_mentions names (behind_head at) (body at n) in
    faults_joined (head ++ inner) []
    ∙ both_empty (faults_in (head ++ inner)) [] (faults_joined head inner ∙ both_empty (faults_in head) (faults_in inner) refl (body_clear at names n some small)) refl
