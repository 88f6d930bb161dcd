-- What a walk through the ports and the body of a module comes to, and how far a walk has come in the modules of a circuit.
-- What is left has the first fault of the whole, behind the names of the modules before it.
use Rattle.std.proofs.Common.{◌≡◌, List, [], ◌∷◌, ◌++◌, Some, None, option_map, sym, ap, ◌∙◌, subst, append_assoc}
use Rattle.std.specs.Prelude.{Option}
use Rattle.std.proofs.lemmas.List.{map-append}
use Rattle.fir_ast.specs.declared.fault.FirFault.{FirFault}
use Rattle.fir_ast.specs.Statements.{PlacedName, Block}
use Rattle.fir_ast.specs.Circuits.{PortTree, ModuleTree}
use Rattle.fir_ast.specs.working.CodeFaults.{fault_of}
use Rattle.fir_pass.specs.Groups.{first_of}
use Rattle.fir_meaning.specs.Visibility.{behind_block, behind_ports, at_head, declarations}
use Rattle.fir_meaning.specs.Mentions.{declares, block_mentions, ports_mentions, module_mentions, modules_mentions}
use Rattle.fir_meaning.specs.NameGroups.{faults_in, mention_faults}
use Rattle.fir_names.specs.declared.names.Names.{Names}
use Rattle.fir_resolve.specs.declared.namespace.Namespace.{Namespace}
use Rattle.fir_resolve.specs.declared.scope.Scope.{Scope}
use Rattle.fir_names.specs.working.Judged.{TabulatesEach}
use Rattle.fir_resolve.specs.working.Namespaces.{Holds}
use Rattle.fir_names.specs.working.Numbered.{names_of}
use Rattle.fir_resolve.specs.working.Scoped.{Passes, Walks}
use Rattle.fir_names.specs.working.Tabulated.{Tabulates}
use Rattle.fir_resolve.proofs.PassedMentions.{passes_told}
use Rattle.fir_names.proofs.FirstMentions.{head_silent, front_silent, front_told, mentions_behind, none_is, silent, told}

-- the ports and the body of a module
module _ (modules : List PlacedName) (m : ModuleTree) (ports : List PortTree) (body : Block) (first : ports ≡ m.ports) (second : body ≡ m.body) where
  parts_are : ports_mentions at_head ports ++ block_mentions modules (behind_ports at_head ports) body ≡ module_mentions modules m
  parts_are =
      ap (λ ps. ports_mentions at_head ps ++ block_mentions modules (behind_ports at_head ps) body) first
      ∙ ap (λ b. ports_mentions at_head m.ports ++ block_mentions modules (behind_ports at_head m.ports) b) second

  pub ports_told : (old new late : Scope) (f : Option FirFault) (x : FirFault) → f ≡ Some x
      → Passes modules old new (ports_mentions at_head ports) (behind_ports at_head ports) f
      → Passes modules old late (module_mentions modules m) (behind_block (behind_ports at_head m.ports) m.body) (Some x)
  ports_told old new late f x is p =
      passes_told modules old late (module_mentions modules m) (behind_block (behind_ports at_head m.ports) m.body) x
      (front_told f x (ports_mentions at_head ports) (block_mentions modules (behind_ports at_head ports) body) is p.first
      ∙ ap (λ ms. first_of (faults_in ms)) parts_are)

  pub body_passed : (old new late : Scope) (f g : Option FirFault) → f ≡ None
      → Passes modules old new (ports_mentions at_head ports) (behind_ports at_head ports) f
      → Passes modules new late (block_mentions modules (behind_ports at_head ports) body) (behind_block (behind_ports at_head ports) body) g
      → Passes modules old late (module_mentions modules m) (behind_block (behind_ports at_head m.ports) m.body) g
  body_passed old new late f g none p q = record {
    first =
        q.first ∙ sym (front_silent f (ports_mentions at_head ports) (block_mentions modules (behind_ports at_head ports) body) none p.first)
        ∙ ap (λ ms. first_of (faults_in ms)) parts_are;
    walked = λ silent. subst (λ ps. Walks modules late (behind_block (behind_ports at_head ps) m.body)) first
        (subst (λ s. Walks modules late (behind_block (behind_ports at_head ports) s)) second (q.walked silent));
    still_open = λ silent. q.still_open silent ∙ p.still_open none;
  }

-- a module
module _ (modules : List PlacedName) (m : ModuleTree) (old new : Scope) (f : Option FirFault) where
  pub module_told : (x : FirFault) → f ≡ Some x
      → Passes modules old new (module_mentions modules m) (behind_block (behind_ports at_head m.ports) m.body) f
      → first_of (faults_in (module_mentions modules m)) ≡ Some (fault_of x)
  module_told x is p = sym (told f x (first_of (faults_in (module_mentions modules m))) is p.first)

  pub module_passed : f ≡ None → Passes modules old new (module_mentions modules m) (behind_block (behind_ports at_head m.ports) m.body) f
      → (faults_in (module_mentions modules m) ≡ []) × Tabulates modules new.names (declarations m)
  module_passed none p =
      (none_is (faults_in (module_mentions modules m)) (silent f (first_of (faults_in (module_mentions modules m))) none p.first), (p.walked none).declared)

-- a table more
pub each_more : (modules : List PlacedName) (ts : List Names) (ms : List ModuleTree) (t : Names) (m : ModuleTree) → TabulatesEach modules ts ms
    → Tabulates modules t (declarations m) → TabulatesEach modules (ts ++ t ∷ []) (ms ++ m ∷ [])
each_more modules [] [] t m h d = (d, tt)
each_more modules [] (x ∷ ms) t m h d = absurd h
each_more modules (y ∷ ts) [] t m h d = absurd h
each_more modules (y ∷ ts) (x ∷ ms) t m h d = (h.0, each_more modules ts ms t m h.1 d)

-- how far a walk has come
pub record AtModules (modules : List PlacedName) (namespace : Namespace) (tables : List Names) (whole left : List ModuleTree) : Type 0 where
  pub passed : List ModuleTree
  pub split : passed ++ left ≡ whole
  pub held : Holds namespace (names_of passed)
  pub same : first_of (faults_in (modules_mentions modules [] whole)) ≡ first_of (faults_in (modules_mentions modules (names_of passed) left))
  pub tabulated : TabulatesEach modules tables passed

pub modules_next : (modules : List PlacedName) (old new : Namespace) (tables : List Names) (whole left : List ModuleTree) (m : ModuleTree) (t : Names)
    (f : Option FirFault) → f ≡ None
    → ((before : List PlacedName) → Holds old before → option_map fault_of f ≡ first_of (mention_faults (declares before m.named)))
    → ((before : List PlacedName) → Holds old before → Holds new (before ++ m.named ∷ []))
    → (faults_in (module_mentions modules m) ≡ []) × Tabulates modules t (declarations m) → AtModules modules old tables whole (m ∷ left)
    → AtModules modules new (tables ++ t ∷ []) whole left
modules_next modules old new tables whole left m t f none first more judged a =
    let names : names_of (a.passed ++ m ∷ []) ≡ names_of a.passed ++ m.named ∷ [] = map-append (λ (x : ModuleTree). x.named) a.passed (m ∷ []) in
    let rest = modules_mentions modules (names_of a.passed ++ m.named ∷ []) left in
    record {
      passed = a.passed ++ m ∷ [];
      split = append_assoc a.passed (m ∷ []) left ∙ a.split;
      held = subst (Holds new) (sym names) (more (names_of a.passed) a.held);
      same =
          a.same
          ∙ head_silent f (declares (names_of a.passed) m.named) (module_mentions modules m ++ rest) none (first (names_of a.passed) a.held)
          ∙ mentions_behind (module_mentions modules m) rest (ap first_of (sym judged.0))
          ∙ ap (λ before. first_of (faults_in (modules_mentions modules before left))) (sym names);
      tabulated = each_more modules tables a.passed t m a.tabulated judged.1;
    }
