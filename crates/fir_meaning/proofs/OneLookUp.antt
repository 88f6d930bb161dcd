-- What is visible under a name that is used is what its module declares.
use Rattle.std.proofs.Common.{◌≡◌, ℕ, List, [], ◌∷◌, ◌++◌, Option, Some, None, refl, inl, inr, subst}
use Rattle.fir_base.specs.Lists.{In}
use Rattle.fir_ast.specs.declared.place.Place.{Place}
use Rattle.fir_ast.specs.Statements.{PlacedName}
use Rattle.fir_ast.specs.Circuits.{ModuleTree}
use Rattle.fir_meaning.specs.Components.{Declaration, Declarations, find}
use Rattle.fir_meaning.specs.Visibility.{at_head, behind_ports, declarations}
use Rattle.fir_meaning.specs.Mentions.{declares, uses, ports_mentions, block_mentions, module_mentions, modules_mentions, module_names, circuit_mentions}
use Rattle.fir_meaning.specs.NameGroups.{faults_in, hidden_faults, mention_faults}
use Rattle.fir_meaning.specs.working.NameLaws.{IsOneLookUp, OneLookUp}
use Rattle.fir_base.proofs.Empty.{empty_at, empty_right}
use Rattle.fir_meaning.proofs.FoundDeclarations.{Once, found_among, once_found}
use Rattle.fir_meaning.proofs.GrownDeclarations.{included_all, Declared, declared_ports}
use Rattle.fir_meaning.proofs.MentionedUses.{both_among, block_among, ports_among, use_among}
use Rattle.fir_meaning.proofs.OnceDeclared.{clear_left, clear_right, once_block, once_ports}

-- where a list has no members it is empty
pub emptied : {A : Type 0} → (xs : List A) → ((x : A) → In xs x → ⊥) → xs ≡ []
emptied [] h = refl
emptied (x ∷ xs) h = absurd (h x (inl refl))

-- the mentions of a module are among those of its circuit
pub clear_module : (names before : List PlacedName) (ms : List ModuleTree) (m : ModuleTree) → faults_in (modules_mentions names before ms) ≡ [] → In ms m
    → faults_in (module_mentions names m) ≡ []
clear_module names before [] m h i = absurd i
clear_module names before (x ∷ ms) m h i =
    let here = module_mentions names x in
    let rest = modules_mentions names (before ++ x.named ∷ []) ms in
    let behind = empty_right (mention_faults (declares before x.named)) (faults_in (here ++ rest)) h in
    elim i as (λ (o : In (x ∷ ms) m). faults_in (module_mentions names m) ≡ []) [
      | inl e ↦ subst (λ (y : ModuleTree). faults_in (module_mentions names y) ≡ []) e (clear_left here rest behind)
      | inr o ↦ clear_module names (before ++ x.named ∷ []) ms m (clear_right here rest behind) o
    ]

pub seen : (found : Option Declaration) (p : Place) (n : List ℕ) → hidden_faults found p n ≡ [] → (d : Declaration) × (found ≡ Some d)
seen None p n h = cc
seen (Some d) p n h = (d, refl)

one_look_up_in : (names : List PlacedName) (m : ModuleTree) (visible : Declarations) (p : Place) (n : List ℕ) → faults_in (module_mentions names m) ≡ []
    → In (module_mentions names m) (uses visible p n) → IsOneLookUp visible m n
one_look_up_in names m visible p n clear used =
    let head = behind_ports at_head m.ports in
    let ports = ports_mentions at_head m.ports in
    let body = block_mentions names head m.body in
    let nothing : Declared at_head = record { visible = included_all [] } in
    let among = both_among (declarations m) ports body (ports_among (declarations m) m.ports at_head)
    (block_among names m.body head (declared_ports m.ports at_head nothing)) in
    let included = use_among (declarations m) (ports ++ body) visible p n among used in
    let none : Once [] = record { once = tt } in
    let once = once_block names m.body head (once_ports m.ports at_head none (clear_left ports body clear)) (clear_right ports body clear) in
    let found = seen (find visible n) p n (empty_at mention_faults (ports ++ body) clear (uses visible p n) used) in
    let here = found_among visible n found.0 found.1 in
    record {
      declaration = found.0;
      visibly = found.1;
      in_module = subst (λ (x : List ℕ). find (declarations m) x ≡ Some found.0) here.1 (once_found (declarations m) once found.0 (included.each found.0 here.0));
    }

pub one_look_up : OneLookUp
one_look_up c m visible p n clear i used =
    one_look_up_in (module_names c) m visible p n
    (clear_module (module_names c) [] c.modules m (emptied (faults_in (circuit_mentions c)) clear) i) used
