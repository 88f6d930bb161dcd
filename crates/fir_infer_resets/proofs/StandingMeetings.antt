-- Each meeting stands in its module, and what is declared before it begins what the module declares.
use Rattle.std.proofs.Common.{◌≡◌, ℕ, zero, suc, ◌+◌, List, [], ◌∷◌, Some, refl, inl, inr, ⊎_elim, ap, sym, ◌∙◌, subst, arith}
use Rattle.std.specs.Prelude.{slice_get}
use Rattle.std.proofs.lemmas.Option.{none-some, same_Some}
use Rattle.fir_base.specs.Lists.{In}
use Rattle.fir_base.proofs.Members.{in_either, in_flat_map}
use Rattle.fir_ast.specs.Statements.{Statement, wire, register, node, instance, memory, when, connect, partial_connect, invalid, skip, Block, done, then}
use Rattle.fir_ast.specs.Circuits.{ModuleTree, CircuitTree}
use Rattle.fir_meaning.specs.Components.{Declarations}
use Rattle.fir_meaning.specs.Visibility.{Before, opened, reopened, behind, behind_block, behind_ports, at_head, declarations}
use Rattle.fir_types.specs.declared.findings.Findings.{Findings}
use Rattle.fir_types.specs.working.TypedModules.{IsTyped}
use Rattle.fir_infer_resets.specs.working.Meetings.{Meeting, Sides, connected, partly_connected, named_by, instanced, meeting, meetings_in, meetings_in_block}
use Rattle.fir_infer_resets.specs.working.ModuleMeets.{module_meetings}
use Rattle.fir_meaning.specs.ResetJoins.{ResetModule, reset_modules}
use Rattle.fir_infer_resets.specs.working.Resolved.{StandsIn}
use Rattle.fir_reset.proofs.ModuleNumbers.{is_among}
use Rattle.fir_reset.proofs.PortsInFront.{Begins, begins_behind, begins_block, begins_through}

record MetAt (m : ResetModule) (whole : Declarations) (x : Meeting) : Type 0 where
  inside : x.inside ≡ m
  begins : Begins x.before.declared whole

module _ (m : ResetModule) (x : Meeting) where
  met_one : (before : Before) (sides : Sides) (whole : Declarations) → Begins before.declared whole → In (meeting m before sides ∷ []) x → MetAt m whole x
  met_one before sides whole h (inl e) = subst (MetAt m whole) e (record { inside = refl; begins = h })
  met_one before sides whole h (inr f) = absurd f

  met_further : (b : Block) (before : Before) → MetAt m before.declared x → MetAt m (behind_block before b).declared x
  met_further b before h =
      record { inside = h.inside; begins = begins_through x.before.declared before.declared (behind_block before b).declared h.begins (begins_block b before) }

  mutual
    met_at : (s : Statement) (before : Before) → In (meetings_in m before s) x → MetAt m (behind before s).declared x
    met_at (wire p k begins t) before i = absurd i
    met_at (register p k begins t c r) before i = absurd i
    met_at (node p k e) before i = met_one before (named_by k e) (behind before (node p k e)).declared (begins_behind (node p k e) before) i
    met_at (instance p k other) before i =
        met_one before (instanced k other.name) (behind before (instance p k other)).declared (begins_behind (instance p k other) before) i
    met_at (memory p k parts) before i = absurd i
    met_at (when p c a b) before i =
        let inside = behind_block (opened before) a in
        ⊎_elim
        (λ (l : In (meetings_in_block m (opened before) a) x). met_further b (reopened before inside) (met_at_block a (opened before) l))
        (λ (l : In (meetings_in_block m (reopened before inside) b) x). met_at_block b (reopened before inside) l)
        (in_either (meetings_in_block m (opened before) a) (meetings_in_block m (reopened before inside) b) x i)
    met_at (connect p sink e) before i = met_one before (connected sink e) before.declared (begins_behind (connect p sink e) before) i
    met_at (partial_connect p sink e) before i = met_one before (partly_connected sink e) before.declared (begins_behind (partial_connect p sink e) before) i
    met_at (invalid p sink) before i = absurd i
    met_at (skip p) before i = absurd i

    met_at_block : (b : Block) (before : Before) → In (meetings_in_block m before b) x → MetAt m (behind_block before b).declared x
    met_at_block done before i = absurd i
    met_at_block ((then) s b) before i =
        ⊎_elim
        (λ (l : In (meetings_in m before s) x). met_further b (behind before s) (met_at s before l))
        (λ (l : In (meetings_in_block m (behind before s) b) x). met_at_block b (behind before s) l)
        (in_either (meetings_in m before s) (meetings_in_block m (behind before s) b) x i)

pub meeting_stands : (c : CircuitTree) (found : Findings) → IsTyped c found → (m : ResetModule) → In (reset_modules 0 c.modules c.modules) m → (x : Meeting)
    → In (module_meetings m) x → StandsIn c found m.number x
meeting_stands c found typed m i x j =
    let at = met_at_block m x m.inside.body (behind_ports at_head m.inside.ports) j in
    let stands = is_among 0 c.modules c.modules m i in
    let number : stands.behind ≡ m.number = omega (arith, stands.number) in
    let begins : Begins x.before.declared (declarations x.inside.inside) =
    subst (λ (y : ResetModule). Begins x.before.declared (declarations y.inside)) (sym at.inside) at.begins in
    record {
      typed = typed;
      among = in_flat_map module_meetings (reset_modules 0 c.modules c.modules) m x i j;
      number_is = ap (λ (y : ResetModule). y.number) at.inside;
      modules = ap (λ (y : ResetModule). y.modules) at.inside ∙ stands.modules;
      inside =
          subst (λ k. slice_get c.modules k ≡ Some x.inside.inside) number
          (stands.there ∙ ap (λ (y : ResetModule). Some y.inside) (sym at.inside));
      begins = (begins.rest, begins.is);
    }

-- the number of a module among them
pub numbered_at : (from : ℕ) (modules ms : List ModuleTree) (k : ℕ) (m : ResetModule) → slice_get (reset_modules from modules ms) k ≡ Some m → m.number ≡ from + k
numbered_at from modules [] k m e = absurd (none-some m e)
numbered_at from modules (x ∷ ms) zero m e =
    let first : from ≡ m.number = ap (λ (y : ResetModule). y.number) (same_Some (record { modules = modules; number = from; inside = x }) m e) in omega (arith, first)
numbered_at from modules (x ∷ ms) (suc k) m e = omega (arith, numbered_at (suc from) modules ms k m e)
