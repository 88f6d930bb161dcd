-- What the passes behind the nets of a circuit say of it: which fault its clocks, those of its memories and its inits show first, or none; and which loop stands in
-- it, or none.
use Rattle.std.proofs.Common.{◌≡◌, List, Some, sym, ap, ◌∙◌, subst, inl, inr, arith}
use Rattle.fir_base.specs.declared.refused.Refused.{Refused}
use Rattle.fir_base.specs.declared.refused.Refused.TheVariants as refused
use Rattle.fir_ast.specs.declared.fault.FirFault.{FirFault}
use Rattle.fir_ast.specs.working.CodeFaults.{fault_of}
use Rattle.fir_ast.specs.working.Views.{circuit_of}
use Rattle.fir_ast.specs.declared.circuit.Circuit.{Circuit}
use Rattle.fir_ast.specs.Faults.{Fault}
use Rattle.fir_ast.specs.Circuits.{CircuitTree}
use Rattle.fir_pass.specs.Groups.{group_of, IsClear}
use Rattle.fir_pass.specs.working.Law.{IfFaulty, Passes}
use Rattle.fir_meaning.specs.SourceClocks.{clock_group}
use Rattle.fir_meaning.specs.SourceLoops.{loop_group}
use Rattle.fir_meaning.specs.SourceMemoryClocks.{memory_clock_group}
use Rattle.fir_meaning.specs.SourceMeaning.{circuit_meaning}
use Rattle.fir_meaning.specs.working.Stages.{IsClearOf, IsFirstOf, IsTreeOf}
use Rattle.fir_meaning.proofs.KeptTrees.{first_at}
use Rattle.fir_net.specs.declared.net.FlatNet.{FlatNet}
use Rattle.fir_net.specs.declared.reads.Read.{Read}
use Rattle.fir_loop.specs.working.IsLoop.{ShowsLoop}
use Rattle.fir_loop.specs.working.Orders.{IsOrdered}
use Rattle.fir_flatten.specs.working.FlatFaults.{ShowsNone, TellsClock, TellsFirst, TellsInit, TellsMemory}
use Rattle.fir_flatten.specs.working.FlattensTo.{FlattensTo, IsFlatNetOf}
use Rattle.fir_compile.specs.declared.ordered.OrderedNet.{OrderedNet}
use Rattle.fir_compile.proofs.ChainGroups.{both_clear, one_clear}

module _ (c : CircuitTree) where
  clocks_clear : IsClear (clock_group c) → IsClear (memory_clock_group c) → IsClearOf 10 11 c
  unfolding circuit_meaning
  clocks_clear own memories =
      let m = circuit_meaning c in
      both_clear 10 10 11 m (one_clear 10 m own) (one_clear 11 m memories)

  groups_clear : ShowsNone c → IsClearOf 10 12 c
  unfolding circuit_meaning
  groups_clear none =
      let m = circuit_meaning c in
      both_clear 10 11 12 m (clocks_clear none.clocks none.memories) (one_clear 12 m none.inits)

  clock_first : (f : Fault) → TellsClock c f → IsFirstOf 10 12 c f
  unfolding circuit_meaning
  clock_first f is =
      first_at 10 12 10 (circuit_meaning c) f (ap group_of is.code) (omega arith) (omega arith) is.told is.shown
      (λ k low high. absurd (omega (arith, low, high)))

  memory_first : (f : Fault) → TellsMemory c f → IsFirstOf 10 12 c f
  unfolding circuit_meaning
  memory_first f is =
      first_at 10 12 11 (circuit_meaning c) f (ap group_of is.code) (omega arith) (omega arith) is.told is.shown
      (λ k low high. one_clear 10 (circuit_meaning c) is.clear k low (omega (arith, high)))

  init_first : (f : Fault) → TellsInit c f → IsFirstOf 10 12 c f
  unfolding circuit_meaning
  init_first f is =
      first_at 10 12 12 (circuit_meaning c) f (ap group_of is.code) (omega arith) (omega arith) is.shown is.shown
      (λ k low high. clocks_clear is.clear is.memories k low (omega (arith, high)))

  fault_first : (f : Fault) → TellsFirst c f → IsFirstOf 10 12 c f
  fault_first f (inl clock) = clock_first f clock
  fault_first f (inr (inl memory)) = memory_first f memory
  fault_first f (inr (inr init)) = init_first f init

  loops_clear : IsClear (loop_group c) → IsClearOf 13 13 c
  unfolding circuit_meaning
  loops_clear h = one_clear 13 (circuit_meaning c) h

  pub loop_first : (net : FlatNet) (f : FirFault) → FlattensTo c net → ShowsLoop net f → IsFirstOf 13 13 c (fault_of f)
  unfolding circuit_meaning
  loop_first net f flat shown =
      let stands = flat.loops f shown in
      first_at 13 13 13 (circuit_meaning c) (fault_of f) (ap (λ x. group_of (fault_of x).code) shown.is) (omega arith) (omega arith) stands stands
      (λ k low high. absurd (omega (arith, low, high)))

-- what each of them gives is a stage of the same circuit
pub keeps_flat : (t : Circuit) (net made : FlatNet) → made ≡ net → ShowsNone (circuit_of t) → IsFlatNetOf (circuit_of t) net
    → Passes IsTreeOf IsFlatNetOf (IsClearOf 10 12) t made
keeps_flat t net made same none flat c is = (
  subst (IsFlatNetOf c) (sym same) (subst (λ x. IsFlatNetOf x net) is flat),
  subst (λ x. IsClearOf 10 12 x) is (groups_clear (circuit_of t) none),
)

pub reports_told : (t : Circuit) → (r : Refused (FirFault × Circuit)) → IfFaulty r (λ f. TellsFirst (circuit_of t) (fault_of f.0))
    → IfFaulty r (λ f. IsFirstOf 10 12 (circuit_of t) (fault_of f.0))
reports_told t (refused.Fault f) told = fault_first (circuit_of t) (fault_of f.0) told
reports_told t refused.Memory told = tt

abbrev pub IsOrderedOf : CircuitTree → OrderedNet → Type 0
IsOrderedOf c x = IsFlatNetOf c x.net × IsOrdered x.net x.order

pub keeps_order : (net made : FlatNet) (order : List Read) → made ≡ net → IsOrdered net order
    → Passes IsFlatNetOf IsOrderedOf (IsClearOf 13 13) net (record { net = made; order = order })
keeps_order net made order same ordered c flat =
    let both : IsFlatNetOf c net × IsOrdered net order = (flat, ordered) in
    (subst (λ n. IsFlatNetOf c n × IsOrdered n order) (sym same) both, loops_clear c (flat.flattens.no_loop ordered.no_loop))
