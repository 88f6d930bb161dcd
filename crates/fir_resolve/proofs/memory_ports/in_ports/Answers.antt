use Rattle.std.proofs.Common.{◌∙◌, ◌+◌, ◌++◌, [], ◌∷◌, map, drop, refl, sym, ap, append_assoc}
use Rattle.fir_ast.specs.working.Views.{named_of}
use Rattle.fir_meaning.specs.Mentions.{declares, port_mentions}
use Rattle.fir_names.proofs.FirstMentions.{head_silent, views_left}
use Rattle.fir_resolve.proofs.WalkedNames.{at_next, at_start, port_step, ports_next}
use Rattle.fir_resolve.proofs.memory_ports.in_ports.Goals as goal

pub loop-port-init : goal.loop-port-init
loop-port-init c = λ start held. (at_start port_mentions c.args.namespace.now start (map named_of c.args.ports.now) held, refl)

pub loop-port-preserved : goal.loop-port-preserved
loop-port-preserved c = λ start held.
    let ports = c.args.ports.now in
    let i = c.loop-port.port-index in
    let p = c.port-item.result in
    let n = named_of p in
    let rest = map named_of (drop (i + 1) ports) in
    let so_far = c.loop-port.invariant start held in (
      at_next port_mentions c.loop-port.namespace c.declare.new.self start (map named_of ports) (map named_of (drop i ports)) rest (port_step n) (n ∷ [])
          (ports_next ports i p c.loop-port-test.true c.port-item.is)
          (λ before h. sym (head_silent _ (declares before n) [] c.in_default.is (c.in_ok-fault.ensures.fault before h)))
          (c.in_ok-fault.ensures.held c.in_default.is)
          so_far.0,
      append_assoc so_far.0.before (n ∷ []) rest
          ∙ ap (λ l. so_far.0.before ++ l) (sym (views_left named_of ports i p c.loop-port-test.true c.port-item.is)) ∙ so_far.1,
    )
