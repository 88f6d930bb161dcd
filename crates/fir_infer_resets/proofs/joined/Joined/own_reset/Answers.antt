use Rattle.std.proofs.Common.{◌≡◌, ◌+◌, length, ℕ, ap, ◌∙◌, subst, arith}
use Rattle.std.proofs.lemmas.List.{length-map}
use Rattle.fir_meaning.specs.ResetItems.{End}
use Rattle.fir_reset.specs.working.ElementPaths.{firsts_behind}
use Rattle.fir_infer_resets.specs.working.Holding.{path_of, step_of, HasNumber, reset_end}
use Rattle.fir_infer_resets.proofs.FirstsBehind.{all_kept}
use Rattle.fir_infer_resets.proofs.HeldGraphs.{number_through}
use Rattle.fir_infer_resets.proofs.joined.Joined.own_reset.Goals as goal

pub loop-position-preserved : goal.loop-position-preserved
loop-position-preserved c circuit js before names clear l own =
    let leaf = path_of c.args.path.now in
    let i = c.loop-position.position in
    let e : ℕ → End = λ k. reset_end c.args.module_number (firsts_behind k leaf) c.args.place in
    let h = c.loop-position.invariant circuit js before names clear l own in
    number_through circuit js c.args.self.now c.loop-position.self c.next_reset.new.self before (e i) (e (i + 1)) c.loop-position.number c.in_ok-number-2.number h
    (c.in_ok-number-2.ensures circuit js h.holds names clear l h.is)

pub returns : goal.returns
returns c circuit js before names clear l own =
    let leaf = path_of c.args.path.now in
    let i = c.loop-position.position in
    let all : i ≡ length leaf = omega (arith, c.loop-position-test.false, c.loop-position.auto.position-end, length-map c.args.path.now step_of) in
    subst (λ p. HasNumber before (reset_end c.args.module_number p c.args.place) c.loop-position.self c.loop-position.number) (ap (λ k. firsts_behind k leaf) all ∙ all_kept leaf)
    (c.loop-position.invariant circuit js before names clear l own)
