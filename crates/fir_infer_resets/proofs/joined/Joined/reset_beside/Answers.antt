use Rattle.std.proofs.Common.{◌≡◌, None, sym, ap, ◌∙◌, subst}
use Rattle.fir_infer_resets.specs.working.Adding.{AddsBoth}
use Rattle.fir_infer_resets.specs.working.Holding.{path_of, under_key, HasNumber, reset_end}
use Rattle.fir_infer_resets.proofs.AddedResets.{beside}
use Rattle.fir_infer_resets.proofs.FoundNumbers.{found_number}
use Rattle.fir_infer_resets.proofs.KeyTables.{under}
use Rattle.fir_infer_resets.proofs.joined.Joined.reset_beside.Goals as goal

pub returns-in-Some : goal.returns-in-Some
returns-in-Some c circuit js before f names l h r class m =
    found_number circuit js c.args.self.now before names c.args.module_number (path_of c.args.path.now) c.args.place l c.in-Some.number.now
    (ap (under c.args.self.now.numbers) (sym c.in_ok-key.ensures) ∙ sym c.in-Some.ensures.value)

pub returns : goal.returns
returns c circuit js before f names l h r class m =
    let old = c.args.self.now in
    let middle = c.push_reset.new.self in
    let leaf = path_of c.args.path.now in
    let e = reset_end c.args.module_number leaf c.args.place in
    let graph = c.put_both.new.graph in
    let p = c.in_ok-number.ensures in
    let fresh : under_key old c.args.module_number leaf ≡ None = ap (under old.numbers) (sym c.in_ok-key.ensures) ∙ sym c.in_default.ensures.value in
    let both = subst (λ n. AddsBoth middle.graph.items graph.items n c.args.other) p.0 c.in_ok-put_both.ensures in
    subst (HasNumber before e (record middle { graph = graph })) (sym p.0)
    (beside circuit js old before middle c.args.module_number leaf c.args.place p.1 l fresh graph c.args.other f both h r class m)
