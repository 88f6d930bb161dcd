use Rattle.std.proofs.Common.{◌≡◌, ℕ, List, None, length, sym, ap, ◌∙◌, subst}
use Rattle.std.proofs.lemmas.Result.{IfOk-weaker}
use Rattle.fir_ast.specs.Types.{reset}
use Rattle.fir_meaning.specs.LeafPaths.{LeafPath}
use Rattle.fir_infer_resets.specs.declared.item.Step.{Step}
use Rattle.fir_infer_resets.specs.working.Adding.{AddsReset}
use Rattle.fir_reset.specs.working.ElementPaths.{firsts_behind}
use Rattle.fir_infer_resets.specs.working.Holding.{path_of, under_key, HasNumber, reset_end}
use Rattle.fir_infer_resets.specs.working.PathKeys.{path_key}
use Rattle.fir_infer_resets.proofs.FirstsBehind.{firsts_lowered, firsts_once, leaf_behind}
use Rattle.fir_infer_resets.proofs.FoundNumbers.{found_number}
use Rattle.fir_infer_resets.proofs.KeyTables.{under}
use Rattle.fir_infer_resets.proofs.LoweredPaths.{no_instance_lowered}
use Rattle.fir_infer_resets.proofs.OwnResets.{own_new}
use Rattle.fir_infer_resets.proofs.joined.Joined.first_reset.Goals as goal

key_is : (key : List ℕ) (number : ℕ) (slice items : List Step) (path : LeafPath) → key ≡ path_key number (path_of slice) → slice ≡ items → path_of items ≡ path → key ≡ path_key number path
key_is key number slice items path is same e = is ∙ ap (λ xs. path_key number (path_of xs)) same ∙ ap (path_key number) e

pub returns-in-Some : goal.returns-in-Some
returns-in-Some c circuit js before names clear l own =
    let old = c.args.self.now in
    let leaf = path_of c.args.path.now in
    let number = c.args.module_number in
    let key = key_is c.in_ok-key.key number c.as_slice.result.now c.in_ok-first.first.items (firsts_behind 0 leaf) c.in_ok-key.ensures c.as_slice.ensures.value c.in_ok-first.ensures in
    found_number circuit js old before names number (firsts_behind 0 leaf) c.args.place (leaf_behind circuit names clear number leaf reset c.args.place l 0) c.in-Some.number.now
    (ap (under old.numbers) (sym key) ∙ sym c.in-Some.ensures.value)

pub returns : goal.returns
returns c circuit js before names clear l own =
    let old = c.args.self.now in
    let new = c.push_reset.new.self in
    let leaf = path_of c.args.path.now in
    let number = c.args.module_number in
    let place = c.args.place in
    let e = reset_end number (firsts_behind 0 leaf) place in
    let key = key_is c.in_ok-key.key number c.as_slice.result.now c.in_ok-first.first.items (firsts_behind 0 leaf) c.in_ok-key.ensures c.as_slice.ensures.value c.in_ok-first.ensures in
    let fresh : under_key old number (firsts_behind 0 leaf) ≡ None = ap (under old.numbers) (sym key) ∙ sym c.in_default.ensures.value in
    let path : path_of c.as_slice-2.result.now ≡ firsts_behind 0 leaf = ap path_of c.as_slice-2.ensures.value ∙ c.in_ok-first.ensures in
    IfOk-weaker c.push_reset.result (λ n. (n ≡ length old.ends.items) × AddsReset old new number (path_of c.as_slice-2.result.now) place) (HasNumber before e new)
    (λ n r. subst (HasNumber before e new) (sym r.0)
    (own_new circuit js old before names clear number (firsts_behind 0 leaf) place (leaf_behind circuit names clear number leaf reset place l 0)
    (no_instance_lowered circuit number leaf (firsts_behind 0 leaf) (firsts_lowered 0 leaf) own) (firsts_once leaf) fresh new
    (subst (λ p. AddsReset old new number p place) path r.1)))
    c.push_reset.ensures
