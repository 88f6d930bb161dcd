use Rattle.std.proofs.Common.{◌≡◌, ◌+◌, ◌∷◌, List, sym, ap, ◌∙◌, drop}
use Rattle.std.specs.Prelude.{option_copied}
use Rattle.std.proofs.lemmas.List.{drop_more}
use Rattle.fir_names.proofs.TablesByNumber.{item_is}
use Rattle.fir_elaborate.specs.declared.elaborated.ModuleCopy.{ModuleCopy}
use Rattle.fir_flatten.specs.working.PutModules.{put_copies, put_part, values_seen}
use Rattle.fir_flatten.proofs.design_net.design_values.Goals as goal
use Rattle.fir_flatten.proofs.design_net.design_values.Goals.{in-Some+in_ok-put, in_default}

pub loop-copy-preserved : goal.loop-copy-preserved
loop-copy-preserved c =
    let parts = c.args.modules.now in
    let copies = c.args.copies.now in
    let k = c.copy-item.result in
    let i = c.loop-copy.copy-index in
    let now = values_seen c.loop-copy.values in
    let there = sym (item_is parts k.module_number c.get.result c.get.ensures.lookup) in
    let rest : drop i copies ≡ k ∷ drop (i + 1) copies =
    drop_more copies i k c.loop-copy-test.true ∙ ap (λ (j : ModuleCopy). j ∷ drop (i + 1) copies) (sym c.copy-item.is) in
    let step : values_seen c.match-get.values ≡ put_part k (option_copied c.get.result) now =
    elim c.match-get.branch [
      | in-Some+in_ok-put w ↦
          ap values_seen w.values-is ∙ w.in_ok-put.ensures ∙ ap (λ o. put_part k o now) (sym (ap option_copied w.in-Some.is))
      | in_default w ↦ ap values_seen w.values-is ∙ ap (λ o. put_part k o now) (sym (ap option_copied w.in_default.is))
    ] in
    ap (put_copies parts (drop (i + 1) copies)) (step ∙ ap (λ o. put_part k o now) (sym there))
    ∙ ap (λ (ks : List ModuleCopy). put_copies parts ks now) (sym rest) ∙ c.loop-copy.invariant
