-- The texts of the steps of a walk, as the code has them.
use Rattle.std.proofs.Common.{◌≡◌, ℕ, zero, suc, ◌+◌, ◌<◌, List, [], ◌∷◌, ◌++◌, map, flat_map, drop, Some, length, get_or, refl, sym, ap, ◌∙◌, subst, append_assoc}
use Rattle.std.specs.Prelude.{slice_get, codes}
use Rattle.std.proofs.lemmas.List.{append-nil, drop_more, map-append}
use Rattle.std.proofs.lemmas.Option.{none-some, same_Some, slice_get-get_or, get_or_from_slice_get, slice_get_within}
use Rattle.fir_ast.specs.declared.place.Place.{Place}
use Rattle.fir_ast.specs.declared.fault.FirFault.TheVariants as fault
use Rattle.fir_ast.specs.declared.fault.ResetStep.{ResetStep}
use Rattle.fir_ast.specs.Texts.{separated}
use Rattle.fir_ast.specs.working.CodeFaults.{reset_step_text}
use Rattle.fir_ast.specs.Faults.{Fault, E18}
use Rattle.fir_ast.specs.working.CodeFaults.{fault_of}
use Rattle.fir_infer_resets.specs.declared.item.End.{End as EndOfCode}
use Rattle.fir_meaning.specs.ResetItems.{End}
use Rattle.fir_meaning.specs.ResetWalks.{reset_item_text, items_text, items_of}
use Rattle.fir_infer_resets.specs.working.FoundKinds.{HasEnds, TellsWalk}
use Rattle.fir_infer_resets.specs.working.Holding.{AreEnds, IsEnd, item_of}
use Rattle.fir_infer_resets.specs.working.StepTexts.{text_at, text_where}
use Rattle.fir_infer_resets.proofs.NumberedEnds.{number_at}

-- the text of the end of a number, as the code reads it
pub text_here : (owns : List EndOfCode) (x : ℕ) (d : EndOfCode) → x < length owns → reset_item_text (item_of (get_or owns x d).item) ≡ text_at owns x
text_here owns x d within = ap text_where (sym (slice_get-get_or owns x d within))

-- one step more is taken
pub one_more : (owns : List EndOfCode) (walk : List ℕ) (i x : ℕ) (d : EndOfCode) (steps longer : List ResetStep) (step : ResetStep) → slice_get walk i ≡ Some x → x < length owns
    → d ≡ get_or owns x d → reset_step_text step ≡ reset_item_text (item_of d.item) → longer ≡ steps ++ step ∷ []
    → map reset_step_text steps ++ map (text_at owns) (drop i walk) ≡ map (text_at owns) walk
    → map reset_step_text longer ++ map (text_at owns) (drop (i + 1) walk) ≡ map (text_at owns) walk
one_more owns walk i x d steps longer step is there end text pushed before =
    let left : drop i walk ≡ x ∷ drop (i + 1) walk = drop_more walk i x (slice_get_within walk i x is) ∙ ap (λ y. y ∷ drop (i + 1) walk) (get_or_from_slice_get walk i x x is) in
    let rest = map (text_at owns) (drop (i + 1) walk) in
    ap (λ ss. map reset_step_text ss ++ rest) pushed
    ∙ ap (λ ts. ts ++ rest) (map-append reset_step_text steps (step ∷ []))
    ∙ append_assoc (map reset_step_text steps) (reset_step_text step ∷ []) rest
    ∙ ap (λ t. map reset_step_text steps ++ t ∷ rest) (text ∙ ap (λ o. reset_item_text (item_of o.item)) end ∙ text_here owns x d there)
    ∙ ap (λ xs. map reset_step_text steps ++ map (text_at owns) xs) (sym left)
    ∙ before

-- the code's end of a number
pub end_beside : (owns : List EndOfCode) (es : List End) → AreEnds owns es → (x : ℕ) (e : End) → slice_get es x ≡ Some e → (own : EndOfCode) × (slice_get owns x ≡ Some own) × IsEnd own e
end_beside [] [] h x e is = absurd (none-some e is)
end_beside [] (f ∷ es) h x e is = absurd h
end_beside (own ∷ owns) [] h x e is = absurd h
end_beside (own ∷ owns) (f ∷ es) h zero e is = (own, refl, (by (same_Some f e is)))
  where
    by : f ≡ e → IsEnd own e
    by same = subst (IsEnd own) same h.0
end_beside (own ∷ owns) (f ∷ es) h (suc x) e is = end_beside owns es h.1 x e is

abbrev end_text : End → List ℕ
end_text e = reset_item_text e.item

-- the texts of the ends of numbers
texts_beside : (owns : List EndOfCode) (ends : List End) → AreEnds owns ends → (walk : List ℕ) (es : List End) → HasEnds ends walk es → map (text_at owns) walk ≡ map end_text es
texts_beside owns ends are [] [] h = refl
texts_beside owns ends are [] (e ∷ es) h = absurd h
texts_beside owns ends are (x ∷ xs) [] h = absurd h
texts_beside owns ends are (x ∷ xs) (e ∷ es) h =
    let own = end_beside owns ends are x e h.0 in
    let here : text_at owns x ≡ end_text e = ap text_where own.1 ∙ ap reset_item_text own.2.item in
    ap (λ t. t ∷ map (text_at owns) xs) here ∙ ap (λ ts. end_text e ∷ ts) (texts_beside owns ends are xs es h.1)

-- with separators, told in the two ways
joined_texts : (e : End) (es : List End) → items_text (items_of (e ∷ es)) ≡ separated (codes " - ") (map end_text (e ∷ es))
joined_texts e [] = sym (append-nil (end_text e))
joined_texts e (f ∷ es) =
    let behind = flat_map (λ next. codes " - " ++ next) (map end_text es) in
    ap (λ t. end_text e ++ codes " - " ++ t) (joined_texts f es)
    ∙ append_assoc (end_text e) (codes " - ") (end_text f ++ behind)
    ∙ ap (λ t. end_text e ++ t) (sym (append_assoc (codes " - ") (end_text f) behind))

reset_walk : Place → List ℕ → Fault
reset_walk p e = record { code = E18; place = p; evidence = codes "resets " ++ e }

same_walk : (p q : Place) (s t : List ℕ) → p ≡ q → s ≡ t → reset_walk p s ≡ reset_walk q t
same_walk p q s t place text = ap (λ x. reset_walk x s) place ∙ ap (reset_walk q) text

-- the fault that the walk of these numbers tells
pub told_fault : (owns : List EndOfCode) (ends : List End) (walk : List ℕ) (f : Fault) (x : ℕ) (d : EndOfCode) (steps : List ResetStep)
    → AreEnds owns ends → TellsWalk ends walk f → slice_get walk 1 ≡ Some x → map reset_step_text steps ≡ map (text_at owns) walk
    → fault_of (fault.Resets (get_or owns x d).place steps) ≡ f
unfolding reset_walk
told_fault owns ends walk f x d steps are t second texts =
    let es = t.begins ∷ t.first ∷ t.others ++ t.last ∷ [] in
    let at = number_at ends walk es t.has 1 t.first refl in
    let same : at.number ≡ x = same_Some at.number x (sym at.at ∙ second) in
    let own = end_beside owns ends are at.number t.first at.is in
    let here : get_or owns x d ≡ own.0 = ap (λ y. get_or owns y d) (sym same) ∙ get_or_from_slice_get owns at.number own.0 d own.1 in
    let place : (get_or owns x d).place ≡ t.first.place = ap (λ o. o.place) here ∙ own.2.place in
    let text : separated (codes " - ") (map reset_step_text steps) ≡ items_text (items_of es) =
    ap (separated (codes " - ")) (texts ∙ texts_beside owns ends are walk es t.has) ∙ sym (joined_texts t.begins (t.first ∷ t.others ++ t.last ∷ [])) in
    same_walk (get_or owns x d).place t.first.place (separated (codes " - ") (map reset_step_text steps)) (items_text (items_of es)) place text ∙ sym t.is
